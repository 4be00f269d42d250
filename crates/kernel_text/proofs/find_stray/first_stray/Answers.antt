use Rattle.std.proofs.Common.{sym, ap, ◌∙◌, ◌+◌}
use Rattle.std.specs.List.{position_from}
use Rattle.kernel_text.specs.{KernelLines.{lines_of}, StoredReading.{strays}}
use Rattle.kernel_text.proofs.{Steps.{nothing_behind}, StrayLines.{stray_found, stray_passed}}
use Rattle.kernel_text.proofs.find_stray.first_stray.Goals as goal

pub loop-place-preserved : goal.loop-place-preserved
loop-place-preserved c =
    let e = c.line_end-end.ensures in
    stray_passed c.args.bytes.now c.args.classes c.loop-place.place c.loop-place.line c.line_end-end.result c.loop-place.invariant e.cut e.further e.within
    (sym c.in_ok-is_stray.ensures ∙ c.if-branch.false)

pub returns-then-branch : goal.returns-then-branch
returns-then-branch c =
    stray_found c.args.bytes.now c.args.classes c.loop-place.place c.loop-place.line c.line_end-end.result c.loop-place.invariant c.line_end-end.ensures.cut
    (sym c.in_ok-is_stray.ensures ∙ c.if-branch.true)

pub returns : goal.returns
returns c =
    let s = strays c.args.classes in
    sym (c.loop-place.invariant.goes_on ∙ ap (λ t. position_from s (c.loop-place.line + 1) (lines_of t)) (nothing_behind c.args.bytes.now c.loop-place.place c.loop-place-test.false))
