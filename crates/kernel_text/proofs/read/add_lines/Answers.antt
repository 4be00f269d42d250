use Rattle.std.proofs.Common.{◌-◌, subst, take, drop}
use Rattle.kernel_text.specs.Reader.{Adds}
use Rattle.kernel_text.proofs.Steps.{all_taken, line_refused, line_taken, no_line_taken}
use Rattle.kernel_text.proofs.read.add_lines.Goals as goal

pub loop-place-init : goal.loop-place-init
loop-place-init c = no_line_taken c.args.bytes.now c.args.reader.now c.requires.none

pub add-requires : goal.add-requires
add-requires c = (c.loop-place.invariant.reading, c.loop-place.invariant.holds)

pub loop-place-preserved : goal.loop-place-preserved
loop-place-preserved c =
    let e = c.line_end-end.ensures in
    let bytes = c.args.bytes.now in
    let place = c.loop-place.place in
    let end = c.line_end-end.result in
    let upto = c.loop-place.invariant in
    line_taken bytes place c.loop-place.line end c.loop-place.reader upto e.cut c.add.new.self e.further e.within
    (subst (Adds upto.reading (take (end - place) (drop place bytes)) c.add.new.self) c.if-not-branch.false (c.in_ok-add.ensures upto.reading upto.holds))

pub returns-clause-read : goal.returns-clause-read
returns-clause-read c = all_taken c.args.bytes.now c.loop-place.place c.loop-place.line c.loop-place.reader c.loop-place.invariant c.loop-place-test.false

pub returns-then-not-branch-clause-refused : goal.returns-then-not-branch-clause-refused
returns-then-not-branch-clause-refused c =
    let e = c.line_end-end.ensures in
    let bytes = c.args.bytes.now in
    let place = c.loop-place.place in
    let end = c.line_end-end.result in
    let upto = c.loop-place.invariant in
    line_refused bytes place c.loop-place.line end c.loop-place.reader upto e.cut c.add.new.self
    (subst (Adds upto.reading (take (end - place) (drop place bytes)) c.add.new.self) c.if-not-branch.true (c.in_ok-add.ensures upto.reading upto.holds))
