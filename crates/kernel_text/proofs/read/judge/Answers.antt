use Rattle.std.proofs.Common.{map, ap, sym, subst, ◌∙◌, Some}
use Rattle.std.specs.List.{position_from}
use Rattle.kernel_text.specs.{KernelLines.{lines_of}, Reader.{RangeIsTold, entry_of}, StoredReading.{strays}, Reading.{empty_reading}}
use Rattle.kernel_text.proofs.{InRange.{in_range}, Steps.{end_fault, ranged}, StoredReading.{lines_given}}
use Rattle.kernel_text.proofs.read.judge.Goals as goal

pub unreachable-requires : goal.unreachable-requires
unreachable-requires c =
    let k = c.requires.read in
    let bytes = c.args.bytes.now in
    let told = c.is_in_range.ensures k.reading (ap (map entry_of) c.as_slice.ensures ∙ k.holds.clauses) (c.as_slice-2.ensures ∙ k.holds.conflicts) k.holds.classes in
    subst (RangeIsTold k.reading) c.if-not-is_in_range.true told
    (in_range bytes k.reading (lines_given (lines_of bytes) empty_reading k.reading 1 k.given)
    (ap (λ n. position_from (strays n) 1 (lines_of bytes)) (sym k.holds.classes) ∙ sym c.in_ok-line.ensures ∙ c.in_default.is))

pub returns-then-not-is_complete-clause-refused : goal.returns-then-not-is_complete-clause-refused
returns-then-not-is_complete-clause-refused c =
    let k = c.requires.read in
    end_fault c.args.bytes.now k.reading k.given (sym (c.is_complete.ensures k.reading k.holds) ∙ c.if-not-is_complete.true)

pub returns-then-not-is_in_range-clause-refused : goal.returns-then-not-is_in_range-clause-refused
returns-then-not-is_in_range-clause-refused c =
    let k = c.requires.read in
    let bytes = c.args.bytes.now in
    ranged bytes k.reading k.given (Some c.in-Some.line) (sym (c.is_complete.ensures k.reading k.holds) ∙ c.if-not-is_complete.false)
    (ap (λ n. position_from (strays n) 1 (lines_of bytes)) (sym k.holds.classes) ∙ sym c.in_ok-line.ensures ∙ c.in-Some.is)
