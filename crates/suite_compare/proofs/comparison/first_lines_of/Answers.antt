use Rattle.std.{proofs.Common.{◌≡◌, ◌∙◌, Bool, false, eqb, List, [], ◌∷◌, ◌++◌, length, refl, ap, subst}, proofs.lemmas.Bool.{both_ways}}
use Rattle.suite_compare.{specs.Comparing.{told_pairs}, specs.Known.{AreKnownPairs}, specs.Report.{first_told}, specs.declared.report.ReportLine.{ReportLine}}
use Rattle.suite_compare.proofs.comparison.first_lines_of.Goals as goal

-- the first of some lines is the first of more
first_there : (lines more lent : List ReportLine) (r : Bool) → lent ≡ lines → r ≡ eqb (length lent) 0 → r ≡ false → first_told lines ≡ first_told (lines ++ more)
first_there [] more lent r same is some = let none : length lent ≡ 0 = ap length same in absurd (both_ways r some (is ∙ ap (λ n. eqb n 0) none))
first_there (line ∷ lines) more lent r same is some = refl

pub returns-then-not-is_empty-clause-lines : goal.returns-then-not-is_empty-clause-lines
returns-then-not-is_empty-clause-lines c = λ v w are.
    first_there c.in_ok-lines.lines (told_pairs v w c.args.sides.now.common.names.items) c.as_slice.result.now c.is_empty.result c.as_slice.ensures c.is_empty.ensures c.if-not-is_empty.true
    ∙ ap (λ z. first_told (z ++ told_pairs v w c.args.sides.now.common.names.items)) (c.in_ok-lines.ensures v w are)

pub pairs_of-requires-clause-singles : goal.pairs_of-requires-clause-singles
pairs_of-requires-clause-singles c = c.deref.ensures.value ∙ c.args.sides.now.side.told

pub put_pair_lines-requires : goal.put_pair_lines-requires
put_pair_lines-requires c = rw c.deref-2.ensures.value (c.in_ok-pairs.ensures.known.bad c.args.sides.now.side.judge c.in_ok-pairs.ensures.alike)

pub returns-clause-lines : goal.returns-clause-lines
returns-clause-lines c = λ v w are.
    ap first_told (c.in_ok-put_pair_lines.ensures v w are ∙ ap (λ z. z ++ told_pairs v w c.args.sides.now.common.names.items) (c.in_ok-lines.ensures v w are))

pub returns-clause-known : goal.returns-clause-known
returns-clause-known c = λ pairs is. let same : c.in_ok-pairs.pairs ≡ pairs = cc is in subst AreKnownPairs same c.in_ok-pairs.ensures.known
