use Rattle.std.proofs.Common.{◌≡◌, ◌++◌, take}
use Rattle.std.specs.Prelude.{map}
use Rattle.search_terms.specs.Form.{conflict_sentence}
use Rattle.refutation_check.proofs.formula.add_pairs.Given as goal

abbrev pub invariant-loop-q : goal.invariant-loop-q
invariant-loop-q l = l.all.items ≡ l.initial.all.items ++ map (conflict_sentence l.p) (take l.q-index l.others)
