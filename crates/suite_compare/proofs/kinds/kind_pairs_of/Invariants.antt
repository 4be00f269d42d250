use Rattle.suite_compare.specs.Kinds.{kind_pair_key, AreNumbered}
use Rattle.suite_compare.proofs.kinds.kind_pairs_of.Given as goal

abbrev pub invariant-loop-place : goal.invariant-loop-place
invariant-loop-place l = AreNumbered (kind_pair_key l.old_of l.new_of) l.place l.numbering.seen l.numbering.firsts.items l.numbering.number_of.items
