use Rattle.suite_compare.specs.Groups.{ArePlacesTo}
use Rattle.suite_compare.proofs.places.enter_all.Given as goal

abbrev pub invariant-loop-place : goal.invariant-loop-place
invariant-loop-place l = ArePlacesTo l.place l.keys l.table
