use Rattle.std.specs.Prelude.{◌≡◌, take}
use Rattle.relation_fields.proofs.atom_lists.copied.Given as goal

abbrev pub invariant-loop-atom : goal.invariant-loop-atom
invariant-loop-atom l = l.made.items ≡ take l.atom-index l.atoms
