use Rattle.std.proofs.Common.{◌≡◌, ◌++◌, length}
use Rattle.std.specs.{List.{list_all, filter_map}, Option.{is_some, option_copied}}
use Rattle.relation_fields.specs.{Texts.{pieces, pieces_left}, Grammar.{atom_of}}
use Rattle.relation_fields.proofs.elements.read_alternatives.Given as goal

-- the pieces so far are atoms, and the atoms of these and of the pieces left are those of all
abbrev pub invariant-loop-left : goal.invariant-loop-left
invariant-loop-left l = record {
  passed : list_all (λ piece. is_some (atom_of piece)) (pieces_left 124 (option_copied l.left)) ≡ list_all (λ piece. is_some (atom_of piece)) (pieces 124 l.fn.text);
  said : l.atoms ++ filter_map atom_of (pieces_left 124 (option_copied l.left)) ≡ filter_map atom_of (pieces 124 l.fn.text);
}

abbrev pub decreases-loop-left : goal.decreases-loop-left
decreases-loop-left l = length (pieces_left 124 (option_copied l.left))
