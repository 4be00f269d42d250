use Rattle.std.proofs.Common.{◌≡◌, ◌+◌, ◌++◌, length, not}
use Rattle.std.specs.{List.{prefix_len, filter, filter_map}, Option.{option_copied}}
use Rattle.relation_fields.specs.{Texts.{is_white, pieces_left}, Fields.{elements, is_outside}}
use Rattle.relation_fields.proofs.fields.read_elements.Given as goal

-- the elements so far are white or in the grammar, and what these and the elements left say is what all say
abbrev pub invariant-loop-left : goal.invariant-loop-left
invariant-loop-left g l =
    let reading = g.T.ElementReader.reading in
    let left = pieces_left 44 (option_copied l.left) in
    record {
      counted : l.element + length left ≡ length (elements l.value);
      passed : l.element + prefix_len (λ element. not (is_outside reading element)) left ≡ prefix_len (λ element. not (is_outside reading element)) (elements l.value);
      said : l.said ++ filter_map reading (filter (λ element. not (is_white element)) left) ≡ filter_map reading (filter (λ element. not (is_white element)) (elements l.value));
      read : g.T.ElementReader.reads l.initial.reader l.said l.reader;
    }

abbrev pub decreases-loop-left : goal.decreases-loop-left
decreases-loop-left g l = length (pieces_left 44 (option_copied l.left))
