-- What a whole relation field says: Debian Policy 7.1. Its elements are between commas, 44, and are
-- numbered from 1.
use Rattle.std.specs.Prelude.{ℕ, ◌+◌, Bool, not, ◌&&◌, Option, List}
use Rattle.std.specs.{List.{filter, filter_map, position}, Option.{is_none, option_map}}
use Rattle.relation_fields.specs.Texts.{is_white, pieces}

abbrev pub elements : List ℕ → List (List ℕ)
elements value = pieces 44 value

-- the elements that are not white space alone; those that are, are skipped
abbrev pub written : List ℕ → List (List ℕ)
written value = filter (λ element. not (is_white element)) (elements value)

-- an element that is neither white space alone nor in the grammar; `one` is what an element says
abbrev pub is_outside : {X : Type 0} → (List ℕ → Option X) → List ℕ → Bool
is_outside one element = not (is_white element) && is_none (one element)

-- the number of the first element that is outside the grammar; elements of white space alone count
unfoldable pub first_outside : {X : Type 0} → (List ℕ → Option X) → List ℕ → Option ℕ
first_outside one value =
    option_map (λ place. place + 1) (position (is_outside one) (elements value))

-- what the elements say, in their order
unfoldable pub said_in : {X : Type 0} → (List ℕ → Option X) → List ℕ → List X
said_in one value = filter_map one (written value)
