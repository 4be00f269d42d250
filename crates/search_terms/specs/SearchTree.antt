-- The search tree of a formula, computed: a unit step adds one literal, and a node asks for one
-- class.
use Rattle.std.specs.Prelude.{ℕ, zero, suc, ◌*◌, Bool, true, false, not, ◌&&◌, ◌||◌, List, [], ◌∷◌}
use Rattle.std.specs.Prelude.{◌++◌, map, if◌then◌else◌, Option, Some, None}
use Rattle.std.specs.List.{list_any, find, range_with_len}
use Rattle.std.specs.Option.{option_map, option_map_or, option_and_then}
use Rattle.row_book.specs.Flattening.{first_some}
use Rattle.search_terms.specs.declared.literals.Literal.{Literal}
use Rattle.search_terms.specs.{Closure.{literal, is_same, forces, is_refuted}, Marks.{true_classes}}
use Rattle.search_terms.specs.Tree.{is_open_need, is_undecided, Tree}
use Rattle.search_terms.specs.Tree.Tree.{failed_leaf, found_leaf, split}

-- the first literal of the sentence that it forces and the set lacks
abbrev pub unit_in : (Literal → Bool) → List Literal → Option Literal
unit_in set sentence = find (λ l. not (set l) && forces set l sentence) sentence

-- the first such literal of all sentences
abbrev pub next_unit : List (List Literal) → (Literal → Bool) → Option Literal
next_unit formula set = first_some (map (unit_in set) formula)

abbrev pub with_unit : (Literal → Bool) → Option Literal → Literal → Bool
with_unit set None = set
with_unit set (Some l) = λ m. set m || is_same m l

-- the set after a number of unit steps
abbrev pub unit_steps : ℕ → List (List Literal) → (Literal → Bool) → Literal → Bool
unit_steps zero formula set = set
unit_steps (suc n) formula set = unit_steps n formula (with_unit set (next_unit formula set))

-- the closure of the given literals: two unit steps for each class are enough
abbrev pub closure_of : ℕ → List (List Literal) → List Literal → Literal → Bool
closure_of classes formula given =
    unit_steps (classes * 2) formula (λ m. list_any (is_same m) given)

-- the set has a class with both signs, or contradicts each literal of a sentence
abbrev pub does_clash : ℕ → List (List Literal) → (Literal → Bool) → Bool
does_clash classes formula set =
    list_any (λ c. set (literal c true) && set (literal c false)) (range_with_len 0 classes)
    || list_any (is_refuted set) formula

-- the class of the first undecided member of the first open need
abbrev pub next_class : List (List Literal) → (Literal → Bool) → Option ℕ
next_class formula set = option_map (λ l. l.class)
    (option_and_then (find (is_undecided set)) (find (is_open_need set) formula))

-- The node whose closure is the set. It is a failed leaf if the set clashes, and a found leaf if no
-- class is left to ask for. Otherwise it is a split on that class.
abbrev pub node_at : ℕ → List (List Literal) → (Literal → Bool) → (ℕ → Tree) → Tree
node_at classes formula set split_on =
    if does_clash classes formula set then failed_leaf
    else option_map_or split_on (next_class formula set) (found_leaf (true_classes classes set))

-- The tree below these decisions, true first and then false. It goes no deeper than a number of
-- further decisions; the number of classes is enough.
abbrev pub tree_below : ℕ → ℕ → List (List Literal) → List Literal → Tree
tree_below zero classes formula decisions =
    node_at classes formula (closure_of classes formula decisions) (λ c. failed_leaf)
tree_below (suc n) classes formula decisions =
    node_at classes formula (closure_of classes formula decisions) (λ c.
    split c
    (tree_below n classes formula (decisions ++ literal c true ∷ []))
    (tree_below n classes formula (decisions ++ literal c false ∷ [])))

-- the search tree of a formula over a number of classes
unfoldable pub search_tree : ℕ → List (List Literal) → Tree
search_tree classes formula = tree_below classes classes formula []
