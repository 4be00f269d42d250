-- The names that differ between two indexes: their packages do not say the same in both. What a
-- package says is its version as it is written, its needs, its conflicts and its provides. Its line
-- and its architecture are no part of it.
use Rattle.std.specs.Prelude.{ℕ, Bool, not, ◌&&◌, ◌==◌, List, ◌++◌, filter}
use Rattle.std.specs.{Cmp.Lexicographic.{pointwise}, Option.{option_eq}, Str.{bytes_eq}}
use Rattle.relation_fields.specs.declared.packages.PackageFacts.{PackageFacts}
use Rattle.relation_fields.specs.{declared.relations.Atom.{Atom}, declared.relations.Bound.{Bound}}
use Rattle.relation_fields.specs.declared.relations.Op.{Op}
use Rattle.relation_fields.specs.declared.relations.Op.TheVariants.{Earlier, EarlierEqual, Exactly}
use Rattle.relation_fields.specs.declared.relations.Op.TheVariants.{LaterEqual, Later}
use Rattle.relation_fields.specs.declared.relations.Provide.{Provide}
use Rattle.repo_model.specs.Goals.{names_in}

-- the place of an operator in the list of operators
abbrev pub op_place : Op → ℕ
op_place Earlier = 0
op_place EarlierEqual = 1
op_place Exactly = 2
op_place LaterEqual = 3
op_place Later = 4

-- the operators are the same, and so are the texts of the versions
abbrev pub is_same_bound : Bound → Bound → Bool
is_same_bound one other = op_place one.op == op_place other.op && bytes_eq one.version other.version

abbrev pub is_same_atom : Atom → Atom → Bool
is_same_atom one other =
    bytes_eq one.name other.name && (option_eq bytes_eq one.qualifier other.qualifier
    && option_eq is_same_bound one.bound other.bound)

abbrev pub is_same_provide : Provide → Provide → Bool
is_same_provide one other =
    bytes_eq one.name other.name && (option_eq bytes_eq one.qualifier other.qualifier
    && option_eq bytes_eq one.version other.version)

-- two packages say the same: equal texts of their versions, and the same needs, conflicts and
-- provides in the same order
unfoldable pub says_same : PackageFacts → PackageFacts → Bool
says_same one other =
    bytes_eq one.version other.version
    && (pointwise (pointwise is_same_atom) one.needs other.needs
    && (pointwise is_same_atom one.against other.against
    && pointwise is_same_provide one.provides other.provides))

-- the packages of a name, in the order of their stanzas
abbrev pub packages_of_name : List PackageFacts → List ℕ → List PackageFacts
packages_of_name packages name = filter (λ facts. bytes_eq name facts.name) packages

-- the packages of a name do not say the same in both, one after the other; so it is with a name
-- that only one of the two has
unfoldable pub differs : List PackageFacts → List PackageFacts → List ℕ → Bool
differs old new name =
    not (pointwise says_same (packages_of_name old name) (packages_of_name new name))

-- the names that differ, ascending by bytes
unfoldable pub differing : List PackageFacts → List PackageFacts → List (List ℕ)
differing old new = filter (differs old new) (names_in (old ++ new))
