-- The classes of a stored kernel that goals name.
use Rattle.std.specs.Prelude.{◌≡◌, ⊤, ℕ, Bool, true, not, ◌&&◌, eqb, List, Option, Some, filter}
use Rattle.std.specs.{Prelude.{slice_get}, List.{list_any, position_from}, Option.{option_map_or}}
use Rattle.std.specs.{Ordering.{is_eq}, Str.{bytes_eq}}
use Rattle.deb_version.specs.Order.{version_order}
use Rattle.row_book.specs.Numbers.{numbers}
use Rattle.repo_model.specs.declared.goals.Goal.{Goal}
use Rattle.kernel_text.specs.declared.images.ImageError.{ImageError}
use Rattle.kernel_text.specs.declared.images.ImageError.TheVariants.{Unknown, Memory}
use Rattle.kernel_text.specs.declared.member.Member.{Member}

-- the package has the goal's name, and a version that compares as equal if the goal has one
abbrev pub is_named_by : Goal → Member → Bool
is_named_by goal m = bytes_eq goal.name m.name
    && option_map_or (λ version. is_eq (version_order m.version version)) goal.version true

-- the class of the member of a number
abbrev pub class_at : List Member → ℕ → ℕ
class_at members n = option_map_or (λ m. m.class) (slice_get members n) 0

-- the package is of the class, and the goal names it
abbrev pub is_named_in : Goal → ℕ → Member → Bool
is_named_in goal n m = eqb n m.class && is_named_by goal m

-- the goal names a package of the class
abbrev pub names_in_class : List Member → Goal → ℕ → Bool
names_in_class members goal n = list_any (is_named_in goal n) members

-- the classes below `size` with a package that the goal names, ascending
unfoldable pub image_of : List Member → ℕ → Goal → List ℕ
image_of members size goal = filter (names_in_class members goal) (numbers size 0)

-- the goal names no package
abbrev pub is_unknown : List Member → Goal → Bool
is_unknown members goal = not (list_any (is_named_by goal) members)

-- the first goal, counted from 1, that names no package
abbrev pub unknown_goal : List Member → List Goal → Option ℕ
unknown_goal members goals = position_from (is_unknown members) 1 goals

-- the goal that names no package, if that is why there are no images
abbrev pub NamesTheUnknown : Option ℕ → ImageError → Type 0
NamesTheUnknown found (Unknown goal) = found ≡ Some goal
NamesTheUnknown found Memory = ⊤
