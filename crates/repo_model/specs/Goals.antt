-- Goals: a name of packages, or a name and a version, written as for apt-get(8) with an equals sign
-- between them. Here a version stands for all that compare as equal. What packages a goal names,
-- and when one package for each of some goals can be installed together.
use Rattle.std.specs.Prelude.{◌≡◌, ℕ, Bool, true, ◌&&◌, ◌==◌, if◌then◌else◌, List, Option, Some}
use Rattle.std.specs.{Prelude.{None, map, filter}, List.{list_any, before_first, after_first}}
use Rattle.std.specs.{Option.{option_map_or}, Ordering.{is_eq}, Str.{bytes_eq}}
use Rattle.deb_version.specs.{Grammar.{is_version}, Names.{is_name}, Order.{version_order}}
use Rattle.relation_fields.specs.declared.packages.Home.{Home}
use Rattle.relation_fields.specs.declared.packages.PackageFacts.{PackageFacts}
use Rattle.clause_pool.specs.Clauses.{in_row_order}
use Rattle.row_book.specs.Sets.{NumSet, Is}
use Rattle.listed.specs.Lists.{In}
use Rattle.repo_model.specs.{declared.goals.Goal.{Goal}, Repository.{packages_of}}
use Rattle.repo_model.specs.Stanzas.{stanza_at, HealthyStanzas}

abbrev pub is_equals : ℕ → Bool
is_equals c = c == 61

-- the goal of a name, for packages of any version
abbrev pub any_version : List ℕ → Goal
any_version name = record { name = name; version = None }

-- the goal of a name and a version
abbrev pub one_version : List ℕ → List ℕ → Goal
one_version name version = record { name = name; version = Some version }

-- a word without an equals sign is a package name
abbrev pub goal_of_name : List ℕ → Option Goal
goal_of_name name = if is_name name then Some (any_version name) else None

-- a package name, and a version in the grammar
abbrev pub goal_of_parts : List ℕ → List ℕ → Option Goal
goal_of_parts name version =
    if is_name name && is_version version then Some (one_version name version) else None

-- the goal that a word is, cut at its first equals sign if it has one
unfoldable pub goal_of : List ℕ → Option Goal
goal_of word = if list_any is_equals word
    then goal_of_parts (before_first is_equals word) (after_first is_equals word)
    else goal_of_name word

-- the version compares as equal to the goal's, if the goal has one
abbrev pub is_of_version : Option (List ℕ) → PackageFacts → Bool
is_of_version wanted facts =
    option_map_or (λ version. is_eq (version_order facts.version version)) wanted true

-- the package has the goal's name, and its version
abbrev pub is_named_by : Goal → PackageFacts → Bool
is_named_by goal facts = bytes_eq goal.name facts.name && is_of_version goal.version facts

-- the numbers of the packages that a goal names, ascending
abbrev pub packages_named : List PackageFacts → Goal → List ℕ
packages_named packages goal =
    filter (λ n. is_named_by goal (stanza_at packages n)) (packages_of packages)

-- the names of packages in the order of their bytes, each once
abbrev pub names_in : List PackageFacts → List (List ℕ)
names_in packages = in_row_order (map (λ facts. facts.name) packages)

-- the set has a package that the goal names
pub record HasOneFor (stanzas : List PackageFacts) (I : NumSet) (goal : Goal) : Type 0 where
  pub by : ℕ
  pub member : Is I by
  pub named : is_named_by goal (stanza_at stanzas by) ≡ true

-- goals are co-installable if some healthy set of stanzas has a package for each of them
pub record CoinstGoals (home : Home) (stanzas : List PackageFacts)
    (goals : List Goal) : Type 0 where
  pub whole : NumSet
  pub healthy : HealthyStanzas home stanzas whole
  pub serves : (goal : Goal) → In goal goals → HasOneFor stanzas whole goal
