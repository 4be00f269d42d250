-- The names of both suites.
use Rattle.std.specs.{Prelude.{ℕ, Bool, List, filter}, List.{list_any}, Str.{bytes_eq}}
use Rattle.relation_fields.specs.declared.packages.PackageFacts.{PackageFacts}
use Rattle.repo_model.specs.Goals.{names_in}

-- a package has the name
abbrev pub stands_in : List PackageFacts → List ℕ → Bool
stands_in packages name = list_any (λ facts. bytes_eq name facts.name) packages

-- the names of the old suite that a package of the new one has, ascending by bytes
abbrev pub names_of_both : List PackageFacts → List PackageFacts → List (List ℕ)
names_of_both old new = filter (stands_in new) (names_in old)
