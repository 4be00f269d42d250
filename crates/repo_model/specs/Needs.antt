-- The elements of the packages' needs.
use Rattle.std.specs.{Prelude.{◌≡◌, List}, List.{flat_map}}
use Rattle.relation_fields.specs.Codes.{elements-prop}
use Rattle.relation_fields.specs.declared.packages.PackageFacts.{PackageFacts}
use Rattle.relation_fields.specs.declared.relations.Atom.{Atom}

-- the elements of all packages, those of one package after those of another
abbrev pub needs_of_all : List PackageFacts → List (List Atom)
needs_of_all packages = flat_map (λ facts. facts.needs) packages

-- This fact has one proof at most, so that a value may keep it.
pub needs-prop : (elements : List (List Atom)) (packages : List PackageFacts) →
    IsProp (elements ≡ needs_of_all packages)
needs-prop elements packages = elements-prop elements (needs_of_all packages)
