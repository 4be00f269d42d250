-- A mix of two indexes: the stanzas of some names are those of the new index, all others are those
-- of the old one.
use Rattle.std.specs.Prelude.{ℕ, Bool, not, List, [], ◌∷◌, ◌++◌, filter, length, map}
use Rattle.std.specs.{List.{list_any}, Str.{bytes_eq}}
use Rattle.stanza_reader.specs.Blanking.{blanked}
use Rattle.relation_fields.specs.declared.packages.PackageFacts.{PackageFacts}
use Rattle.suite_compare.specs.Refusals.{packages_in}

abbrev pub is_taken : List (List ℕ) → List ℕ → Bool
is_taken taken name = list_any (bytes_eq name) taken

abbrev pub is_left : List (List ℕ) → List ℕ → Bool
is_left taken name = not (is_taken taken name)

-- the text of an index, in which the lines of each stanza whose name fails the test are made empty
abbrev pub only_names : (List ℕ → Bool) → List ℕ → List ℕ
only_names test text = blanked (map (λ facts. test facts.name) (packages_in text)) text

-- the old text without the stanzas of the names that are taken, two line feeds, and the new text
-- with only these stanzas
unfoldable pub mix : List ℕ → List ℕ → List (List ℕ) → List ℕ
mix old new taken =
    (only_names (is_left taken) old ++ (10 ∷ (10 ∷ []))) ++ only_names (is_taken taken) new

-- the packages of an old index whose names are not taken, followed by those of a new one whose
-- names are
abbrev pub mixed_packages : List PackageFacts → List PackageFacts →
    List (List ℕ) → List PackageFacts
mixed_packages old new taken = filter (λ facts. is_left taken facts.name) old
    ++ filter (λ facts. is_taken taken facts.name) new

-- how many packages have one of the names
abbrev pub count_named : List (List ℕ) → List PackageFacts → ℕ
count_named names packages = length (filter (λ facts. is_taken names facts.name) packages)
