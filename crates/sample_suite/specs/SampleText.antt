-- The index of a sample suite. Its packages are called p0, p1 and so on.
use Rattle.std.specs.Prelude.{ℕ, ◌+◌, List, [], ◌∷◌, ◌++◌, map, Option, Some, None, codes}
use Rattle.std.specs.{Fmt.{decimal}, List.{flat_map}}
use Rattle.sample_suite.specs.declared.package.SamplePackage.{SamplePackage}
use Rattle.sample_suite.specs.Drawing.{sample_packages}

abbrev pub package_name : ℕ → List ℕ
package_name number = codes "p" ++ decimal number

-- the texts, with the separator between each two
abbrev pub joined_by : List ℕ → List (List ℕ) → List ℕ
joined_by separator [] = []
joined_by separator (text ∷ more) = text ++ flat_map (λ other. separator ++ other) more

-- an element of `Depends`: the names of its alternatives
abbrev pub element_text : List ℕ → List ℕ
element_text alternatives = joined_by (codes " | ") (map package_name alternatives)

abbrev pub needs_text : List (List ℕ) → List ℕ
needs_text elements = joined_by (codes ", ") (map element_text elements)

-- there is no line without an element
abbrev pub depends_lines : List (List ℕ) → List (List ℕ)
depends_lines [] = []
depends_lines (element ∷ more) = (codes "Depends: " ++ needs_text (element ∷ more)) ∷ []

abbrev pub conflicts_lines : Option ℕ → List (List ℕ)
conflicts_lines None = []
conflicts_lines (Some conflict) = (codes "Conflicts: " ++ package_name conflict) ∷ []

-- the lines of a stanza, without the empty one after them
abbrev pub stanza_lines : ℕ → SamplePackage → List (List ℕ)
stanza_lines number p = (codes "Package: " ++ package_name number) ∷ codes "Version: 1"
    ∷ (depends_lines p.needs ++ conflicts_lines p.conflict)

-- lines, each with its line feed
abbrev pub with_feeds : List (List ℕ) → List ℕ
with_feeds lines = flat_map (λ line. line ++ 10 ∷ []) lines

abbrev pub stanza_text : ℕ → SamplePackage → List ℕ
stanza_text number p = with_feeds (stanza_lines number p) ++ 10 ∷ []

-- the stanzas of packages, numbered from the first one's number on
unfoldable pub stanzas_text : ℕ → List SamplePackage → List ℕ
stanzas_text number [] = []
stanzas_text number (p ∷ more) = stanza_text number p ++ stanzas_text (number + 1) more

-- the index of a suite of `count` packages
unfoldable pub sample_text : ℕ → ℕ → List ℕ
sample_text seed count = stanzas_text 0 (sample_packages seed count)
