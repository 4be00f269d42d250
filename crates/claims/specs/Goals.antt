-- Goals: the words by which a question names packages.
use Rattle.suite_compare.specs.Indexes.{SearchedIndex}
use Rattle.std.specs.Prelude.{◌≡◌, ℕ, true, ◌⊎◌, List, ◌∷◌, ◌++◌, length, nat_lt}
use Rattle.std.specs.Ordering.{is_eq}
use Rattle.coinst_words.specs.Usage.{Text}
use Rattle.deb_version.specs.{Grammar.{is_version}, Order.{version_order}}
use Rattle.listed.specs.Lists.{In}
use Rattle.relation_fields.specs.declared.packages.PackageFacts.{PackageFacts}
use Rattle.repo_model.specs.Stanzas.{stanza_at, HealthyStanzas}
use Rattle.row_book.specs.Sets.{NumSet, Is}

-- The goal names a package that has this name and this version. The goal is a word: the name alone,
-- or the name, an equals sign (code 61), and a version that compares as equal.
abbrev pub NamesPackage : Text → Text → Text → Type 0
NamesPackage goal name version = (goal ≡ name)
    ⊎ ((wanted : Text) × (goal ≡ name ++ 61 ∷ wanted)
    × (is_version wanted ≡ true) × (is_eq (version_order version wanted) ≡ true))

-- for each goal the set has a package that the goal names
abbrev pub HasEach : List PackageFacts → NumSet → List Text → Type 0
HasEach stanzas set goals = (g : Text) → In g goals →
    (n : ℕ) × Is set n × NamesPackage g (stanza_at stanzas n).name (stanza_at stanzas n).version

-- the set of all packages of a list, by their numbers
abbrev pub all_stanzas : List PackageFacts → NumSet
all_stanzas stanzas n = nat_lt n (length stanzas)

-- the goals can be met: some healthy set of packages has one for each goal
abbrev pub CanMeet : SearchedIndex → List Text → Type 0
CanMeet s goals =
    (whole : NumSet) × HealthyStanzas s.home s.stanzas whole × HasEach s.stanzas whole goals
