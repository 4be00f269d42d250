-- Which stanzas of a dpkg status file are of installed packages, and which of these are of an
-- architecture that an index knows nothing of. A value of `Status` is three words: what is wanted,
-- a flag for errors, and the state of the package.
use Rattle.std.specs.Prelude.{ℕ, Bool, true, false, not, ◌&&◌, ◌||◌, List, [], ◌∷◌, codes, filter}
use Rattle.std.specs.{List.{slice_split}, Option.{option_map_or}, Str.{bytes_eq}}
use Rattle.stanza_reader.specs.Fields.{is_edge}
use Rattle.stanza_reader.specs.declared.stanza.FieldKind.TheVariants.{Architecture, Status}
use Rattle.stanza_reader.specs.declared.stanza.RawStanza.{RawStanza}
use Rattle.relation_fields.specs.declared.packages.Home.{Home}
use Rattle.repo_model.specs.{Facts.{is_all}, Fields.{field_of, value_of}}

abbrev pub has_byte : List ℕ → Bool
has_byte [] = false
has_byte (b ∷ bs) = true

-- the words of a text, with white space between them: spaces, tabs and line feeds
unfoldable pub words : List ℕ → List (List ℕ)
words text = filter has_byte (slice_split is_edge text)

-- exactly three words, and the third is `installed`
abbrev pub says_installed : List (List ℕ) → Bool
says_installed [] = false
says_installed (want ∷ []) = false
says_installed (want ∷ flag ∷ []) = false
says_installed (want ∷ flag ∷ status ∷ []) = bytes_eq status (codes "installed")
says_installed (want ∷ flag ∷ status ∷ more ∷ others) = false

-- the stanza is of an installed package; one without a field `Status` is not
abbrev pub is_installed : RawStanza → Bool
is_installed stanza = says_installed (words (value_of Status stanza))

-- the architecture is that of the home, if there is one
abbrev pub is_of_home : Home → List ℕ → Bool
is_of_home home architecture = option_map_or (bytes_eq architecture) home.name false

-- the stanza has an architecture that is neither `all` nor the home
abbrev pub is_elsewhere : Home → RawStanza → Bool
is_elsewhere home stanza = option_map_or (λ field.
    not (is_all field.value || is_of_home home field.value)) (field_of Architecture stanza) false

-- the stanza is installed, and foreign to the home
abbrev pub is_foreign : Home → RawStanza → Bool
is_foreign home stanza = is_installed stanza && is_elsewhere home stanza

-- the stanza is installed, and not foreign to the home
abbrev pub is_own : Home → RawStanza → Bool
is_own home stanza = is_installed stanza && not (is_elsewhere home stanza)
