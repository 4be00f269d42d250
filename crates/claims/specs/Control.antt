-- Control files: groups of lines, and the fields of a group (Debian Policy 5.1). Lines are between
-- line feeds. This is a second definition, since that of `stanza_reader` goes line by line and
-- names the first fault.
use Rattle.std.specs.Prelude.{◌≡◌, ◌≢◌, true, false, ◌&&◌, nat_lt, List, [], ◌∷◌, ◌++◌, Option}
use Rattle.std.specs.Prelude.{filter, find, map, length, slice_index_or, if◌then◌else◌}
use Rattle.std.specs.{List.{list_any, slice_split}, Option.{option_map}, Str.{bytes_eq}}
use Rattle.deb_version.specs.Grammar.{is_colon}
use Rattle.listed.specs.{Lists.{In}, Texts.{trim_both}}
use Rattle.stanza_reader.specs.Fields.{behind_colon, continued, is_field_name, lowered, name_of}
use Rattle.stanza_reader.specs.Lines.{is_blank, is_continuation, is_line_feed}
use Rattle.coinst_words.specs.Usage.{Text}

-- the groups of lines that follow one another, between the blank ones: those that are empty or have
-- only spaces and tabs
unfoldable pub stanza_groups : Text → List (List Text)
stanza_groups text =
    filter (λ group. nat_lt 0 (length group)) (slice_split is_blank (slice_split is_line_feed text))

-- the fields of a group: each line that does not go on with another, and after it those that go on
-- with it
abbrev pub fields : List Text → List Text
fields [] = []
fields (line ∷ more) =
    if is_continuation line then fields more else (line ++ continued more) ∷ fields more

-- the name of a field in lower case, since names are compared so
abbrev pub name_key : Text → Text
name_key field = lowered (name_of field)

-- the value of the field of a name, if the group has one: what follows the colon, without white
-- space at its ends
abbrev pub field_value : Text → List Text → Option Text
field_value key group = option_map (λ field. trim_both (behind_colon field))
    (find (λ field. bytes_eq (name_key field) key) (fields group))

-- no text is in the list twice
abbrev pub AreDistinct : List Text → Type 0
AreDistinct [] = Unit {0}
AreDistinct (t ∷ ts) = ((u : Text) → In u ts → t ≢ u) × AreDistinct ts

-- A group is a stanza: it begins with a field, each field has a name and a colon after it, and no
-- two have one name. A colon in a continuation line does not help, since the name would have a line
-- feed.
pub record IsStanza (group : List Text) : Type 0 where
  pub first : is_continuation (slice_index_or group 0 []) ≡ false
  pub named : (field : Text) → In field (fields group) →
      (list_any is_colon field && is_field_name (name_of field)) ≡ true
  pub once : AreDistinct (map name_key (fields group))
