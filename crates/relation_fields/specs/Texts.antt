-- Texts in a relation field, and the pieces that they are cut into.
use Rattle.std.specs.Prelude.{ℕ, ◌-◌, Bool, ◌&&◌, ◌||◌, ◌==◌, nat_lt, if◌then◌else◌, Option, Some}
use Rattle.std.specs.Prelude.{None, List, [], length, take, drop}
use Rattle.std.specs.Char.{is_ascii_digit, is_ascii_lowercase}
use Rattle.std.specs.List.{list_all, prefix_len, suffix_len, slice_index, slice_split}
use Rattle.deb_version.specs.Names.{is_name_byte}
pub use Rattle.listed.specs.Texts.{is_white_byte}
unfoldable pub use Rattle.listed.specs.Texts.{trim_both, trim_end, trim_start}
use Rattle.relation_fields.specs.declared.texts.ByteKind.{ByteKind}
use Rattle.relation_fields.specs.declared.texts.ByteKind.TheVariants.{White, Name, Qualifier}
use Rattle.relation_fields.specs.declared.texts.ByteKind.TheVariants.{Operator}

-- no byte but white space
abbrev pub is_white : List ℕ → Bool
is_white text = list_all is_white_byte text

-- what follows the byte, if the text begins with it
abbrev pub behind_byte : ℕ → List ℕ → Option (List ℕ)
behind_byte c text =
    if nat_lt 0 (length text) && slice_index text 0 == c then Some (drop 1 text) else None

-- what is before the byte, if the text ends with it
abbrev pub before_byte : ℕ → List ℕ → Option (List ℕ)
before_byte c text = if nat_lt 0 (length text) && slice_index text (length text - 1) == c
    then Some (take (length text - 1) text) else None

-- the pieces between the bytes of one value: one more than these bytes
abbrev pub pieces : ℕ → List ℕ → List (List ℕ)
pieces c text = slice_split (λ x. x == c) text

-- the pieces of what is left, if something is left
abbrev pub pieces_left : ℕ → Option (List ℕ) → List (List ℕ)
pieces_left c None = []
pieces_left c (Some text) = pieces c text

-- a lower-case letter, a digit or a hyphen
abbrev pub is_architecture_byte : ℕ → Bool
is_architecture_byte c = is_ascii_lowercase c || (is_ascii_digit c || c == 45)

-- a byte that an operator is written with: `<`, `=` or `>`
abbrev pub is_operator_byte : ℕ → Bool
is_operator_byte c = c == 60 || (c == 61 || c == 62)

-- whether the byte is of the kind
abbrev pub is_of_kind : ByteKind → ℕ → Bool
is_of_kind White = is_white_byte
is_of_kind Name = is_name_byte
is_of_kind Qualifier = is_architecture_byte
is_of_kind Operator = is_operator_byte
