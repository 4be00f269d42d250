-- The grammar of versions, `[epoch:]upstream[-revision]`: Debian Policy 5.6.12 and deb-version(7).
-- A text with a colon has an epoch, which ends at the first colon. The revision is what follows the
-- last hyphen after the epoch.
-- Three choices are this repository's own. An epoch has any number of digits; dpkg has a greatest
-- one. The upstream part begins with any of its characters; Policy says that it should be a digit,
-- and dpkg warns. It may hold a colon if there is an epoch, as dpkg takes it.
use Rattle.std.specs.Prelude.{ℕ, Bool, true, ◌&&◌, ◌||◌, ◌==◌, nat_lt, if◌then◌else◌, Option, Some}
use Rattle.std.specs.{Prelude.{None, List, length}, Char.{is_ascii_alphanumeric, is_ascii_digit}}
use Rattle.std.specs.List.{list_all, list_any, before_first, after_first, before_last, after_last}
use Rattle.std.specs.Option.{option_map_or}

abbrev pub is_colon : ℕ → Bool
is_colon c = c == 58

abbrev pub is_hyphen : ℕ → Bool
is_hyphen c = c == 45

-- the text before the first colon, if there is a colon
unfoldable pub epoch_of : List ℕ → Option (List ℕ)
epoch_of text = if list_any is_colon text then Some (before_first is_colon text) else None

-- what follows the epoch and its colon; the whole text if there is no colon
unfoldable pub behind_epoch : List ℕ → List ℕ
behind_epoch text = if list_any is_colon text then after_first is_colon text else text

-- of what follows the epoch, the text before the last hyphen; all of it if there is no hyphen
unfoldable pub upstream_in : List ℕ → List ℕ
upstream_in rest = if list_any is_hyphen rest then before_last is_hyphen rest else rest

-- the text after the last hyphen, if there is a hyphen
unfoldable pub revision_in : List ℕ → Option (List ℕ)
revision_in rest = if list_any is_hyphen rest then Some (after_last is_hyphen rest) else None

abbrev pub upstream_of : List ℕ → List ℕ
upstream_of text = upstream_in (behind_epoch text)

abbrev pub revision_of : List ℕ → Option (List ℕ)
revision_of text = revision_in (behind_epoch text)

abbrev pub is_filled : List ℕ → Bool
is_filled text = nat_lt 0 (length text)

-- one digit or more
abbrev pub is_epoch : List ℕ → Bool
is_epoch text = is_filled text && list_all is_ascii_digit text

-- a letter, a digit or one of `+ . ~`
abbrev pub is_revision_byte : ℕ → Bool
is_revision_byte c = is_ascii_alphanumeric c || (c == 43 || c == 46 || c == 126)

-- a byte of a revision, a hyphen or a colon
abbrev pub is_upstream_byte : ℕ → Bool
is_upstream_byte c = is_revision_byte c || (is_hyphen c || is_colon c)

abbrev pub is_upstream : List ℕ → Bool
is_upstream text = is_filled text && list_all is_upstream_byte text

abbrev pub is_revision : List ℕ → Bool
is_revision text = is_filled text && list_all is_revision_byte text

-- an epoch and a revision may be missing; what is written is well formed
abbrev pub are_parts : Option (List ℕ) → List ℕ → Option (List ℕ) → Bool
are_parts epoch upstream revision = option_map_or is_epoch epoch true && is_upstream upstream
    && option_map_or is_revision revision true

-- the text is a version
unfoldable pub is_version : List ℕ → Bool
is_version text = are_parts (epoch_of text) (upstream_of text) (revision_of text)
