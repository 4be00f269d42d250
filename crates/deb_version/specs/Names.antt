-- The names of packages. The first character is an ASCII letter of either case or a digit; any
-- further one is such a character or one of `+ - . _`. This is wider than Debian Policy 5.6.1 and
-- 5.6.7: these want at least two characters, no upper-case letter and no `_`.
use Rattle.std.specs.Prelude.{ℕ, Bool, false, ◌&&◌, ◌||◌, ◌==◌, List, [], ◌∷◌}
use Rattle.std.specs.{Char.{is_ascii_alphanumeric}, List.{list_all}}

-- a letter, a digit or one of `+ - . _`
abbrev pub is_name_byte : ℕ → Bool
is_name_byte c = is_ascii_alphanumeric c || (c == 43 || c == 45 || c == 46 || c == 95)

-- there is a first byte, and it is a letter or a digit
abbrev pub has_first : List ℕ → Bool
has_first [] = false
has_first (first ∷ rest) = is_ascii_alphanumeric first

abbrev pub is_name : List ℕ → Bool
is_name text = has_first text && list_all is_name_byte text
