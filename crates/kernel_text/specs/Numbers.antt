-- for the bodies of this crate alone
-- The numbers of a line as they are read.
use Rattle.std.specs.Prelude.{◌≡◌, ℕ, ◌<◌, Bool, not, ◌&&◌, ◌||◌, ◌==◌, nat_le, List, length}
use Rattle.std.specs.{Prelude.{slice_index, Option, Some, None}, Char.{is_ascii_digit}}
use Rattle.std.specs.{Fmt.{decimal}, List.{list_all}}
use Rattle.kernel_text.specs.Reading.{number_limit}

-- one to ten digits; the first is no zero unless it is the only one
abbrev pub is_numeral : List ℕ → Bool
is_numeral text = nat_le 1 (length text) && (nat_le (length text) 10
    && (list_all is_ascii_digit text && (length text == 1 || not (slice_index text 0 == 48))))

-- the number below the limit that the text writes, or that there is none
abbrev pub NumberRead : List ℕ → Option ℕ → Type 0
NumberRead text (Some n) = (text ≡ decimal n) × (n < number_limit)
NumberRead text None = (n : ℕ) → text ≡ decimal n → n < number_limit → ⊥
