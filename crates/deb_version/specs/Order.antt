-- The order of versions: Debian Policy 5.6.12. Two versions are compared by their epochs as
-- numbers, then by their upstream parts, then by their revisions. A part is cut into pieces from
-- its front on: the longest front without digits, the longest front of digits, and so on. The first
-- piece that differs decides.
use Rattle.std.specs.Prelude.{◌≡◌, ℕ, zero, suc, ◌+◌, ◌-◌, ◌*◌, max, Bool, true, not, ◌⊎◌, ℤ, pos}
use Rattle.std.specs.Prelude.{negsuc, if◌then◌else◌, ◌==◌, List, [], ◌∷◌, ◌++◌, length, drop, map}
use Rattle.std.specs.{Prelude.{unwrap_or}, Char.{is_ascii_alphabetic, is_ascii_digit}}
use Rattle.std.specs.{Cmp.Lexicographic.{slice_cmp}, List.{fold, prefix_len, take_while}}
use Rattle.std.specs.{declared.cmp.Ordering.{Ordering}, declared.cmp.Ordering.TheVariants.{Equal}}
use Rattle.std.specs.Ordering.{ordering_then, nat_cmp, int_cmp, is_le}
use Rattle.deb_version.specs.Grammar.{epoch_of, upstream_of, revision_of}

-- the whole number that decimal digits write, of any size
abbrev pub number : List ℕ → ℕ
number digits = fold (λ n c. 10 * n + (c - 48)) 0 digits

-- a character that is no digit
abbrev pub is_plain : ℕ → Bool
is_plain c = not (is_ascii_digit c)

-- the tilde comes before the end of a piece, the end before the letters, and these before the other
-- characters
abbrev pub weight : ℕ → ℤ
weight c = if c == 126 then negsuc 0 else (if is_ascii_alphabetic c then pos c else pos (256 + c))

-- the weights of a piece without digits, and that of its end
abbrev pub weights : List ℕ → List ℤ
weights piece = map weight piece ++ pos 0 ∷ []

-- the weight of the first character, or that of the end
abbrev pub weight_at_front : List ℕ → ℤ
weight_at_front [] = pos 0
weight_at_front (c ∷ cs) = weight c

-- what is left of a part without its longest front without digits, or without its longest front of
-- digits
abbrev pub behind_plain : List ℕ → List ℕ
behind_plain part = drop (prefix_len is_plain part) part

abbrev pub behind_digits : List ℕ → List ℕ
behind_digits part = drop (prefix_len is_ascii_digit part) part

-- what is left of a part once k pieces without digits and k pieces of digits are taken off its
-- front in turn
unfoldable pub behind : ℕ → List ℕ → List ℕ
behind zero part = part
behind (suc k) part = behind k (behind_digits (behind_plain part))

-- the k-th piece without digits, from 0, as weights; past the end of the part it is the weight of
-- the end alone
unfoldable pub plain_piece : ℕ → List ℕ → List ℤ
plain_piece k part = weights (take_while is_plain (behind k part))

-- the k-th piece of digits as a number; past the end of the part it is 0
unfoldable pub number_piece : ℕ → List ℕ → ℕ
number_piece k part = number (take_while is_ascii_digit (behind_plain (behind k part)))

-- compares the k-th pieces of two parts; within pieces without digits the first weight that differs
-- decides
unfoldable pub pieces_order : List ℕ → List ℕ → ℕ → Ordering
pieces_order v w k = ordering_then (slice_cmp int_cmp (plain_piece k v) (plain_piece k w))
    (nat_cmp (number_piece k v) (number_piece k w))

-- the first comparison, at the numbers below n, that is not equal
unfoldable pub first_difference : (ℕ → Ordering) → ℕ → Ordering
first_difference order zero = Equal
first_difference order (suc n) = ordering_then (first_difference order n) (order n)

-- compares two parts, over the numbers up to the length of the longer one
unfoldable pub part_order : List ℕ → List ℕ → Ordering
part_order v w = first_difference (pieces_order v w) (suc (max (length v) (length w)))

-- a missing epoch and a missing revision count as `0`
abbrev pub or_zero : List ℕ
or_zero = 48 ∷ []

abbrev pub epoch_number : List ℕ → ℕ
epoch_number text = number (unwrap_or (epoch_of text) or_zero)

abbrev pub full_revision : List ℕ → List ℕ
full_revision text = unwrap_or (revision_of text) or_zero

-- compares two versions by their epochs, then by their upstream parts, then by their revisions
unfoldable pub version_order : List ℕ → List ℕ → Ordering
version_order v w = ordering_then (nat_cmp (epoch_number v) (epoch_number w)) (ordering_then
    (part_order (upstream_of v) (upstream_of w)) (part_order (full_revision v) (full_revision w)))

-- a total order up to equal versions
pub record IsTotalUpToTies (order : List ℕ → List ℕ → Ordering) : Type 0 where
  pub reflexive : (v : List ℕ) → order v v ≡ Equal
  pub antisymmetric : (v w : List ℕ) → is_le (order v w) ≡ true →
      is_le (order w v) ≡ true → order v w ≡ Equal
  pub transitive : (u v w : List ℕ) → is_le (order u v) ≡ true → is_le (order v w) ≡ true →
      is_le (order u w) ≡ true
  pub total : (v w : List ℕ) → (is_le (order v w) ≡ true) ⊎ (is_le (order w v) ≡ true)
