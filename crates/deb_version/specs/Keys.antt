-- The keys of versions: versions that compare as equal have one key, so that they are found by it.
-- A key is the epoch, the upstream part and the revision with a space between them, which stands in
-- none of the three. What does not count in the order of versions is left out. A run of digits is
-- written without its leading zeros. A missing epoch and a missing revision count as `0`. A number
-- 0 is written only if more of its part follows.
use Rattle.std.specs.Prelude.{ℕ, zero, suc, ◌==◌, List, [], ◌∷◌, ◌++◌, length, drop, unwrap_or}
use Rattle.std.specs.{Char.{is_ascii_digit}, List.{prefix_len, take_while}}
use Rattle.deb_version.specs.Grammar.{epoch_of, upstream_of}
use Rattle.deb_version.specs.Order.{is_plain, behind_plain, behind_digits, or_zero, full_revision}

-- a run of digits without its leading zeros; the number 0 has no digit left
abbrev pub without_zeros : List ℕ → List ℕ
without_zeros digits = drop (prefix_len (λ c. c == 48) digits) digits

-- the number 0 before what follows in its part: `0`, and nothing if nothing follows
abbrev pub zero_before : List ℕ → List ℕ
zero_before [] = []
zero_before (c ∷ more) = or_zero

-- a number without its leading zeros, before what follows in its part
abbrev pub number_before : List ℕ → List ℕ → List ℕ
number_before [] more = zero_before more
number_before (c ∷ digits) more = c ∷ digits

-- the first number of a part, after its first piece without digits
abbrev pub number_key : List ℕ → List ℕ
number_key part = number_before (without_zeros (take_while is_ascii_digit (behind_plain part)))
    (behind_digits (behind_plain part))

-- the first piece without digits, and the number after it
unfoldable pub front_key : List ℕ → List ℕ
front_key part = take_while is_plain part ++ number_key part

-- the first n pieces without digits, each with the number after it
unfoldable pub fronts_key : ℕ → List ℕ → List ℕ
fronts_key zero part = []
fronts_key (suc n) part = front_key part ++ fronts_key n (behind_digits (behind_plain part))

-- all pieces of a part, which are no more than its bytes
unfoldable pub part_key : List ℕ → List ℕ
part_key part = fronts_key (length part) part

abbrev pub epoch_key : List ℕ → List ℕ
epoch_key text = without_zeros (unwrap_or (epoch_of text) or_zero)

unfoldable pub version_key : List ℕ → List ℕ
version_key text =
    epoch_key text ++ (32 ∷ part_key (upstream_of text)) ++ (32 ∷ part_key (full_revision text))
