-- A line that begins with bytes of names and a colon.
use Rattle.std.proofs.{Common.{◌≡◌, ℕ, ◌<◌, Bool, true, false, ◌&&◌, not, List, length, take, get_or, refl, arith}, lemmas.List.{get_or-take, length-take-le}}
use Rattle.std.proofs.lemmas.List.Sums.{AllPass-from_list_all, position_or_len_is}
use Rattle.std.specs.{Prelude.{nat_le}, List.{list_all, position_or_len}}
use Rattle.deb_version.specs.Grammar.{is_colon}
use Rattle.stanza_reader.specs.Fields.{is_field_name_byte, name_of}

third_down : (a b c : Bool) → (a && b && not c) ≡ true → c ≡ false
third_down true true false h = refl
third_down true true true h = cc
third_down true false c h = cc
third_down false b c h = cc

-- what stands before the colon is the text before the first colon
pub name_before : (line : List ℕ) (n : ℕ) → list_all is_field_name_byte (take n line) ≡ true → n < length line → get_or line n 0 ≡ 58 → take n line ≡ name_of line
name_before line n bytes more colon =
    let place : position_or_len is_colon line ≡ n = position_or_len_is is_colon line n 0 (omega arith) before (λ _. rw colon refl) in
    rw place refl
  where
    before : (k : ℕ) → k < n → is_colon (get_or line k 0) ≡ false
    before k l =
        let inside : k < length (take n line) = omega (arith, length-take-le n line (omega arith)) in
        let byte = AllPass-from_list_all is_field_name_byte (take n line) bytes k 0 inside in
        let byte' : is_field_name_byte (get_or line k 0) ≡ true = rw (get_or-take n line k 0 l) at byte in
        third_down (nat_le 33 (get_or line k 0)) (nat_le (get_or line k 0) 126) (is_colon (get_or line k 0)) byte'
