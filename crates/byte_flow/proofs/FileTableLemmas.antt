-- Where the newest file of a path stands.
use Rattle.std.proofs.Common.{◌≡◌, ℕ, Bool, true, false, cond, List, [], length, Option, Some, None, refl, sym, subst, inl, inr, arith}
use Rattle.std.proofs.{lemmas.List.Folds.{find_at}, lemmas.Option.{slice_get_cases}, lemmas.Grind.{common_steps}}
use Rattle.std.specs.{Prelude.{MatchOption, is_some, position, slice_get, bytes_eq, string_bytes, unwrap_or, option_map, nat_lt}, List.{position_or_len}}
use Rattle.byte_flow.specs.{declared.file_table.StoredFile.{StoredFile}, FileTable.{stored_files, bytes_from}}

abbrev bytes_of : StoredFile → List ℕ
bytes_of file = file.bytes.items

-- what an index tells of the file that was found
abbrev pub Tells : List StoredFile → Option (List ℕ) → Option ℕ → Type 0
Tells files bytes found = MatchOption found (bytes ≡ None) (λ i. (is_some bytes ≡ true) × (bytes_from (slice_get files i) 0 ≡ unwrap_or bytes []))

at_index : (files : List StoredFile) (n : ℕ) → Tells files (option_map bytes_of (slice_get files n)) (cond (nat_lt n (length files)) (Some n) None)
at_index files n =
    elim (slice_get_cases files n).1 [
      | inl w ↦ let below : nat_lt n (length files) ≡ true = grind (arith, common_steps) in let some = w.2 in rw (below, some) (refl, refl)
      | inr w ↦ let past : nat_lt n (length files) ≡ false = grind (arith, common_steps) in let none = w.1 in rw (past, none) refl
    ]

pub index_lookup : (files : List StoredFile) (path : List ℕ) (found : Option ℕ) → found ≡ position (λ file. bytes_eq (string_bytes file.path) path) files
    → Tells files (stored_files files path) found
index_lookup files path found e =
    let p : StoredFile → Bool = λ file. bytes_eq (string_bytes file.path) path in
    let P : Option StoredFile → Type 0 = λ o. Tells files (option_map bytes_of o) (position p files) in
    let Q : Option ℕ → Type 0 = λ o. Tells files (stored_files files path) o in
    subst Q (sym e) (subst P (sym (find_at p files)) (at_index files (position_or_len p files)))
