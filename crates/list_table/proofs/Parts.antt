-- Parts of a list, and what is left of them when the list grows.
use Rattle.std.proofs.Common.{◌≡◌, ℕ, zero, suc, ◌<◌, ◌≤◌, ◌-◌, ◌+◌, List, [], ◌∷◌, ◌++◌, length, get_or, take, drop, refl, ◌∙◌, ap, ap₂, arith, length-append}
use Rattle.std.proofs.{Common.{length-drop}, lemmas.List.{take-append-le, drop-append-le, map-append, get_or-map, take_all}, Math.Seq.{drop-append_seam}}
use Rattle.list_table.specs.Parts.{part, parts, SpansFit}

pub Within_at : (n : ℕ) (spans : List (ℕ × ℕ)) (i : ℕ) (d : ℕ × ℕ) → SpansFit n spans → i < length spans → ((get_or spans i d).0 ≤ (get_or spans i d).1) × ((get_or spans i d).1 ≤ n)
Within_at n [] i d w l = absurd (omega arith)
Within_at n (s ∷ ss) zero d w l = (w.0, w.1)
Within_at n (s ∷ ss) (suc i) d w l = Within_at n ss i d w.2 (omega arith)

pub Within_more : (n m : ℕ) (spans : List (ℕ × ℕ)) → n ≤ m → SpansFit n spans → SpansFit m spans
Within_more n m [] le w = tt
Within_more n m (s ∷ ss) le w = (w.0, omega (arith, w.1), Within_more n m ss le w.2)

pub Within_push : (n : ℕ) (spans : List (ℕ × ℕ)) (start end : ℕ) → SpansFit n spans → start ≤ end → end ≤ n → SpansFit n (spans ++ (start, end) ∷ [])
Within_push n [] start end w l m = (l, m, tt)
Within_push n (s ∷ ss) start end w l m = (w.0, w.1, Within_push n ss start end w.2 l m)

module _ {A : Type 0} (items more : List A) where
  part_grown : (span : ℕ × ℕ) → span.0 ≤ span.1 → span.1 ≤ length items → part (items ++ more) span ≡ part items span
  part_grown span l m =
      let le : span.0 ≤ length items = omega arith in
      let dropped : drop span.0 (items ++ more) ≡ drop span.0 items ++ more = drop-append-le span.0 items more le in
      let len : length (drop span.0 items) ≡ length items - span.0 = length-drop span.0 items in
      let short : span.1 - span.0 ≤ length (drop span.0 items) = omega arith in
      ap (take (span.1 - span.0)) dropped ∙ take-append-le (span.1 - span.0) (drop span.0 items) more short

  pub parts_grown : (spans : List (ℕ × ℕ)) → SpansFit (length items) spans → parts (items ++ more) spans ≡ parts items spans
  parts_grown [] w = refl
  parts_grown (s ∷ ss) w = ap₂ (λ x xs. x ∷ xs) (part_grown s w.0 w.1) (parts_grown ss w.2)

  -- what was put behind is the last part
  pub part_last : part (items ++ more) (length items, length (items ++ more)) ≡ more
  part_last =
      let dropped : drop (length items) (items ++ more) ≡ more = drop-append_seam items more in
      let len : length (items ++ more) ≡ length items + length more = length-append items more in
      let le : length more ≤ length (items ++ more) - length items = omega arith in
      ap (take (length (items ++ more) - length items)) dropped ∙ take_all (length (items ++ more) - length items) more le

  pub parts_push : (spans : List (ℕ × ℕ)) → SpansFit (length items) spans → parts (items ++ more) (spans ++ (length items, length (items ++ more)) ∷ []) ≡ parts items spans ++ more ∷ []
  parts_push spans w =
      map-append (part (items ++ more)) spans ((length items, length (items ++ more)) ∷ [])
      ∙ ap₂ (λ xs x. xs ++ x ∷ []) (parts_grown spans w) part_last

pub part_at : {A : Type 0} (items : List A) (spans : List (ℕ × ℕ)) (i : ℕ) (d : ℕ × ℕ) → i < length spans → get_or (parts items spans) i [] ≡ part items (get_or spans i d)
part_at items spans i d l = get_or-map (part items) spans i d [] l
