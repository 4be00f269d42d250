-- Pieces without digits, compared weight by weight.
use Rattle.std.proofs.{Common.{◌≡◌, ℕ, ◌+◌, ◌<◌, true, false, List, [], ◌∷◌, drop, refl, sym, ap, ◌∙◌, ℤ, pos, negsuc, arith}, lemmas.Bool.Decides.{nat_tests}}
use Rattle.std.proofs.{lemmas.Bool.{cond_both}, lemmas.List.{drop-drop}}
use Rattle.std.specs.{Prelude.{◌==◌, if◌then◌else◌}, declared.cmp.Ordering.{Ordering}, declared.cmp.Ordering.TheVariants.{Less, Greater}}
use Rattle.std.specs.{Char.{is_ascii_alphabetic}, Cmp.Lexicographic.{slice_cmp}, Ordering.{ordering_then, int_cmp, is_ne}}
use Rattle.deb_version.specs.Order.{weight, weights, weight_at_front}
use Rattle.deb_version.proofs.PieceSteps.{tied}

drop_one : (i : ℕ) (xs : List ℕ) → drop 1 (drop i xs) ≡ drop (i + 1) xs
drop_one i xs = drop-drop 1 i xs

-- a character weighs less or more than the end of a piece
end_before : (n : ℕ) → 0 < n → int_cmp (pos 0) (pos n) ≡ Less
end_before n h = grind (arith, nat_tests)

end_after : (n : ℕ) → 0 < n → int_cmp (pos n) (pos 0) ≡ Greater
end_after n h = grind (arith, nat_tests)

letter_range : (c : ℕ) → is_ascii_alphabetic c ≡ true → 0 < c
letter_range c h = grind (arith, nat_tests)

end_first : (c : ℕ) (o p : Ordering) → ordering_then (int_cmp (pos 0) (weight c)) o ≡ ordering_then (int_cmp (pos 0) (weight c)) p
end_first c o p =
    let P : ℤ → Type 0 = λ w. ordering_then (int_cmp (pos 0) w) o ≡ ordering_then (int_cmp (pos 0) w) p in
    cond_both (c == 126) (negsuc 0) (if is_ascii_alphabetic c then pos c else pos (256 + c)) P (λ is. refl)
    (λ is. cond_both (is_ascii_alphabetic c) (pos c) (pos (256 + c)) P
    (λ letter. rw (end_before c (letter_range c letter)) refl)
    (λ other. rw (end_before (256 + c) (omega arith)) refl))

end_second : (c : ℕ) (o p : Ordering) → ordering_then (int_cmp (weight c) (pos 0)) o ≡ ordering_then (int_cmp (weight c) (pos 0)) p
end_second c o p =
    let P : ℤ → Type 0 = λ w. ordering_then (int_cmp w (pos 0)) o ≡ ordering_then (int_cmp w (pos 0)) p in
    cond_both (c == 126) (negsuc 0) (if is_ascii_alphabetic c then pos c else pos (256 + c)) P (λ is. refl)
    (λ is. cond_both (is_ascii_alphabetic c) (pos c) (pos (256 + c)) P
    (λ letter. rw (end_after c (letter_range c letter)) refl)
    (λ other. rw (end_after (256 + c) (omega arith)) refl))

-- the first weights decide, and else the others
weights-step : (l r : List ℕ) → slice_cmp int_cmp (weights l) (weights r) ≡ ordering_then (int_cmp (weight_at_front l) (weight_at_front r)) (slice_cmp int_cmp (weights (drop 1 l)) (weights (drop 1 r)))
weights-step [] [] = refl
weights-step [] (y ∷ ys) = end_first y _ _
weights-step (x ∷ xs) [] = end_second x _ _
weights-step (x ∷ xs) (y ∷ ys) = refl

-- where the weights at a place are alike, those behind it decide
pub weights-level : (l r : List ℕ) (i : ℕ) (o : Ordering) → o ≡ int_cmp (weight_at_front (drop i l)) (weight_at_front (drop i r)) → is_ne o ≡ false → slice_cmp int_cmp (weights (drop i l)) (weights (drop i r)) ≡ slice_cmp int_cmp (weights (drop (i + 1) l)) (weights (drop (i + 1) r))
weights-level l r i o e h =
    tied _ _ _ (weights-step (drop i l) (drop i r)) (ap is_ne (sym e) ∙ h)
    ∙ ap (λ k. slice_cmp int_cmp (weights k) (weights (drop 1 (drop i r)))) (drop_one i l)
    ∙ ap (λ k. slice_cmp int_cmp (weights (drop (i + 1) l)) (weights k)) (drop_one i r)
