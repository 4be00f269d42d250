-- The keys of parts, pieces taken off their fronts.
use Rattle.std.proofs.Common.{◌≡◌, ℕ, zero, suc, ◌≤◌, List, [], ◌∷◌, ◌++◌, length, refl, sym, ap, ◌∙◌, append_assoc, arith}
use Rattle.std.specs.List.{take_while}
use Rattle.deb_version.specs.{Keys.{number_key, front_key, fronts_key, part_key}, Order.{is_plain}}
use Rattle.deb_version.proofs.PieceSteps.{behind_front, shorter-behind_front}

fronts_key-nothing : (n : ℕ) → fronts_key n [] ≡ []
unfolding fronts_key front_key
fronts_key-nothing zero = refl
fronts_key-nothing (suc n) = fronts_key-nothing n

-- past its length a part has no more pieces
fronts_key-past : (n m : ℕ) (part : List ℕ) → length part ≤ n → length part ≤ m → fronts_key n part ≡ fronts_key m part
unfolding fronts_key
fronts_key-past n m [] g h = fronts_key-nothing n ∙ sym (fronts_key-nothing m)
fronts_key-past zero m (x ∷ xs) g h = absurd (omega arith)
fronts_key-past (suc n) zero (x ∷ xs) g h = absurd (omega arith)
fronts_key-past (suc n) (suc m) (x ∷ xs) g h =
    let less = shorter-behind_front (x ∷ xs) (omega arith) in
    ap (λ more. front_key (x ∷ xs) ++ more) (fronts_key-past n m (behind_front (x ∷ xs)) (omega arith) (omega arith))

-- the pieces at the front, and then those behind them
pub part_key-step : (part : List ℕ) → part_key part ≡ front_key part ++ part_key (behind_front part)
unfolding part_key fronts_key
part_key-step [] = fronts_key-past 0 1 [] (omega arith) (omega arith)
part_key-step (x ∷ xs) =
    let less = shorter-behind_front (x ∷ xs) (omega arith) in
    ap (λ more. front_key (x ∷ xs) ++ more) (fronts_key-past (length xs) (length (behind_front (x ∷ xs))) (behind_front (x ∷ xs)) (omega arith) (omega arith))

pub part_key-empty : (part : List ℕ) → length part ≡ 0 → part_key part ≡ []
unfolding part_key fronts_key
part_key-empty [] h = refl
part_key-empty (x ∷ xs) h = absurd (omega arith)

-- the pieces at the front are written, and then those behind them
pub pushed : (out part plain number rest : List ℕ) (some all : List ℕ) → plain ≡ take_while is_plain part → number ≡ number_key part → rest ≡ behind_front part
    → some ≡ out ++ plain → all ≡ some ++ number → all ++ part_key rest ≡ out ++ part_key part
unfolding front_key
pushed out part plain number rest some all first second behind one two =
    let front : plain ++ number ≡ front_key part = ap (λ xs. xs ++ number) first ∙ ap (λ xs. take_while is_plain part ++ xs) second in
    ap (λ xs. xs ++ part_key rest) (two ∙ ap (λ xs. xs ++ number) one ∙ append_assoc out plain number ∙ ap (λ xs. out ++ xs) front)
    ∙ append_assoc out (front_key part) (part_key rest) ∙ ap (λ xs. out ++ (front_key part ++ part_key xs)) behind ∙ ap (λ xs. out ++ xs) (sym (part_key-step part))
