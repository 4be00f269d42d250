-- Which classes are held, by flags.
use Rattle.std.proofs.Common.{◌≡◌, ℕ, ◌+◌, ◌<◌, Bool, true, false, ◌||◌, eqb, List, [], ◌∷◌, ◌++◌, length, take, get_or, set, replicate, inl, inr, refl, sym}
use Rattle.std.proofs.{Common.{ap, ◌∙◌, subst, arith}, Math.ListN.{length-set}, lemmas.Bool.{cases_eq, ne_eqb}}
use Rattle.std.proofs.lemmas.List.{get_or-replicate, get_or-set_other, get_or-set_same, take_more}
use Rattle.row_book.specs.Flags.{flag}
use Rattle.listed.specs.Lists.{has, here}
use Rattle.listed.proofs.Lists.{In_append_right, In_has}
use Rattle.kernel_text.specs.Writing.{TellHeld}

pub none_marked : (flags : List Bool) → flags ≡ replicate (length flags) false → TellHeld flags [] (length flags)
none_marked flags none = record { count = refl; each = λ n l. ap (λ fs. flag fs n) none ∙ get_or-replicate (length flags) n false false l }

-- a further class is the last of its list, and no other is
has_last : (xs : List ℕ) (c : ℕ) → has (xs ++ c ∷ []) c ≡ true
has_last xs c = In_has (In_append_right xs (c ∷ []) c here)

has_other : (xs : List ℕ) (c n : ℕ) → (n ≡ c → ⊥) → has (xs ++ c ∷ []) n ≡ has xs n
has_other [] c n ne = rw (ne_eqb n c ne) refl
has_other (x ∷ xs) c n ne = ap (λ b. eqb n x || b) (has_other xs c n ne)

pub one_marked : (flags new : List Bool) (held : List ℕ) (i size c : ℕ) → i < length held → c ≡ get_or held i 0 → TellHeld flags (take i held) size → new ≡ set flags c true →
    TellHeld new (take (i + 1) held) size
one_marked flags new held i size c l is so_far made = record {
  count = ap length made ∙ length-set flags c true ∙ so_far.count;
  each = λ n inside.
      ap (λ fs. flag fs n) made
      ∙ elim (cases_eq n c) [
        | inl e ↦ subst (λ k. flag (set flags c true) k ≡ has (take (i + 1) held) k) (sym e)
            (get_or-set_same flags c true false (let count : length flags ≡ size = so_far.count in omega (arith, e)) ∙ sym (ap (λ xs. has xs c) more ∙ has_last (take i held) c))
        | inr ne ↦ get_or-set_other flags c n true false ne ∙ so_far.each n inside ∙ sym (ap (λ xs. has xs n) more ∙ has_other (take i held) c n ne)
      ];
}
  where
    more : take (i + 1) held ≡ take i held ++ c ∷ []
    more = take_more held i 0 l ∙ ap (λ k. take i held ++ k ∷ []) (sym is)

-- the same of equal flags, classes and counts
pub same_told : (fs gs : List Bool) (hs is : List ℕ) (n m : ℕ) → gs ≡ fs → hs ≡ is → n ≡ m → TellHeld fs hs n → TellHeld gs is m
same_told fs gs hs is n m a b e told = subst (λ xs. TellHeld xs is m) (sym a) (subst (λ xs. TellHeld fs xs m) b (subst (TellHeld fs hs) e told))
