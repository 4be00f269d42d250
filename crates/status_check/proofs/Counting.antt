-- Counting one item after another.
use Rattle.std.proofs.{Common.{◌≡◌, ℕ, ◌+◌, ◌<◌, ◌≤◌, Bool, true, false, List, length, get_or, take, refl, ap, sym, ◌∙◌, arith}, lemmas.List.{length-take-le}}
use Rattle.std.proofs.lemmas.List.Sums.{count_by-le-length, count_by_more_no, count_by_more_yes}
use Rattle.std.specs.Prelude.{count_by, if◌then◌else◌}

module _ {A : Type 0} (p : A → Bool) (xs : List A) (i : ℕ) (n : ℕ) (within : i < length xs) (so : n ≡ count_by p (take i xs)) where
  -- no more than there were items
  pub counted_few : n ≤ i
  counted_few = let here : i ≤ length xs = omega arith in omega (arith, so, count_by-le-length p (take i xs), length-take-le i xs here)

  -- an item more
  pub counted_more : (x : A) (b : Bool) (new : ℕ) → x ≡ get_or xs i x → b ≡ p x → new ≡ (if b then n + 1 else n) → new ≡ count_by p (take (i + 1) xs)
  counted_more x b new is test e = by (p x) refl
    where
      by : (t : Bool) → p x ≡ t → new ≡ count_by p (take (i + 1) xs)
      by true up = e ∙ ap (λ c. if c then n + 1 else n) (test ∙ up) ∙ ap (λ k. k + 1) so ∙ sym (count_by_more_yes p xs i x within (ap p (sym is) ∙ up))
      by false down = e ∙ ap (λ c. if c then n + 1 else n) (test ∙ down) ∙ so ∙ sym (count_by_more_no p xs i x within (ap p (sym is) ∙ down))
