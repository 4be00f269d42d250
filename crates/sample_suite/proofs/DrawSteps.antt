-- Draws one after another, and what holds of each.
use Rattle.std.proofs.Common.{◌≡◌, ◌∙◌, ◌<◌, ◌≤◌, ◌+◌, ◌-◌, ℕ, zero, suc, refl, sym, ap, List, [], ◌∷◌, ◌++◌, length, append_assoc, append-nil, arith}
use Rattle.std.proofs.Math.Nat.{mod-lt}
use Rattle.std.specs.List.{AllByRecursion}
use Rattle.sample_suite.specs.Drawing.{Drawn, draw, draws, drawn_first}

-- what was drawn before, in front of more draws
abbrev pub behind : {A : Type 0} → List A → Drawn (List A) → Drawn (List A)
behind before more = record { value = before ++ more.value; state = more.state }

pub draws_first : {A : Type 0} (one : ℕ → Drawn A) (n s : ℕ) → draws one (suc n) s ≡ drawn_first (one s).value (draws one n (one s).state)
unfolding draws
draws_first one n s = refl

pub draws_none : {A : Type 0} (one : ℕ → Drawn A) (s : ℕ) → draws one 0 s ≡ record { value = []; state = s }
unfolding draws
draws_none one s = refl

pub one_left : (n i : ℕ) → i < n → n - i ≡ suc (n - (i + 1))
one_left n i lt = omega arith

-- the next of so many draws, put behind those before it
pub one_more : {A : Type 0} (one : ℕ → Drawn A) (n i : ℕ) (whole : Drawn (List A)) (before : List A) (s : ℕ) → i < n → whole ≡ behind before (draws one (n - i) s)
    → whole ≡ behind (before ++ (one s).value ∷ []) (draws one (n - (i + 1)) (one s).state)
one_more one n i whole before s lt e =
    e ∙ ap (λ k. behind before (draws one k s)) (one_left n i lt) ∙ ap (behind before) (draws_first one (n - (i + 1)) s)
    ∙ ap (λ v. record { value = v; state = (draws one (n - (i + 1)) (one s).state).state }) (sym (append_assoc before ((one s).value ∷ []) (draws one (n - (i + 1)) (one s).state).value))

-- no more draws
pub all_drawn : {A : Type 0} (one : ℕ → Drawn A) (n i : ℕ) (whole : Drawn (List A)) (before : List A) (s : ℕ) → n ≤ i → whole ≡ behind before (draws one (n - i) s) → whole ≡ record { value = before; state = s }
all_drawn one n i whole before s past e =
    let none : n - i ≡ 0 = omega arith in
    e ∙ ap (λ k. behind before (draws one k s)) none ∙ ap (behind before) (draws_none one s) ∙ ap (λ v. record { value = v; state = s }) (append-nil before)

-- what holds of every draw holds of each of them, and there are so many
pub draws_all : {A : Type 0} (P : A → Type 0) (one : ℕ → Drawn A) → ((s : ℕ) → P (one s).value) → (n s : ℕ) → AllByRecursion P (draws one n s).value
unfolding draws
draws_all P one each zero s = tt
draws_all P one each (suc n) s = (each s, draws_all P one each n (one s).state)

pub length-draws : {A : Type 0} (one : ℕ → Drawn A) (n s : ℕ) → length (draws one n s).value ≡ n
unfolding draws
length-draws one zero s = refl
length-draws one (suc n) s = let h = length-draws one n (one s).state in omega (arith, h)

-- a draw is below its bound
pub draw_below : (below s : ℕ) → 0 < below → (draw below s).value < below
unfolding draw
draw_below below s some = mod-lt _ some
