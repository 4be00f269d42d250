-- What waits once a package is put to it or taken from it, and what is met outside it.
use Rattle.std.proofs.Common.{◌≡◌, ℕ, zero, suc, ◌+◌, ◌*◌, ◌<◌, ◌≤◌, Bool, true, false, ◌||◌, eqb, ◌⊎◌, List, length, get_or, set, replicate, take, inl, inr}
use Rattle.std.proofs.{Common.{refl, sym, ◌∙◌, ap, subst, arith, eq-eqb, None}, Math.Bool.{or-false}, lemmas.Bool.{cases_Bool, cases_eq, both_ways, or_parts}}
use Rattle.std.proofs.lemmas.List.{get_or-set_other, get_or-set_same}
use Rattle.std.specs.List.{find}
use Rattle.clause_pool.specs.Interned.{Interned, clauses_at, ids_at}
use Rattle.row_book.specs.{Sets.{NumSet, Within, plus, without}, Book.{repository_of}, declared.book.Book.{Book}, Flags.{flag}, Uses.{row_id}}
use Rattle.row_book.specs.Repository.{Repository, Healthy, clauses_of}
use Rattle.row_book.proofs.Sets.{outside_less, without_parts, plus_cases, plus_new, plus_old}
use Rattle.install_lift.specs.{Trimming.{is_unhit, AreHitBefore, AreMet, AreMetOutside}, Waiting.{IsLeast}}
use Rattle.install_lift.proofs.Steps.{flag_plus, met_more, size_of}

-- what is below the least package that waits is met
pub met_below : (R : Repository) (S W : NumSet) (p : ℕ) → AreMetOutside R S W → IsLeast W p → AreMet R S p
met_below R S W p met l q lt up = elim (cases_Bool (W q)) [
  | inl t ↦ absurd (let le = l.least q t in omega (arith, le, lt))
  | inr f ↦ met q up f
]

-- where none waits, all is met
pub met_all : (R : Repository) (S W : NumSet) (p : ℕ) → AreMetOutside R S W → ((q : ℕ) → W q ≡ false) → AreMet R S p
met_all R S W p met none q lt up = met q up (none q)

-- one that waits is met
pub met_one : (R : Repository) (S V W : NumSet) (p : ℕ) → AreMetOutside R S V → ((q : ℕ) → W q ≡ without V p q) → find (is_unhit S) (clauses_of R p) ≡ None → AreMetOutside R S W
met_one R S V W p met taken none q up f = elim (cases_eq q p) [
  | inl e ↦ rw e none
  | inr ne ↦ met q up (outside_less V p q (sym (taken q) ∙ f) ne)
]

-- a package is put in, and waits, as does the one that asked for it
pub met_put : (R : Repository) (flags new : List Bool) (V A B W : NumSet) (p n : ℕ) → n < length flags → new ≡ set flags n true → AreMetOutside R (flag flags) V
    → ((q : ℕ) → A q ≡ without V p q) → ((q : ℕ) → B q ≡ plus A p q) → ((q : ℕ) → W q ≡ plus B n q) → AreMetOutside R (flag new) W
met_put R flags new V A B W p n lt e met taken again put q up f =
    let now : flag new ≡ plus (flag flags) n = ap flag e ∙ flag_plus flags n lt in
    let w : (B q ≡ false) × (eqb q n ≡ false) = or_parts (B q) (eqb q n) (sym (put q) ∙ f) in
    let v : (A q ≡ false) × (eqb q p ≡ false) = or_parts (A q) (eqb q p) (sym (again q) ∙ w.0) in
    let was : flag flags q ≡ true = sym (ap (λ S. S q) now ∙ ap (λ b. flag flags q || b) w.1 ∙ or-false (flag flags q)) ∙ up in
    let out : V q ≡ false = outside_less V p q (sym (taken q) ∙ v.0) (λ s. both_ways (eqb q p) v.1 (eq-eqb q p s)) in
    subst (λ S. find (is_unhit S) (clauses_of R q) ≡ None) (sym now) (met_more (flag flags) n (clauses_of R q) (met q was out))

-- what waits stays in the set
pub within_less : (S V W : NumSet) (p : ℕ) → Within V S → ((q : ℕ) → W q ≡ without V p q) → Within W S
within_less S V W p part taken q h = part q (without_parts V p q (sym (taken q) ∙ h)).0

pub within_put : (flags new : List Bool) (V A B W : NumSet) (p n : ℕ) → n < length flags → new ≡ set flags n true → Within V (flag flags) → V p ≡ true
    → ((q : ℕ) → A q ≡ without V p q) → ((q : ℕ) → B q ≡ plus A p q) → ((q : ℕ) → W q ≡ plus B n q) → Within W (flag new)
within_put flags new V A B W p n lt e part waits taken again put q h =
    let now : flag new ≡ plus (flag flags) n = ap flag e ∙ flag_plus flags n lt in
    sym (ap (λ S. S q) (sym now)) ∙ elim (plus_cases B n q (sym (put q) ∙ h)) [
      | inr s ↦ plus_new (flag flags) n q s
      | inl b ↦ plus_old (flag flags) n q (elim (plus_cases A p q (sym (again q) ∙ b)) [
        | inr s ↦ rw s (part p waits)
        | inl a ↦ part q (without_parts V p q (sym (taken q) ∙ a)).0
      ])
    ]

-- what waits is in the set that is put in
pub waits_more : (flags new : List Bool) (V W : NumSet) (n : ℕ) → n < length flags → new ≡ set flags n true → ((q : ℕ) → V q ≡ flag flags q) → ((q : ℕ) → W q ≡ plus V n q) → (q : ℕ) → W q ≡ flag new q
waits_more flags new V W n lt e same put q =
    put q ∙ ap (λ b. b || eqb q n) (same q) ∙ sym (ap (λ S. S q) (ap flag e ∙ flag_plus flags n lt))

-- where all that is in the set waits, what is outside is met
pub met_outside : (R : Repository) (S W : NumSet) → ((q : ℕ) → W q ≡ S q) → AreMetOutside R S W
met_outside R S W same q up f = absurd (both_ways (S q) (sym (same q) ∙ f) up)

-- before anything is put in, nothing waits
pub none_waits : (V : NumSet) (flags : List Bool) (n : ℕ) → flags ≡ replicate n false → ((q : ℕ) → V q ≡ false) → (q : ℕ) → V q ≡ flag flags q
none_waits V flags n e none q = none q ∙ sym (ap (λ fs. flag fs q) e ∙ at n q)
  where
    at : (n m : ℕ) → flag (replicate n false) m ≡ false
    at zero m = refl
    at (suc n) zero = refl
    at (suc n) (suc m) = at n m

-- what waits is in the book
pub in_book : (pool : Interned) (book : Book) (chosen S W : NumSet) (p : ℕ) → Healthy (repository_of pool book) chosen → Within S chosen → Within W S → IsLeast W p → p < length book.rows
in_book pool book chosen S W p healthy part waits l =
    let lt : p < length (repository_of pool book).clauses = healthy.packages p (part p (waits p l.waits)) in
    let size = size_of pool book in
    omega (arith, lt, size)

-- a package that is put in makes less to do, although two wait in place of one
pub less_to_do : (c d v a b w : ℕ) → d + 1 ≡ c → a + 1 ≡ v → b ≤ a + 1 → w ≤ b + 1 → d * 2 + w < c * 2 + v
less_to_do c d v a b w e f g h = omega arith

-- at first each place is the row's start
pub hit_before_any : (pool : Interned) (book : Book) (S : NumSet) (places : List ℕ) (n : ℕ) → places ≡ replicate n 0 → AreHitBefore pool book S places
hit_before_any pool book S places n e p = rw (e, zero_at n p) refl
  where
    zero_at : (n p : ℕ) → ◌≡◌ {A = ℕ} (get_or (replicate n 0) p 0) 0
    zero_at zero p = refl
    zero_at (suc n) zero = refl
    zero_at (suc n) (suc p) = zero_at n p

-- a clause that is hit is hit on, and the place of one package is where it was found
pub hit_before_put : (pool : Interned) (book : Book) (flags new : List Bool) (places now ids : List ℕ) (p n k row : ℕ) → n < length flags → new ≡ set flags n true → p < length places → now ≡ set places p k
    → row ≡ row_id book.rows p → ids ≡ ids_at pool row → find (is_unhit (flag flags)) (clauses_at pool (take k ids)) ≡ None → AreHitBefore pool book (flag flags) places → AreHitBefore pool book (flag new) now
hit_before_put pool book flags new places now ids p n k row lt e within g is lent here before q =
    let grown : flag new ≡ plus (flag flags) n = ap flag e ∙ flag_plus flags n lt in
    subst (λ S. find (is_unhit S) (clauses_at pool (take (get_or now q 0) (ids_at pool (row_id book.rows q)))) ≡ None) (sym grown) (met_more (flag flags) n (clauses_at pool (take (get_or now q 0) (ids_at pool (row_id book.rows q)))) (at_place (cases_eq q p)))
  where
    at_place : (q ≡ p) ⊎ (q ≡ p → ⊥) → find (is_unhit (flag flags)) (clauses_at pool (take (get_or now q 0) (ids_at pool (row_id book.rows q)))) ≡ None
    at_place (inl s) =
        let k_is : get_or now q 0 ≡ k = ap (λ xs. get_or xs q 0) g ∙ ap (λ m. get_or (set places p k) m 0) s ∙ get_or-set_same places p k 0 within in
        rw (k_is, s, ← is, ← lent) here
    at_place (inr d) =
        let k_is : get_or now q 0 ≡ get_or places q 0 = ap (λ xs. get_or xs q 0) g ∙ get_or-set_other places p q k 0 d in
        rw k_is (before q)
