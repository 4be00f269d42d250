-- Sets as tests.
use Rattle.std.proofs.Common.{◌≡◌, ◌≢◌, ℕ, true, false, not, eqb, List, ◌⊎◌, inl, inr, eq-eqb, eqb-true, ne_eqb}
use Rattle.std.proofs.lemmas.Bool.{or_cases, or_left, or_right, and_parts, and_from, and_cases, and_left, and_right, not_from_false, not_from_true, not-true}
use Rattle.std.proofs.lemmas.Bool.{not-false, eqb-false}
use Rattle.listed.specs.Lists.{In, Inside}
use Rattle.clause_pool.specs.Clauses.{minimal_of}
use Rattle.clause_pool.proofs.Clauses.{minimal_below}
use Rattle.row_book.specs.Sets.{NumSet, Hit, HitsAll, Is, plus, without}

pub Hit-mono : {A B : ℕ → Type 0} {c : List ℕ} → ((n : ℕ) → A n → B n) → Hit A c → Hit B c
Hit-mono f h = record { by = h.by; inside = h.inside; alive = f h.by h.alive }

pub plus_old : (X : NumSet) (p n : ℕ) → Is X n → Is (plus X p) n
plus_old X p n h = or_left (X n) (eqb n p) h

pub plus_new : (X : NumSet) (p n : ℕ) → n ≡ p → Is (plus X p) n
plus_new X p n e = or_right (X n) (eqb n p) (eq-eqb n p e)

pub plus_cases : (X : NumSet) (p n : ℕ) → Is (plus X p) n → Is X n ⊎ (n ≡ p)
plus_cases X p n h = elim (or_cases (X n) (eqb n p) h) [ inl a ↦ inl a | inr b ↦ inr (eqb-true n p b) ]

pub without_parts : (X : NumSet) (p n : ℕ) → Is (without X p) n → Is X n × (n ≢ p)
without_parts X p n h =
    let w : (X n ≡ true) × (not (eqb n p) ≡ true) = and_parts (X n) (not (eqb n p)) h in
    (w.0, eqb-false n p (not-true (eqb n p) w.1))

pub without_from : (X : NumSet) (p n : ℕ) → Is X n → n ≢ p → Is (without X p) n
without_from X p n h e = and_from (X n) (not (eqb n p)) h (not_from_false (eqb n p) (ne_eqb n p e))

pub outside_more : (V : NumSet) (q n : ℕ) → V n ≡ false → without V q n ≡ false
outside_more V q n e = and_left (V n) (not (eqb n q)) e

pub outside_gone : (V : NumSet) (q n : ℕ) → n ≡ q → without V q n ≡ false
outside_gone V q n e = and_right (V n) (not (eqb n q)) (not_from_true (eqb n q) (eq-eqb n q e))

pub outside_less : (V : NumSet) (q n : ℕ) → without V q n ≡ false → n ≢ q → V n ≡ false
outside_less V q n h ne =
    elim (and_cases (V n) (not (eqb n q)) h) [ inl a ↦ a | inr b ↦ absurd (ne (eqb-true n q (not-false (eqb n q) b))) ]

-- what hits the minimal clauses hits all
pub hits_minimal : (X : NumSet) (cs : List (List ℕ)) → HitsAll X (minimal_of cs) → HitsAll X cs
hits_minimal X cs h T i =
    let s : (S : List ℕ) × In S (minimal_of cs) × Inside S T = minimal_below cs T i in
    let hit : Hit (Is X) s.0 = h s.0 s.1 in
    record { by = hit.by; inside = s.2 hit.by hit.inside; alive = hit.alive }
