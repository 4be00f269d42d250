-- The rows when one more package is taken out are those that substitution gives.
use Rattle.std.proofs.{Common.{◌≡◌, ◌≢◌, ℕ, ◌<◌, Bool, true, false, cond, List, length, ◌⊎◌, inl, inr, refl, sym, ◌∙◌, ap, subst}, lemmas.Bool.{both_ways}}
use Rattle.row_book.specs.{Sets.{Hit, HitsAll, Is, NumSet, Within, plus, without}, Repository.{Repository}, Support.{IsRow, Support}, Sound.{OfPackages}}
use Rattle.listed.specs.Lists.{In, Ascending}
use Rattle.clause_pool.specs.Clauses.{apart_from}
use Rattle.clause_families.specs.Unions.{clause_without, union_of, all_unions_for, substituted}
use Rattle.clause_flatten.specs.Laws.{RowTells, Substitutes, with_user}
use Rattle.row_book.proofs.{Sets.{Hit-mono, plus_cases, plus_new, plus_old, without_from, without_parts, hits_minimal}, Lists.{hits_or}}
use Rattle.listed.proofs.Lists.{decided_in}
use Rattle.clause_pool.proofs.Clauses.{apart_cases, apart_in, minimal_of_parts}
use Rattle.clause_flatten.proofs.{Supports.{one_step_lem, with_user_cases}, Blocking.{row_from_hits, row_says, support_from_hits}}
use Rattle.clause_families.proofs.Unions.{Comes, dropped_from, dropped_parts, joined_ascending, joined_cases, joined_left, joined_right, replaced_cases}
use Rattle.clause_families.proofs.Unions.{replaced_joined, replaced_kept}

pub row_tells_lem : RowTells
row_tells_lem R V p rows bound r X w = row_says R V p (length R.clauses) bound rows r X w

with_user_old : (v : Bool) (p : ℕ) (X : NumSet) (n : ℕ) → Is X n → Is (cond v (plus X p) X) n
with_user_old true p X n h = plus_old X p n h
with_user_old false p X n h = h

with_user_new : (v : Bool) (p : ℕ) (X : NumSet) → v ≡ true → Is (cond v (plus X p) X) p
with_user_new true p X e = plus_new X p p refl
with_user_new false p X e = absurd (both_ways false refl e)

with_user_within : (v : Bool) (V : NumSet) (p : ℕ) (X : NumSet) → V p ≡ v → Within X V → Within (cond v (plus X p) X) V
with_user_within true V p X e w n h = elim (plus_cases X p n h) [ inl a ↦ w n a | inr s ↦ ap V s ∙ e ]
with_user_within false V p X e w n h = w n h

module _ (R : Repository) (V : NumSet) (p q : ℕ) (A B : List (List ℕ)) (bound : OfPackages R V) (p_in : p < length R.clauses) (q_v : V q ≡ true) (apart : p ≢ q)
    (row_p : IsRow R V p A) (row_q : IsRow R V q B) where
  all_p : (X : NumSet) → Within X V → Support R V p X → HitsAll X A
  all_p X w s = (row_tells_lem R V p A bound row_p X w).0 s

  all_q : (X : NumSet) → Within X V → Support R V q X → HitsAll X B
  all_q X w s = (row_tells_lem R V q B bound row_q X w).0 s

  support_p : (X : NumSet) → HitsAll X A → Support R V p X
  support_p X h = support_from_hits R V p (length R.clauses) bound A row_p X h

  support_q : (X : NumSet) → HitsAll X B → Support R V q X
  support_q X h = support_from_hits R V q (length R.clauses) bound B row_q X h

  in_v : (X : NumSet) → Within X (without V q) → Within X V
  in_v X w n h = (without_parts V q n (w n h)).0

  hits_after : (X : NumSet) → Within X (without V q) → Support R (without V q) p X → HitsAll X (apart_from p (all_unions_for q A B))
  hits_after X w s c i =
      let c_parts : In c (all_unions_for q A B) × (In p c → ⊥) = apart_cases p (all_unions_for q A B) c i in
      let from : (T : List ℕ) × In T A × Comes q B T c = replaced_cases q A B c c_parts.0 in
      elim ((one_step_lem R V p q X p_in (bound q q_v) q_v).0 s) [
        | inl s1 ↦
            let hit : Hit (Is X) from.0 = all_p X (in_v X w) s1 from.0 from.1 in
            elim from.2.how [
              | inl kept ↦ subst (λ k. Hit (Is X) k) (sym kept.1) hit
              | inr made ↦ record {
                by = hit.by;
                inside = subst (λ k. In hit.by k) (sym made.3)
                    (joined_left (clause_without q from.0) made.0 hit.by (dropped_from q from.0 hit.by hit.inside (without_parts V q hit.by (w hit.by hit.alive)).1));
                alive = hit.alive;
              }
            ]
        | inr s2 ↦
            elim from.2.how [
              | inl kept ↦
                  let hit : Hit (Is (plus X q)) from.0 = all_p (plus X q) (λ n h. elim (plus_cases X q n h) [ inl a ↦ in_v X w n a | inr e ↦ ap V e ∙ q_v ]) s2.0 from.0 from.1 in
                  subst (λ k. Hit (Is X) k) (sym kept.1) (record {
                    by = hit.by;
                    inside = hit.inside;
                    alive = elim (plus_cases X q hit.by hit.alive) [ inl a ↦ a | inr e ↦ absurd (kept.0 (subst (λ k. In k from.0) e hit.inside)) ];
                  })
              | inr made ↦
                  let hit : Hit (Is (with_user V p X)) made.0 = all_q (with_user V p X) (with_user_within (V p) V p X refl (in_v X w)) s2.1 made.0 made.1 in
                  let there_too : In hit.by c = subst (λ k. In hit.by k) (sym made.3) (joined_right (clause_without q from.0) made.0 hit.by hit.inside) in
                  record {
                    by = hit.by;
                    inside = there_too;
                    alive = elim (with_user_cases (V p) p X hit.by hit.alive) [ inl a ↦ a | inr e ↦ absurd (c_parts.1 (subst (λ k. In k c) e there_too)) ];
                  }
            ]
      ]

  apart_p : (T : List ℕ) → In T A → In p T → ⊥
  apart_p T i j = (row_p.sound T i).blocks.apart p j refl

  kept_hit : (X : NumSet) → HitsAll X (apart_from p (all_unions_for q A B)) → (T : List ℕ) → In T A → (In q T → ⊥) → Hit (Is X) T
  kept_hit X h T i f = h T (apart_in p (all_unions_for q A B) T (replaced_kept q A B T i f) (apart_p T i))

  with_q : (X : NumSet) → HitsAll X (apart_from p (all_unions_for q A B)) → HitsAll (plus X q) A
  with_q X h T i =
      elim (decided_in q T) [
        | inl j ↦ record { by = q; inside = j; alive = plus_new X q q refl }
        | inr f ↦ Hit-mono (λ n a. plus_old X q n a) (kept_hit X h T i f)
      ]

  user_hits : (X : NumSet) → HitsAll X (apart_from p (all_unions_for q A B)) → (T : List ℕ) → In T A → (Hit (Is X) T → ⊥) → In q T → HitsAll (with_user V p X) B
  user_hits X h T i missed q_t U j =
      elim (decided_in p U) [
        | inl p_u ↦ record { by = p; inside = p_u; alive = with_user_new (V p) p X ((row_q.sound U j).blocks.within p p_u) }
        | inr f ↦
            let hit : Hit (Is X) (union_of (clause_without q T) U) =
            h (union_of (clause_without q T) U) (apart_in p (all_unions_for q A B) (union_of (clause_without q T) U) (replaced_joined q A B T U i q_t j)
            (λ l. elim (joined_cases (clause_without q T) U p l) [ inl a ↦ apart_p T i (dropped_parts q T p a).0 | inr b ↦ f b ])) in
            elim (joined_cases (clause_without q T) U hit.by hit.inside) [
              | inl a ↦ absurd (missed (record { by = hit.by; inside = (dropped_parts q T hit.by a).0; alive = hit.alive }))
              | inr b ↦ record { by = hit.by; inside = b; alive = with_user_old (V p) p X hit.by hit.alive }
            ]
      ]

  support_after : (X : NumSet) → Within X (without V q) → HitsAll X (apart_from p (all_unions_for q A B)) → Support R (without V q) p X
  support_after X w h =
      let back : (Support R V p X ⊎ (Support R V p (plus X q) × Support R V q (with_user V p X))) → Support R (without V q) p X =
      (one_step_lem R V p q X p_in (bound q q_v) q_v).1 in
      elim (hits_or X A) [
        | inl all ↦ back (inl (support_p X all))
        | inr miss ↦ elim (decided_in q miss.0) [
          | inr f ↦ absurd (miss.2 (kept_hit X h miss.0 miss.1 f))
          | inl q_t ↦ back (inr (support_p (plus X q) (with_q X h), support_q (with_user V p X) (user_hits X h miss.0 miss.1 miss.2 q_t)))
        ]
      ]

  came : (c : List ℕ) → In c (substituted p q A B) → (In c (all_unions_for q A B) × (In p c → ⊥))
  came c i = apart_cases p (all_unions_for q A B) c (minimal_of_parts (apart_from p (all_unions_for q A B)) c i).0

  order : (c : List ℕ) → In c (substituted p q A B) → Ascending c
  order c i =
      let from : (T : List ℕ) × In T A × Comes q B T c = replaced_cases q A B c (came c i).0 in
      elim from.2.how [
        | inl kept ↦ subst Ascending (sym kept.1) (row_p.sound from.0 from.1).ascending
        | inr made ↦ subst Ascending (sym made.3) (joined_ascending (clause_without q from.0) made.0 (row_q.sound made.0 made.1).ascending)
      ]

  inside_v : (c : List ℕ) → In c (substituted p q A B) → (n : ℕ) → In n c → Is (without V q) n
  inside_v c i n j =
      let from : (T : List ℕ) × In T A × Comes q B T c = replaced_cases q A B c (came c i).0 in
      elim from.2.how [
        | inl kept ↦
            let k : In n from.0 = subst (λ k. In n k) kept.1 j in
            without_from V q n ((row_p.sound from.0 from.1).blocks.within n k) (λ e. kept.0 (subst (λ m. In m from.0) e k))
        | inr made ↦
            elim (joined_cases (clause_without q from.0) made.0 n (subst (λ k. In n k) made.3 j)) [
              | inl a ↦ without_from V q n ((row_p.sound from.0 from.1).blocks.within n (dropped_parts q from.0 n a).0) (dropped_parts q from.0 n a).1
              | inr b ↦ without_from V q n ((row_q.sound made.0 made.1).blocks.within n b) ((row_q.sound made.0 made.1).blocks.apart n b)
            ]
      ]

  pub new_row : IsRow R (without V q) p (substituted p q A B)
  new_row = row_from_hits R (without V q) p (substituted p q A B)
      order inside_v
      (λ c i n j e. (came c i).1 (subst (λ k. In k c) e j))
      (λ S T i j f. (minimal_of_parts (apart_from p (all_unions_for q A B)) T j).1 S (minimal_of_parts (apart_from p (all_unions_for q A B)) S i).0 f)
      (λ X w. (
        (λ s c i. hits_after X w s c (minimal_of_parts (apart_from p (all_unions_for q A B)) c i).0),
        (λ h. support_after X w (hits_minimal X (apart_from p (all_unions_for q A B)) h)),
      ))

pub substitutes_lem : Substitutes
substitutes_lem R V p q A B bound p_in q_v ne row_p row_q = new_row R V p q A B bound p_in q_v ne row_p row_q
