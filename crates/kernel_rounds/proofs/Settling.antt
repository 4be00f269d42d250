-- A repository that a round leaves is left by each part of the round.
use Rattle.std.proofs.Common.{◌≡◌, ℕ, Bool, ◌<◌, true, List, [], length, ◌⊎◌, inl, inr, sym, ◌∙◌, ap, subst, slice_index_or}
use Rattle.listed.specs.Lists.{In}
use Rattle.clause_pool.specs.Lists.{InOrder}
use Rattle.row_book.specs.{Repository.{Repository, clauses_of}, Sound.{SoundRepository, TidyRepository}, Flattening.{core_of, flat}, Merging.{firsts, quotient}}
use Rattle.row_book.specs.{Pruning.{prune}, Thinning.{thin}, Rounds.{round}}
use Rattle.listed.proofs.Lists.{In_none}
use Rattle.clause_pool.proofs.Order.{order_same}
use Rattle.row_book.proofs.Repositories.{repository_same, table_same}
use Rattle.class_merge.specs.Laws.{plain_clauses}
use Rattle.class_merge.proofs.Kept.{merged_order, merged_size}
use Rattle.clause_prune.proofs.Dropping.{Step, prune_step}
use Rattle.conflict_reduce.proofs.Thinned.{thin_is_sound_lem}
use Rattle.kernel_rounds.specs.Laws.{FixedParts}
use Rattle.kernel_rounds.proofs.{Ending.{merge_full}, Plain.{flat_plain_lem, plain_from, plain_parts}, Tails.{merged_tidy}}
use Rattle.clause_flatten.proofs.TidyFlat.{flat_conflicts, flat_minimal, flat_order, flat_row, flat_size}

record Parts (limit : ℕ) (hold : Bool) (K : Repository) : Type 0 where
  flat_same : flat limit hold K ≡ K
  merge_same : quotient (flat limit hold K) ≡ flat limit hold K
  prune_same : prune (quotient (flat limit hold K)) ≡ K

parts : (limit : ℕ) (hold : Bool) → (K : Repository) → SoundRepository K → thin (prune (quotient (flat limit hold K))) ≡ K → Parts limit hold K
parts limit hold K s e =
    let F : Repository = flat limit hold K in
    let M : Repository = quotient F in
    let m : TidyRepository M = merged_tidy limit hold K s in
    let P : Repository = prune M in
    let t : Step M P = prune_step M m in
    let clauses : P.clauses ≡ K.clauses = sym (thin_is_sound_lem P t.tidy.sound).clauses ∙ ap (λ R. R.clauses) e in
    let size : length (firsts F) ≡ length K.clauses = sym (t.size ∙ merged_size F) ∙ ap (λ c. length c) clauses in
    let merge_same : M ≡ F = merge_full limit hold K s size in
    let p_row : (p : ℕ) → clauses_of P p ≡ clauses_of K p = λ p. ap (λ c. slice_index_or c p []) clauses in
    let of_flat : (p : ℕ) (c : List ℕ) → In c (clauses_of K p) → In c (clauses_of F p) ⊎ (c ≡ []) =
    λ p c i. elim (t.rows p c (subst (λ r. In c r) (sym (p_row p)) i)) [
      | inl j ↦ inl (subst (λ R. In c (clauses_of R p)) merge_same j)
      | inr g ↦ inr g
    ] in
    let inner : (p : ℕ) (c : List ℕ) (n : ℕ) → In c (clauses_of K p) → In n c → core_of limit hold K n ≡ true =
    λ p c n i j. elim (of_flat p c i) [
      | inl h ↦ (flat_minimal limit hold K s p c h).blocks.within n j
      | inr g ↦ absurd (In_none (subst (λ d. In n d) g j))
    ] in
    let plain : (p : ℕ) → p < length K.clauses → clauses_of F p ≡ plain_clauses K p = λ p l. flat_row limit hold K p l ∙ flat_plain_lem limit hold K s inner p l in
    let k_order : (p : ℕ) → InOrder (clauses_of K p) = λ p. subst (λ r. InOrder r) (p_row p) (t.order (merged_order F) p) in
    let same : (p : ℕ) → p < length K.clauses → clauses_of F p ≡ clauses_of K p =
    λ p l. order_same (clauses_of F p) (clauses_of K p) (flat_order limit hold K p) (k_order p)
    (λ c i. plain_parts K p c (subst (λ r. In c r) (plain p l) i))
    (λ c i. elim (of_flat p c i) [
      | inl h ↦ h
      | inr g ↦ subst (λ r. In c r) (sym (plain p l))
          (plain_from K p c i (λ j. In_none (subst (λ d. In p d) g j)) (λ S j u n v. absurd (In_none (subst (λ d. In n d) g v))))
    ]) in
    let flat_same : F ≡ K = repository_same F K (table_same F.clauses K.clauses (flat_size limit hold K) (λ p l. same p (subst (λ z. p < z) (flat_size limit hold K) l))) (flat_conflicts limit hold K) in
    record {
      flat_same = flat_same;
      merge_same = merge_same;
      prune_same = repository_same P K clauses (t.conflicts ∙ (ap (λ R. R.conflicts) merge_same ∙ flat_conflicts limit hold K));
    }

pub fixed_parts_lem : FixedParts
unfolding round
fixed_parts_lem limit hold K s e =
    let p : Parts limit hold K = parts limit hold K s e in
    let merge_k : quotient K ≡ K = subst (λ R. quotient R ≡ R) p.flat_same p.merge_same in
    let merge_f : quotient (flat limit hold K) ≡ K = p.merge_same ∙ p.flat_same in
    record {
      flattening = p.flat_same;
      merging = merge_k;
      pruning = subst (λ R. prune R ≡ K) merge_f p.prune_same;
      thinning = subst (λ R. thin R ≡ K) p.prune_same e;
    }
