-- A healthy set of the kernel, taken back through the rounds.
use Rattle.std.proofs.Common.{◌≡◌, ℕ, zero, suc, ◌<◌, Bool, true, false, not, ◌&&◌, ltb, eqb, cond, List, [], ◌∷◌, ◌++◌, length, map, refl, sym, ◌∙◌, ap, subst}
use Rattle.std.proofs.{Common.{inl, inr, slice_index_or}, Math.Path.{fun_ext}, lemmas.Bool.{cases_lt, and_from, or_left, lt-ltb, le-ltb}}
use Rattle.std.specs.List.{list_any}
use Rattle.row_book.specs.{Sets.{NumSet, Is, plus, union}, Repository.{Repository, Healthy}, Support.{IsRow}, Sound.{SoundRepository}}
use Rattle.row_book.specs.{Flattening.{core_of, flat}, Merging.{class_of, class_list, firsts, members, quotient}}
use Rattle.row_book.specs.{Pruning.{IdleClause, lift_idle, lift_all, prune, idle_steps}, Thinning.{thin}}
use Rattle.row_book.specs.Rounds.{RoundStep, FlatStep, MergeStep, IdleStep, round, rounds, round_count, round_steps, steps_after, class_after}
use Rattle.row_book.proofs.Repositories.{between}
use Rattle.clause_flatten.specs.Laws.{FlattenedBy, Lifts}
use Rattle.clause_flatten.proofs.{Flat.{kept_after}, Rows.{row_is}, Lift.{lift_is_healthy_lem}, TidyFlat.{flat_size, flat_row, flat_conflicts, flat_sound}}
use Rattle.class_merge.proofs.{Classes.{has_class_lem}, Kept.{merge_is_tidy_lem, merge_lifts_lem, merged_size}, MergedRows.{class_at, list_size}}
use Rattle.clause_prune.proofs.{Dropping.{prune_step}, Lifted.{prune_lifts_lem}}
use Rattle.conflict_reduce.proofs.Thinned.{thin_is_sound_lem, thin_keeps_lem}
use Rattle.install_lift.specs.{Lifting.{members_by, IsLiftThrough, IsLift}, Laws.{LiftIsHealthy, LiftIsOne}}

-- the steps of one list after those of the other
lift_parts : (xs ys : List RoundStep) (I T : NumSet) → IsLift (xs ++ ys) I T → (K : NumSet) × IsLift ys I K × IsLift xs K T
lift_parts [] ys I T h = (T, h, refl)
lift_parts (x ∷ xs) ys I T h = let w = lift_parts xs ys I h.0 h.1 in (w.0, w.1, (h.0, w.2, h.2))

-- through idle clauses
idle_is : (ss : List IdleClause) (I T : NumSet) → IsLift (map IdleStep ss) I T → T ≡ lift_all I ss
idle_is [] I T h = h
idle_is (s ∷ ss) I T h = h.2 ∙ ap (λ K. lift_idle K s.«package» s.clause s.added) (idle_is ss I h.0 h.1)

-- what is put in does not take out
idle_holds : (I : NumSet) (ss : List IdleClause) (n : ℕ) → Is I n → Is (lift_all I ss) n
idle_holds I [] n h = h
idle_holds I (s ∷ ss) n h = one (lift_all I ss) s.«package» s.clause s.added (idle_holds I ss n h)
  where
    one : (K : NumSet) (p : ℕ) (d : List ℕ) (x : ℕ) → Is K n → Is (lift_idle K p d x) n
    one K p d x k = pick (K p && not (list_any K d))
      where
        pick : (b : Bool) → Is (cond b (plus K x) K) n
        pick true = or_left (K n) (eqb n x) k
        pick false = k

-- the classes of a list are those of the packages
members_are : (F : Repository) (K : NumSet) → members_by (class_list F) K ≡ members F K
members_are F K = fun_ext (λ p. elim (cases_lt p (length F.clauses)) [
  | inl lt ↦ ap (λ n. ltb p n && K (slice_index_or (class_list F) p 0)) (list_size F) ∙ ap (λ k. ltb p (length F.clauses) && K k) (class_at F p lt)
  | inr ge ↦ ap (λ b. b && K (slice_index_or (class_list F) p 0)) (ap (ltb p) (list_size F) ∙ le-ltb p (length F.clauses) ge) ∙ ap (λ b. b && K (class_of F p)) (sym (le-ltb p (length F.clauses) ge))
])

-- the rows over the core
flattened_by : (limit : ℕ) (hold : Bool) → (R : Repository) → SoundRepository R → FlattenedBy R (core_of limit hold R) (flat limit hold R)
flattened_by limit hold R s = record {
  size = flat_size limit hold R;
  rows = λ p l. subst (λ z. IsRow R (core_of limit hold R) p z) (sym (flat_row limit hold R p l)) (row_is R (core_of limit hold R) p (kept_after limit hold R (between R s) (length R.clauses)).bound);
  conflicts = flat_conflicts limit hold R;
}

-- a round leaves a sound repository of the classes
record LeftByRound (limit : ℕ) (hold : Bool) (R : Repository) : Type 0 where
  sound : SoundRepository (round limit hold R)
  size : length (round limit hold R).clauses ≡ length (firsts (flat limit hold R))

left_by_round : (limit : ℕ) (hold : Bool) → (R : Repository) → SoundRepository R → LeftByRound limit hold R
unfolding round
left_by_round limit hold R s =
    let F = flat limit hold R in
    let pruned = prune_step (quotient F) (merge_is_tidy_lem F (flat_sound limit hold R s)) in
    let thinned = thin_is_sound_lem (prune (quotient F)) pruned.tidy.sound in
    record { sound = thinned.sound; size = ap (λ c. length c) thinned.clauses ∙ pruned.size ∙ merged_size F }

-- what is lifted through flattening, merging and pruning, from what is healthy after a round
pub record LiftedRound (limit : ℕ) (hold : Bool) (R : Repository) (I T : NumSet) : Type 0 where
  pub healthy : Healthy R T
  pub holds : (p : ℕ) → p < length R.clauses → Is I (class_of (flat limit hold R) p) → Is T p

lift_round : (limit : ℕ) (hold : Bool) → (R : Repository) (I T : NumSet) → SoundRepository R → Healthy (round limit hold R) I → IsLift (round_steps limit hold R) I T → LiftedRound limit hold R I T
unfolding round
lift_round limit hold R I T s healthy h =
    let F = flat limit hold R in
    let Q = quotient F in
    let idle = idle_steps Q in
    let merged : NumSet = h.0 in
    let pruned : NumSet = h.1.0 in
    let served = h.2 in
    let back : pruned ≡ lift_all I idle = idle_is idle I pruned h.1.1 in
    let classes : merged ≡ members F (lift_all I idle) = h.1.2 ∙ ap (members_by (class_list F)) back ∙ members_are F (lift_all I idle) in
    let in_prune : Healthy (prune Q) I = (thin_keeps_lem (prune Q) I).1 healthy in
    let in_quotient : Healthy Q (lift_all I idle) = prune_lifts_lem Q I (merge_is_tidy_lem F (flat_sound limit hold R s)) in_prune in
    let in_flat : Healthy F merged = subst (λ K. Healthy F K) (sym classes) (merge_lifts_lem F (lift_all I idle) (flat_sound limit hold R s) in_quotient) in
    let core = kept_after limit hold R (between R s) (length R.clauses) in
    record {
      healthy = subst (λ K. Healthy R K) (sym served.2) (lift_is_healthy_lem R (core_of limit hold R) F core.bound core.holds (flattened_by limit hold R s) merged served.0 in_flat served.1);
      holds = λ p lt i.
          let plt : p < length F.clauses = rw (flat_size limit hold) lt in
          let in_merged : Is merged p = subst (λ K. Is K p) (sym classes) (and_from (ltb p (length F.clauses)) (lift_all I idle (class_of F p)) (lt-ltb p (length F.clauses) plt) (idle_holds I idle (class_of F p) i)) in
          subst (λ K. Is K p) (sym served.2) (or_left (merged p) (served.0 p) in_merged);
    }

-- the class of a package is one of the classes after a round
class_within : (limit : ℕ) (hold : Bool) → (R : Repository) (p : ℕ) → SoundRepository R → p < length R.clauses → class_of (flat limit hold R) p < length (round limit hold R).clauses
class_within limit hold R p s lt =
    let plt : p < length (flat limit hold R).clauses = rw (flat_size limit hold) lt in
    rw (left_by_round limit hold R s).size ((has_class_lem (flat limit hold R) p plt).within)

-- one round after another
lift_rounds : (limit : ℕ) (hold : Bool) → (n : ℕ) (R : Repository) (I T : NumSet) → SoundRepository R → Healthy (rounds limit hold R n) I → IsLift (steps_after limit hold R n) I T
    → Healthy R T × ((p : ℕ) → p < length R.clauses → Is I (class_after limit hold R n p) → Is T p)
lift_rounds limit hold zero R I T s healthy h = (subst (λ K. Healthy R K) (sym h) healthy, λ p lt i. subst (λ K. Is K p) (sym h) i)
lift_rounds limit hold (suc n) R I T s healthy h =
    let parts = lift_parts (round_steps limit hold R) (steps_after limit hold (round limit hold R) n) I T h in
    let later = lift_rounds limit hold n (round limit hold R) I parts.0 (left_by_round limit hold R s).sound healthy parts.1 in
    let first = lift_round limit hold R parts.0 T s later.0 parts.2 in (
      first.healthy,
      (λ p lt i. first.holds p lt (later.1 (class_of (flat limit hold R) p) (class_within limit hold R p s lt) i)),
    )

-- all rounds of the kernel
pub lift_is_healthy : LiftIsHealthy
lift_is_healthy limit hold R I T s healthy h = lift_rounds limit hold (round_count limit hold R) R I T s healthy h

-- the greatest set that is served is one
pub lifts_one : (R : Repository) (I J K : NumSet) → Lifts R I J → Lifts R I K → J ≡ K
lifts_one R I J K j k = fun_ext (λ n. same (J n) (K n) (k.greatest J j.served n) (j.greatest K k.served n))
  where
    same : (a b : Bool) → (a ≡ true → b ≡ true) → (b ≡ true → a ≡ true) → a ≡ b
    same true b f g = sym (f refl)
    same false true f g = g refl
    same false false f g = refl

-- each step is one
through_one : (s : RoundStep) (I S T : NumSet) → IsLiftThrough s I S → IsLiftThrough s I T → T ≡ S
through_one (FlatStep before) I S T a b = b.2 ∙ ap (union I) (lifts_one before I b.0 a.0 b.1 a.1) ∙ sym a.2
through_one (MergeStep class_of) I S T a b = b ∙ sym a
through_one (IdleStep step) I S T a b = b ∙ sym a

-- and so are all steps
pub lift_is_one : LiftIsOne
lift_is_one [] I S T a b = b ∙ sym a
lift_is_one (s ∷ ss) I S T a b =
    let e : b.0 ≡ a.0 = lift_is_one ss I a.0 b.0 a.1 b.1 in
    through_one s a.0 S T a.2 (subst (λ K. IsLiftThrough s K T) e b.2)
