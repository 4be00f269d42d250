-- Flags of sets, and the steps of lifting on them.
use Rattle.std.proofs.Common.{◌≡◌, ℕ, zero, suc, ◌<◌, ◌≤◌, Bool, true, false, eqb, List, [], length, get_or, set, replicate, refl, sym, ◌∙◌, subst, arith, inl}
use Rattle.std.proofs.{Common.{inr}, Math.Path.{fun_ext}, Math.ListN.{get_or-eq_default}, lemmas.Bool.{cases_lt, cases_eq, eq-eqb, ne_eqb, false_from_ne_true}}
use Rattle.std.proofs.lemmas.List.{get_or-set_same, get_or-set_other, length-replicate}
use Rattle.clause_pool.specs.Interned.{Interned, IsPool}
use Rattle.row_book.specs.{Sets.{NumSet}, Repository.{Repository, Healthy}, Flags.{flag}, Rounds.{RoundStep}, Sound.{SoundRepository}}
use Rattle.row_book.specs.{Book.{repository_of, Sound}, declared.book.Book.{Book}, Trail.{trail_meaning}, declared.trail.Step.{Step}}
use Rattle.row_book.proofs.BookRepositories.{book_size, sound_repository}
use Rattle.install_lift.specs.{Laws.{HoldsMembers, IsKernelBy}, Lifting.{IsLift}}
use Rattle.install_lift.proofs.Lifted.{lift_is_healthy}

-- past the flags nothing is up
flag_past : (flags : List Bool) (n : ℕ) → length flags ≤ n → flag flags n ≡ false
flag_past flags n le = get_or-eq_default flags false le

-- one flag alone
pub only_is : (n size : ℕ) → n < size → flag (set (replicate size false) n true) ≡ (λ m. eqb m n)
only_is n size lt = fun_ext (λ m. elim (cases_eq m n) [
  | inl e ↦ rw e (get_or-set_same (replicate size false) n true false (rw length-replicate lt) ∙ sym (eq-eqb n n refl))
  | inr ne ↦ get_or-set_other (replicate size false) n m true false ne ∙ none size m ∙ sym (ne_eqb m n ne)
])
  where
    none : (k m : ℕ) → flag (replicate k false) m ≡ false
    none zero m = refl
    none (suc k) zero = refl
    none (suc k) (suc m) = none k m

-- all packages are among so many flags
pub front_is : (R : Repository) (flags made : List Bool) (size : ℕ) → length R.clauses ≡ size → Healthy R (flag flags) → length made ≡ size → ((n : ℕ) → n < size → flag made n ≡ flag flags n) → flag made ≡ flag flags
front_is R flags made size count healthy long each = fun_ext (λ n. elim (cases_lt n size) [
  | inl lt ↦ each n lt
  | inr ge ↦ flag_past made n (omega arith) ∙ sym (false_from_ne_true (flag flags n) (λ h. let lt = healthy.packages n h in omega arith))
])

-- what is promised of the flags that are handed out
pub record IsLifted (R K : Repository) (trail : List RoundStep) (classes : NumSet) (made : List Bool) : Type 0 where
  pub lift : IsLift trail classes (flag made)
  pub healthy : Healthy R (flag made)
  pub holds : (by : IsKernelBy R K trail) → HoldsMembers by.limit by.hold R classes (flag made)

lifted_by : (R K : Repository) (trail : List RoundStep) (classes lifted : NumSet) → SoundRepository R → Healthy K classes → IsLift trail classes lifted → (by : IsKernelBy R K trail) →
    Healthy R lifted × HoldsMembers by.limit by.hold R classes lifted
lifted_by R K trail classes lifted sound healthy lifts by =
    lift_is_healthy by.limit by.hold R classes lifted sound (subst (λ K. Healthy K classes) by.is healthy) (subst (λ steps. IsLift steps classes lifted) by.steps lifts)

pub lifted_flags : (pool : Interned) (from to : Book) (steps : List Step) (classes : NumSet) (flags made : List Bool) (size : ℕ) → IsPool pool → Sound pool from
    → IsKernelBy (repository_of pool from) (repository_of pool to) (trail_meaning pool steps) → Healthy (repository_of pool to) classes → IsLift (trail_meaning pool steps) classes (flag flags)
    → size ≡ length from.rows → length made ≡ size → ((n : ℕ) → n < size → flag made n ≡ flag flags n) → IsLifted (repository_of pool from) (repository_of pool to) (trail_meaning pool steps) classes made
lifted_flags pool from to steps classes flags made size is sound by healthy lifts count long each =
    let R = repository_of pool from in
    let K = repository_of pool to in
    let trail = trail_meaning pool steps in
    let of_kernel : (by : IsKernelBy R K trail) → Healthy R (flag flags) × HoldsMembers by.limit by.hold R classes (flag flags) =
    lifted_by R K trail classes (flag flags) (sound_repository pool from is sound) healthy lifts in
    let same : flag made ≡ flag flags = front_is R flags made size (book_size pool from ∙ sym count) (of_kernel by).0 long each in
    record {
      lift = subst (λ T. IsLift trail classes T) (sym same) lifts;
      healthy = subst (λ T. Healthy R T) (sym same) (of_kernel by).0;
      holds = λ other. subst (λ T. HoldsMembers other.limit other.hold R classes T) (sym same) (of_kernel other).1;
    }
