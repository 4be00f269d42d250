-- The sentence of a comparison, from what the code keeps of it.
use Rattle.std.proofs.{Common.{◌≡◌, ◌<◌, ◌≤◌, true, List, [], ◌∷◌, None, map, sym, subst, inl, inr}, lemmas.Bool.{cases_lt}}
use Rattle.std.specs.Prelude.{◌↔◌}
use Rattle.clause_solver.specs.{declared.outcomes.Verdict.{Verdict}, declared.outcomes.Verdict.TheVariants.{Yes, No, Spent}}
use Rattle.coinst_words.specs.Usage.{Text}
use Rattle.deb_version.specs.Names.{is_name}
use Rattle.listed.specs.Lists.{In, here, there}
use Rattle.listed.proofs.Lists.{In_cases, In_none}
use Rattle.repo_model.specs.{FirstFault.{first_fault}, Goals.{any_version}}
use Rattle.suite_compare.specs.{Indexes.{HasPackageOf, Installable, Judged, SearchedIndex}, Listing.{IsAsked, IsBroken, IsUndecided, names_of}}
use Rattle.suite_compare.specs.Refusals.{home_in, packages_in}
use Rattle.suite_compare.proofs.Judging.{failures}
use Rattle.claims.specs.{Goals.{CanMeet}, Laws.{as_read, ComparisonsMeanThis}, Settled.{Found, IsPastBudget}}
use Rattle.claims.proofs.{Budget.{in_time, past_from, past_to}, Goals.{AreGoals, goal_named}, Index.{indexes_are_read}}
use Rattle.claims.proofs.Meeting.{can_meet, meets_goals, says_named}

-- names of packages are goals
names_are_goals : (index : SearchedIndex) → first_fault index.text ≡ None → (names : List Text) → ((name : Text) → In name names → HasPackageOf (as_read index) name) → AreGoals names (map any_version names)
names_are_goals index fine [] has = tt
names_are_goals index fine (name ∷ names) has =
    let w = has name here in
    let named : is_name name ≡ true = subst (λ n. is_name n ≡ true) w.2 (says_named index.text (home_in index.text) (packages_in index.text) (indexes_are_read index.text fine) w.0 w.1) in
    (goal_named name named, names_are_goals index fine names (λ n i. has n (there i)))

-- what is found of names that an index has
module _ (index : SearchedIndex) (fine : first_fault index.text ≡ None) (names : List Text) (has : (name : Text) → In name names → HasPackageOf (as_read index) name) where
  goals_are : AreGoals names (map any_version names)
  goals_are = names_are_goals index fine names has

  pub installs_to : CanMeet (as_read index) names → Installable (as_read index) names
  installs_to i = meets_goals (as_read index) names (map any_version names) goals_are (says_named index.text (home_in index.text) (packages_in index.text) (indexes_are_read index.text fine)) i

  pub installs_from : Installable (as_read index) names → CanMeet (as_read index) names
  installs_from c = can_meet (as_read index) names (map any_version names) goals_are c

  spends_from : index.budget < failures (as_read index) names → IsPastBudget (as_read index) names
  spends_from l = past_from index names (map any_version names) goals_are fine l

  within : ¬ (IsPastBudget (as_read index) names) → failures (as_read index) names ≤ index.budget
  within unspent = elim (cases_lt index.budget (failures (as_read index) names)) [ inl l ↦ absurd (unspent (spends_from l)) | inr g ↦ g ]

  in_budget : failures (as_read index) names ≤ index.budget → ¬ (IsPastBudget (as_read index) names)
  in_budget few = in_time index names (map any_version names) goals_are few

  -- what the tree says is what a search in the kernel text finds
  pub found_so : (v : Verdict) → Judged (as_read index) names v ↔ Found (as_read index) names v
  found_so Yes = ((λ j. (in_budget j.0, installs_from j.1)), (λ f. (within f.0, installs_to f.1)))
  found_so No = ((λ j. (in_budget j.0, (λ i. j.1 (installs_to i)))), (λ f. (within f.0, (λ i. f.1 (installs_from i)))))
  found_so Spent = (spends_from, (λ w. past_to index names (map any_version names) goals_are w))

-- an index has each of one name, or of two
pub one_of : (s : SearchedIndex) (a : Text) → HasPackageOf s a → (name : Text) → In name (a ∷ []) → HasPackageOf s name
one_of s a has name i = elim (In_cases i) [ inl same ↦ subst (HasPackageOf s) (sym same) has | inr j ↦ absurd (In_none j) ]

pub two_of : (s : SearchedIndex) (a b : Text) → HasPackageOf s a → HasPackageOf s b → (name : Text) → In name (a ∷ (b ∷ [])) → HasPackageOf s name
two_of s a b first second name i = elim (In_cases i) [ inl same ↦ subst (HasPackageOf s) (sym same) first | inr j ↦ one_of s b second name j ]

-- names that are asked, and broken or open, where two kinds of searches find the same
module _ (F G : SearchedIndex → List Text → Verdict → Type 0) (old new : SearchedIndex) where
  abbrev IsSameIn : SearchedIndex → Type 0
  IsSameIn s = (names : List Text) → ((name : Text) → In name names → HasPackageOf s name) → (v : Verdict) → F s names v → G s names v

  module _ (olds : IsSameIn old) (news : IsSameIn new) where
    asked : (names : List Text) → IsAsked F old new names → ((name : Text) → In name names → HasPackageOf old name) × ((name : Text) → In name names → HasPackageOf new name) × IsAsked G old new names
    asked [] t = absurd t
    asked (a ∷ []) t = (one_of old a t.0, one_of new a t.1, t)
    asked (a ∷ (b ∷ [])) t = (
      two_of old a b t.1.0 t.2.0,
      two_of new a b t.1.1 t.2.1,
      (t.0, t.1, t.2, news (a ∷ []) (one_of new a t.1.1) Yes t.3, news (b ∷ []) (one_of new b t.2.1) Yes t.4),
    )
    asked (a ∷ (b ∷ (c ∷ more))) t = absurd t

    broken_as : (names : List Text) → IsAsked F old new names × IsBroken F old new names → IsAsked G old new names × IsBroken G old new names
    broken_as names t = let w = asked names t.0 in (w.2, (olds names w.0 Yes (t.1).0, news names w.1 No (t.1).1))

    open_as : (names : List Text) → IsAsked F old new names × IsUndecided F old new names → IsAsked G old new names × IsUndecided G old new names
    open_as names t = let w = asked names t.0 in (w.2, go w.0 w.1 t.1)
      where
        go : ((name : Text) → In name names → HasPackageOf old name) → ((name : Text) → In name names → HasPackageOf new name) → IsUndecided F old new names → IsUndecided G old new names
        go in_old in_new (inl s) = inl (news names in_new Spent s)
        go in_old in_new (inr s) = inr (news names in_new No s.0, olds names in_old Spent s.1)

pub comparisons_mean_this : ComparisonsMeanThis
comparisons_mean_this old new lines old_accepted new_accepted exact = record {
  older = indexes_are_read old.text old_accepted;
  newer = indexes_are_read new.text new_accepted;
  lists = record {
    broken = λ l e. (
      (λ i. broken_as Judged Found (as_read old) (as_read new) (λ names has v. (found_so old old_accepted names has v).0) (λ names has v. (found_so new new_accepted names has v).0) (names_of l) ((exact.broken l e).0 i)),
      (λ t. (exact.broken l e).1 (broken_as Found Judged (as_read old) (as_read new) (λ names has v. (found_so old old_accepted names has v).1) (λ names has v. (found_so new new_accepted names has v).1) (names_of l) t)),
    );
    undecided = λ l e. (
      (λ i. open_as Judged Found (as_read old) (as_read new) (λ names has v. (found_so old old_accepted names has v).0) (λ names has v. (found_so new new_accepted names has v).0) (names_of l) ((exact.undecided l e).0 i)),
      (λ t. (exact.undecided l e).1 (open_as Found Judged (as_read old) (as_read new) (λ names has v. (found_so old old_accepted names has v).1) (λ names has v. (found_so new new_accepted names has v).1) (names_of l) t)),
    );
    order = exact.order;
  };
}
