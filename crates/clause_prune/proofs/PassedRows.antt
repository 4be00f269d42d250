-- One package after another is pruned.
use Rattle.std.proofs.Common.{◌≡◌, ℕ, zero, suc, ◌<◌, ◌+◌, List, [], ◌∷◌, ◌++◌, length, ◌⊎◌, inl, inr, refl, sym, ◌∙◌, ap, ap₂, subst, arith, map, slice_set}
use Rattle.std.proofs.{Common.{append_assoc, append-nil, length-set}, lemmas.List.{length-map, map-append, get_or-map}}
use Rattle.clause_pool.specs.Interned.{Interned, IsPool, Kept, row_at}
use Rattle.clause_pool.proofs.{Interned.{kept_same}, Lists.{In_place}, Carried.{rows_stay}}
use Rattle.row_book.specs.{declared.book.Book.{Book}, declared.trail.Step.{Step}, declared.trail.Step.TheVariants.{Flat, Idle, Merge}, Numbers.{numbers}}
use Rattle.row_book.specs.{Book.{repository_of, RowsFit, RowsTidy, Sound, listed_for}, Repository.{Repository, clauses_of}}
use Rattle.row_book.specs.{Sound.{SoundRepository, TidyRepository}, Uses.{row_id}}
use Rattle.row_book.specs.{Pruning.{IdleClause, idle_steps, prune_package, prune, prune_over, with_clauses}, Rounds.{IdleStep, RoundStep}}
use Rattle.row_book.specs.Trail.{trail_meaning, step_meaning}
use Rattle.listed.specs.Lists.{In, here, there}
use Rattle.row_book.proofs.{BookRepositories.{sound_book, tidy_repository}, Repositories.{between, repository_same}}
use Rattle.listed.proofs.Lists.{In_cases, In_has}
use Rattle.clause_prune.specs.Tests.{repository_in}
use Rattle.clause_prune.proofs.Dropping.{package_step, prune_is_tidy_lem}

map_set : {A B : Type 0} (f : A → B) (xs : List A) (i : ℕ) (a : A) → map f (slice_set xs i a) ≡ slice_set (map f xs) i (f a)
map_set f [] i a = refl
map_set f (x ∷ xs) zero a = refl
map_set f (x ∷ xs) (suc i) a = ap (λ z. f x ∷ z) (map_set f xs i a)

In_set : {A : Type 0} (xs : List A) (i : ℕ) (a x : A) → In x (slice_set xs i a) → (x ≡ a) ⊎ In x xs
In_set [] i a x j = inr j
In_set (y ∷ ys) zero a x j = elim (In_cases j) [ inl e ↦ inl e | inr k ↦ inr (there k) ]
In_set (y ∷ ys) (suc i) a x j = elim (In_cases j) [
  | inl e ↦ inr (subst (λ z. In z (y ∷ ys)) (sym e) here)
  | inr k ↦ elim (In_set ys i a x k) [ inl e ↦ inl e | inr m ↦ inr (there m) ]
]

-- idle steps tell the same in each pool
pub meaning_any : (old new : Interned) (xs : List Step) (idles : List IdleClause) → trail_meaning old xs ≡ map IdleStep idles → trail_meaning new xs ≡ map IdleStep idles
meaning_any old new [] idles e = e
meaning_any old new (Flat before ∷ xs) [] e = absurd (let f : ⊥ = cc in f)
meaning_any old new (Flat before ∷ xs) (y ∷ ys) e = absurd (let f : ⊥ = cc in f)
meaning_any old new (Merge class_of ∷ xs) [] e = absurd (let f : ⊥ = cc in f)
meaning_any old new (Merge class_of ∷ xs) (y ∷ ys) e = absurd (let f : ⊥ = cc in f)
meaning_any old new (Idle p clause added ∷ xs) [] e = absurd (let f : ⊥ = cc in f)
meaning_any old new (Idle p clause added ∷ xs) (y ∷ ys) e =
    let first : step_meaning old (Idle p clause added) ≡ IdleStep y = cc in
    let rest : trail_meaning old xs ≡ map IdleStep ys = cc in
    ap₂ (λ (z : RoundStep) (zs : List RoundStep). z ∷ zs) first (meaning_any old new xs ys rest)

pub record PassedSoFar (R : Repository) (start now : Interned) (rows : List ℕ) (table : List (List ℕ)) (idle : List Step) (n : ℕ) : Type 0 where
  pub rest : (left : ℕ) → n + left ≡ length rows → (prune_over (repository_in now rows table) (numbers left n)).left ≡ prune R
  pub idles : List IdleClause
  pub told : trail_meaning now idle ≡ map IdleStep idles
  pub steps : (left : ℕ) → n + left ≡ length rows → idles ++ (prune_over (repository_in now rows table) (numbers left n)).steps ≡ idle_steps R
  pub tidy : TidyRepository (repository_in now rows table)
  pub of_pool : (id : ℕ) → In id rows → id < length now.rows
  pub sound : IsPool now
  pub kept : Kept start now

pub rows_fit : (now : Interned) (rows : List ℕ) (table : List (List ℕ)) → IsPool now → TidyRepository (repository_in now rows table) → ((id : ℕ) → In id rows → id < length now.rows) → RowsFit now rows
rows_fit now rows table is t of = record {
  is_pool = is;
  of_pool = of;
  numbers = λ id i c j n k.
      let w : (p : ℕ) × (p < length rows) × (row_id rows p ≡ id) = In_place rows id 0 i in
      let at : In c (clauses_of (repository_in now rows table) w.0) = subst (λ cs. In c cs) (ap (row_at now) (sym w.2) ∙ sym (get_or-map (row_at now) rows w.0 0 [] w.1)) j in
      subst (λ z. n < z) (length-map rows (row_at now)) ((t.sound.clauses w.0 c at).1 n k);
}

pub conflicts_in : (now : Interned) (rows : List ℕ) (table : List (List ℕ)) → TidyRepository (repository_in now rows table) → (p n : ℕ) → In n (listed_for table p) → n < length rows
conflicts_in now rows table t p n i = subst (λ z. n < z) (length-map rows (row_at now)) (between (repository_in now rows table) t.sound p n (In_has i)).1

pub passed_more : (R : Repository) (start old new : Interned) (rows : List ℕ) (table : List (List ℕ)) (idle more : List Step) (n id : ℕ) → PassedSoFar R start old rows table idle n → n < length rows → IsPool new → Kept old new → id < length new.rows →
    (prune_package (repository_in old rows table) n).left ≡ with_clauses (repository_in old rows table) n (row_at new id) → trail_meaning old more ≡ trail_meaning old idle ++ map IdleStep (prune_package (repository_in old rows table) n).steps →
    Kept start new → PassedSoFar R start new (slice_set rows n id) table more (n + 1)
unfolding numbers
passed_more R start old new rows table idle more n id s l is k m e t whole =
    let size : length (slice_set rows n id) ≡ length rows = length-set rows n id in
    let F : Repository = repository_in old rows table in
    let same : repository_in new (slice_set rows n id) table ≡ (prune_package F n).left =
    repository_same (repository_in new (slice_set rows n id) table) (with_clauses F n (row_at new id))
    (map_set (row_at new) rows n id ∙ ap (λ z. slice_set z n (row_at new id)) (rows_stay old new s.sound k rows s.of_pool)) refl ∙ sym e in
    let now : List IdleClause = (prune_package F n).steps in
    record {
      rest = λ left f.
          ap₂ (λ G k. (prune_over G (numbers left k)).left) same (let z : n + 1 ≡ suc n = omega arith in z)
          ∙ s.rest (suc left) (omega (arith, f, size));
      idles = s.idles ++ now;
      told = meaning_any old new more (s.idles ++ now) (t ∙ ap (λ z. z ++ map IdleStep now) s.told ∙ sym (map-append IdleStep s.idles now));
      steps = λ left f.
          ap₂ (λ G k. (s.idles ++ now) ++ (prune_over G (numbers left k)).steps) same (let z : n + 1 ≡ suc n = omega arith in z)
          ∙ append_assoc s.idles now (prune_over (prune_package F n).left (numbers left (suc n))).steps
          ∙ s.steps (suc left) (omega (arith, f, size));
      tidy = subst TidyRepository (sym same) (package_step F n s.tidy).tidy;
      of_pool = λ x i. elim (In_set rows n id x i) [ inl g ↦ subst (λ z. z < length new.rows) (sym g) m | inr j ↦ (k.rows x (s.of_pool x j)).0 ];
      sound = is;
      kept = whole;
    }

pub passed_all : (R : Repository) (start now : Interned) (rows : List ℕ) (table : List (List ℕ)) (idle : List Step) (n : ℕ) → n ≡ length rows → PassedSoFar R start now rows table idle n →
    (repository_in now rows table ≡ prune R) × (trail_meaning now idle ≡ map IdleStep (idle_steps R))
unfolding numbers
passed_all R start now rows table idle n e s = (s.rest 0 (omega (arith, e)), s.told ∙ ap (map IdleStep) (sym (append-nil s.idles) ∙ s.steps 0 (omega (arith, e))))

pub passed_none : (start : Interned) (rows : List ℕ) (table : List (List ℕ)) (idle : List Step) → IsPool start → TidyRepository (repository_in start rows table) → ((id : ℕ) → In id rows → id < length start.rows) → trail_meaning start idle ≡ [] →
    PassedSoFar (repository_in start rows table) start start rows table idle 0
unfolding prune idle_steps
passed_none start rows table idle is t of e =
    let size : length (map (row_at start) rows) ≡ length rows = length-map rows (row_at start) in
    record {
      rest = λ left f. ap (λ n. (prune_over (repository_in start rows table) (numbers n 0)).left) (let z : left ≡ length (map (row_at start) rows) = omega (arith, f, size) in z);
      idles = [];
      told = e;
      steps = λ left f. ap (λ n. (prune_over (repository_in start rows table) (numbers n 0)).steps) (let z : left ≡ length (map (row_at start) rows) = omega (arith, f, size) in z);
      tidy = t;
      of_pool = of;
      sound = is;
      kept = kept_same start;
    }

-- the book of the rows
pub start_tidy : (pool : Interned) (book : Book) (rows : List ℕ) (table : List (List ℕ)) → IsPool pool → Sound pool book → RowsTidy pool book.rows → rows ≡ book.rows → table ≡ book.conflicts → TidyRepository (repository_in pool rows table)
start_tidy pool book rows table is s t e f = subst (λ z. TidyRepository (repository_in pool z table)) (sym e) (subst (λ z. TidyRepository (repository_in pool book.rows z)) (sym f) (tidy_repository pool book is s t))

pub pruned_sound : (old new : Interned) (book made : Book) (rows : List ℕ) → IsPool old → IsPool new → Sound old book → RowsTidy old book.rows → made.rows ≡ rows → ((id : ℕ) → In id rows → id < length new.rows) →
    repository_of new made ≡ prune (repository_of old book) → Sound new made
pruned_sound old new book made rows is now s t g of p =
    sound_book new made now (λ id i. of id (subst (λ z. In id z) g i)) (subst SoundRepository (sym p) (prune_is_tidy_lem (repository_of old book) (tidy_repository old book is s t)).tidy.sound)
