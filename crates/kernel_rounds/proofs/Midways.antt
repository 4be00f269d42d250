-- One more round on the way to a kernel.
use Rattle.std.proofs.Common.{◌≡◌, ℕ, zero, suc, ◌<◌, ◌≤◌, ◌+◌, Bool, true, false, not, ◌↔◌, cond, min, eqb, List, [], ◌∷◌, ◌++◌, length, inl, inr, refl, sym}
use Rattle.std.proofs.Common.{◌∙◌, ap, ap₂, subst, arith, map, zero-le, append_assoc, append-nil, Option, Some, None}
use Rattle.std.proofs.{lemmas.Bool.{cases_eq, cases_lt, both_ways}, lemmas.List.{map-append}}
use Rattle.std.specs.{Prelude.{if◌then◌else◌}, Option.{option_map}}
use Rattle.clause_pool.specs.Interned.{Interned, IsPool, Kept}
use Rattle.clause_pool.proofs.Interned.{kept_along, kept_same}
use Rattle.clause_flatten.specs.declared.error.FlatError.{FlatError}
use Rattle.clause_flatten.specs.declared.error.FlatError.TheVariants as faults
use Rattle.clause_flatten.specs.Refusals.{OnLimit}
use Rattle.row_book.specs.{declared.book.Book.{Book}, declared.trail.Step.{Step}, declared.trail.Step.TheVariants.{Flat, Idle, Merge}, Numbers.{numbers}}
use Rattle.row_book.specs.{Repository.{Repository}, Book.{repository_of, IsSameBook, Sound}, Sound.{SoundRepository}}
use Rattle.row_book.specs.{Flattening.{flat, first_some, held_of, packages, Passed, passes}, Merging.{class_list, class_of, quotient, place_of}}
use Rattle.row_book.specs.Pruning.{IdleClause, idle_steps}
use Rattle.row_book.specs.Rounds.{is_same_repository, RoundStep, FlatStep, IdleStep, MergeStep, round, rounds, round_steps, round_count, class_after}
use Rattle.row_book.specs.{Rounds.{steps_after, in_round, limit_at, passed_in_round}, Trail.{SoundStep, SoundSteps, trail_meaning, step_meaning}}
use Rattle.listed.specs.Lists.{In, here, there}
use Rattle.row_book.proofs.{BookRepositories.{book_size}, Books.{repository_kept, sound_kept}, Numbers.{length_numbers, map_same, numbers_parts}}
use Rattle.row_book.proofs.Repositories.{of_packages}
use Rattle.listed.proofs.Lists.{In_append_cases, In_cases, In_none}
use Rattle.class_merge.specs.Classes.{class_in}
use Rattle.class_merge.proofs.MergedRows.{class_at}
use Rattle.kernel_rounds.specs.{declared.advancing.Progress.{Progress}, declared.rounding.Reduced.{Reduced}, Moving.{trail_rows, HasSteps}}
use Rattle.kernel_rounds.specs.Extracting.{IsExtracted, IsMidway, IsReduced, OnRoundLimit, refusal}
use Rattle.clause_flatten.proofs.TidyFlat.{flat_size}
use Rattle.kernel_rounds.proofs.{Reached.{kernel_is_lem, repository_test, rounds_sound, same_from}, Classes.{class_within}}

-- the last of some rounds
rounds_last : (limit : ℕ) (hold : Bool) → (n : ℕ) (R : Repository) → rounds limit hold R (suc n) ≡ round limit hold (rounds limit hold R n)
rounds_last limit hold zero R = refl
rounds_last limit hold (suc n) R = rounds_last limit hold n (round limit hold R)

class_last : (limit : ℕ) (hold : Bool) → (n : ℕ) (R : Repository) (p : ℕ) → class_after limit hold R (suc n) p ≡ class_of (flat limit hold (rounds limit hold R n)) (class_after limit hold R n p)
class_last limit hold zero R p = refl
class_last limit hold (suc n) R p = class_last limit hold n (round limit hold R) (class_of (flat limit hold R) p)

steps_last : (limit : ℕ) (hold : Bool) → (n : ℕ) (R : Repository) → steps_after limit hold R (suc n) ≡ steps_after limit hold R n ++ round_steps limit hold (rounds limit hold R n)
steps_last limit hold zero R = append-nil (round_steps limit hold R)
steps_last limit hold (suc n) R = ap (λ z. round_steps limit hold R ++ z) (steps_last limit hold n (round limit hold R)) ∙ sym (append_assoc (round_steps limit hold R) (steps_after limit hold (round limit hold R) n) (round_steps limit hold (rounds limit hold (round limit hold R) n)))

-- the limit
first_none : {A : Type 0} (f : ℕ → Option A) (xs : List ℕ) → ((x : ℕ) → In x xs → f x ≡ None) → first_some (map f xs) ≡ None
first_none f [] h = refl
first_none f (x ∷ xs) h = ap (λ o. first_some (o ∷ map f xs)) (h x here) ∙ first_none f xs (λ y i. h y (there i))

first_at : {A : Type 0} (f : ℕ → Option A) (n k i : ℕ) (w : A) → k ≤ i → i < k + n → ((j : ℕ) → j < i → f j ≡ None) → f i ≡ Some w → first_some (map f (numbers n k)) ≡ Some w
unfolding numbers
first_at f zero k i w l m h e = absurd (omega arith)
first_at f (suc n) k i w l m h e =
    elim (cases_eq i k) [
      | inl s ↦ ap (λ o. first_some (o ∷ map f (numbers n (suc k)))) (ap f (sym s) ∙ e)
      | inr ne ↦ ap (λ o. first_some (o ∷ map f (numbers n (suc k)))) (h k (omega (arith, ne))) ∙ first_at f n (suc k) i w (omega (arith, ne)) (omega arith) h e
    ]

module _ (limit : ℕ) (hold : Bool) (R : Repository) (s : SoundRepository R) where
  -- where each round so far has changed something, there are at least so many
  pub changing : (i : ℕ) → ((j : ℕ) → j < i → round limit hold (rounds limit hold R j) ≡ rounds limit hold R j → ⊥) → i ≤ round_count limit hold R
  changing i f = elim (cases_lt (round_count limit hold R) i) [
    | inl l ↦ absurd (f (round_count limit hold R) l (kernel_is_lem limit hold R s).fixed)
    | inr l ↦ l
  ]

  pub reached : (i : ℕ) → ((j : ℕ) → j < i → round limit hold (rounds limit hold R j) ≡ rounds limit hold R j → ⊥) → round limit hold (rounds limit hold R i) ≡ rounds limit hold R i → i ≡ round_count limit hold R
  reached i f e = let a : i ≤ round_count limit hold R = changing i f in let b : round_count limit hold R ≤ i = (kernel_is_lem limit hold R s).first i e in omega (arith, a, b)

  pub none_passed : (i : ℕ) → i ≡ round_count limit hold R → ((j : ℕ) → j < i → passes limit hold (rounds limit hold R j) ≡ None) → passes limit hold (rounds limit hold R i) ≡ None → limit_at limit hold R ≡ None
  unfolding limit_at
  none_passed i e h last =
      first_none (passed_in_round limit hold R) (numbers (suc (round_count limit hold R)) 0) (λ j k.
      let w : (0 ≤ j) × (j < 0 + suc (round_count limit hold R)) = numbers_parts (suc (round_count limit hold R)) 0 j k in
      ap (option_map (in_round limit hold R j)) (elim (cases_lt j i) [
        | inl l ↦ h j l
        | inr l ↦ let same : j ≡ i = omega (arith, e) in ap (λ z. passes limit hold (rounds limit hold R z)) same ∙ last
      ]))

  pub one_passed : (i : ℕ) (w : Passed) → i ≤ round_count limit hold R → ((j : ℕ) → j < i → passes limit hold (rounds limit hold R j) ≡ None) → passes limit hold (rounds limit hold R i) ≡ Some w → limit_at limit hold R ≡ Some (in_round limit hold R i w)
  unfolding limit_at
  one_passed i w l h e =
      first_at (passed_in_round limit hold R) (suc (round_count limit hold R)) 0 i (in_round limit hold R i w) zero-le (omega arith)
      (λ j m. ap (option_map (in_round limit hold R j)) (h j m)) (ap (option_map (in_round limit hold R i)) e)

-- as many rounds fewer are left after one
pub falls : (limit : ℕ) (hold : Bool) → (R : Repository) → SoundRepository R → (round limit hold R ≡ R → ⊥) → round_count limit hold (round limit hold R) < round_count limit hold R
falls limit hold R s f = by (round_count limit hold R) refl
  where
    by : (n : ℕ) → round_count limit hold R ≡ n → round_count limit hold (round limit hold R) < round_count limit hold R
    by zero e = absurd (f (ap (λ z. round limit hold (rounds limit hold R z)) (sym e) ∙ (kernel_is_lem limit hold R s).fixed ∙ ap (rounds limit hold R) e))
    by (suc n) e =
        let fixed : round limit hold (rounds limit hold (round limit hold R) n) ≡ rounds limit hold (round limit hold R) n = ap (λ z. round limit hold (rounds limit hold R z)) (sym e) ∙ (kernel_is_lem limit hold R s).fixed ∙ ap (rounds limit hold R) e in
        let l : round_count limit hold (round limit hold R) ≤ n = (kernel_is_lem limit hold (round limit hold R) (rounds_sound limit hold R s 1)).first n fixed in
        omega (arith, l, e)

-- steps while the pool grows
pub told_kept : (old new : Interned) → IsPool old → Kept old new → (steps : List Step) → SoundSteps old steps → trail_meaning new steps ≡ trail_meaning old steps
told_kept old new is k [] f = refl
told_kept old new is k (Flat before ∷ steps) f =
    ap₂ (λ x xs. x ∷ xs) (ap FlatStep (repository_kept old new is k before (f (Flat before) here))) (told_kept old new is k steps (λ x i. f x (there i)))
told_kept old new is k (Idle p clause added ∷ steps) f = ap (λ xs. step_meaning new (Idle p clause added) ∷ xs) (told_kept old new is k steps (λ x i. f x (there i)))
told_kept old new is k (Merge class_of ∷ steps) f = ap (λ xs. step_meaning new (Merge class_of) ∷ xs) (told_kept old new is k steps (λ x i. f x (there i)))

pub sound_step : (old new : Interned) → IsPool old → Kept old new → (step : Step) → SoundStep old step → SoundStep new step
sound_step old new is k (Flat before) s = sound_kept old new is k before s
sound_step old new is k (Idle p clause added) s = tt
sound_step old new is k (Merge class_of) s = tt

-- idle steps have no book, and tell the same in each pool
pub record AreIdle (pool : Interned) (steps : List Step) (idles : List IdleClause) : Type 0 where
  pub meaning : trail_meaning pool steps ≡ map IdleStep idles
  pub sound : SoundSteps pool steps
  pub rows : trail_rows steps ≡ []

pub idles_are : (from pool : Interned) (steps : List Step) (idles : List IdleClause) → trail_meaning from steps ≡ map IdleStep idles → AreIdle pool steps idles
idles_are from pool [] idles e = record { meaning = e; sound = λ step i. absurd (In_none i); rows = refl }
idles_are from pool (x ∷ xs) [] e = absurd (let f : ⊥ = cc in f)
idles_are from pool (Flat before ∷ xs) (y ∷ ys) e = absurd (let f : ⊥ = cc in f)
idles_are from pool (Merge class_of ∷ xs) (y ∷ ys) e = absurd (let f : ⊥ = cc in f)
idles_are from pool (Idle p clause added ∷ xs) (y ∷ ys) e =
    let more : AreIdle pool xs ys = idles_are from pool xs ys (let f : trail_meaning from xs ≡ map IdleStep ys = cc in f) in
    record {
      meaning = ap₂ (λ (a : RoundStep) (b : List RoundStep). a ∷ b) (let f : step_meaning pool (Idle p clause added) ≡ IdleStep y = cc in f) more.meaning;
      sound = λ step i. elim (In_cases i) [ inl s ↦ subst (SoundStep pool) (sym s) tt | inr j ↦ more.sound step j ];
      rows = more.rows;
    }

-- steps that are sound, and tell this
pub record AreTold (pool : Interned) (steps : List Step) (told : List RoundStep) : Type 0 where
  pub meaning : trail_meaning pool steps ≡ told
  pub sound : SoundSteps pool steps

-- the steps of one more round, whose idle steps tell the same in each pool
pub round_told : (limit : ℕ) (hold : Bool) (R : Repository) (from pool : Interned) (before : Book) (past steps : List Step) (told : List RoundStep) (made : Reduced) → AreTold pool past told →
    IsReduced limit hold R from made → repository_of pool before ≡ R → Sound pool before → steps ≡ past ++ (Flat before ∷ (Merge made.class_of ∷ made.idle)) → AreTold pool steps (told ++ round_steps limit hold R)
round_told limit hold R from pool before past steps told made h r e s g =
    let idle : AreIdle pool made.idle (idle_steps (quotient (flat limit hold R))) = idles_are from pool made.idle (idle_steps (quotient (flat limit hold R))) r.idle in
    record {
      meaning =
          ap (trail_meaning pool) g
          ∙ map-append (step_meaning pool) past (Flat before ∷ (Merge made.class_of ∷ made.idle))
          ∙ ap₂ (λ (x y : List RoundStep). x ++ y) h.meaning
          (ap₂ (λ (x : RoundStep) (y : List RoundStep). x ∷ y) (ap FlatStep e) (ap₂ (λ (x : RoundStep) (y : List RoundStep). x ∷ y) (ap MergeStep r.class_of) idle.meaning));
      sound = λ step j. elim (In_append_cases past (Flat before ∷ (Merge made.class_of ∷ made.idle)) step (subst (λ z. In step z) g j)) [
        | inl u ↦ h.sound step u
        | inr u ↦ elim (In_cases u) [
          | inl v ↦ subst (SoundStep pool) (sym v) s
          | inr v ↦ elim (In_cases v) [
            | inl w ↦ subst (SoundStep pool) (sym w) tt
            | inr w ↦ idle.sound step w
          ]
        ]
      ];
    }

pub changes_told : (limit : ℕ) (hold : Bool) (R : Repository) (from pool : Interned) (before : Book) (past steps : List Step) (told : List RoundStep) (made : Reduced) (changed : Bool) → AreTold pool past told →
    IsReduced limit hold R from made → repository_of pool before ≡ R → Sound pool before → steps ≡ (if changed then past ++ (Flat before ∷ (Merge made.class_of ∷ made.idle)) else past) →
    AreTold pool steps (told ++ (if changed then round_steps limit hold R else []))
changes_told limit hold R from pool before past steps told made true h r e s g = round_told limit hold R from pool before past steps told made h r e s g
changes_told limit hold R from pool before past steps told made false h r e s g =
    record { meaning = ap (trail_meaning pool) g ∙ h.meaning ∙ sym (append-nil told); sound = subst (SoundSteps pool) (sym g) h.sound }

pub map_map : (f g : ℕ → ℕ) (xs : List ℕ) → map f (map g xs) ≡ map (λ x. f (g x)) xs
map_map f g [] = refl
map_map f g (x ∷ xs) = ap (λ z. f (g x) ∷ z) (map_map f g xs)

-- the classes of a list of classes
classes_next : (limit : ℕ) (hold : Bool) → (R : Repository) → SoundRepository R → (i : ℕ) (classes next made : List ℕ) → classes ≡ map (class_after limit hold R i) (packages R) → next ≡ class_list (flat limit hold (rounds limit hold R i)) →
    made ≡ map (class_in next) classes → made ≡ map (class_after limit hold R (suc i)) (packages R)
classes_next limit hold R s i classes next made e f g =
    g ∙ ap₂ (λ n c. map (class_in n) c) f e
    ∙ map_map (class_in (class_list (flat limit hold (rounds limit hold R i)))) (class_after limit hold R i) (packages R)
    ∙ map_same (λ p. class_in (class_list (flat limit hold (rounds limit hold R i))) (class_after limit hold R i p)) (class_after limit hold R (suc i)) (packages R) (λ p j.
    class_at (flat limit hold (rounds limit hold R i)) (class_after limit hold R i p) (subst (λ z. class_after limit hold R i p < z) (sym (flat_size limit hold (rounds limit hold R i))) (class_within limit hold i R s p (of_packages R p j)))
    ∙ sym (class_last limit hold i R p))

-- one round more
pub midway_more : (limit : ℕ) (hold : Bool) (R : Repository) (start pool grown old work new : Interned) (now next : Progress) (made : Reduced) →
    SoundRepository R → (m : IsMidway R limit hold start pool old now) → IsReduced limit hold (repository_of old now.book) work made →
    (round limit hold (repository_of old now.book) ≡ repository_of old now.book → ⊥) → IsSameBook work made.book new next.book →
    HasSteps start grown next.steps (steps_after limit hold R m.index ++ round_steps limit hold (repository_of old now.book)) →
    next.class_of.items ≡ map (class_in made.class_of) now.class_of.items → next.number ≡ min (now.number + 1) 4294967295 →
    IsMidway R limit hold start grown new next
midway_more limit hold R start pool grown old work new now next made s m r f same d g a =
    let i : ℕ = m.index in
    record {
      index = suc i;
      is = same.repository ∙ r.is ∙ ap (round limit hold) m.is ∙ sym (rounds_last limit hold i R);
      sound = same.sound r.sound;
      first = λ one. absurd (let c = m.counted in omega (arith, a, c, one));
      class_of = classes_next limit hold R s i now.class_of.items made.class_of next.class_of.items m.class_of (r.class_of ∙ ap (λ z. class_list (flat limit hold z)) m.is) g;
      steps = subst (λ told. HasSteps start grown next.steps told) (ap (λ z. steps_after limit hold R i ++ round_steps limit hold z) m.is ∙ sym (steps_last limit hold i R)) d;
      counted = a ∙ ap (λ z. min (z + 1) 4294967295) m.counted ∙ omega arith;
      passed = λ j l. elim (cases_lt j i) [
        | inl u ↦ m.passed j u
        | inr u ↦ let e : j ≡ i = omega arith in ap (λ z. passes limit hold (rounds limit hold R z)) e ∙ ap (λ z. passes limit hold z) (sym m.is) ∙ r.within
      ];
      changed = λ j l. elim (cases_lt j i) [
        | inl u ↦ m.changed j u
        | inr u ↦ λ e. let same : j ≡ i = omega arith in
            f (subst (λ z. round limit hold z ≡ z) (ap (rounds limit hold R) same ∙ sym m.is) e)
      ];
    }

-- and the end
pub midway_end : (limit : ℕ) (hold : Bool) (R : Repository) (start pool grown old work : Interned) (now : Progress) (made : Reduced) (book : Book) →
    SoundRepository R → IsPool pool → IsMidway R limit hold start pool old now → IsReduced limit hold (repository_of old now.book) work made →
    round limit hold (repository_of old now.book) ≡ repository_of old now.book → IsSameBook work made.book grown book → Kept pool grown →
    IsExtracted R limit hold start grown book now.class_of.items made.held now.steps
midway_end limit hold R start pool grown old work now made book s is m r fixed same k =
    let i : ℕ = m.index in
    let at : i ≡ round_count limit hold R = reached limit hold R s i m.changed (subst (λ z. round limit hold z ≡ z) m.is fixed) in
    record {
      is = same.repository ∙ r.is ∙ fixed ∙ m.is ∙ ap (rounds limit hold R) at;
      class_of = m.class_of ∙ ap (λ z. map (class_after limit hold R z) (packages R)) at;
      held = r.held ∙ ap (held_of limit hold) (m.is ∙ ap (rounds limit hold R) at);
      steps = told_kept pool grown is k now.steps m.steps.books ∙ m.steps.meaning ∙ ap (steps_after limit hold R) at;
      sound = same.sound r.sound;
      books = λ step j. sound_step pool grown is k step (m.steps.books step j);
      within = none_passed limit hold R s i at m.passed (ap (λ z. passes limit hold z) (sym m.is) ∙ r.within);
      kept = kept_along start pool grown m.steps.kept k;
    }

place_map : (f : ℕ → ℕ) (test : ℕ → Bool) (xs : List ℕ) → place_of test (map f xs) ≡ place_of (λ x. test (f x)) xs
place_map f test [] = refl
place_map f test (x ∷ xs) = ap (λ z. cond (test (f x)) 0 (suc z)) (place_map f test xs)

pub midway_refused : (limit : ℕ) (hold : Bool) (R : Repository) (start pool work : Interned) (now : Progress) (fault : FlatError) →
    SoundRepository R → IsMidway R limit hold start pool work now → OnLimit (λ passed. passes limit hold (repository_of work now.book) ≡ Some passed) fault →
    OnRoundLimit (λ passed. limit_at limit hold R ≡ Some passed) (refusal now.number now.class_of.items fault)
midway_refused limit hold R start pool work now (faults.Limit gone p count) s m e =
    let w : Passed = record { gone = gone; over = p; count = count } in
    one_passed limit hold R s m.index w (changing limit hold R s m.index m.changed) m.passed (ap (λ z. passes limit hold z) (sym m.is) ∙ e)
    ∙ ap Some (ap₂ (λ (n q : ℕ). record { number = n; gone = gone; over = q; count = count }) (sym m.counted)
    (sym (place_map (class_after limit hold R m.index) (λ k. eqb k p) (packages R)) ∙ ap (place_of (λ k. eqb k p)) (sym m.class_of)))
midway_refused limit hold R start pool work now faults.Memory s m e = tt

-- before any round
pub midway_none : (limit : ℕ) (hold : Bool) (pool : Interned) (book : Book) (now : Progress) → IsSameBook pool book pool now.book → Sound pool book → now.class_of.items ≡ numbers (length book.rows) 0 →
    now.steps ≡ [] → now.number ≡ 1 → IsMidway (repository_of pool book) limit hold pool pool pool now
midway_none limit hold pool book now same s h none one = record {
  index = 0;
  is = same.repository;
  sound = same.sound s;
  first = λ _. record { repository = refl; sound = λ own. own };
  class_of = h ∙ ap (λ n. numbers n 0) (sym (book_size pool book)) ∙ sym (same_list (packages (repository_of pool book)));
  steps = subst (λ steps. HasSteps pool pool steps []) (sym none) (record {
    meaning = refl;
    books = λ step i. absurd (In_none i);
    only = record { rows = λ id low high. absurd (omega arith); clauses = λ id low high. absurd (omega arith) };
    kept = kept_same pool;
  });
  counted = one;
  passed = λ j l. absurd (omega arith);
  changed = λ j l. absurd (omega arith);
}
  where
    same_list : (xs : List ℕ) → map (λ p. p) xs ≡ xs
    same_list [] = refl
    same_list (x ∷ xs) = ap (λ z. x ∷ z) (same_list xs)

-- the test of books tells whether a round changes nothing
pub told_same : (limit : ℕ) (hold : Bool) → (old new : Interned) (book made : Book) → IsPool old → Kept old new → Sound old book → repository_of new made ≡ round limit hold (repository_of old book) →
    is_same_repository (repository_of new book) (repository_of new made) ≡ true → round limit hold (repository_of old book) ≡ repository_of old book
told_same limit hold old new book made is k s r t = sym r ∙ sym (same_from (repository_of new book) (repository_of new made) t) ∙ repository_kept old new is k book s

pub told_other : (limit : ℕ) (hold : Bool) → (old new : Interned) (book made : Book) → IsPool old → Kept old new → Sound old book → repository_of new made ≡ round limit hold (repository_of old book) →
    is_same_repository (repository_of new book) (repository_of new made) ≡ false → round limit hold (repository_of old book) ≡ repository_of old book → ⊥
told_other limit hold old new book made is k s r t e =
    both_ways (is_same_repository (repository_of new book) (repository_of new made)) t
    (repository_test (repository_of new book) (repository_of new made) (repository_kept old new is k book s ∙ sym e ∙ sym r))

pub round_changes : (limit : ℕ) (hold : Bool) → (old new : Interned) (book made : Book) (same : Bool) → IsPool old → Kept old new → Sound old book → repository_of new made ≡ round limit hold (repository_of old book) →
    same ≡ is_same_repository (repository_of new book) (repository_of new made) → (not same ≡ false) ↔ (round limit hold (repository_of old book) ≡ repository_of old book)
round_changes limit hold old new book made true is k s r e = (λ _. told_same limit hold old new book made is k s r (sym e), λ _. refl)
round_changes limit hold old new book made false is k s r e = (λ f. absurd (let n : ⊥ = cc in n), λ f. absurd (told_other limit hold old new book made is k s r (sym e) f))

pub midway_size : (limit : ℕ) (hold : Bool) (R : Repository) (start pool work : Interned) (now : Progress) → IsMidway R limit hold start pool work now → length now.class_of.items ≡ length R.clauses
midway_size limit hold R start pool work now m = ap length m.class_of ∙ length_numbers (class_after limit hold R m.index) (length R.clauses) 0
