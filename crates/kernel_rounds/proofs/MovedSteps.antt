-- Steps whose books come into another pool, and what is left of a pool.
use Rattle.std.proofs.Common.{◌≡◌, ℕ, Bool, ◌<◌, ◌+◌, List, [], ◌∷◌, ◌++◌, inl, inr, refl, sym, ◌∙◌, ap, ap₂, subst, length, get_or, take, map, append_assoc}
use Rattle.std.proofs.{Common.{append-nil, Option}, lemmas.Bool.{cases_lt}, lemmas.List.{map-append, take_more}}
use Rattle.clause_pool.specs.{Interned.{Interned, IsPool, Kept, clause_at, ids_at, row_at}, Compacting.{Compacts, Renames, RowsOf}}
use Rattle.clause_pool.proofs.Interned.{kept_along}
use Rattle.row_book.proofs.{Compared.{row_once}, Repositories.{repository_same}}
use Rattle.row_book.specs.{declared.book.Book.{Book}, declared.trail.Step.{Step}, declared.trail.Step.TheVariants.{Flat, Idle, Merge}}
use Rattle.row_book.specs.{Book.{repository_of, AddsOnly, AreConflicts, IsSameBook, RowsFit, Sound}, Repository.{Repository}, Flattening.{flat}}
use Rattle.row_book.specs.{Merging.{quotient}, Pruning.{idle_steps}, Rounds.{round_steps, RoundStep, FlatStep, IdleStep, MergeStep}}
use Rattle.row_book.specs.Trail.{SoundStep, SoundSteps, step_meaning, trail_meaning}
use Rattle.listed.specs.Lists.{In, here, there}
use Rattle.listed.proofs.Lists.{In_append_cases, In_append_left, In_append_right, In_at, In_cases, In_map, In_map_cases, In_none}
use Rattle.kernel_rounds.specs.{declared.rounding.Reduced.{Reduced}, Extracting.{IsReduced}}
use Rattle.kernel_rounds.specs.Moving.{live_rows, step_rows, trail_rows, AreSameSteps, HasOnly, HasSteps, IsSameStep}
use Rattle.kernel_rounds.proofs.Midways.{idles_are, round_told, sound_step, told_kept, AreTold}

-- a copy of a book is the same book in a copy of its pool
pub same_copy : (pool own : Interned) (book copied : Book) → own ≡ pool → copied.rows ≡ book.rows → copied.conflicts ≡ book.conflicts → IsSameBook pool book own copied
same_copy pool own book copied e r k = record {
  repository = repository_same (repository_of own copied) (repository_of pool book) (ap₂ (λ p rows. map (row_at p) rows) e r) k;
  sound = λ s. record {
    rows = subst (λ p. RowsFit p copied.rows) (sym e) (subst (RowsFit pool) (sym r) s.rows);
    conflicts = subst AreConflicts (sym k) s.conflicts;
  };
}

-- the rows of sound books are of the pool
step_within : (pool : Interned) (step : Step) → SoundStep pool step → (id : ℕ) → In id (step_rows step) → id < length pool.rows
step_within pool (Flat before) s id i = s.rows.of_pool id i
step_within pool (Idle p clause added) s id i = absurd (In_none i)
step_within pool (Merge class_of) s id i = absurd (In_none i)

pub steps_within : (pool : Interned) (steps : List Step) → SoundSteps pool steps → (id : ℕ) → In id (trail_rows steps) → id < length pool.rows
steps_within pool [] s id i = absurd (In_none i)
steps_within pool (x ∷ xs) s id i =
    elim (In_append_cases (step_rows x) (trail_rows xs) id i) [ inl j ↦ step_within pool x (s x here) id j | inr j ↦ steps_within pool xs (λ y k. s y (there k)) id j ]

pub live_within : (pool : Interned) (book : Book) (steps : List Step) → Sound pool book → SoundSteps pool steps → RowsOf pool (live_rows book steps)
live_within pool book steps s b id i =
    elim (In_append_cases book.rows (trail_rows steps) id i) [ inl j ↦ s.rows.of_pool id j | inr j ↦ steps_within pool steps b id j ]

pub item_rows : (steps : List Step) (step : Step) → In step steps → (id : ℕ) → In id (step_rows step) → In id (trail_rows steps)
item_rows [] step i id j = absurd (In_none i)
item_rows (x ∷ xs) step i id j =
    elim (In_cases i) [
      | inl e ↦ In_append_left (step_rows x) (trail_rows xs) id (subst (λ z. In id (step_rows z)) e j)
      | inr k ↦ In_append_right (step_rows x) (trail_rows xs) id (item_rows xs step k id j)
    ]

pub next_steps : (steps : List Step) (i : ℕ) (step : Step) → i < length steps → step ≡ get_or steps i step → take (i + 1) steps ≡ take i steps ++ step ∷ []
next_steps steps i step l e = take_more steps i step l ∙ ap (λ z. take i steps ++ z ∷ []) (sym e)

pub rows_append : (xs ys : List Step) → trail_rows (xs ++ ys) ≡ trail_rows xs ++ trail_rows ys
rows_append [] ys = refl
rows_append (x ∷ xs) ys = ap (λ z. step_rows x ++ z) (rows_append xs ys) ∙ sym (append_assoc (step_rows x) (trail_rows xs) (trail_rows ys))

-- the same steps name the same clauses
step_clauses : RoundStep → List (List (List ℕ))
step_clauses (FlatStep R) = R.clauses
step_clauses (MergeStep class_of) = []
step_clauses (IdleStep idle) = []

trail_clauses : List RoundStep → List (List (List ℕ))
trail_clauses [] = []
trail_clauses (x ∷ xs) = step_clauses x ++ trail_clauses xs

step_told : (pool : Interned) (step : Step) → map (row_at pool) (step_rows step) ≡ step_clauses (step_meaning pool step)
unfolding step_clauses
step_told pool (Flat before) = refl
step_told pool (Idle p clause added) = refl
step_told pool (Merge class_of) = refl

trail_told : (pool : Interned) (steps : List Step) → map (row_at pool) (trail_rows steps) ≡ trail_clauses (trail_meaning pool steps)
unfolding trail_clauses
trail_told pool [] = refl
trail_told pool (x ∷ xs) = map-append (row_at pool) (step_rows x) (trail_rows xs) ∙ ap₂ (λ y ys. y ++ ys) (step_told pool x) (trail_told pool xs)

pub live_same : (old new : Interned) (book moved : Book) (steps more : List Step) → repository_of new moved ≡ repository_of old book → trail_meaning new more ≡ trail_meaning old steps →
    map (row_at new) (live_rows moved more) ≡ map (row_at old) (live_rows book steps)
live_same old new book moved steps more e f =
    map-append (row_at new) moved.rows (trail_rows more)
    ∙ ap₂ (λ x y. x ++ y) (ap (λ R. R.clauses) e) (trail_told new more ∙ ap trail_clauses f ∙ sym (trail_told old steps))
    ∙ sym (map-append (row_at old) book.rows (trail_rows steps))

-- what a compaction leaves is the rows of whatever stands for the live ones
pub only_live : (old new : Interned) (live : List ℕ) (remap : List (Option ℕ)) (moved : List ℕ) → IsPool new → Compacts old live remap new → map (row_at new) moved ≡ map (row_at old) live →
    ((id : ℕ) → In id moved → id < length new.rows) → HasOnly new moved
only_live old new live remap moved is k same within =
    let twin : (row : ℕ) → In row live → (id : ℕ) × In id moved × (row_at old row ≡ row_at new id) =
    λ row i. In_map_cases (row_at new) moved (row_at old row) (subst (λ z. In (row_at old row) z) (sym same) (In_map (row_at old) live row i)) in
    record {
      of_pool = within;
      rows = λ id l.
          let w : (row : ℕ) × In row live × Renames remap row id = k.rows id l in
          let t : (n : ℕ) × In n moved × (row_at old w.0 ≡ row_at new n) = twin w.0 w.1 in
          let e : row_at new t.0 ≡ row_at new id = sym t.2 ∙ sym (k.same w.0 id w.2).same in
          subst (λ z. In z moved) (row_once new is t.0 id (within t.0 t.1) l e) t.1;
      clauses = λ id l.
          let w : (row : ℕ) × In row live × In (clause_at new id) (row_at old row) = k.clauses (clause_at new id) (In_at new.clauses id [] l) in
          let t : (n : ℕ) × In n moved × (row_at old w.0 ≡ row_at new n) = twin w.0 w.1 in
          let m : (n : ℕ) × In n (ids_at new t.0) × (clause_at new id ≡ clause_at new n) =
          In_map_cases (clause_at new) (ids_at new t.0) (clause_at new id) (subst (λ z. In (clause_at new id) z) t.2 w.2) in
          let e : m.0 ≡ id = is.clauses_once m.0 id (is.of_pool t.0 (within t.0 t.1) m.0 m.1) l (sym m.2) in
          (t.0, t.1, subst (λ z. In z (ids_at new t.0)) e m.1);
    }

-- a step in another pool
pub flat_moved : (old : Interned) (before : Book) (new : Interned) (moved : Book) → IsSameBook old before new moved → IsSameStep old (Flat before) new (Flat moved)
flat_moved old before new moved s = record { meaning = ap FlatStep s.repository; sound = s.sound }

pub steps_more : (old new : Interned) (steps all : List Step) (step moved : Step) (made more : List Step) → AreSameSteps old steps new made → IsSameStep old step new moved →
    all ≡ steps ++ step ∷ [] → more ≡ made ++ moved ∷ [] → AreSameSteps old all new more
steps_more old new steps all step moved made more s one a e = record {
  meaning =
      ap (trail_meaning new) e ∙ map-append (step_meaning new) made (moved ∷ []) ∙ ap₂ (λ xs x. xs ++ x ∷ []) s.meaning one.meaning
      ∙ sym (map-append (step_meaning old) steps (step ∷ [])) ∙ sym (ap (trail_meaning old) a);
  sound = λ f x i.
      let g : SoundSteps old (steps ++ step ∷ []) = subst (SoundSteps old) a f in
      elim (In_append_cases made (moved ∷ []) x (subst (λ z. In x z) e i)) [
        | inl j ↦ s.sound (λ y k. g y (In_append_left steps (step ∷ []) y k)) x j
        | inr j ↦ elim (In_cases j) [
          | inl q ↦ subst (SoundStep new) (sym q) (one.sound (g step (In_append_right steps (step ∷ []) step here)))
          | inr n ↦ absurd (In_none n)
        ]
      ];
}

-- what a pool gains in two parts
pub adds_both : (a b c : Interned) (xs ys all : List ℕ) → AddsOnly a b xs → AddsOnly b c ys → Kept b c → ((id : ℕ) → In id xs → id < length b.rows) → all ≡ xs ++ ys → AddsOnly a c all
adds_both a b c xs ys all p q k within e =
    let left : (id : ℕ) → In id xs → In id all = λ id i. subst (λ z. In id z) (sym e) (In_append_left xs ys id i) in
    let right : (id : ℕ) → In id ys → In id all = λ id i. subst (λ z. In id z) (sym e) (In_append_right xs ys id i) in
    record {
      rows = λ id low high. elim (cases_lt id (length b.rows)) [ inl u ↦ left id (p.rows id low u) | inr u ↦ right id (q.rows id u high) ];
      clauses = λ id low high. elim (cases_lt id (length b.clauses)) [
        | inl u ↦
            let w : (row : ℕ) × In row xs × In id (ids_at b row) = p.clauses id low u in
            (w.0, left w.0 w.1, subst (λ z. In id z) (sym (k.rows w.0 (within w.0 w.1)).1) w.2)
        | inr u ↦ let w : (row : ℕ) × In row ys × In id (ids_at c row) = q.clauses id u high in (w.0, right w.0 w.1, w.2)
      ];
    }

-- the steps of one more round, whose book has come into the pool
pub steps_more_round : (limit : ℕ) (hold : Bool) (R : Repository) (start old new from : Interned) (before : Book) (past steps : List Step) (told : List RoundStep) (made : Reduced) → IsPool old → HasSteps start old past told →
    IsReduced limit hold R from made → repository_of new before ≡ R → Sound new before → AddsOnly old new before.rows → Kept old new → steps ≡ past ++ (Flat before ∷ (Merge made.class_of ∷ made.idle)) →
    HasSteps start new steps (told ++ round_steps limit hold R)
steps_more_round limit hold R start old new from before past steps told made is h r e s adds k g =
    let all : AreTold new steps (told ++ round_steps limit hold R) =
    round_told limit hold R from new before past steps told made
    (record { meaning = told_kept old new is k past h.books ∙ h.meaning; sound = λ step i. sound_step old new is k step (h.books step i) }) r e s g in
    record {
      meaning = all.meaning;
      books = all.sound;
      only =
          adds_both start old new (trail_rows past) before.rows (trail_rows steps) h.only adds k (steps_within old past h.books)
          (ap trail_rows g ∙ rows_append past (Flat before ∷ (Merge made.class_of ∷ made.idle))
          ∙ ap (λ z. trail_rows past ++ (before.rows ++ z)) (idles_are from new made.idle (idle_steps (quotient (flat limit hold R))) r.idle).rows ∙ ap (λ z. trail_rows past ++ z) (append-nil before.rows));
      kept = kept_along start old new h.kept k;
    }

-- the kernel's book after the steps
pub live_behind : (start old new : Interned) (made : Book) (steps : List Step) (told : List RoundStep) → HasSteps start old steps told → AddsOnly old new made.rows → Kept old new →
    AddsOnly start new (live_rows made steps)
live_behind start old new made steps told h adds k =
    let both : AddsOnly start new (trail_rows steps ++ made.rows) =
    adds_both start old new (trail_rows steps) made.rows (trail_rows steps ++ made.rows) h.only adds k (steps_within old steps h.books) refl in
    let swapped : (id : ℕ) → In id (trail_rows steps ++ made.rows) → In id (live_rows made steps) =
    λ id i. elim (In_append_cases (trail_rows steps) made.rows id i) [
      | inl j ↦ In_append_right made.rows (trail_rows steps) id j
      | inr j ↦ In_append_left made.rows (trail_rows steps) id j
    ] in
    record {
      rows = λ id low high. swapped id (both.rows id low high);
      clauses = λ id low high. let w : (row : ℕ) × In row (trail_rows steps ++ made.rows) × In id (ids_at new row) = both.clauses id low high in (w.0, swapped w.0 w.1, w.2);
    }
