-- The run of flattening over rows in a pool: where it stands after so many steps.
use Rattle.std.proofs.Common.{◌≡◌, ℕ, zero, suc, ◌<◌, ◌≤◌, ◌+◌, ◌-◌, Bool, true, false, not, ◌&&◌, ◌||◌, eqb, ltb, cond, List, length, filter, replicate}
use Rattle.std.proofs.{Common.{slice_set, ◌≢◌, inl, inr, refl, sym, ◌∙◌, ap, subst, arith, map, Option, Some, None, ne_eqb}, lemmas.Bool.{cases_eq, cases_lt}}
use Rattle.std.specs.List.{find}
use Rattle.std.proofs.lemmas.List as lists
use Rattle.clause_pool.specs.Interned.{Interned, IsPool, Kept, clauses_at, row_at}
use Rattle.clause_pool.proofs.Interned.{kept_along, kept_same}
use Rattle.row_book.specs.{declared.book.Book.{Book}, Sets.{NumSet, without}, Repository.{Repository}, Numbers.{numbers}, Holders.{Holders}}
use Rattle.row_book.specs.{Book.{Sound, repository_of}, Flags.{flag}}
use Rattle.row_book.specs.Flattening.{Passed, Remaining, at_last, flat, gone_or_held, has_conflict, held_of, may_go, next_gone, none_gone, packages, passed_by}
use Rattle.row_book.specs.Flattening.{passes, remaining_after, row_length, rows_over}
use Rattle.row_book.proofs.{Sets.{plus_new}, Books.{sound_clauses}, Numbers.{numbers_parts}}
use Rattle.listed.proofs.Lists.{filter_same, find_some}
use Rattle.clause_flatten.specs.{Ready.{AreReady, table_of}, Substitution.{table_without, table_passes, length_in}, Refusals.{OnLimit}}
use Rattle.clause_flatten.specs.{declared.error.FlatError.{FlatError}, declared.error.FlatError.TheVariants.{Limit, Memory}, TakingOut.{is_free, is_over}}
use Rattle.clause_flatten.specs.{TidyRows.{tidied_table}, Waiting.{Filed, IsFirst}}
use Rattle.clause_flatten.proofs.{Flat.{goes, next_gone_is, stays_held}, Stages.{core_is_reached_lem, left_bound, same_passing, stays_more}}
use Rattle.clause_flatten.proofs.{Tables.{table_length, table_step_lem}, Turns.{filed_as}, Runs.{passed_some}, Free.{start_may}}
use Rattle.clause_flatten.proofs.Passing.{IsWithin, count_is, first_stage_is, next_is, next_none, passes_at, passes_none}

-- flags that tell which packages are held
pub record FlagsTell (n : ℕ) (held : NumSet) (flags : List Bool) : Type 0 where
  pub count : length flags ≡ n
  pub same : (q : ℕ) → q < n → flag flags q ≡ held q

-- where a run stands after so many steps
pub record RunAt (R : Repository) (limit : ℕ) (hold : Bool) (i : ℕ) (start now : Interned) (rows : List (List ℕ)) (used : Holders) (waiting : List ℕ) (flags : List Bool) : Type 0 where
  pub table : table_of now rows ≡ rows_over R (remaining_after limit hold R i).left
  pub ready : AreReady now rows used
  pub filed : Filed waiting (may_go R (remaining_after limit hold R i)) (length_in (table_of now rows))
  pub told : FlagsTell (length R.clauses) (remaining_after limit hold R i).held flags
  pub within : (j : ℕ) → j ≤ i → IsWithin R limit hold j
  pub kept : Kept start now

within_of : (R : Repository) (limit : ℕ) (V : NumSet) (n : ℕ) (t : List (List (List ℕ))) → t ≡ rows_over R V → n ≡ length R.clauses → ((p : ℕ) → p < n → length_in t p ≤ limit) →
    (p : ℕ) → p < length R.clauses → row_length R V p ≤ limit
within_of R limit V n t e size f p l =
    let c : length_in t p ≡ row_length R V p = count_is R V t e p l in
    let k : length_in t p ≤ limit = f p (omega (arith, size)) in
    omega arith

no_flags : (n q : ℕ) → flag (replicate n false) q ≡ false
no_flags zero q = refl
no_flags (suc n) zero = refl
no_flags (suc n) (suc q) = no_flags n q

pub run_start : (pool : Interned) (book : Book) (limit : ℕ) (hold : Bool) (rows : List (List ℕ)) (used : Holders) (waiting : List ℕ) (flags : List Bool) → IsPool pool → Sound pool book →
    table_of pool rows ≡ tidied_table (map (row_at pool) book.rows) → AreReady pool rows used →
    Filed waiting (λ q. ltb q (length book.rows) && is_free book.conflicts q) (length_in (table_of pool rows)) →
    ((p : ℕ) → p < length rows → length_in (table_of pool rows) p ≤ limit) →
    flags ≡ replicate (length book.rows) false →
    RunAt (repository_of pool book) limit hold 0 pool pool rows used waiting flags
unfolding remaining_after
run_start pool book limit hold rows used waiting flags is s first ready filed within none =
    let R : Repository = repository_of pool book in
    let V : NumSet = (remaining_after limit hold (repository_of pool book) 0).left in
    let table : table_of pool rows ≡ rows_over (repository_of pool book) (remaining_after limit hold (repository_of pool book) 0).left =
    first ∙ first_stage_is limit hold R (sound_clauses pool book s is) in
    let size : length rows ≡ length (repository_of pool book).clauses =
    sym (lists.length-map rows (clauses_at pool)) ∙ ap length table ∙ table_length R V in
    record {
      table = table;
      ready = ready;
      filed = filed_as waiting (λ q. ltb q (length book.rows) && is_free book.conflicts q) (may_go R (none_gone R))
          (length_in (table_of pool rows)) (length_in (table_of pool rows)) filed (start_may pool book s) (λ q h. refl);
      told = record {
        count = ap length none ∙ lists.length-replicate (length book.rows) false ∙ sym (lists.length-map book.rows (row_at pool));
        same = λ q l. ap (λ z. flag z q) none ∙ no_flags (length book.rows) q;
      };
      within = λ j l.
          let e : 0 ≡ j = omega arith in
          subst (IsWithin R limit hold) e (within_of R limit V (length rows) (table_of pool rows) table size within);
      kept = kept_same pool;
    }

-- what may go once one was taken out, or held
and_swap : (a b c : Bool) → ((a && b) && c) ≡ ((a && c) && b)
and_swap true true c = and_true c
  where
    and_true : (x : Bool) → x ≡ (x && true)
    and_true true = refl
    and_true false = refl
and_swap true false c = and_false c
  where
    and_false : (x : Bool) → false ≡ (x && false)
    and_false true = refl
    and_false false = refl
and_swap false b c = refl

not_or : (a b c d : Bool) → ((a && (b && not c)) && not d) ≡ (a && (b && not (c || d)))
not_or true true true d = refl
not_or true true false d = refl
not_or true false c true = refl
not_or true false c false = refl
not_or false b c d = refl

may_go_less : (R : Repository) (s : Remaining) (q : ℕ) (b : Bool) (x : ℕ) → without (may_go R s) q x ≡ may_go R (cond b (stays_held s q) (goes s q)) x
may_go_less R s q true x = not_or (s.left x) (not (has_conflict R x)) (s.held x) (eqb x q)
may_go_less R s q false x = and_swap (s.left x) (not (has_conflict R x) && not (s.held x)) (not (eqb x q))

-- the flag of one package changed
flag_set : (flags : List Bool) (q : ℕ) (b : Bool) → q < length flags → flag (slice_set flags q b) q ≡ b
flag_set flags q b l = lists.get_or-set_same flags q b false l

flag_other : (flags : List Bool) (p q : ℕ) (b : Bool) → p ≢ q → flag (slice_set flags q b) p ≡ flag flags p
flag_other flags p q b ne = lists.get_or-set_other flags q p b false ne

flags_next : (n : ℕ) (s : Remaining) (flags : List Bool) (q : ℕ) (b : Bool) → q < n → s.held q ≡ false → FlagsTell n s.held flags →
    FlagsTell n (cond b (stays_held s q) (goes s q)).held (slice_set flags q b)
flags_next n s flags q b l unheld f = record {
  count = lists.length-set flags q b ∙ f.count;
  same = λ p m. elim (cases_eq p q) [
    | inl e ↦ ap (flag (slice_set flags q b)) e ∙ flag_set flags q b (let c : length flags ≡ n = f.count in omega arith) ∙ own b ∙ ap (cond b (stays_held s q) (goes s q)).held (sym e)
    | inr ne ↦ flag_other flags p q b ne ∙ f.same p m ∙ other b p ne
  ];
}
  where
    own : (c : Bool) → c ≡ (cond c (stays_held s q) (goes s q)).held q
    own true = sym (plus_new s.held q q refl)
    own false = sym unheld

    other : (c : Bool) (p : ℕ) → p ≢ q → s.held p ≡ (cond c (stays_held s q) (goes s q)).held p
    other true p ne = or_false (s.held p) ∙ ap (λ z. s.held p || z) (sym (ne_eqb p q ne))
      where
        or_false : (x : Bool) → x ≡ (x || false)
        or_false true = refl
        or_false false = refl
    other false p ne = refl

-- what remains after one more step
next_remains : (R : Repository) (limit : ℕ) (hold : Bool) (i : ℕ) (o : Option ℕ) → next_gone R (remaining_after limit hold R i) ≡ o →
    remaining_after limit hold R (i + 1) ≡ gone_or_held limit hold R (remaining_after limit hold R i) o
unfolding remaining_after
next_remains R limit hold i o e =
    ap (remaining_after limit hold R) (let k : i + 1 ≡ suc i = omega arith in k) ∙ ap (gone_or_held limit hold R (remaining_after limit hold R i)) e

-- where none may go any more
pub record HasEnded (R : Repository) (limit : ℕ) (hold : Bool) (now : Interned) (rows : List (List ℕ)) (flags : List Bool) : Type 0 where
  pub same : ◌≡◌ {A = Repository} (record { clauses = table_of now rows; conflicts = R.conflicts }) (flat limit hold R)
  pub held : filter (flag flags) (numbers (length flags) 0) ≡ held_of limit hold R
  pub within : passes limit hold R ≡ None

module _ (R : Repository) (limit : ℕ) (hold : Bool) (i : ℕ) (start now : Interned) (rows : List (List ℕ)) (used : Holders) (waiting : List ℕ) (flags : List Bool)
    (run : RunAt R limit hold i start now rows used waiting flags) where
  abbrev s : Remaining
  s = remaining_after limit hold R i

  abbrev t : List (List (List ℕ))
  t = table_of now rows

  pub run_size : length rows ≡ length R.clauses
  run_size = sym (lists.length-map rows (clauses_at now)) ∙ ap length run.table ∙ table_length R s.left

  pub run_here : (p : ℕ) → p < length rows → length_in (table_of now rows) p ≤ limit
  run_here p l =
      let m : p < length R.clauses = omega (arith, run_size) in
      let c : length_in (table_of now rows) p ≡ row_length R (remaining_after limit hold R i).left p = count_is R s.left t run.table p m in
      let k : row_length R (remaining_after limit hold R i).left p ≤ limit = run.within i (omega arith) p m in
      omega arith

  module _ (q : ℕ) (first : IsFirst (may_go R (remaining_after limit hold R i)) (length_in (table_of now rows)) q) where
    gone : next_gone R s ≡ Some q
    gone = next_is R s t q (left_bound limit hold R i) run.table first

    there_still : s.left q ≡ true
    there_still = (next_gone_is R s q gone).0

    pub first_there : q < length rows
    first_there = let l : q < length R.clauses = left_bound limit hold R i q there_still in omega (arith, run_size)

    gone_table : table_without q t ≡ rows_over R (without s.left q)
    gone_table = ap (table_without q) run.table ∙ table_step_lem R s.left q (left_bound limit hold R i) there_still

    -- what is answered of a step, where it is held and where it is taken out
    pub answer : (b : Bool) → b ≡ (hold && table_passes limit (table_without q t)) → remaining_after limit hold R (i + 1) ≡ cond b (stays_held s q) (goes s q)
    answer b e =
        next_remains R limit hold i (Some q) gone
        ∙ ap (λ c. cond c (stays_held s q) (goes s q))
        (ap (λ c. hold && c) (sym (same_passing limit R (without s.left q))) ∙ ap (λ z. hold && table_passes limit z) (sym gone_table) ∙ sym e)

    next_table : (b : Bool) → cond b t (table_without q t) ≡ rows_over R (cond b (stays_held s q) (goes s q)).left
    next_table true = run.table
    next_table false = gone_table

    next_within : (b : Bool) → (b ≡ false → (p : ℕ) → p < length rows → length_in (table_without q t) p ≤ limit) →
        (p : ℕ) → p < length R.clauses → row_length R (cond b (stays_held s q) (goes s q)).left p ≤ limit
    next_within true f p l = run.within i (omega arith) p l
    next_within false f p l = within_of R limit (without s.left q) (length rows) (table_without q t) gone_table run_size (f refl) p l

    pub run_more : (b : Bool) (new : Interned) (after : List (List ℕ)) (used_after : Holders) (waiting_after : List ℕ) (flags_after : List Bool) →
        b ≡ (hold && table_passes limit (table_without q (table_of now rows))) →
        table_of new after ≡ cond b (table_of now rows) (table_without q (table_of now rows)) → AreReady new after used_after → Kept now new →
        (b ≡ false → (p : ℕ) → p < length rows → length_in (table_without q (table_of now rows)) p ≤ limit) →
        Filed waiting_after (without (may_go R (remaining_after limit hold R i)) q) (length_in (cond b (table_of now rows) (table_without q (table_of now rows)))) →
        flags_after ≡ slice_set flags q b →
        RunAt R limit hold (i + 1) start new after used_after waiting_after flags_after
    run_more b new after used_after waiting_after flags_after e made ready kept within filed set =
        let next : Remaining = cond b (stays_held s q) (goes s q) in
        let is : remaining_after limit hold R (i + 1) ≡ cond b (stays_held (remaining_after limit hold R i) q) (goes (remaining_after limit hold R i) q) = answer b e in
        record {
          table = made ∙ next_table b ∙ ap (λ z. rows_over R z.left) (sym is);
          ready = ready;
          filed = filed_as waiting_after (without (may_go R s) q) (may_go R (remaining_after limit hold R (i + 1)))
              (length_in (cond b t (table_without q t))) (length_in (table_of new after)) filed
              (λ x. may_go_less R s q b x ∙ ap (λ z. may_go R z x) (sym is))
              (λ x h. ap (λ z. length_in z x) (sym made));
          told = subst (λ z. FlagsTell (length R.clauses) z flags_after) (ap (λ z. z.held) (sym is))
              (subst (λ z. FlagsTell (length R.clauses) next.held z) (sym set)
              (flags_next (length R.clauses) s flags q b (left_bound limit hold R i q there_still) (next_gone_is R s q gone).2 run.told));
          within = λ j l. elim (cases_lt j (i + 1)) [
            | inl m ↦ run.within j (omega arith)
            | inr m ↦
                let k : i + 1 ≡ j = omega arith in
                subst (IsWithin R limit hold) k (λ p n. subst (λ z. row_length R z.left p ≤ limit) (sym is) (next_within b within p n))
          ];
          kept = kept_along start now new run.kept kept;
        }

    pub run_passed : (w : Passed) → i < length R.clauses →
        (hold ≡ false) × (passed_by (length_in (table_without q (table_of now rows))) (numbers (length rows) 0) limit (i + 1) ≡ Some w) → passes limit hold R ≡ Some w
    run_passed w l h =
        let stays : false ≡ (hold && table_passes limit (table_without q t)) = ap (λ c. c && table_passes limit (table_without q t)) (sym h.0) in
        let few : i + 1 < suc (length R.clauses) = omega arith in
        let seen : i + 1 < cond hold 1 (suc (length R.clauses)) = subst (λ c. i + 1 < cond c 1 (suc (length R.clauses))) (sym h.0) few in
        passes_at R limit hold (i + 1) (length rows) (table_without q t) w seen (gone_table ∙ ap (λ z. rows_over R z.left) (sym (answer false stays))) run_size
        (λ j m. run.within j (omega arith)) h.1

  run_flat : at_last limit hold R ≡ s → ◌≡◌ {A = Repository} (record { clauses = table_of now rows; conflicts = R.conflicts }) (flat limit hold R)
  unfolding flat
  run_flat e =
      let made : List (List (List ℕ)) → Repository = λ cs. record { clauses = cs; conflicts = R.conflicts } in
      ap made (run.table ∙ ap (λ z. rows_over R z.left) (sym e))

  run_held : at_last limit hold R ≡ s → filter (flag flags) (numbers (length flags) 0) ≡ held_of limit hold R
  unfolding held_of
  run_held e =
      ap (λ n. filter (flag flags) (numbers n 0)) run.told.count
      ∙ filter_same (flag flags) s.held (packages R)
      (λ q j. let w : (0 ≤ q) × (q < 0 + length R.clauses) = numbers_parts (length R.clauses) 0 q j in run.told.same q (omega arith))
      ∙ ap (λ z. filter z.held (packages R)) (sym e)

  pub run_full : i ≡ length R.clauses → HasEnded R limit hold now rows flags
  run_full e =
      let last : at_last limit hold R ≡ s = ap (remaining_after limit hold R) (sym e) in
      record { same = run_flat last; held = run_held last; within = passes_none R limit hold (λ j l. run.within j (omega (arith, e))) }

  pub run_empty : i ≤ length R.clauses → ((q : ℕ) → may_go R (remaining_after limit hold R i) q ≡ false) → HasEnded R limit hold now rows flags
  run_empty l f =
      let stop : next_gone R s ≡ None = next_none R s (left_bound limit hold R i) f in
      let last : at_last limit hold R ≡ s = core_is_reached_lem limit hold R i stop l in
      record {
        same = run_flat last;
        held = run_held last;
        within = passes_none R limit hold (λ j m. elim (cases_lt i j) [
          | inl k ↦
              let same : remaining_after limit hold R j ≡ s = ap (remaining_after limit hold R) (let e : j ≡ (j - i) + i = omega arith in e) ∙ stays_more limit hold R i stop (j - i) in
              λ p n. subst (λ z. row_length R z.left p ≤ limit) (sym same) (run.within i (omega arith) p n)
          | inr k ↦ run.within j k
        ]);
      }

-- what is told of a refusal
pub on_limit : (P Q : Passed → Type 0) → ((w : Passed) → P w → Q w) → (e : FlatError) → OnLimit P e → OnLimit Q e
on_limit P Q f (Limit gone over count) h = f (record { gone = gone; over = over; count = count }) h
on_limit P Q f Memory h = tt

-- a refusal before any package is taken out
pub found_below : (p : ℕ → Bool) (n q : ℕ) → find p (numbers n 0) ≡ Some q → q < n
found_below p n q e = let w : (0 ≤ q) × (q < 0 + n) = numbers_parts n 0 q (find_some p (numbers n 0) q e).0 in omega arith

pub first_passed : (pool : Interned) (book : Book) (rows : List (List ℕ)) (limit : ℕ) (hold : Bool) (q count : ℕ) → IsPool pool → Sound pool book →
    table_of pool rows ≡ tidied_table (map (row_at pool) book.rows) → find (is_over (table_of pool rows) limit) (numbers (length rows) 0) ≡ Some q →
    count ≡ length_in (table_of pool rows) q → passes limit hold (repository_of pool book) ≡ Some (record { gone = 0; over = q; count = count })
first_passed pool book rows limit hold q count is s first found told =
    let R : Repository = repository_of pool book in
    let V : NumSet = (remaining_after limit hold R 0).left in
    let table : table_of pool rows ≡ rows_over (repository_of pool book) (remaining_after limit hold (repository_of pool book) 0).left =
    first ∙ first_stage_is limit hold R (sound_clauses pool book s is) in
    let size : length rows ≡ length (repository_of pool book).clauses =
    sym (lists.length-map rows (clauses_at pool)) ∙ ap length table ∙ table_length R V in
    passes_at R limit hold 0 (length rows) (table_of pool rows) (record { gone = 0; over = q; count = count }) (some_seen hold) table size
    (λ j l. absurd (omega arith))
    (passed_some (table_of pool rows) limit 0 q count (numbers (length rows) 0) found told)
  where
    some_seen : (b : Bool) → 0 < cond b 1 (suc (length (repository_of pool book).clauses))
    some_seen true = omega arith
    some_seen false = omega arith
