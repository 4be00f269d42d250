-- The stages of elimination: their tables, their end, and what is left.
use Rattle.std.proofs.Common.{◌≡◌, ℕ, zero, suc, ◌<◌, ◌≤◌, ◌+◌, ◌-◌, Bool, true, false, not, ◌&&◌, ◌||◌, eqb, ltb, cond, List, [], ◌∷◌, length, ◌⊎◌, inl, inr}
use Rattle.std.proofs.Common.{refl, sym, ◌∙◌, ap, ap₂, subst, arith, filter, Option, Some, None, zero-le}
use Rattle.std.proofs.lemmas.Bool.{both_ways, cases_Bool, false_from_ne_true, true_from_ne_false, lt-ltb, ltb-true}
use Rattle.std.specs.{List.{find, list_any}, Option.{option_map}}
use Rattle.listed.specs.Lists.{In, here, there}
use Rattle.row_book.specs.{Sets.{NumSet, plus, without}, Repository.{Repository, clauses_of}, Numbers.{numbers}, Support.{row}}
use Rattle.row_book.specs.Sound.{OfPackages, SoundClauses}
use Rattle.row_book.specs.Flattening.{all_packages, at_last, core_of, first_some, flat, gone_or_held, has_conflict, is_held, may_go, next_gone, none_gone}
use Rattle.row_book.specs.Flattening.{packages, Passed, passed_at, passed_by, passes, passes_over, remaining_after, row_length, rows_over, sooner, is_soonest}
use Rattle.row_book.specs.Flattening.{Remaining}
use Rattle.clause_pool.specs.Clauses.{apart_from, minimal_of, in_row_order}
use Rattle.clause_flatten.specs.Substitution.{choice_in, first_table, length_in, next_stage, passes_by_stages, stage_after, stage_holding, table_passes, Stage}
use Rattle.clause_flatten.specs.FlatLaws.{CoreIsReached, CoreStays, FlatByStages, PassesByStages, StagesRun, WithoutHold, left_after, less_one, none_held}
use Rattle.row_book.proofs.{Sets.{plus_cases, plus_new, plus_old, without_from, without_parts}, Numbers.{map_same, numbers_from, numbers_parts}}
use Rattle.listed.proofs.Lists.{In_cases, In_none, all_same, filter_cases, filter_from, find_same}
use Rattle.clause_pool.proofs.Order.{ordered_order}
use Rattle.clause_flatten.proofs.{Kept.{first_rows_lem}, Tables.{row_is_one_lem, row_ordered, table_at, table_length, table_step_lem}, Choice.{soonest_none}}
use Rattle.clause_flatten.proofs.Flat.{goes, may_go_from, may_go_parts, next_gone_is, stays_held}

-- the bounds of what is left
step_bound : (limit : ℕ) (hold : Bool) (R : Repository) (s : Remaining) (o : Option ℕ) → OfPackages R s.left → OfPackages R (gone_or_held limit hold R s o).left
step_bound limit hold R s None b = b
step_bound limit hold R s (Some q) b = pick (hold && passes_over limit R (without s.left q))
  where
    pick : (c : Bool) → OfPackages R (cond c (stays_held s q) (goes s q)).left
    pick true = b
    pick false = λ n h. b n (without_parts s.left q n h).0

pub left_bound : (limit : ℕ) (hold : Bool) (R : Repository) (i : ℕ) → OfPackages R (remaining_after limit hold R i).left
unfolding remaining_after
left_bound limit hold R zero = λ n h. ltb-true n (length R.clauses) h
left_bound limit hold R (suc i) = step_bound limit hold R (remaining_after limit hold R i) (next_gone R (remaining_after limit hold R i)) (left_bound limit hold R i)

-- a table of the rows chooses the same package
same_length : (R : Repository) (V : NumSet) (q : ℕ) → In q (packages R) → length_in (rows_over R V) q ≡ row_length R V q
same_length R V q i = ap length (table_at R V q (let w : (0 ≤ q) × (q < 0 + length R.clauses) = numbers_parts (length R.clauses) 0 q i in omega arith))

same_choice : (R : Repository) (s : Remaining) → choice_in R (record { remaining = s; table = rows_over R s.left }) ≡ next_gone R s
unfolding choice_in next_gone
same_choice R s =
    let V : NumSet = s.left in
    let t : List (List (List ℕ)) = rows_over R s.left in
    find_same (is_soonest (length_in t) (may_go R s) (packages R)) (is_soonest (row_length R V) (may_go R s) (packages R)) (packages R)
    (λ q i. ap (λ b. may_go R s q && b)
    (all_same (λ r. not (may_go R s r && sooner (length_in t) r q)) (λ r. not (may_go R s r && sooner (row_length R V) r q)) (packages R)
    (λ r j. ap₂ (λ a b. not (may_go R s r && (ltb a b || (eqb a b && ltb r q)))) (same_length R V r j) (same_length R V q i))))

-- and it passes the limit where they do
any_same : (f g : ℕ → Bool) (xs : List ℕ) → ((x : ℕ) → In x xs → f x ≡ g x) → list_any f xs ≡ list_any g xs
any_same f g [] e = refl
any_same f g (x ∷ xs) e = ap₂ (λ a b. a || b) (e x here) (any_same f g xs (λ y i. e y (there i)))

pub same_passing : (limit : ℕ) (R : Repository) (V : NumSet) → table_passes limit (rows_over R V) ≡ passes_over limit R V
unfolding table_passes passes_over
same_passing limit R V =
    ap (λ n. list_any (λ p. ltb limit (length_in (rows_over R V) p)) (numbers n 0)) (table_length R V)
    ∙ any_same (λ p. ltb limit (length_in (rows_over R V) p)) (λ p. ltb limit (row_length R V p)) (packages R) (λ p i. ap (ltb limit) (same_length R V p i))

first_stage : (R : Repository) → SoundClauses R → first_table R ≡ rows_over R (all_packages R)
unfolding first_table rows_over
first_stage R sound =
    let bound : OfPackages R (all_packages R) = λ n h. ltb-true n (length R.clauses) h in
    map_same (λ p. in_row_order (minimal_of (apart_from p (clauses_of R p)))) (row R (all_packages R)) (packages R)
    (λ p i. row_is_one_lem R (all_packages R) p (in_row_order (minimal_of (apart_from p (clauses_of R p)))) bound
    (row_ordered R (all_packages R) p (minimal_of (apart_from p (clauses_of R p))) (first_rows_lem R p sound))
    (ordered_order (minimal_of (apart_from p (clauses_of R p)))))

abbrev stage_over : Repository → Remaining → Stage
stage_over R s = record { remaining = s; table = rows_over R s.left }

stage_step : (limit : ℕ) (hold : Bool) (R : Repository) (s : Remaining) → OfPackages R s.left → (o : Option ℕ) → next_gone R s ≡ o →
    next_stage limit hold (stage_over R s) o ≡ stage_over R (gone_or_held limit hold R s o)
stage_step limit hold R s bound None e = refl
stage_step limit hold R s bound (Some q) e =
    ap made (table_step_lem R s.left q bound (next_gone_is R s q e).0)
    ∙ ap (λ b. cond (hold && b) (stage_holding (stage_over R s) q) (stage_over R (goes s q))) (same_passing limit R (without s.left q))
    ∙ pick (hold && passes_over limit R (without s.left q))
  where
    made : List (List (List ℕ)) → Stage
    made t = cond (hold && table_passes limit t) (stage_holding (stage_over R s) q) (record { remaining = goes s q; table = t })

    pick : (b : Bool) → cond b (stage_holding (stage_over R s) q) (stage_over R (goes s q)) ≡ stage_over R (cond b (stays_held s q) (goes s q))
    pick true = refl
    pick false = refl

pub stages_run_lem : StagesRun
unfolding stage_after remaining_after
stages_run_lem limit hold R sound zero = ap (λ t. record { remaining = none_gone R; table = t }) (first_stage R sound)
stages_run_lem limit hold R sound (suc i) =
    let s : Remaining = remaining_after limit hold R i in
    ap (λ z. next_stage limit hold z (choice_in R z)) (stages_run_lem limit hold R sound i)
    ∙ ap (next_stage limit hold (stage_over R s)) (same_choice R s)
    ∙ stage_step limit hold R s (left_bound limit hold R i) (next_gone R s) refl

-- the flattened repository by the table of the last stage
pub flat_by_stages_lem : FlatByStages
unfolding flat
flat_by_stages_lem limit hold R sound =
    ap (λ s. record { clauses = s.table; conflicts = R.conflicts }) (sym (stages_run_lem limit hold R sound (length R.clauses)))

-- equal counts pass the limit at one place
pub passed_same : (f g : ℕ → ℕ) (limit i : ℕ) (ps : List ℕ) → ((p : ℕ) → In p ps → f p ≡ g p) → passed_by f ps limit i ≡ passed_by g ps limit i
passed_same f g limit i [] e = refl
passed_same f g limit i (p ∷ ps) e =
    pick (ltb limit (f p)) (passed_same f g limit i ps (λ q j. e q (there j))) ∙ ap (λ b. option_map (made g) (cond b (Some p) (find (λ p. ltb limit (g p)) ps))) (ap (ltb limit) (e p here))
  where
    made : (ℕ → ℕ) → ℕ → Passed
    made h q = record { gone = i; over = q; count = h q }

    pick : (b : Bool) → passed_by f ps limit i ≡ passed_by g ps limit i → option_map (made f) (cond b (Some p) (find (λ p. ltb limit (f p)) ps)) ≡ option_map (made g) (cond b (Some p) (find (λ p. ltb limit (g p)) ps))
    pick true h = ap (λ n. Some (record { gone = i; over = p; count = n })) (e p here)
    pick false h = h

pub passes_by_stages_lem : PassesByStages
unfolding passes passes_by_stages
passes_by_stages_lem limit hold R sound =
    ap first_some (map_same (passed_at limit hold R) (λ i. passed_by (length_in (stage_after limit hold R i).table) (packages R) limit i)
    (numbers (cond hold 1 (suc (length R.clauses))) 0)
    (λ i j. sym (ap (λ s. passed_by (length_in s.table) (packages R) limit i) (stages_run_lem limit hold R sound i)
    ∙ passed_same (length_in (rows_over R (remaining_after limit hold R i).left)) (row_length R (remaining_after limit hold R i).left) limit i (packages R)
    (same_length R (remaining_after limit hold R i).left))))

-- where no package is taken out the stages stay
pub stays_more : (limit : ℕ) (hold : Bool) (R : Repository) (i : ℕ) → next_gone R (remaining_after limit hold R i) ≡ None → (n : ℕ) →
    remaining_after limit hold R (n + i) ≡ remaining_after limit hold R i
unfolding remaining_after
stays_more limit hold R i e zero = ap (remaining_after limit hold R) (omega arith)
stays_more limit hold R i e (suc n) =
    let h : remaining_after limit hold R (n + i) ≡ remaining_after limit hold R i = stays_more limit hold R i e n in
    ap (remaining_after limit hold R) (let k : suc n + i ≡ suc (n + i) = omega arith in k)
    ∙ ap (λ s. gone_or_held limit hold R s (next_gone R s)) h
    ∙ ap (gone_or_held limit hold R (remaining_after limit hold R i)) e

pub core_is_reached_lem : CoreIsReached
core_is_reached_lem limit hold R i e l =
    ap (remaining_after limit hold R) (let k : length R.clauses ≡ (length R.clauses - i) + i = omega arith in k)
    ∙ stays_more limit hold R i e (length R.clauses - i)

-- without hold none is held
pub without_hold_lem : WithoutHold
unfolding remaining_after left_after
without_hold_lem limit R zero = refl
without_hold_lem limit R (suc i) =
    ap (λ s. gone_or_held limit false R s (next_gone R s)) (without_hold_lem limit R i)
    ∙ less (left_after R i) (next_gone R (none_held (left_after R i)))
  where
    less : (V : NumSet) (o : Option ℕ) → gone_or_held limit false R (none_held V) o ≡ none_held (less_one V o)
    less V None = refl
    less V (Some q) = refl

-- how many may still be chosen
choices : Repository → Remaining → List ℕ
choices R s = filter (may_go R s) (packages R)

fewer_pass : (f g : ℕ → Bool) (xs : List ℕ) → ((x : ℕ) → f x ≡ true → g x ≡ true) → length (filter f xs) ≤ length (filter g xs)
fewer_pass f g [] h = omega arith
fewer_pass f g (x ∷ xs) h = pick (f x) (g x) refl refl (fewer_pass f g xs h)
  where
    pick : (a b : Bool) → f x ≡ a → g x ≡ b → length (filter f xs) ≤ length (filter g xs) → length (cond a (x ∷ filter f xs) (filter f xs)) ≤ length (cond b (x ∷ filter g xs) (filter g xs))
    pick true true u v l = omega arith
    pick true false u v l = absurd (both_ways (g x) v (h x u))
    pick false true u v l = omega arith
    pick false false u v l = l

one_fewer : (f g : ℕ → Bool) (xs : List ℕ) (q : ℕ) → In q xs → f q ≡ false → g q ≡ true → ((x : ℕ) → f x ≡ true → g x ≡ true) → length (filter f xs) < length (filter g xs)
one_fewer f g [] q i a b h = absurd (In_none i)
one_fewer f g (x ∷ xs) q i a b h = pick (f x) (g x) refl refl (In_cases i) (fewer_pass f g xs h) (λ j. one_fewer f g xs q j a b h)
  where
    pick : (s t : Bool) → f x ≡ s → g x ≡ t → (q ≡ x) ⊎ In q xs → length (filter f xs) ≤ length (filter g xs) → (In q xs → length (filter f xs) < length (filter g xs)) →
        length (cond s (x ∷ filter f xs) (filter f xs)) < length (cond t (x ∷ filter g xs) (filter g xs))
    pick true true u v (inl e) l r = absurd (both_ways (f x) (subst (λ z. f z ≡ false) e a) u)
    pick true true u v (inr j) l r = let k : length (filter f xs) < length (filter g xs) = r j in omega arith
    pick true false u v d l r = absurd (both_ways (g x) v (h x u))
    pick false true u v d l r = omega arith
    pick false false u v (inl e) l r = absurd (both_ways (g x) v (subst (λ z. g z ≡ true) e b))
    pick false false u v (inr j) l r = r j

none_left : (R : Repository) (s : Remaining) → next_gone R s ≡ None → (q : ℕ) → In q (choices R s) → ⊥
unfolding choices next_gone
none_left R s e q i =
    let w : In q (packages R) × (may_go R s q ≡ true) = filter_cases (may_go R s) (packages R) q i in
    soonest_none (row_length R s.left) (may_go R s) (packages R) e q w.0 w.1

-- a package that was taken out or held may go no more, and the others that may go then could before
pub record Settles (R : Repository) (s : Remaining) (q : ℕ) (t : Remaining) : Type 0 where
  pub done : may_go R t q ≡ false
  pub others : (x : ℕ) → may_go R t x ≡ true → may_go R s x ≡ true

held_settles : (R : Repository) (s : Remaining) (q : ℕ) → Settles R s q (stays_held s q)
held_settles R s q = record {
  done = false_from_ne_true (may_go R (stays_held s q) q) (λ t. both_ways (plus s.held q q) (may_go_parts R (stays_held s q) q t).2 (plus_new s.held q q refl));
  others = λ x t.
      let w : (s.left x ≡ true) × (has_conflict R x ≡ false) × (plus s.held q x ≡ false) = may_go_parts R (stays_held s q) x t in
      may_go_from R s x w.0 w.1 (false_from_ne_true (s.held x) (λ h. both_ways (plus s.held q x) w.2 (plus_old s.held q x h)));
}

gone_settles : (R : Repository) (s : Remaining) (q : ℕ) → Settles R s q (goes s q)
gone_settles R s q = record {
  done = false_from_ne_true (may_go R (goes s q) q) (λ t. (without_parts s.left q q (may_go_parts R (goes s q) q t).0).1 refl);
  others = λ x t.
      let w : (without s.left q x ≡ true) × (has_conflict R x ≡ false) × (s.held x ≡ false) = may_go_parts R (goes s q) x t in
      may_go_from R s x (without_parts s.left q x w.0).0 w.1 w.2;
}

choices_less : (limit : ℕ) (hold : Bool) (R : Repository) (s : Remaining) → OfPackages R s.left → (o : Option ℕ) → next_gone R s ≡ o → (n : ℕ) →
    ((length (choices R s) ≤ suc n) ⊎ (next_gone R s ≡ None)) →
    (length (choices R (gone_or_held limit hold R s o)) ≤ n) ⊎ (next_gone R (gone_or_held limit hold R s o) ≡ None)
unfolding choices
choices_less limit hold R s bound None e n h = inr e
choices_less limit hold R s bound (Some q) e n (inr k) = absurd (let f : ⊥ = cc in f)
choices_less limit hold R s bound (Some q) e n (inl l) =
    let t : Remaining = gone_or_held limit hold R s (Some q) in
    let w : (s.left q ≡ true) × (has_conflict R q ≡ false) × (s.held q ≡ false) = next_gone_is R s q e in
    let settles : Settles R s q (gone_or_held limit hold R s (Some q)) = pick (hold && passes_over limit R (without s.left q)) in
    let k : length (choices R (gone_or_held limit hold R s (Some q))) < length (choices R s) =
    one_fewer (may_go R t) (may_go R s) (packages R) q
    (numbers_from (length R.clauses) 0 q zero-le (let m : q < length R.clauses = bound q w.0 in omega arith))
    settles.done (may_go_from R s q w.0 w.1 w.2) settles.others in
    inl (omega arith)
  where
    pick : (b : Bool) → Settles R s q (cond b (stays_held s q) (goes s q))
    pick true = held_settles R s q
    pick false = gone_settles R s q

length_filter_le : (f : ℕ → Bool) (n k : ℕ) → length (filter f (numbers n k)) ≤ n
unfolding numbers
length_filter_le f zero k = omega arith
length_filter_le f (suc n) k = pick (f k) (length_filter_le f n (suc k))
  where
    pick : (b : Bool) → length (filter f (numbers n (suc k))) ≤ n → length (cond b (k ∷ filter f (numbers n (suc k))) (filter f (numbers n (suc k)))) ≤ suc n
    pick true l = omega arith
    pick false l = omega arith

few_left : (limit : ℕ) (hold : Bool) (R : Repository) (i n : ℕ) → i + n ≡ length R.clauses →
    (length (choices R (remaining_after limit hold R i)) ≤ n) ⊎ (next_gone R (remaining_after limit hold R i) ≡ None)
unfolding remaining_after choices
few_left limit hold R zero n e =
    let l : length (filter (may_go R (none_gone R)) (packages R)) ≤ length R.clauses = length_filter_le (may_go R (none_gone R)) (length R.clauses) 0 in
    inl (omega (arith, e))
few_left limit hold R (suc i) n e =
    choices_less limit hold R (remaining_after limit hold R i) (left_bound limit hold R i) (next_gone R (remaining_after limit hold R i)) refl n
    (few_left limit hold R i (suc n) (omega (arith, e)))

empty_has_none : {A : Type 0} (xs : List A) (x : A) → length xs ≤ 0 → In x xs → ⊥
empty_has_none [] x l i = In_none i
empty_has_none (y ∷ ys) x l i = absurd (omega arith)

-- at last each package that is left has a conflict or is held
core_settled : (limit : ℕ) (hold : Bool) (R : Repository) (q : ℕ) → core_of limit hold R q ≡ true → may_go R (at_last limit hold R) q ≡ true → ⊥
unfolding choices
core_settled limit hold R q c m =
    let s : Remaining = at_last limit hold R in
    let i : In q (choices R (at_last limit hold R)) =
    filter_from (may_go R s) (packages R) q
    (numbers_from (length R.clauses) 0 q zero-le (let l : q < length R.clauses = left_bound limit hold R (length R.clauses) q c in omega arith)) m in
    elim (few_left limit hold R (length R.clauses) 0 (omega arith)) [
      | inl l ↦ empty_has_none (choices R (at_last limit hold R)) q l i
      | inr e ↦ none_left R (at_last limit hold R) e q i
    ]

core_parts : (limit : ℕ) (hold : Bool) (R : Repository) (q : ℕ) → core_of limit hold R q ≡ true → (has_conflict R q ≡ true) ⊎ (is_held limit hold R q ≡ true)
core_parts limit hold R q c =
    elim (cases_Bool (has_conflict R q)) [
      | inl t ↦ inl t
      | inr f ↦ inr (true_from_ne_false (is_held limit hold R q) (λ h. core_settled limit hold R q c (may_go_from R (at_last limit hold R) q c f h)))
    ]

-- what cannot be chosen stays
unchosen_stays : (limit : ℕ) (hold : Bool) (R : Repository) (s : Remaining) (q : ℕ) → s.left q ≡ true → (o : Option ℕ) → (o ≡ Some q → ⊥) →
    (gone_or_held limit hold R s o).left q ≡ true
unchosen_stays limit hold R s q v None f = v
unchosen_stays limit hold R s q v (Some r) f = pick (hold && passes_over limit R (without s.left r))
  where
    pick : (b : Bool) → (cond b (stays_held s r) (goes s r)).left q ≡ true
    pick true = v
    pick false = without_from s.left r q v (λ e. f (ap (λ z. Some z) (sym e)))

conflicted_left : (limit : ℕ) (hold : Bool) (R : Repository) (q : ℕ) → q < length R.clauses → has_conflict R q ≡ true → (i : ℕ) → (remaining_after limit hold R i).left q ≡ true
unfolding remaining_after
conflicted_left limit hold R q l h zero = lt-ltb q (length R.clauses) l
conflicted_left limit hold R q l h (suc i) =
    let s : Remaining = remaining_after limit hold R i in
    unchosen_stays limit hold R s q (conflicted_left limit hold R q l h i) (next_gone R s) (λ e. both_ways (has_conflict R q) (next_gone_is R s q e).1 h)

-- and a held package stays where it is left
held_step : (limit : ℕ) (hold : Bool) (R : Repository) (s : Remaining) → ((q : ℕ) → s.held q ≡ true → s.left q ≡ true) → (o : Option ℕ) → next_gone R s ≡ o →
    (q : ℕ) → (gone_or_held limit hold R s o).held q ≡ true → (gone_or_held limit hold R s o).left q ≡ true
held_step limit hold R s f None e q h = f q h
held_step limit hold R s f (Some r) e q h = pick (hold && passes_over limit R (without s.left r)) h
  where
    pick : (b : Bool) → (cond b (stays_held s r) (goes s r)).held q ≡ true → (cond b (stays_held s r) (goes s r)).left q ≡ true
    pick true k = elim (plus_cases s.held r q k) [ inl u ↦ f q u | inr u ↦ subst (λ z. s.left z ≡ true) (sym u) (next_gone_is R s r e).0 ]
    pick false k = without_from s.left r q (f q k) (λ u. both_ways (s.held r) (next_gone_is R s r e).2 (subst (λ z. s.held z ≡ true) u k))

pub held_left : (limit : ℕ) (hold : Bool) (R : Repository) (i q : ℕ) → (remaining_after limit hold R i).held q ≡ true → (remaining_after limit hold R i).left q ≡ true
unfolding remaining_after
held_left limit hold R zero q h = absurd (both_ways false refl h)
held_left limit hold R (suc i) q h =
    held_step limit hold R (remaining_after limit hold R i) (held_left limit hold R i) (next_gone R (remaining_after limit hold R i)) refl q h

pub core_stays_lem : CoreStays
core_stays_lem limit hold R q = (
  (λ c. (left_bound limit hold R (length R.clauses) q c, core_parts limit hold R q c)),
  (λ h. elim h.1 [
    | inl c ↦ conflicted_left limit hold R q h.0 c (length R.clauses)
    | inr k ↦ held_left limit hold R (length R.clauses) q k
  ]),
)
