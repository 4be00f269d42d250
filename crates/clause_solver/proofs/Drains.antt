-- Looking at all that a mark contradicts, and at all marks.
use Rattle.std.proofs.Common.{◌≡◌, ℕ, zero, suc, ◌+◌, ◌<◌, ◌≤◌, Bool, true, false, not, List, [], ◌∷◌, ◌++◌, ◌⊎◌, length, get_or, drop, ap, sym, ◌∙◌, arith}
use Rattle.std.proofs.{Common.{inl, inr, subst}, lemmas.Bool.{false_from_ne_true}, lemmas.List.{get_or_default}}
use Rattle.std.proofs.lemmas.List.Elements.{All-contains, Contains-append_left, Contains-append_right, Contains-append_cases, Contains-get_or}
use Rattle.std.proofs.{Math.Seq.{drop-cons}, Math.Numerals.{add-one}}
use Rattle.std.specs.Prelude.{All, Contains, map}
use Rattle.listed.proofs.Lists.{contains_in, in_contains, In_cases, In_none}
use Rattle.listed.specs.Lists.{In}
use Rattle.row_book.specs.Book.{listed_for}
use Rattle.search_terms.specs.{declared.literals.Literal.{Literal}, Closure.{literal, negation, IsClosedUnder, IsUnitClosed}, Marks.{flag_place, IsConsistent}}
use Rattle.search_terms.specs.Form.{owned_sentences, conflict_sentence}
use Rattle.search_terms.proofs.{Sets.{Contains-head, Contains-tail}, Forms.{from_map, in_owned_sentences, from_owned_sentences}, Certificates.{negation_twice}}
use Rattle.clause_solver.specs.{Marking.{set_of_trail}, Running.{HasRefuted, Runs, Waits}, Engine.{whole_form, Names, IsTable, IsEngine}}
use Rattle.clause_solver.specs.{declared.table.Use.{Use}, Nodes.{ArePositive}}
use Rattle.clause_solver.proofs.Running.{met_by, runs_longer, waits_grow, waits_after}

pub whole_goals : (goals own : List (List Literal)) (conflicts : List (List ℕ)) (s : List Literal) → Contains goals s → Contains (whole_form goals own conflicts) s
whole_goals goals own conflicts s c = Contains-append_left goals (own ++ owned_sentences conflict_sentence 0 conflicts) s c

pub whole_own : (goals own : List (List Literal)) (conflicts : List (List ℕ)) (s : List Literal) → Contains own s → Contains (whole_form goals own conflicts) s
whole_own goals own conflicts s c = Contains-append_right goals (own ++ owned_sentences conflict_sentence 0 conflicts) s (Contains-append_left own (owned_sentences conflict_sentence 0 conflicts) s c)

pub at_zero : (i : ℕ) → 0 + i ≡ i
at_zero i = omega arith

pub whole_conflicts : (goals own : List (List Literal)) (conflicts : List (List ℕ)) (p : ℕ) (s : List Literal) → Contains (map (conflict_sentence p) (listed_for conflicts p)) s → Contains (whole_form goals own conflicts) s
whole_conflicts goals own conflicts p s c =
    let w = from_map (conflict_sentence p) (listed_for conflicts p) s (contains_in (map (conflict_sentence p) (listed_for conflicts p)) s c) in
    let i : In (conflict_sentence p w.0) (owned_sentences conflict_sentence 0 conflicts) = subst (λ n. In (conflict_sentence n w.0) (owned_sentences conflict_sentence 0 conflicts)) (at_zero p) (in_owned_sentences conflict_sentence 0 conflicts p w.0 w.1) in
    Contains-append_right goals (own ++ owned_sentences conflict_sentence 0 conflicts) s (Contains-append_right own (owned_sentences conflict_sentence 0 conflicts) s
    (subst (λ z. Contains (owned_sentences conflict_sentence 0 conflicts) z) (sym w.2) (in_contains (owned_sentences conflict_sentence 0 conflicts) (conflict_sentence p w.0) i)))

-- a pair of the conflicts
pub record IsPairOf (conflicts : List (List ℕ)) (s : List Literal) : Type 0 where
  pub p : ℕ
  pub q : ℕ
  pub listed : In q (listed_for conflicts p)
  pub is : s ≡ conflict_sentence p q

pub whole_cases : (goals own : List (List Literal)) (conflicts : List (List ℕ)) (s : List Literal) → Contains (whole_form goals own conflicts) s → Contains goals s ⊎ (Contains own s ⊎ IsPairOf conflicts s)
whole_cases goals own conflicts s c = elim (Contains-append_cases goals (own ++ owned_sentences conflict_sentence 0 conflicts) s c) [
  | inl g ↦ inl g
  | inr rest ↦ elim (Contains-append_cases own (owned_sentences conflict_sentence 0 conflicts) s rest) [
    | inl o ↦ inr (inl o)
    | inr k ↦
        let w = from_owned_sentences conflict_sentence 0 conflicts s (contains_in (owned_sentences conflict_sentence 0 conflicts) s k) in
        inr (inr (record { p = w.0; q = w.1; listed = w.3; is = w.4 ∙ ap (λ n. conflict_sentence n w.1) (at_zero w.0) }))
  ]
]

contains_drop : (k : ℕ) (xs : List Literal) (x : Literal) → Contains (drop k xs) x → Contains xs x
contains_drop zero xs x c = c
contains_drop (suc k) [] x c = absurd (omega (arith, c.1))
contains_drop (suc k) (y ∷ xs) x c = Contains-tail y x xs (contains_drop k xs x c)

contains_later : (h k : ℕ) (xs : List Literal) (x : Literal) → h ≤ k → Contains (drop k xs) x → Contains (drop h xs) x
contains_later zero k xs x le c = contains_drop k xs x c
contains_later (suc h) zero xs x le c = absurd (omega arith)
contains_later (suc h) (suc k) [] x le c = c
contains_later (suc h) (suc k) (y ∷ xs) x le c = contains_later h k xs x (omega arith) c

pub waits_later : (h k : ℕ) (trail s : List Literal) → h ≤ k → Waits k trail s → Waits h trail s
waits_later h k trail s le (inl met) = inl met
waits_later h k trail s le (inr p) = inr (p.0, p.1, contains_later h k trail (negation p.0) le p.2)

-- goals that hold the other sign of a mark were looked at
abbrev GoalsWait : List (List Literal) → Literal → List Literal → List Literal → Type 0
GoalsWait goals l old g = (s : List Literal) → Contains goals s → Contains s (negation l) → Waits (length old) g s

-- a positive mark is on no goal
pub no_goal_waits : (goals : List (List Literal)) (l : Literal) (old g : List Literal) → ArePositive goals → l.positive ≡ true → GoalsWait goals l old g
no_goal_waits goals l old g positive sign s c m =
    let other : not l.positive ≡ true = All-contains (λ k. k.positive ≡ true) s (negation l) (All-contains (λ s. All (λ k. k.positive ≡ true) s) goals s positive c) m in
    absurd (cc (other, sign))

pub each_goal_waits : (goals : List (List Literal)) (l : Literal) (old g : List Literal) → All (Waits (length old) g) goals → GoalsWait goals l old g
each_goal_waits goals l old g waits s c m = All-contains (Waits (length old) g) goals s waits c

-- the sentences that hold the other sign of a mark, when goals and clauses were looked at
goals_wait : (goals own : List (List Literal)) (l : Literal) (old g b s : List Literal) → Runs goals old g → GoalsWait goals l old g → Runs own g b → Contains goals s → Contains s (negation l) → Waits (length old) b s
goals_wait goals own l old g b s r waits r' c m = waits_after goals old g b s own r r' (waits s c m)

own_wait : (n : ℕ) (goals own : List (List Literal)) (uses : List (List Use)) (l : Literal) (old g b s : List Literal) (row : List Use) → IsTable n uses own → row ≡ get_or uses (flag_place l) [] → Runs goals old g
    → All (λ u. Waits (length g) b (get_or own u.sentence [])) row → Contains own s → Contains s (negation l) → Waits (length old) b s
own_wait n goals own uses l old g b s row table e r waits c m =
    let is : get_or own c.0 [] ≡ s = sym (get_or_default own c.0 s [] c.1) ∙ c.2 in
    let listed : Names (get_or uses (flag_place (negation (negation l))) []) c.0 = table.listed c.0 (negation l) c.1 (subst (λ z. Contains z (negation l)) (sym is) m) in
    let in_row : Contains row listed.0 = rw e (subst (λ z. Contains (get_or uses (flag_place z) []) listed.0) (negation_twice l) listed.1) in
    let at : get_or own listed.0.sentence [] ≡ s = ap (λ k. get_or own k []) listed.2 ∙ is in
    waits_later (length old) (length g) b s (runs_longer goals old g r) (subst (λ z. Waits (length g) b z) at (All-contains (λ u. Waits (length g) b (get_or own u.sentence [])) row listed.0 waits in_row))

pair_holds : (p q : ℕ) (m : Literal) → Contains (conflict_sentence p q) m → (m ≡ literal p false) ⊎ (m ≡ literal q false)
pair_holds p q m c = elim (In_cases (contains_in (conflict_sentence p q) m c)) [
  | inl e ↦ inl e
  | inr i ↦ elim (In_cases i) [ inl e ↦ inr e | inr none ↦ absurd (In_none none) ]
]

pub mark_negative : (n : ℕ) (goals own : List (List Literal)) (uses : List (List Use)) (conflicts : List (List ℕ)) (l : Literal) (old g b : List Literal) (row : List Use) → IsEngine n goals own uses conflicts → l.positive ≡ false
    → row ≡ get_or uses (flag_place l) [] → Runs goals old g → GoalsWait goals l old g → Runs own g b → All (λ u. Waits (length g) b (get_or own u.sentence [])) row
    → (s : List Literal) → Contains (whole_form goals own conflicts) s → Contains s (negation l) → Waits (length old) b s
mark_negative n goals own uses conflicts l old g b row engine sign e r waits r' waits' s c m = elim (whole_cases goals own conflicts s c) [
  | inl here ↦ goals_wait goals own l old g b s r waits r' here m
  | inr rest ↦ elim rest [
    | inl here ↦ own_wait n goals own uses l old g b s row engine.table e r waits' here m
    | inr pair ↦ absurd (elim (pair_holds pair.p pair.q (negation l) (subst (λ z. Contains z (negation l)) pair.is m)) [
      | inl x ↦ no (ap (λ k. k.positive) x)
      | inr x ↦ no (ap (λ k. k.positive) x)
    ])
  ]
]
  where
    no : not l.positive ≡ false → ⊥
    no h = cc (h, sign)

not_true : (d : List Literal) (q : ℕ) → IsConsistent (set_of_trail d) → set_of_trail d (literal q false) ≡ true → set_of_trail d (negation (literal q false)) ≡ false
not_true d q consistent h = false_from_ne_true (set_of_trail d (literal q true)) (λ t. consistent (literal q true) t h)

pub mark_positive : (n : ℕ) (goals own : List (List Literal)) (uses : List (List Use)) (conflicts : List (List ℕ)) (l : Literal) (old g b d : List Literal) (row : List Use) (others : List ℕ) → IsEngine n goals own uses conflicts
    → row ≡ get_or uses (flag_place l) [] → others ≡ get_or conflicts l.class [] → Runs goals old g → GoalsWait goals l old g → Runs own g b → All (λ u. Waits (length g) b (get_or own u.sentence [])) row
    → Runs (map (conflict_sentence l.class) others) b d → All (λ q. set_of_trail d (literal q false) ≡ true) others
    → (s : List Literal) → Contains (whole_form goals own conflicts) s → Contains s (negation l) → Waits (length old) d s
mark_positive n goals own uses conflicts l old g b d row others engine e f r waits r' waits' r'' excluded s c m = elim (whole_cases goals own conflicts s c) [
  | inl here ↦ grow (goals_wait goals own l old g b s r waits r' here m)
  | inr rest ↦ elim rest [
    | inl here ↦ grow (own_wait n goals own uses l old g b s row engine.table e r waits' here m)
    | inr pair ↦ inl (elim (pair_holds pair.p pair.q (negation l) (subst (λ z. Contains z (negation l)) pair.is m)) [
      | inl x ↦
          let same_class : pair.p ≡ l.class = sym (ap (λ k. k.class) x) in
          rw pair.is (by pair.p pair.q pair.q (second pair.p pair.q) (out pair.q (subst (λ z. In pair.q (listed_for conflicts z)) same_class pair.listed)))
      | inr x ↦
          let same_class : pair.q ≡ l.class = sym (ap (λ k. k.class) x) in
          rw pair.is (by pair.p pair.q pair.p (first pair.p pair.q) (out pair.p (subst (λ z. In pair.p (listed_for conflicts z)) same_class (engine.fit.either_way pair.p pair.q pair.listed))))
    ])
  ]
]
  where
    long : length old ≤ length b
    long = let x = runs_longer goals old g r in let y = runs_longer own g b r' in omega (arith, x, y)

    grow : Waits (length old) b s → Waits (length old) d s
    grow w = rw r''.behind (waits_grow (length old) b r''.more s long w)

    out : (q : ℕ) → In q (listed_for conflicts l.class) → set_of_trail d (literal q false) ≡ true
    out q i = All-contains (λ z. set_of_trail d (literal z false) ≡ true) others q excluded (rw f (in_contains (listed_for conflicts l.class) q i))

    first : (p q : ℕ) → Contains (conflict_sentence p q) (literal p false)
    first p q = Contains-head (literal p false) (literal q false ∷ [])

    second : (p q : ℕ) → Contains (conflict_sentence p q) (literal q false)
    second p q = Contains-tail (literal p false) (literal q false) (literal q false ∷ []) (Contains-head (literal q false) [])

    by : (p q x : ℕ) → Contains (conflict_sentence p q) (literal x false) → set_of_trail d (literal x false) ≡ true → IsClosedUnder (set_of_trail d) (conflict_sentence p q)
    by p q x here t = met_by (set_of_trail d) (conflict_sentence p q) (literal x false) here t (not_true d x r''.consistent t)

pub item_from : {X : Type 0} (xs : List X) (i j : ℕ) (d x y : X) → i < length xs → i ≡ j → x ≡ y → y ≡ get_or xs i y → x ≡ get_or xs j d
item_from xs i j d x y lt e f h = subst (λ k. x ≡ get_or xs k d) e (f ∙ h ∙ get_or_default xs i y d lt)

pub refuted_more : (P Q : List (List Literal)) (set : Literal → Bool) → ((s : List Literal) → Contains P s → Contains Q s) → HasRefuted P set → HasRefuted Q set
refuted_more P Q set sub r = (r.0, sub r.0 r.1, r.2)

-- one mark of those looked at in turn
pub drain_step : (F : List (List Literal)) (cur new : List Literal) (next : ℕ) (l : Literal) → next < length cur → l ≡ get_or cur next l → Runs F cur new
    → All (Waits next cur) F → ((s : List Literal) → Contains F s → Contains s (negation l) → Waits (length cur) new s) → All (Waits (next + 1) new) F
drain_step F cur new next l lt at r waits done = λ k d klt. one (get_or F k d) (Contains-get_or F k d klt) (waits k d klt)
  where
    cut : drop next cur ≡ l ∷ drop (next + 1) cur
    cut = rw add-one (drop-cons cur next l lt ∙ ap (λ x. x ∷ drop (suc next) cur) (sym at))

    later : (s : List Literal) → Waits (next + 1) cur s → Waits (next + 1) new s
    later s w = rw r.behind (waits_grow (next + 1) cur r.more s (omega arith) w)

    one : (s : List Literal) → Contains F s → Waits next cur s → Waits (next + 1) new s
    one s here (inl met) = later s (inl met)
    one s here (inr p) = elim (In_cases (subst (λ z. In (negation p.0) z) cut (contains_in (drop next cur) (negation p.0) p.2))) [
      | inl e ↦ waits_later (next + 1) (length cur) new s (omega arith) (done s here (subst (λ z. Contains s z) (sym (negation_twice p.0) ∙ ap negation e) p.1))
      | inr i ↦ later s (inr (p.0, p.1, in_contains (drop (next + 1) cur) (negation p.0) i))
    ]

pub drained : (F : List (List Literal)) (trail : List Literal) (next : ℕ) → length trail ≤ next → All (Waits next trail) F → IsUnitClosed F (set_of_trail trail)
drained F trail next le waits = record { steps = λ k d lt. one (get_or F k d) (waits k d lt) }
  where
    nothing : (h : ℕ) (xs : List Literal) (x : Literal) → length xs ≤ h → Contains (drop h xs) x → ⊥
    nothing zero [] x l c = omega (arith, c.1)
    nothing zero (y ∷ xs) x l c = omega arith
    nothing (suc h) [] x l c = omega (arith, c.1)
    nothing (suc h) (y ∷ xs) x l c = nothing h xs x (omega arith) c

    one : (s : List Literal) → Waits next trail s → IsClosedUnder (set_of_trail trail) s
    one s (inl met) = met
    one s (inr p) = absurd (nothing next trail (negation p.0) le p.2)

pub read_at : (cur xs : List Literal) (next : ℕ) (d : Literal) → xs ≡ cur → next < length cur → get_or xs next d ≡ get_or cur next (get_or xs next d)
read_at cur xs next d e lt = ap (λ z. get_or z next d) e ∙ get_or_default cur next d (get_or xs next d) lt
