-- Closures are local: what they say of the classes that goals reach stands in each repository that these stand in.
use Rattle.std.proofs.Common.{◌≡◌, ℕ, Bool, true, false, not, ◌||◌, cond, List, [], ◌∷◌, ◌⊎◌, inl, inr, get_or, refl, ap, sym, ◌∙◌, subst, map}
use Rattle.std.proofs.{lemmas.Bool.{cases_Bool, or_cases, or_left, or_right, both_ways}, lemmas.List.Elements.{All-contains}}
use Rattle.std.specs.Prelude.{All, Any}
use Rattle.listed.specs.Lists.{In, here, there}
use Rattle.listed.proofs.Lists.{In_at, In_cases, In_none, In_has, has_In, In_map, In_map_cases, all_from, all_at, in_contains, contains_in}
use Rattle.row_book.specs.{Sets.{NumSet}, Repository.{Repository, clauses_of, conflicts_of}}
use Rattle.search_terms.specs.{declared.literals.Literal.{Literal}, Closure.{literal, negation, is_same, forces, IsUnitClosed, InClosure, Clashes}}
use Rattle.search_terms.specs.{Form.{goal_sentence, clause_sentence, form}, Local.{ReachStandsIn}}
use Rattle.search_terms.proofs.{Models.{same-true}, Certificates.{same_refl}, Forms.{IsSentence, sentence_cases, goal_in, clause_in, conflict_in}}
use Rattle.search_terms.proofs.Forms.IsSentence.{of_goal, of_clause, of_conflict}

-- a literal, under another number
abbrev pub moved : (ℕ → ℕ) → Literal → Literal
moved to l = literal (to l.class) l.positive

pub moved_goal : (to : ℕ → ℕ) (g : List ℕ) → map (moved to) (goal_sentence g) ≡ goal_sentence (map to g)
moved_goal to [] = refl
moved_goal to (c ∷ g) = ap (λ z. literal (to c) true ∷ z) (moved_goal to g)

pub moved_clause : (to : ℕ → ℕ) (p : ℕ) (c : List ℕ) → map (moved to) (clause_sentence p c) ≡ clause_sentence (to p) (map to c)
moved_clause to p c = ap (λ z. literal (to p) false ∷ z) (moved_goal to c)

-- the classes of a sentence are in a set
abbrev pub AreIn : NumSet → List Literal → Type 0
AreIn U ls = (l : Literal) → In l ls → U l.class ≡ true

goal_are_in : (U : NumSet) (g : List ℕ) → ((n : ℕ) → In n g → U n ≡ true) → AreIn U (goal_sentence g)
goal_are_in U g h l i = let w = In_map_cases (λ c. literal c true) g l i in subst (λ z. U z.class ≡ true) (sym w.2) (h w.0 w.1)

-- closed sets, by elements
pub closed_from : (F : List (List Literal)) (s : Literal → Bool) → ((x : List Literal) → In x F → (l : Literal) → In l x → forces s l x ≡ true → s l ≡ true) → IsUnitClosed F s
closed_from F s h = record { steps = λ k d lt i e ilt f. h (get_or F k d) (In_at F k d lt) (get_or (get_or F k d) i e) (In_at (get_or F k d) i e ilt) f }

pub closed_at : (F : List (List Literal)) (s : Literal → Bool) → IsUnitClosed F s → (x : List Literal) → In x F → (l : Literal) → In l x → forces s l x ≡ true → s l ≡ true
closed_at F s c x i l j =
    All-contains (λ k. forces s k x ≡ true → s k ≡ true) x l
    (All-contains (λ sentence. All (λ k. forces s k sentence ≡ true → s k ≡ true) sentence) F x c.steps (in_contains F x i))
    (in_contains x l j)

pub all_in : {X : Type 0} (P : X → Type 0) (xs : List X) → ((x : X) → In x xs → P x) → All P xs
all_in P xs h = λ k d lt. h (get_or xs k d) (In_at xs k d lt)

pub in_all : {X : Type 0} (P : X → Type 0) (xs : List X) → All P xs → (x : X) → In x xs → P x
in_all P xs h x i = All-contains P xs x h (in_contains xs x i)

pub any_in : {X : Type 0} (P : X → Type 0) (xs : List X) (x : X) → In x xs → P x → Any P xs
any_in P xs x i h = let c = in_contains xs x i in (c.0, x, c.1, c.2, h)

-- a sentence with a negated class forces nothing else in a set that lacks the class
loose_closed : (s : Literal → Bool) (x : List Literal) (p : ℕ) → In (literal p false) x → s (literal p true) ≡ false → s (literal p false) ≡ true
    → (l : Literal) → forces s l x ≡ true → s l ≡ true
loose_closed s x p i lacks has_other l h = elim (or_cases (is_same (literal p false) l) (s (literal p true)) (all_at (λ m. is_same m l || s (negation m)) x h (literal p false) i)) [
  | inl e ↦ subst (λ z. s z ≡ true) (same-true (literal p false) l e) has_other
  | inr t ↦ absurd (both_ways (s (literal p true)) lacks t)
]

-- the sentence has a negated class that is outside
abbrev pub IsLoose : NumSet → List Literal → Type 0
IsLoose U x = (p : ℕ) × In (literal p false) x × (U p ≡ false)

module _ (R : Repository) (goals : List (List ℕ)) (U : NumSet) (to : ℕ → ℕ) (other : Repository) (is : ReachStandsIn R goals U to other) where
  abbrev here_form : List (List Literal)
  here_form = form R goals

  abbrev there_form : List (List Literal)
  there_form = form other (map (map to) goals)

  -- a sentence is of classes of U, and stands in the other formula; or it has a negated class outside U
  by_sentence : (x : List Literal) → IsSentence R goals x → (AreIn U x × In (map (moved to) x) there_form) ⊎ IsLoose U x
  by_sentence x (of_goal g i e) = inl (
    subst (AreIn U) (sym e) (goal_are_in U g (is.wanted g i)),
    subst (λ z. In z there_form) (sym (ap (map (moved to)) e ∙ moved_goal to g)) (goal_in other (map (map to) goals) (map to g) (In_map (map to) goals g i)),
  )
  by_sentence x (of_clause p c lt i e) = elim (cases_Bool (U p)) [
    | inl u ↦ inl (
      subst (AreIn U) (sym e) (λ l j. elim (In_cases j) [
        | inl same ↦ subst (λ z. U z.class ≡ true) (sym same) u
        | inr k ↦ goal_are_in U c (is.closed p u c i) l k
      ]),
      subst (λ z. In z there_form) (sym (ap (map (moved to)) e ∙ moved_clause to p c))
          (clause_in other (map (map to) goals) (to p) (map to c) (subst (λ z. In (map to c) z) (sym (is.clauses p u)) (In_map (map to) (clauses_of R p) c i))),
    )
    | inr f ↦ inr (p, subst (λ z. In (literal p false) z) (sym e) here, f)
  ]
  by_sentence x (of_conflict p q i e) = elim (cases_Bool (U p)) [
    | inl u ↦ elim (cases_Bool (U q)) [
      | inl v ↦ inl (
        subst (AreIn U) (sym e) (λ l j. elim (In_cases j) [
          | inl same ↦ subst (λ z. U z.class ≡ true) (sym same) u
          | inr k ↦ elim (In_cases k) [
            | inl same ↦ subst (λ z. U z.class ≡ true) (sym same) v
            | inr none ↦ absurd (In_none none)
          ]
        ]),
        subst (λ z. In z there_form) (sym (ap (map (moved to)) e))
            (conflict_in other (map (map to) goals) (to p) (to q) (has_In (conflicts_of other (to p)) (to q) (is.conflicts p q u v ∙ In_has i))),
      )
      | inr f ↦ inr (q, subst (λ z. In (literal q false) z) (sym e) (there here), f)
    ]
    | inr f ↦ inr (p, subst (λ z. In (literal p false) z) (sym e) here, f)
  ]

  pub sentence_fate : (x : List Literal) → In x here_form → (AreIn U x × In (map (moved to) x) there_form) ⊎ IsLoose U x
  sentence_fate x i = by_sentence x (sentence_cases R goals x i)

  -- all negated classes, and the classes of U: this set is closed, and so nothing outside U becomes true
  abbrev reach : Literal → Bool
  reach l = not l.positive || U l.class

  reach_closed : IsUnitClosed here_form reach
  reach_closed = closed_from here_form reach (λ x i l j h. elim (sentence_fate x i) [
    | inl within ↦ or_right (not l.positive) (U l.class) (within.0 l j)
    | inr loose ↦ loose_closed reach x loose.0 loose.1 loose.2 refl l h
  ])

  pub reached : (given : List Literal) → AreIn U given → (c : ℕ) → InClosure here_form given (literal c true) → U c ≡ true
  reached given u c h = h reach (all_in (λ l. reach l ≡ true) given (λ l i. or_right (not l.positive) (U l.class) (u l i))) reach_closed

  -- a set there as a set here: it says the same of the classes of U, and has the others negated
  abbrev pulled : (Literal → Bool) → Literal → Bool
  pulled t l = cond (U l.class) (t (moved to l)) (not l.positive)

  pulled_in : (t : Literal → Bool) (l : Literal) → U l.class ≡ true → pulled t l ≡ t (moved to l)
  pulled_in t l u = ap (λ b. cond b (t (moved to l)) (not l.positive)) u

  pulled_out : (t : Literal → Bool) (l : Literal) → U l.class ≡ false → pulled t l ≡ not l.positive
  pulled_out t l u = ap (λ b. cond b (t (moved to l)) (not l.positive)) u

  forces_there : (t : Literal → Bool) (l : Literal) (x : List Literal) → AreIn U x → forces (pulled t) l x ≡ true → forces t (moved to l) (map (moved to) x) ≡ true
  forces_there t l x u h = all_from (λ m. is_same m (moved to l) || t (negation m)) (map (moved to) x) (λ k i.
      let w = In_map_cases (moved to) x k i in
      subst (λ z. (is_same z (moved to l) || t (negation z)) ≡ true) (sym w.2)
      (elim (or_cases (is_same w.0 l) (pulled t (negation w.0)) (all_at (λ m. is_same m l || pulled t (negation m)) x h w.0 w.1)) [
        | inl e ↦ or_left (is_same (moved to w.0) (moved to l)) (t (negation (moved to w.0))) (subst (λ z. is_same (moved to w.0) (moved to z) ≡ true) (same-true w.0 l e) (same_refl (moved to w.0)))
        | inr f ↦ or_right (is_same (moved to w.0) (moved to l)) (t (negation (moved to w.0))) (sym (pulled_in t (negation w.0) (u w.0 w.1)) ∙ f)
      ]))

  pulled_closed : (t : Literal → Bool) → IsUnitClosed there_form t → IsUnitClosed here_form (pulled t)
  pulled_closed t closed = closed_from here_form (pulled t) (λ x i l j h. elim (sentence_fate x i) [
    | inl within ↦
        pulled_in t l (within.0 l j)
        ∙ closed_at there_form t closed (map (moved to) x) within.1 (moved to l) (In_map (moved to) x l j) (forces_there t l x within.0 h)
    | inr loose ↦ loose_closed (pulled t) x loose.0 loose.1 (pulled_out t (literal loose.0 true) loose.2) (pulled_out t (literal loose.0 false) loose.2) l h
  ])

  pub closure_there : (given : List Literal) → AreIn U given → (l : Literal) → U l.class ≡ true → InClosure here_form given l → InClosure there_form (map (moved to) given) (moved to l)
  closure_there given u l v h = λ t holds closed.
      sym (pulled_in t l v)
      ∙ h (pulled t) (all_in (λ k. pulled t k ≡ true) given (λ k i. pulled_in t k (u k i) ∙ in_all (λ z. t z ≡ true) (map (moved to) given) holds (moved to k) (In_map (moved to) given k i))) (pulled_closed t closed)

  -- of a class with both signs one is positive
  both_in : (given : List Literal) → AreIn U given → (l : Literal) → InClosure here_form given l → InClosure here_form given (negation l) → U l.class ≡ true
  both_in given u l a b = elim (cases_Bool l.positive) [
    | inl t ↦ reached given u l.class (subst (λ z. InClosure here_form given (literal l.class z)) t a)
    | inr f ↦ reached given u l.class (subst (λ z. InClosure here_form given (literal l.class (not z))) f b)
  ]

  pub clash_there : (given : List Literal) → AreIn U given → Clashes here_form given → Clashes there_form (map (moved to) given)
  clash_there given u h = elim h [
    | inl both ↦
        let v : U both.0.class ≡ true = both_in given u both.0 both.1 both.2 in
        inl (moved to both.0, closure_there given u both.0 v both.1, closure_there given u (negation both.0) v both.2)
    | inr some ↦ inr (refuted_there some.1 (contains_in here_form some.1 (some.0, some.2, some.3)) some.4)
  ]
    where
      refuted_there : (x : List Literal) → In x here_form → All (λ m. InClosure here_form given (negation m)) x → Any (λ y. All (λ m. InClosure there_form (map (moved to) given) (negation m)) y) there_form
      refuted_there x i all = elim (sentence_fate x i) [
        | inl within ↦ any_in (λ y. All (λ m. InClosure there_form (map (moved to) given) (negation m)) y) there_form (map (moved to) x) within.1
            (all_in (λ m. InClosure there_form (map (moved to) given) (negation m)) (map (moved to) x) (λ k j.
            let w = In_map_cases (moved to) x k j in
            subst (λ z. InClosure there_form (map (moved to) given) (negation z)) (sym w.2)
            (closure_there given u (negation w.0) (within.0 w.0 w.1) (in_all (λ m. InClosure here_form given (negation m)) x all w.0 w.1))))
        | inr loose ↦ absurd (both_ways (U loose.0) loose.2 (reached given u loose.0 (in_all (λ m. InClosure here_form given (negation m)) x all (literal loose.0 false) loose.1)))
      ]
