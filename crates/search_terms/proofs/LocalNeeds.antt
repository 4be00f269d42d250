-- Needs are local: the first open need of a calm closure, and its least undecided member, are the same there.
use Rattle.std.proofs.Common.{◌≡◌, ℕ, zero, suc, ◌+◌, ◌<◌, Bool, true, false, not, ◌&&◌, cond, List, [], ◌∷◌, ◌++◌, inl, inr, length, refl, ap, ap₂, sym, ◌∙◌}
use Rattle.std.proofs.{Common.{subst, map, filter, flat_map, arith, Some, None, Option, zero-le}, lemmas.Bool.{cases_Bool, both_ways, false_from_ne_true}}
use Rattle.std.proofs.{lemmas.List.{ext_get_or, map-append}, lemmas.List.Folds.{find-append, list_any-from_Any}}
use Rattle.std.specs.{List.{find}, Option.{option_map, option_or}}
use Rattle.listed.specs.Lists.{In, here, there, Ascending}
use Rattle.listed.proofs.{Bools.{same_bool}, Lists.{In_cases, In_map, In_map_cases, In_flat_cases, all_at, find_not, filter_from, filter_cases}}
use Rattle.listed.proofs.Orders.{ascending_same, ascending_filter}
use Rattle.row_book.specs.{Sets.{NumSet}, Numbers.{numbers}, Repository.{Repository, clauses_of}}
use Rattle.row_book.proofs.Numbers.{at_numbers, length_numbers, numbers_from, numbers_ascending}
use Rattle.search_terms.specs.{declared.literals.Literal.{Literal}, Closure.{literal, negation, is_refuted, InClosure, IsClosure, Clashes}}
use Rattle.search_terms.specs.{Form.{goal_sentence, clause_sentence, conflict_sentence, owned_sentences, form}, Tree.{is_open_need, is_undecided}}
use Rattle.search_terms.specs.Local.{ReachStandsIn}
use Rattle.search_terms.proofs.{Least.{clash_from}, Forms.{from_owned_sentences, in_right}}
use Rattle.search_terms.proofs.LocalClosures.{moved, moved_goal, moved_clause, AreIn, any_in, closure_there, clash_there, reached, sentence_fate}
use Rattle.search_terms.proofs.LocalReturns.{back, image, image_from, image_parts, returns, goals_back, literal_back, sentence_back, in_image}

-- what is found among items that are mapped
pub find_moved : {A B : Type 0} (p : A → Bool) (q : B → Bool) (f : A → B) (xs : List A) → ((x : A) → In x xs → q (f x) ≡ p x) → find q (map f xs) ≡ option_map f (find p xs)
find_moved p q f [] h = refl
find_moved p q f (x ∷ xs) h = elim (cases_Bool (p x)) [
  | inl t ↦ rw (h x here, t) refl
  | inr n ↦ rw (h x here, n) (find_moved p q f xs (λ y i. h y (there i)))
]

or_moved : {A B : Type 0} (f : A → B) (a b : Option A) → option_or (option_map f a) (option_map f b) ≡ option_map f (option_or a b)
or_moved f None b = refl
or_moved f (Some x) b = refl

-- numbers of which nothing is found may be left out
find_skips : {A : Type 0} (p : A → Bool) (g : ℕ → List A) (V : NumSet) (n k : ℕ) → ((i : ℕ) → V i ≡ false → find p (g i) ≡ None)
    → find p (flat_map g (numbers n k)) ≡ find p (flat_map g (filter V (numbers n k)))
unfolding numbers
find_skips p g V zero k h = refl
find_skips p g V (suc n) k h = elim (cases_Bool (V k)) [
  | inl t ↦ rw t (
      find-append p (g k) (flat_map g (numbers n (suc k))) ∙ ap (option_or (find p (g k))) (find_skips p g V n (suc k) h)
      ∙ sym (find-append p (g k) (flat_map g (filter V (numbers n (suc k))))))
  | inr f ↦ rw f (
      find-append p (g k) (flat_map g (numbers n (suc k))) ∙ ap (λ o. option_or o (find p (flat_map g (numbers n (suc k))))) (h k f)
      ∙ find_skips p g V n (suc k) h)
]

flat_moved : {A B : Type 0} (g : ℕ → List A) (h : ℕ → List B) (f : A → B) (to : ℕ → ℕ) (xs : List ℕ) → ((i : ℕ) → In i xs → h (to i) ≡ map f (g i)) → flat_map h (map to xs) ≡ map f (flat_map g xs)
flat_moved g h f to [] e = refl
flat_moved g h f to (x ∷ xs) e = ap₂ (λ a b. a ++ b) (e x here) (flat_moved g h f to xs (λ i j. e i (there j))) ∙ sym (map-append f (g x) (flat_map g xs))

-- the sentences of a class
abbrev own : Repository → ℕ → List (List Literal)
own R p = map (clause_sentence p) (clauses_of R p)

owned_flat : {X : Type 0} (f : ℕ → X → List Literal) (g : ℕ → List X) (n k : ℕ) → owned_sentences f k (map g (numbers n k)) ≡ flat_map (λ i. map (f i) (g i)) (numbers n k)
unfolding numbers
owned_flat f g zero k = refl
owned_flat f g (suc n) k = ap (λ z. map (f k) (g k) ++ z) (owned_flat f g n (suc k))

by_numbers : (R : Repository) → R.clauses ≡ map (clauses_of R) (numbers (length R.clauses) 0)
by_numbers R = ext_get_or [] R.clauses (map (clauses_of R) (numbers (length R.clauses) 0)) (sym (length_numbers (clauses_of R) (length R.clauses) 0))
    (λ i lt. sym (at_numbers (clauses_of R) [] (length R.clauses) 0 i lt ∙ ap (clauses_of R) (at_zero i)))
  where
    at_zero : (i : ℕ) → 0 + i ≡ i
    at_zero i = omega arith

clauses_flat : (R : Repository) → owned_sentences clause_sentence 0 R.clauses ≡ flat_map (own R) (numbers (length R.clauses) 0)
clauses_flat R = ap (owned_sentences clause_sentence 0) (by_numbers R) ∙ owned_flat clause_sentence (clauses_of R) (length R.clauses) 0

own_moved : (to : ℕ → ℕ) (p : ℕ) (cs : List (List ℕ)) → map (clause_sentence (to p)) (map (map to) cs) ≡ map (map (moved to)) (map (clause_sentence p) cs)
own_moved to p [] = refl
own_moved to p (c ∷ cs) = ap₂ (λ y ys. y ∷ ys) (sym (moved_clause to p c)) (own_moved to p cs)

goals_moved : (to : ℕ → ℕ) (goals : List (List ℕ)) → map goal_sentence (map (map to) goals) ≡ map (map (moved to)) (map goal_sentence goals)
goals_moved to [] = refl
goals_moved to (g ∷ goals) = ap₂ (λ y ys. y ∷ ys) (sym (moved_goal to g)) (goals_moved to goals)

rising_ascends : (U : NumSet) (to : ℕ → ℕ) → ((m n : ℕ) → U m ≡ true → U n ≡ true → m < n → to m < to n) → (T : List ℕ) → ((n : ℕ) → In n T → U n ≡ true) → Ascending T → Ascending (map to T)
rising_ascends U to rising [] f a = tt
rising_ascends U to rising (x ∷ xs) f a = (
  (λ y i. let w = In_map_cases to xs y i in subst (λ z. to x < z) (sym w.2) (rising x w.0 (f x here) (f w.0 (there w.1)) (a.0 w.0 w.1))),
  rising_ascends U to rising xs (λ n i. f n (there i)) a.1,
)

-- what is said of a class with its negation false is not open
absent_not_open : (s : Literal → Bool) (x : List Literal) (p : ℕ) → In (literal p false) x → s (literal p true) ≡ false → is_open_need s x ≡ false
absent_not_open s x p i f = false_from_ne_true (is_open_need s x) (λ t.
    both_ways (s (literal p true)) f (all_at (λ l. cond l.positive (not (s l)) (s (negation l))) x t (literal p false) i))

-- conflicts are never open in a calm closure
conflicts_shut : (R : Repository) (goals : List (List ℕ)) (given : List Literal) (s : Literal → Bool) → IsClosure (form R goals) given s → ¬ (Clashes (form R goals) given)
    → find (is_open_need s) (owned_sentences conflict_sentence 0 R.conflicts) ≡ None
conflicts_shut R goals given s closure calm = find_not (is_open_need s) (owned_sentences conflict_sentence 0 R.conflicts) (λ x i. false_from_ne_true (is_open_need s x) (λ t.
    let w = from_owned_sentences conflict_sentence 0 R.conflicts x i in
    let open_there : is_open_need s (conflict_sentence (0 + w.0) w.1) ≡ true = subst (λ z. is_open_need s z ≡ true) w.4 t in
    calm (clash_from (form R goals) given s closure (inr (list_any-from_Any (is_refuted s) (form R goals)
    (any_in (λ y. is_refuted s y ≡ true) (form R goals) x
    (in_right (map goal_sentence goals) (owned_sentences clause_sentence 0 R.clauses ++ owned_sentences conflict_sentence 0 R.conflicts) x
    (in_right (owned_sentences clause_sentence 0 R.clauses) (owned_sentences conflict_sentence 0 R.conflicts) x i))
    (subst (λ z. is_refuted s z ≡ true) (sym w.4) open_there)))))))

module _ (R : Repository) (goals : List (List ℕ)) (U : NumSet) (to : ℕ → ℕ) (other : Repository) (is : ReachStandsIn R goals U to other) where
  abbrev here_form : List (List Literal)
  here_form = form R goals

  abbrev there_form : List (List Literal)
  there_form = form other (map (map to) goals)

  abbrev home : ℕ → ℕ
  home = back R goals U to other is

  abbrev seen : NumSet
  seen = image R goals U to other is

  -- the other way round
  pub closure_back : (given : List Literal) → AreIn U given → (l : Literal) → U l.class ≡ true → InClosure there_form (map (moved to) given) (moved to l) → InClosure here_form given l
  closure_back given u l v h =
      let k : InClosure (form R (map (map home) (map (map to) goals))) (map (moved home) (map (moved to) given)) (moved home (moved to l)) =
      closure_there other (map (map to) goals) seen home R (returns R goals U to other is) (map (moved to) given) (in_image R goals U to other is given u) (moved to l)
      (image_from R goals U to other is l.class v) h in
      subst (λ m. InClosure here_form given m) (literal_back R goals U to other is l v)
      (subst (λ g. InClosure here_form g (moved home (moved to l))) (sentence_back R goals U to other is given u)
      (subst (λ w. InClosure (form R w) (map (moved home) (map (moved to) given)) (moved home (moved to l))) (goals_back R goals U to other is) k))

  pub clash_back : (given : List Literal) → AreIn U given → Clashes there_form (map (moved to) given) → Clashes here_form given
  clash_back given u h =
      let k : Clashes (form R (map (map home) (map (map to) goals))) (map (moved home) (map (moved to) given)) =
      clash_there other (map (map to) goals) seen home R (returns R goals U to other is) (map (moved to) given) (in_image R goals U to other is given u) h in
      subst (λ g. Clashes here_form g) (sentence_back R goals U to other is given u)
      (subst (λ w. Clashes (form R w) (map (moved home) (map (moved to) given))) (goals_back R goals U to other is) k)

  -- true classes there have their numbers from U
  pub reached_there : (given : List Literal) → AreIn U given → (c : ℕ) → InClosure there_form (map (moved to) given) (literal c true) → seen c ≡ true
  reached_there given u c h = reached other (map (map to) goals) seen home R (returns R goals U to other is) (map (moved to) given) (in_image R goals U to other is given u) c h

  -- the classes of U in their order
  abbrev ours : List ℕ
  ours = filter U (numbers (length R.clauses) 0)

  abbrev theirs : List ℕ
  theirs = filter seen (numbers (length other.clauses) 0)

  in_ours : (n : ℕ) → In n ours → U n ≡ true
  in_ours n i = (filter_cases U (numbers (length R.clauses) 0) n i).1

  listed_number : (n m : ℕ) → m < n → In m (numbers n 0)
  listed_number n m lt = numbers_from n 0 m zero-le (omega arith)

  members_there : map to ours ≡ theirs
  members_there = ascending_same (map to ours) theirs
      (rising_ascends U to is.rising ours in_ours (ascending_filter U (numbers (length R.clauses) 0) (numbers_ascending (length R.clauses) 0)))
      (ascending_filter seen (numbers (length other.clauses) 0) (numbers_ascending (length other.clauses) 0))
      (λ m i.
      let w = In_map_cases to ours m i in
      let u : U w.0 ≡ true = in_ours w.0 w.1 in
      subst (λ z. In z theirs) (sym w.2)
      (filter_from seen (numbers (length other.clauses) 0) (to w.0) (listed_number (length other.clauses) (to w.0) (is.within w.0 u)) (image_from R goals U to other is w.0 u)))
      (λ m i.
      let h : seen m ≡ true = (filter_cases seen (numbers (length other.clauses) 0) m i).1 in
      let w = image_parts R goals U to other is m h in
      subst (λ z. In z (map to ours)) (sym w.2)
      (In_map to ours w.0 (filter_from U (numbers (length R.clauses) 0) w.0 (listed_number (length R.clauses) w.0 (is.classes w.0 w.1)) w.1)))

  module _ (given : List Literal) (u : AreIn U given) (s t : Literal → Bool) (at_home : IsClosure here_form given s) (abroad : IsClosure there_form (map (moved to) given) t) where
    pub agree : (l : Literal) → U l.class ≡ true → t (moved to l) ≡ s l
    agree l v = same_bool (t (moved to l)) (s l)
        (λ h. at_home.whole l (closure_back given u l v (abroad.sound (moved to l) h)))
        (λ h. abroad.whole (moved to l) (closure_there R goals U to other is given u l v (at_home.sound l h)))

    outside : (p : ℕ) → U p ≡ false → s (literal p true) ≡ false
    outside p f = false_from_ne_true (s (literal p true)) (λ h. both_ways (U p) f (reached R goals U to other is given u p (at_home.sound (literal p true) h)))

    outside_there : (p : ℕ) → seen p ≡ false → t (literal p true) ≡ false
    outside_there p f = false_from_ne_true (t (literal p true)) (λ h. both_ways (seen p) f (reached_there given u p (abroad.sound (literal p true) h)))

    -- an open need is of classes of U
    pub open_in : (x : List Literal) → In x here_form → is_open_need s x ≡ true → AreIn U x
    open_in x i h = elim (sentence_fate R goals U to other is x i) [
      | inl within ↦ within.0
      | inr loose ↦ absurd (both_ways (is_open_need s x) (absent_not_open s x loose.0 loose.1 (outside loose.0 loose.2)) h)
    ]

    open_agrees : (x : List Literal) → AreIn U x → is_open_need t (map (moved to) x) ≡ is_open_need s x
    open_agrees [] v = refl
    open_agrees (m ∷ ms) v = ap₂ (λ a b. a && b)
        (ap₂ (λ a b. cond m.positive (not a) b) (agree m (v m here)) (agree (negation m) (v m here)))
        (open_agrees ms (λ l i. v l (there i)))

    pub least_there : (x : List Literal) → AreIn U x → find (is_undecided t) (map (moved to) x) ≡ option_map (moved to) (find (is_undecided s) x)
    least_there x v = find_moved (is_undecided s) (is_undecided t) (moved to) x (λ m i. ap₂ (λ a b. not a && not b) (agree m (v m i)) (agree (negation m) (v m i)))

    goals_there : find (is_open_need t) (map goal_sentence (map (map to) goals)) ≡ option_map (map (moved to)) (find (is_open_need s) (map goal_sentence goals))
    goals_there =
        ap (find (is_open_need t)) (goals_moved to goals)
        ∙ find_moved (is_open_need s) (is_open_need t) (map (moved to)) (map goal_sentence goals) (λ x i.
        let w = In_map_cases goal_sentence goals x i in
        open_agrees x (λ l j.
        let v = In_map_cases (λ c. literal c true) w.0 l (subst (λ z. In l z) w.2 j) in
        subst (λ z. U z.class ≡ true) (sym v.2) (is.wanted w.0 w.1 v.0 v.1)))

    clauses_there : find (is_open_need t) (owned_sentences clause_sentence 0 other.clauses) ≡ option_map (map (moved to)) (find (is_open_need s) (owned_sentences clause_sentence 0 R.clauses))
    clauses_there =
        ap (find (is_open_need t)) (clauses_flat other)
        ∙ find_skips (is_open_need t) (own other) seen (length other.clauses) 0 (λ i f. find_not (is_open_need t) (own other i) (λ x j.
        let w = In_map_cases (clause_sentence i) (clauses_of other i) x j in
        absent_not_open t x i (subst (λ z. In (literal i false) z) (sym w.2) here) (outside_there i f)))
        ∙ ap (λ z. find (is_open_need t) (flat_map (own other) z)) (sym members_there)
        ∙ ap (find (is_open_need t)) (flat_moved (own R) (own other) (map (moved to)) to ours (λ p i.
        ap (map (clause_sentence (to p))) (is.clauses p (in_ours p i)) ∙ own_moved to p (clauses_of R p)))
        ∙ find_moved (is_open_need s) (is_open_need t) (map (moved to)) (flat_map (own R) ours) (λ x i. open_agrees x (own_in x i))
        ∙ ap (option_map (map (moved to))) (sym (
        ap (find (is_open_need s)) (clauses_flat R)
        ∙ find_skips (is_open_need s) (own R) U (length R.clauses) 0 (λ i f. find_not (is_open_need s) (own R i) (λ x j.
        let w = In_map_cases (clause_sentence i) (clauses_of R i) x j in
        absent_not_open s x i (subst (λ z. In (literal i false) z) (sym w.2) here) (outside i f)))))
      where
        own_in : (x : List Literal) → In x (flat_map (own R) ours) → AreIn U x
        own_in x i l j =
            let p = In_flat_cases (own R) ours x i in
            let v : U p.0 ≡ true = in_ours p.0 p.1 in
            let w = In_map_cases (clause_sentence p.0) (clauses_of R p.0) x p.2 in
            elim (In_cases (subst (λ z. In l z) w.2 j)) [
              | inl same ↦ subst (λ z. U z.class ≡ true) (sym same) v
              | inr k ↦
                  let m = In_map_cases (λ c. literal c true) w.0 l k in
                  subst (λ z. U z.class ≡ true) (sym m.2) (is.closed p.0 v w.0 w.1 m.0 m.1)
            ]

    pub needs_there : ¬ (Clashes here_form given) → find (is_open_need t) there_form ≡ option_map (map (moved to)) (find (is_open_need s) here_form)
    needs_there calm =
        let calm_there : ¬ (Clashes there_form (map (moved to) given)) = λ k. calm (clash_back given u k) in
        parts other (map (map to) goals) t (conflicts_shut other (map (map to) goals) (map (moved to) given) t abroad calm_there)
        ∙ ap₂ option_or goals_there (ap (λ o. option_or o None) clauses_there)
        ∙ ap (option_or (option_map (map (moved to)) (find (is_open_need s) (map goal_sentence goals))))
        (or_moved (map (moved to)) (find (is_open_need s) (owned_sentences clause_sentence 0 R.clauses)) None)
        ∙ or_moved (map (moved to)) (find (is_open_need s) (map goal_sentence goals)) (option_or (find (is_open_need s) (owned_sentences clause_sentence 0 R.clauses)) None)
        ∙ ap (option_map (map (moved to))) (sym (parts R goals s (conflicts_shut R goals given s at_home calm)))
      where
        parts : (Q : Repository) (ws : List (List ℕ)) (v : Literal → Bool) → find (is_open_need v) (owned_sentences conflict_sentence 0 Q.conflicts) ≡ None
            → find (is_open_need v) (form Q ws) ≡ option_or (find (is_open_need v) (map goal_sentence ws)) (option_or (find (is_open_need v) (owned_sentences clause_sentence 0 Q.clauses)) None)
        parts Q ws v none =
            find-append (is_open_need v) (map goal_sentence ws) (owned_sentences clause_sentence 0 Q.clauses ++ owned_sentences conflict_sentence 0 Q.conflicts)
            ∙ ap (option_or (find (is_open_need v) (map goal_sentence ws)))
            (find-append (is_open_need v) (owned_sentences clause_sentence 0 Q.clauses) (owned_sentences conflict_sentence 0 Q.conflicts)
            ∙ ap (option_or (find (is_open_need v) (owned_sentences clause_sentence 0 Q.clauses))) none)
