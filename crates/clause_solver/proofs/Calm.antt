-- Levels at which nothing clashes.
use Rattle.std.proofs.Common.{◌≡◌, ℕ, ◌<◌, ◌≤◌, Bool, true, false, not, ◌||◌, List, [], ◌∷◌, ◌++◌, ◌⊎◌, length, get_or, take, refl, ap, sym, ◌∙◌, arith, inl}
use Rattle.std.proofs.Common.{inr, Some, None, Option, subst, append_assoc}
use Rattle.std.proofs.{lemmas.Bool.{and_parts, and_from, or_right, or_cases, not-true, false_from_ne_true, cases_lt}, Math.ListN.{get_or-eq_default}}
use Rattle.std.proofs.lemmas.List.Elements.{All-contains, All-nil, All-cons, All-append, Contains-append_left, Contains-append_right, Contains-push}
use Rattle.std.proofs.{lemmas.List.Elements.{Contains-get_or}, lemmas.List.Folds.{Any-from_list_any, list_any-from_Any}, lemmas.List.{take_at}}
use Rattle.std.proofs.lemmas.List.FromFn.{get_or-map-range_with_len, length-map-range_with_len}
use Rattle.std.specs.{Prelude.{All, Contains}, List.{find}}
use Rattle.listed.specs.Lists.{In}
use Rattle.row_book.specs.Book.{listed_for}
use Rattle.listed.proofs.Lists.{In_none, contains_in, in_contains, all_at}
use Rattle.search_terms.specs.declared.literals.Literal.{Literal}
use Rattle.search_terms.specs.Closure.{literal, negation, is_same, forces, is_refuted, IsClosedUnder, IsUnitClosed, IsClosure, InClosure, Clashes, InRange}
use Rattle.search_terms.specs.{Marks.{IsConsistent, HasClash, classes_left, true_classes}, Form.{owned_sentences, conflict_sentence}}
use Rattle.search_terms.specs.Tree.{is_open_need, is_undecided, IsFoundLeaf, IsSplit}
use Rattle.search_terms.proofs.{Forms.{from_owned_sentences}, Sets.{forces_mono, Contains-head, Contains-tail}}
use Rattle.search_terms.proofs.{Trees.{open_has_member, found_leaf_of, split_of}, Least.{closure_more}, Models.{same-true}}
use Rattle.clause_solver.specs.{Solvers.{AreApart}, Marking.{set_of_trail}, Running.{HasRefuted, Runs, Waits}, declared.table.Use.{Use}}
use Rattle.clause_solver.specs.{Engine.{whole_form, IsEngine}, Levels.{CalmAt, IsLayered, IsFallen, IsToAssume}, Levels.IsLayered.{at_root, level}}
use Rattle.clause_solver.specs.{Levels.IsFallen.{nowhere, below}, Nodes.{AreFull, HaveNegative}}
use Rattle.clause_solver.proofs.{Trails.{among_last, among_before, among_cases}, Running.{among_more, waits_grow, closed_part}}
use Rattle.clause_solver.proofs.{Drains.{whole_cases, IsPairOf, at_zero}, Openings.{find_behind, find_front}, Stacking.{snoc_same}}

-- the closure is closed
pub closure_closed : (F : List (List Literal)) (given : List Literal) (set : Literal → Bool) → IsClosure F given set → IsUnitClosed F set
closure_closed F given set c = record {
  steps = λ k d lt i e ilt f. c.whole (get_or (get_or F k d) i e) (λ other holds closed.
      closed.steps k d lt i e ilt (forces_mono set other (get_or (get_or F k d) i e) (get_or F k d) (λ m h. c.sound m h other holds closed) f));
}

-- a refuted sentence forces each of its literals
refuted_forces : (set : Literal → Bool) (s : List Literal) (l : Literal) → is_refuted set s ≡ true → forces set l s ≡ true
refuted_forces set s l h = go s h
  where
    go : (s : List Literal) → is_refuted set s ≡ true → forces set l s ≡ true
    go [] h = refl
    go (x ∷ xs) h =
        let w = and_parts (set (negation x)) (is_refuted set xs) h in
        and_from (is_same x l || set (negation x)) (forces set l xs) (or_right (is_same x l) (set (negation x)) w.0) (go xs w.1)

-- a closed set without both signs refutes no sentence but an empty one
pub calm_is : (F : List (List Literal)) (set : Literal → Bool) → AreFull F → IsUnitClosed F set → IsConsistent set → ¬ (HasClash F set)
calm_is F set full closed consistent clash = elim clash [
  | inl both ↦ consistent both.0 both.1 both.2
  | inr some ↦
      let found = Any-from_list_any (is_refuted set) F some in
      let at : Contains F found.1 = (found.0, found.2, found.3) in
      let member = All-contains (λ s. (l : Literal) × Contains s l) F found.1 full at in
      let forced = refuted_forces set found.1 member.0 found.4 in
      let t : set member.0 ≡ true = All-contains (λ l. forces set l found.1 ≡ true → set l ≡ true) found.1 member.0 (All-contains (IsClosedUnder set) F found.1 closed.steps at) member.1 forced in
      consistent member.0 t (all_at (λ m. set (negation m)) found.1 found.4 member.0 (contains_in found.1 member.0 member.1))
]

pub full_whole : (goals own : List (List Literal)) (conflicts : List (List ℕ)) → AreFull goals → HaveNegative own → AreFull (whole_form goals own conflicts)
full_whole goals own conflicts full negative = λ k d lt. one (get_or (whole_form goals own conflicts) k d) (whole_cases goals own conflicts (get_or (whole_form goals own conflicts) k d) (Contains-get_or (whole_form goals own conflicts) k d lt))
  where
    one : (s : List Literal) → Contains goals s ⊎ (Contains own s ⊎ IsPairOf conflicts s) → (l : Literal) × Contains s l
    one s (inl g) = All-contains (λ x. (l : Literal) × Contains x l) goals s full g
    one s (inr (inl o)) = let w = All-contains (λ x. (p : ℕ) × Contains x (literal p false)) own s negative o in (literal w.0 false, w.1)
    one s (inr (inr pair)) = (literal pair.p false, rw pair.is (Contains-head (literal pair.p false) (literal pair.q false ∷ [])))

pub range_whole : (n : ℕ) (goals own : List (List Literal)) (uses : List (List Use)) (conflicts : List (List ℕ)) → IsEngine n goals own uses conflicts → InRange n (whole_form goals own conflicts)
range_whole n goals own uses conflicts engine = λ k d lt. one (get_or (whole_form goals own conflicts) k d) (whole_cases goals own conflicts (get_or (whole_form goals own conflicts) k d) (Contains-get_or (whole_form goals own conflicts) k d lt))
  where
    listed_below : (p q : ℕ) → In q (listed_for conflicts p) → q < n
    listed_below p q i = elim (cases_lt p (length conflicts)) [
      | inl lt ↦ All-contains (λ z. z < n) (listed_for conflicts p) q (engine.fit.ranged p [] lt) (in_contains (listed_for conflicts p) q i)
      | inr ge ↦ absurd (In_none (subst (λ z. In q z) (get_or-eq_default conflicts [] ge) i))
    ]

    one : (s : List Literal) → Contains goals s ⊎ (Contains own s ⊎ IsPairOf conflicts s) → All (λ l. l.class < n) s
    one s (inl g) = All-contains (λ x. All (λ l. l.class < n) x) goals s engine.goals_ranged g
    one s (inr (inl o)) = All-contains (λ x. All (λ l. l.class < n) x) own s engine.own_ranged o
    one s (inr (inr pair)) =
        rw pair.is (All-cons (λ l. l.class < n) (literal pair.p false) (literal pair.q false ∷ []) (listed_below pair.q pair.p (engine.fit.either_way pair.p pair.q pair.listed))
        (All-cons (λ l. l.class < n) (literal pair.q false) [] (listed_below pair.p pair.q pair.listed) (All-nil (λ l. l.class < n))))

-- no conflict is an open need
pair_not_open : (set : Literal → Bool) (conflicts : List (List ℕ)) (F : List (List Literal)) (s : List Literal) → ¬ (HasClash F set) → Contains F s → IsPairOf conflicts s → is_open_need set s ≡ false
pair_not_open set conflicts F s calm c pair = false_from_ne_true (is_open_need set s) (λ o.
    calm (inr (list_any-from_Any (is_refuted set) F (c.0, s, c.1, c.2, rw pair.is (rw pair.is at o)))))

all_false_none : (p : List Literal → Bool) (xs : List (List Literal)) → ((s : List Literal) → Contains xs s → p s ≡ false) → find p xs ≡ None
all_false_none p [] h = refl
all_false_none p (x ∷ xs) h = rw (h x (Contains-head x xs)) (all_false_none p xs (λ s c. h s (Contains-tail x s xs c)))

pub open_whole : (goals own : List (List Literal)) (conflicts : List (List ℕ)) (set : Literal → Bool) (o : Option (List Literal)) → ¬ (HasClash (whole_form goals own conflicts) set) → o ≡ find (is_open_need set) (goals ++ own) → find (is_open_need set) (whole_form goals own conflicts) ≡ o
open_whole goals own conflicts set None calm e =
    ap (find (is_open_need set)) (sym (append_assoc goals own (owned_sentences conflict_sentence 0 conflicts)))
    ∙ find_behind (is_open_need set) (goals ++ own) (owned_sentences conflict_sentence 0 conflicts) (sym e)
    ∙ all_false_none (is_open_need set) (owned_sentences conflict_sentence 0 conflicts) (λ s c.
    let w = from_owned_sentences conflict_sentence 0 conflicts s (contains_in (owned_sentences conflict_sentence 0 conflicts) s c) in
    let pair : IsPairOf conflicts s = record { p = w.0; q = w.1; listed = w.3; is = w.4 ∙ ap (λ n. conflict_sentence n w.1) (at_zero w.0) } in
    pair_not_open set conflicts (whole_form goals own conflicts) s calm (Contains-append_right goals (own ++ owned_sentences conflict_sentence 0 conflicts) s (Contains-append_right own (owned_sentences conflict_sentence 0 conflicts) s c)) pair)
open_whole goals own conflicts set (Some x) calm e =
    ap (find (is_open_need set)) (sym (append_assoc goals own (owned_sentences conflict_sentence 0 conflicts)))
    ∙ find_front (is_open_need set) (goals ++ own) (owned_sentences conflict_sentence 0 conflicts) x (sym e)

module _ (n : ℕ) (goals own : List (List Literal)) (uses : List (List Use)) (conflicts : List (List ℕ)) (engine : IsEngine n goals own uses conflicts) (negative : HaveNegative own) (full : AreFull goals) where
  pub no_clash : (decisions trail : List Literal) → CalmAt (whole_form goals own conflicts) decisions trail → ¬ (HasClash (whole_form goals own conflicts) (set_of_trail trail))
  no_clash decisions trail calm = calm_is (whole_form goals own conflicts) (set_of_trail trail) (full_whole goals own conflicts full negative) (closure_closed (whole_form goals own conflicts) decisions (set_of_trail trail) calm.closure) calm.consistent

  -- no open need: the true classes are found
  pub look_found : (decisions trail : List Literal) → CalmAt (whole_form goals own conflicts) decisions trail → None ≡ find (is_open_need (set_of_trail trail)) (goals ++ own)
      → IsFoundLeaf n (whole_form goals own conflicts) decisions (true_classes n (set_of_trail trail))
  look_found decisions trail calm none =
      let quiet = no_clash decisions trail calm in
      found_leaf_of n (whole_form goals own conflicts) decisions (set_of_trail trail) (true_classes n (set_of_trail trail)) calm.closure quiet (open_whole goals own conflicts (set_of_trail trail) None quiet none)
      (length-map-range_with_len (λ c. set_of_trail trail (literal c true)) 0 n)
      (λ c lt. get_or-map-range_with_len (λ k. set_of_trail trail (literal k true)) 0 n c c false lt (omega arith))

  -- the first open need has an undecided member
  pub look_split : (decisions trail need : List Literal) (member : Literal) → CalmAt (whole_form goals own conflicts) decisions trail → Some need ≡ find (is_open_need (set_of_trail trail)) (goals ++ own)
      → find (is_undecided (set_of_trail trail)) need ≡ Some member
      → IsSplit (whole_form goals own conflicts) decisions member.class × (member.class < n)
      × (classes_left n (decisions ++ literal member.class true ∷ []) < classes_left n decisions)
      × (classes_left n (decisions ++ literal member.class false ∷ []) < classes_left n decisions)
  look_split decisions trail need member calm first least =
      let quiet = no_clash decisions trail calm in
      split_of n (whole_form goals own conflicts) decisions (set_of_trail trail) need member (range_whole n goals own uses conflicts engine) calm.closure quiet (open_whole goals own conflicts (set_of_trail trail) (Some need) quiet first) least

  pub look_never : (decisions trail need : List Literal) → CalmAt (whole_form goals own conflicts) decisions trail → Some need ≡ find (is_open_need (set_of_trail trail)) (goals ++ own) → find (is_undecided (set_of_trail trail)) need ≡ None → ⊥
  look_never decisions trail need calm first none =
      let quiet = no_clash decisions trail calm in
      open_has_member (whole_form goals own conflicts) (set_of_trail trail) need quiet (open_whole goals own conflicts (set_of_trail trail) (Some need) quiet first) none

-- whichever the sign
pub undecided_class : (set : Literal → Bool) (m : Literal) → is_undecided set m ≡ true → is_undecided set (literal m.class true) ≡ true
undecided_class set m u = go m.class m.positive u
  where
    go : (c : ℕ) (b : Bool) → is_undecided set (literal c b) ≡ true → is_undecided set (literal c true) ≡ true
    go c true u = u
    go c false u = let w = and_parts (not (set (literal c false))) (not (set (literal c true))) u in and_from (not (set (literal c true))) (not (set (literal c false))) w.1 w.0

pub undecided_negation : (set : Literal → Bool) (m : Literal) → is_undecided set m ≡ true → is_undecided set (negation m) ≡ true
undecided_negation set m u = go m.class m.positive u
  where
    go : (c : ℕ) (b : Bool) → is_undecided set (literal c b) ≡ true → is_undecided set (literal c (not b)) ≡ true
    go c true u = let w = and_parts (not (set (literal c true))) (not (set (literal c false))) u in and_from (not (set (literal c false))) (not (set (literal c true))) w.1 w.0
    go c false u = let w = and_parts (not (set (literal c false))) (not (set (literal c true))) u in and_from (not (set (literal c true))) (not (set (literal c false))) w.1 w.0

pub undecided_not : (set : Literal → Bool) (m : Literal) → is_undecided set m ≡ true → (set m ≡ false) × (set (negation m) ≡ false)
undecided_not set m u = let w = and_parts (not (set m)) (not (set (negation m))) u in (not-true (set m) w.0, not-true (set (negation m)) w.1)

-- the marks before what is assumed is looked at
pub assume_waits : (F : List (List Literal)) (old : List Literal) (l : Literal) → IsUnitClosed F (set_of_trail old) → All (Waits (length old) (old ++ l ∷ [])) F
assume_waits F old l closed = λ k d lt. waits_grow (length old) old (l ∷ []) (get_or F k d) (omega arith) (inl (closed.steps k d lt))

-- no clash: the level above
pub assume_calm : (F : List (List Literal)) (ds old new : List Literal) (l : Literal) → Runs F (old ++ l ∷ []) new → IsUnitClosed F (set_of_trail new) → CalmAt F ds old → CalmAt F (ds ++ l ∷ []) new
assume_calm F ds old new l r closed calm = record {
  closure = closure_more F ds l (set_of_trail old) (set_of_trail (old ++ l ∷ [])) (set_of_trail new) calm.closure (λ m h. among_before old l m h) (among_last old l) (λ m h. among_cases old l m h)
      (λ m h. rw r.behind (among_more (old ++ l ∷ []) r.more m h)) (λ s c w. r.sound s c w) closed;
  consistent = r.consistent;
}

-- a refuted sentence: the decisions clash
pub refuted_clash : (F : List (List Literal)) (given trail : List Literal) → ((l : Literal) → set_of_trail trail l ≡ true → InClosure F given l) → HasRefuted F (set_of_trail trail) → Clashes F given
refuted_clash F given trail sound r = inr (r.1.0, r.0, r.1.1, r.1.2, λ k d lt. sound (negation (get_or r.0 k d)) (all_at (λ m. set_of_trail trail (negation m)) r.0 r.2 (get_or r.0 k d) (contains_in r.0 (get_or r.0 k d) (Contains-get_or r.0 k d lt))))

pub assume_clash : (F : List (List Literal)) (ds old new : List Literal) (l : Literal) → Runs F (old ++ l ∷ []) new → HasRefuted F (set_of_trail new) → CalmAt F ds old → Clashes F (ds ++ l ∷ [])
assume_clash F ds old new l r refuted calm = refuted_clash F (ds ++ l ∷ []) new (λ m h s holds closed. r.sound s closed (λ x t. elim (among_cases old l x t) [
  | inl e ↦ rw e (All-contains (λ z. s z ≡ true) (ds ++ l ∷ []) l holds (Contains-push ds l))
  | inr o ↦ calm.closure.sound x o s (λ k d lt. All-contains (λ z. s z ≡ true) (ds ++ l ∷ []) (get_or ds k d) holds (Contains-append_left ds (l ∷ []) (get_or ds k d) (Contains-get_or ds k d lt))) closed
]) m h) refuted

pub front_of : (old more : List Literal) → take (length old) (old ++ more) ≡ old
front_of old more = take_at old more (length old) refl

-- levels
pub calm_of : (F : List (List Literal)) (ds : List Literal) (hs : List ℕ) (trail : List Literal) → IsLayered F ds hs trail → CalmAt F ds trail
calm_of F ds hs trail (at_root e calm) = rw e calm
calm_of F ds hs trail (level above d lower h e f le u under calm) = calm

pub fallen_of : (F : List (List Literal)) (ds : List Literal) (hs : List ℕ) (trail : List Literal) → IsLayered F ds hs trail → IsFallen F ds hs trail
fallen_of F ds hs trail (at_root e calm) = nowhere e
fallen_of F ds hs trail (level above d lower h e f le u under calm) = below above d lower h e f le u under

pub record IsPopped (F : List (List Literal)) (rest : List Literal) (l : Literal) (hs : List ℕ) (trail : List Literal) : Type 0 where
  pub lower : List ℕ
  pub h : ℕ
  pub height : hs ≡ lower ++ h ∷ []
  pub within : h ≤ length trail
  pub undecided : is_undecided (set_of_trail (take h trail)) l ≡ true
  pub under : IsLayered F rest lower (take h trail)

snoc_some : {X : Type 0} (xs : List X) (x : X) → xs ++ x ∷ [] ≡ [] → ⊥
snoc_some [] x h = cc h
snoc_some (y ∷ xs) x h = cc h

pub pop_of : (F : List (List Literal)) (ds rest : List Literal) (l : Literal) (hs : List ℕ) (trail : List Literal) → ds ≡ rest ++ l ∷ [] → IsFallen F ds hs trail → IsPopped F rest l hs trail
pop_of F ds rest l hs trail cut (nowhere e) = absurd (snoc_some rest l (sym cut ∙ e))
pop_of F ds rest l hs trail cut (below above d lower h e f le u under) =
    let both = snoc_same above rest d l (sym e ∙ cut) in
    record { lower = lower; h = h; height = f; within = le; undecided = subst (λ z. is_undecided (set_of_trail (take h trail)) z ≡ true) both.1 u; under = subst (λ z. IsLayered F z lower (take h trail)) both.0 under }

pub ready_level : (F : List (List Literal)) (ds : List Literal) (hs : List ℕ) (old new : List Literal) (l : Literal) → IsToAssume F ds hs old l → (take (length old) new ≡ old) → length old ≤ length new
    → ((xs : List Literal) → CalmAt F xs old → CalmAt F (xs ++ l ∷ []) new) → IsLayered F ds hs new
ready_level F ds hs old new l r front le calm =
    level r.above l r.lower (length old) r.last r.height le (rw front r.undecided) (rw front r.layered) (rw r.last (calm r.above (calm_of F r.above r.lower old r.layered)))

pub ready_fallen : (F : List (List Literal)) (ds : List Literal) (hs : List ℕ) (old new : List Literal) (l : Literal) → IsToAssume F ds hs old l → (take (length old) new ≡ old) → length old ≤ length new
    → ((xs : List Literal) → CalmAt F xs old → Clashes F (xs ++ l ∷ [])) → Clashes F ds × IsFallen F ds hs new
ready_fallen F ds hs old new l r front le clash =
    (rw r.last (clash r.above (calm_of F r.above r.lower old r.layered)), below r.above l r.lower (length old) r.last r.height le (rw front r.undecided) (rw front r.layered))

same_parts : (a b : Literal) → is_same a b ≡ true → a.class ≡ b.class
same_parts a b h = ap (λ k. k.class) (same-true a b h)

forced_pair : (l : Literal) (p q : ℕ) → forces (set_of_trail []) l (conflict_sentence p q) ≡ true → p ≡ q
forced_pair l p q h =
    let a = and_parts (is_same (literal p false) l || false) (forces (set_of_trail []) l (literal q false ∷ [])) h in
    let b = and_parts (is_same (literal q false) l || false) true a.1 in
    elim (or_cases (is_same (literal p false) l) false a.0) [
      | inl x ↦ elim (or_cases (is_same (literal q false) l) false b.0) [
        | inl y ↦ same_parts (literal p false) l x ∙ sym (same_parts (literal q false) l y)
        | inr n ↦ absurd (cc n)
      ]
      | inr n ↦ absurd (cc n)
    ]

-- with no marks no conflict is forced
pairs_wait : (conflicts : List (List ℕ)) (more : List Literal) → AreApart conflicts → All (Waits 0 more) (owned_sentences conflict_sentence 0 conflicts)
pairs_wait conflicts more apart = λ k d lt. one (get_or (owned_sentences conflict_sentence 0 conflicts) k d) (Contains-get_or (owned_sentences conflict_sentence 0 conflicts) k d lt)
  where
    one : (s : List Literal) → Contains (owned_sentences conflict_sentence 0 conflicts) s → Waits 0 more s
    one s c =
        let w = from_owned_sentences conflict_sentence 0 conflicts s (contains_in (owned_sentences conflict_sentence 0 conflicts) s c) in
        let e : s ≡ conflict_sentence w.0 w.1 = w.4 ∙ ap (λ n. conflict_sentence n w.1) (at_zero w.0) in
        waits_grow 0 [] more s (omega arith) (inl (λ i d ilt f. absurd (
        let same_class : w.0 ≡ w.1 = forced_pair (get_or s i d) w.0 w.1 (subst (λ z. forces (set_of_trail []) (get_or s i d) z ≡ true) e f) in
        apart w.1 (subst (λ z. In w.1 (listed_for conflicts z)) same_class w.3))))

pub first_waits : (own : List (List Literal)) (conflicts : List (List ℕ)) (old new : List Literal) → old ≡ [] → AreApart conflicts → All (Waits (length old) new) own → All (Waits 0 new) (whole_form [] own conflicts)
first_waits own conflicts old new e apart waits = All-append (Waits 0 new) own (owned_sentences conflict_sentence 0 conflicts) (rw e at waits) (pairs_wait conflicts new apart)

pub sound_from : (F : List (List Literal)) (old new : List Literal) → ((l : Literal) → set_of_trail old l ≡ true → InClosure F [] l) → Runs F old new → (l : Literal) → set_of_trail new l ≡ true → InClosure F [] l
sound_from F old new sound r l h = λ s holds closed. r.sound s closed (λ x t. sound x t s holds closed) l h

pub sound_none : (F : List (List Literal)) (old : List Literal) → old ≡ [] → (l : Literal) → set_of_trail old l ≡ true → InClosure F [] l
sound_none F old e l h = absurd (cc (rw e at h))

pub root_calm : (F : List (List Literal)) (new : List Literal) → ((l : Literal) → set_of_trail new l ≡ true → InClosure F [] l) → IsConsistent (set_of_trail new) → IsUnitClosed F (set_of_trail new) → IsLayered F [] [] new
root_calm F new sound consistent closed = at_root refl (record { closure = record { sound = sound; whole = λ l h. h (set_of_trail new) (All-nil (λ k. set_of_trail new k ≡ true)) closed }; consistent = consistent })

pub root_clash : (F : List (List Literal)) (new : List Literal) → ((l : Literal) → set_of_trail new l ≡ true → InClosure F [] l) → HasRefuted F (set_of_trail new) → Clashes F [] × IsFallen F [] [] new
root_clash F new sound refuted = (refuted_clash F [] new sound refuted, nowhere refl)

-- what follows without goals follows with them
pub base_sound : (goals own : List (List Literal)) (conflicts : List (List ℕ)) (old : List Literal) → CalmAt (whole_form [] own conflicts) [] old → (l : Literal) → set_of_trail old l ≡ true → InClosure (whole_form goals own conflicts) [] l
base_sound goals own conflicts old calm l h = λ s holds closed. calm.closure.sound l h s holds
    (closed_part (whole_form [] own conflicts) (whole_form goals own conflicts) s (λ x c. Contains-append_right goals (own ++ owned_sentences conflict_sentence 0 conflicts) x c) closed)

pub base_waits : (goals own : List (List Literal)) (conflicts : List (List ℕ)) (old new : List Literal) → CalmAt (whole_form [] own conflicts) [] old → Runs goals old new → All (Waits (length old) new) goals → All (Waits (length old) new) (whole_form goals own conflicts)
base_waits goals own conflicts old new calm r waits =
    let closed = closure_closed (whole_form [] own conflicts) [] (set_of_trail old) calm.closure in
    All-append (Waits (length old) new) goals (own ++ owned_sentences conflict_sentence 0 conflicts) waits
    (λ k d lt. rw r.behind (waits_grow (length old) old r.more (get_or (own ++ owned_sentences conflict_sentence 0 conflicts) k d) (omega arith) (inl (closed.steps k d lt))))
