-- The tree that is computed is the search tree.
use Rattle.std.proofs.Common.{◌≡◌, ℕ, zero, suc, ◌+◌, ◌*◌, ◌<◌, ◌≤◌, Bool, true, false, not, ◌&&◌, eqb, ltb, cond, List, [], ◌∷◌, ◌++◌, length, get_or, refl}
use Rattle.std.proofs.Common.{ap, sym, ◌∙◌, arith, inl, inr, Option, Some, None, subst}
use Rattle.std.proofs.lemmas.Bool.{cases_Bool, cases_eq, and_parts, and_from, or_cases, or_left, or_right, both_ways, eq-eqb, lt-ltb, ltb-true}
use Rattle.std.proofs.lemmas.List.FromFn.{get_or-map-range_with_len, length-map-range_with_len}
use Rattle.std.proofs.lemmas.List.Elements.{All-nil, All-cons, All-contains, All-push, All-weaker, Contains-get_or}
use Rattle.std.proofs.lemmas.List.Folds.{Any-from_list_any, list_any-from_Any}
use Rattle.std.specs.{Prelude.{All}, List.{list_any, find, range_with_len}, Option.{option_map, option_map_or, option_and_then}}
use Rattle.listed.proofs.{Bools.{cases_Option}, Lists.{any_cases}}
use Rattle.search_terms.specs.declared.literals.Literal.{Literal}
use Rattle.search_terms.specs.Closure.{literal, is_same, same_sign, forces, is_refuted, IsClosedUnder, IsUnitClosed, HasGiven, IsClosure, InRange}
use Rattle.search_terms.specs.{Marks.{IsWithin, IsForced, HasClash, classes_left, true_classes}, Tree.{is_open_need, is_undecided, Tree, IsTree}}
use Rattle.search_terms.specs.Tree.Tree.{failed_leaf, found_leaf, split}
use Rattle.search_terms.specs.SearchTree.{unit_in, next_unit, with_unit, unit_steps, closure_of, does_clash, next_class, node_at, tree_below, search_tree}
use Rattle.search_terms.specs.Laws.{SearchTreeIs}
use Rattle.search_terms.proofs.{Sets.{literal_of, forces_mono, forced_there, forced_right, forced_in_range, sentence_met, Contains-head}, Models.{same-true}}
use Rattle.search_terms.proofs.{Least.{clash_from}, Trees.{found_leaf_of, split_of, open_has_member}, Certificates.{same_refl}}

-- the next unit is forced
next_forced : (formula : List (List Literal)) (s : Literal → Bool) (l : Literal) → next_unit formula s ≡ Some l → IsForced formula s l
next_forced [] s l h = absurd (cc h)
next_forced (x ∷ xs) s l h = elim (cases_Option (unit_in s x)) [
  | inl none ↦ forced_right (x ∷ []) xs s l (next_forced xs s l (rw none at h))
  | inr some ↦ forced_there (x ∷ xs) s x l (Contains-head x xs) (some.1 ∙ (rw some.1 at h))
]

-- where there is none, the set is closed
none_closed : (formula : List (List Literal)) (s : Literal → Bool) → next_unit formula s ≡ None → IsUnitClosed formula s
none_closed [] s h = record { steps = All-nil (IsClosedUnder s) }
none_closed (x ∷ xs) s h = elim (cases_Option (unit_in s x)) [
  | inl none ↦ record { steps = All-cons (IsClosedUnder s) x xs (sentence_met s x none) (none_closed xs s (rw none at h)).steps }
  | inr some ↦ absurd (cc (rw some.1 at h))
]

-- how many literals of so many classes the set lacks
abbrev lacking : ℕ → (Literal → Bool) → ℕ
lacking zero s = 0
lacking (suc n) s = cond (s (literal_of n true)) 0 1 + cond (s (literal_of n false)) 0 1 + lacking n s

lack_one : (a b : Bool) → (a ≡ true → b ≡ true) → cond b 0 1 ≤ cond a 0 1
lack_one true true f = omega arith
lack_one true false f = absurd (cc (f refl))
lack_one false true f = omega arith
lack_one false false f = omega arith

lack_grows : (n : ℕ) (s t : Literal → Bool) → IsWithin s t → lacking n t ≤ lacking n s
lack_grows zero s t w = omega arith
lack_grows (suc n) s t w =
    let a = lack_one (s (literal_of n true)) (t (literal_of n true)) (w (literal_of n true)) in
    let b = lack_one (s (literal_of n false)) (t (literal_of n false)) (w (literal_of n false)) in
    let c = lack_grows n s t w in
    omega (arith, a, b, c)

lack_sign : (n : ℕ) (s t : Literal → Bool) (p : Bool) → IsWithin s t → s (literal_of n p) ≡ false → t (literal_of n p) ≡ true → lacking (suc n) t < lacking (suc n) s
lack_sign n s t true w x y =
    let b = lack_one (s (literal_of n false)) (t (literal_of n false)) (w (literal_of n false)) in
    let c = lack_grows n s t w in
    rw (x, y) (omega (arith, b, c))
lack_sign n s t false w x y =
    let a = lack_one (s (literal_of n true)) (t (literal_of n true)) (w (literal_of n true)) in
    let c = lack_grows n s t w in
    rw (x, y) (omega (arith, a, c))

lack_less : (n : ℕ) (s t : Literal → Bool) (l : Literal) → IsWithin s t → l.class < n → s l ≡ false → t l ≡ true → lacking n t < lacking n s
lack_less zero s t l w lt x y = absurd (omega arith)
lack_less (suc n) s t l w lt x y = elim (cases_eq l.class n) [
  | inl e ↦
      let same : l ≡ literal_of n l.positive = ap (λ c. literal_of c l.positive) e in
      lack_sign n s t l.positive w (subst (λ k. s k ≡ false) same x) (subst (λ k. t k ≡ true) same y)
  | inr ne ↦
      let below : l.class < n = omega arith in
      let a = lack_one (s (literal_of n true)) (t (literal_of n true)) (w (literal_of n true)) in
      let b = lack_one (s (literal_of n false)) (t (literal_of n false)) (w (literal_of n false)) in
      let c = lack_less n s t l w below x y in
      omega (arith, a, b, c)
]

one_most : (b : Bool) → cond b 0 1 ≤ 1
one_most true = omega arith
one_most false = omega arith

lack_most : (n : ℕ) (s : Literal → Bool) → lacking n s ≤ n * 2
lack_most zero s = omega arith
lack_most (suc n) s =
    let a = one_most (s (literal_of n true)) in
    let b = one_most (s (literal_of n false)) in
    let c = lack_most n s in
    omega (arith, a, b, c)

grown : (s : Literal → Bool) (o : Option Literal) → IsWithin s (with_unit s o)
grown s None m h = h
grown s (Some l) m h = or_left (s m) (is_same m l) h

steps_within : (k : ℕ) (formula : List (List Literal)) (s : Literal → Bool) → IsWithin s (unit_steps k formula s)
steps_within zero formula s m h = h
steps_within (suc k) formula s m h = steps_within k formula (with_unit s (next_unit formula s)) m (grown s (next_unit formula s) m h)

steps_stay : (k : ℕ) (formula : List (List Literal)) (s : Literal → Bool) → next_unit formula s ≡ None → unit_steps k formula s ≡ s
steps_stay zero formula s h = refl
steps_stay (suc k) formula s h = ap (λ o. unit_steps k formula (with_unit s o)) h ∙ steps_stay k formula s h

-- one literal less is lacked
unit_less : (n : ℕ) (formula : List (List Literal)) (s : Literal → Bool) (l : Literal) → InRange n formula → next_unit formula s ≡ Some l → lacking n (with_unit s (Some l)) < lacking n s
unit_less n formula s l range h =
    let f = next_forced formula s l h in
    lack_less n s (with_unit s (Some l)) l (grown s (Some l)) (forced_in_range formula s l n range f) f.absent (or_right (s l) (is_same l l) (same_refl l))

-- as many steps as literals are lacked close the set
steps_closed : (k n : ℕ) (formula : List (List Literal)) (s : Literal → Bool) → InRange n formula → lacking n s ≤ k → IsUnitClosed formula (unit_steps k formula s)
steps_closed zero n formula s range le = elim (cases_Option (next_unit formula s)) [
  | inl none ↦ none_closed formula s none
  | inr some ↦ let less = unit_less n formula s some.0 range some.1 in absurd (omega arith)
]
steps_closed (suc k) n formula s range le = elim (cases_Option (next_unit formula s)) [
  | inl none ↦ subst (λ t. IsUnitClosed formula t) (sym (steps_stay (suc k) formula s none)) (none_closed formula s none)
  | inr some ↦
      let less = unit_less n formula s some.0 range some.1 in
      subst (λ o. IsUnitClosed formula (unit_steps k formula (with_unit s o))) (sym some.1) (steps_closed k n formula (with_unit s (Some some.0)) range (omega arith))
]

-- what is forced is in each closed set
forced_within : (formula : List (List Literal)) (s t : Literal → Bool) (l : Literal) → IsForced formula s l → IsWithin s t → IsUnitClosed formula t → t l ≡ true
forced_within formula s t l forced w closed =
    All-contains (λ k. forces t k forced.sentence ≡ true → t k ≡ true) forced.sentence l
    (All-contains (IsClosedUnder t) formula forced.sentence closed.steps forced.here)
    forced.member (forces_mono s t l forced.sentence w forced.forced)

unit_least : (formula : List (List Literal)) (s t : Literal → Bool) (o : Option Literal) → next_unit formula s ≡ o → IsWithin s t → IsUnitClosed formula t → IsWithin (with_unit s o) t
unit_least formula s t None h w closed m k = w m k
unit_least formula s t (Some l) h w closed m k = elim (or_cases (s m) (is_same m l) k) [
  | inl a ↦ w m a
  | inr b ↦ subst (λ z. t z ≡ true) (sym (same-true m l b)) (forced_within formula s t l (next_forced formula s l h) w closed)
]

steps_least : (k : ℕ) (formula : List (List Literal)) (s t : Literal → Bool) → IsWithin s t → IsUnitClosed formula t → IsWithin (unit_steps k formula s) t
steps_least zero formula s t w closed = w
steps_least (suc k) formula s t w closed = steps_least k formula (with_unit s (next_unit formula s)) t (unit_least formula s t (next_unit formula s) refl w closed) closed

-- what is computed is the closure
closure_is : (n : ℕ) (formula : List (List Literal)) (given : List Literal) → InRange n formula → IsClosure formula given (closure_of n formula given)
closure_is n formula given range = record {
  sound = λ l h t holds closed. steps_least (n * 2) formula start t (λ m k. given_in m t holds k) closed l h;
  whole = λ l h. h (closure_of n formula given) (λ k d lt. steps_within (n * 2) formula start (get_or given k d) (start_has k d lt)) (steps_closed (n * 2) n formula start range (lack_most n start));
}
  where
    start : Literal → Bool
    start m = list_any (is_same m) given

    given_in : (m : Literal) (t : Literal → Bool) → HasGiven t given → list_any (is_same m) given ≡ true → t m ≡ true
    given_in m t holds h =
        let w = Any-from_list_any (is_same m) given h in
        subst (λ z. t z ≡ true) (sym (same-true m w.1 w.4)) (All-contains (λ z. t z ≡ true) given w.1 holds (w.0, w.2, w.3))

    start_has : (k : ℕ) (d : Literal) → k < length given → list_any (is_same (get_or given k d)) given ≡ true
    start_has k d lt =
        let l = get_or given k d in
        let w = Contains-get_or given k d lt in
        list_any-from_Any (is_same l) given (w.0, l, w.1, w.2, same_refl l)

-- it is on the classes
closure_ranged : (n : ℕ) (formula : List (List Literal)) (given : List Literal) (s : Literal → Bool) → InRange n formula → All (λ l. l.class < n) given → IsClosure formula given s
    → (l : Literal) → s l ≡ true → l.class < n
closure_ranged n formula given s range within closure l h =
    ltb-true l.class n (closure.sound l h (λ m. ltb m.class n)
    (All-weaker (λ m. m.class < n) (λ m. ltb m.class n ≡ true) (λ m k. lt-ltb m.class n k) given within)
    (record { steps = λ i d lt j e jlt forced. lt-ltb (get_or (get_or formula i d) j e).class n (range i d lt j e jlt) }))

any_in_range : (p : ℕ → Bool) (a n c : ℕ) → a ≤ c → c < a + n → p c ≡ true → list_any p (range_with_len a n) ≡ true
any_in_range p a zero c low high h = absurd (omega arith)
any_in_range p a (suc n) c low high h = elim (cases_eq a c) [
  | inl e ↦ or_left (p a) (list_any p (range_with_len (a + 1) n)) (subst (λ k. p k ≡ true) (sym e) h)
  | inr ne ↦ or_right (p a) (list_any p (range_with_len (a + 1) n)) (any_in_range p (a + 1) n c (omega arith) (omega arith) h)
]

abbrev has_both : (Literal → Bool) → ℕ → Bool
has_both s c = s (literal c true) && s (literal c false)

sign_both : (s : Literal → Bool) (c : ℕ) (p : Bool) → s (literal_of c p) ≡ true → s (literal_of c (not p)) ≡ true → has_both s c ≡ true
sign_both s c true h k = and_from (s (literal c true)) (s (literal c false)) h k
sign_both s c false h k = and_from (s (literal c true)) (s (literal c false)) k h

-- the flag tells whether the set clashes
clash_there : (n : ℕ) (formula : List (List Literal)) (s : Literal → Bool) → does_clash n formula s ≡ true → HasClash formula s
clash_there n formula s h = elim (or_cases (list_any (has_both s) (range_with_len 0 n)) (list_any (is_refuted s) formula) h) [
  | inl t ↦
      let w = any_cases (has_both s) (range_with_len 0 n) t in
      let both = and_parts (s (literal w.0 true)) (s (literal w.0 false)) w.2 in
      inl (literal w.0 true, both.0, both.1)
  | inr t ↦ inr t
]

clash_flag : (n : ℕ) (formula : List (List Literal)) (s : Literal → Bool) → ((l : Literal) → s l ≡ true → l.class < n) → HasClash formula s → does_clash n formula s ≡ true
clash_flag n formula s within h = elim h [
  | inl b ↦ or_left (list_any (has_both s) (range_with_len 0 n)) (list_any (is_refuted s) formula)
      (let lt = within b.0 b.1 in any_in_range (has_both s) 0 n b.0.class (omega arith) (omega arith) (sign_both s b.0.class b.0.positive b.1 b.2))
  | inr t ↦ or_right (list_any (has_both s) (range_with_len 0 n)) (list_any (is_refuted s) formula) t
]

-- the three nodes
node_fails : (n : ℕ) (formula : List (List Literal)) (s : Literal → Bool) (f : ℕ → Tree) → does_clash n formula s ≡ true → node_at n formula s f ≡ failed_leaf
node_fails n formula s f h = ap (λ b. cond b failed_leaf (option_map_or f (next_class formula s) (found_leaf (true_classes n s)))) h

node_asks : (n : ℕ) (formula : List (List Literal)) (s : Literal → Bool) (f : ℕ → Tree) (o : Option ℕ) → does_clash n formula s ≡ false → next_class formula s ≡ o → node_at n formula s f ≡ option_map_or f o (found_leaf (true_classes n s))
node_asks n formula s f o h e = ap (λ b. cond b failed_leaf (option_map_or f (next_class formula s) (found_leaf (true_classes n s)))) h ∙ ap (λ c. option_map_or f c (found_leaf (true_classes n s))) e

class_none : (formula : List (List Literal)) (s : Literal → Bool) → find (is_open_need s) formula ≡ None → next_class formula s ≡ None
class_none formula s h = ap (λ o. option_map (λ (l : Literal). l.class) (option_and_then (find (is_undecided s)) o)) h

class_some : (formula : List (List Literal)) (s : Literal → Bool) (need : List Literal) (m : Literal) → find (is_open_need s) formula ≡ Some need → find (is_undecided s) need ≡ Some m → next_class formula s ≡ Some m.class
class_some formula s need m h k = ap (λ o. option_map (λ (l : Literal). l.class) (option_and_then (find (is_undecided s)) o)) h ∙ ap (option_map (λ (l : Literal). l.class)) k

-- a node of the tree: a leaf, or a split whose branches are trees on fewer classes
node_is : (n : ℕ) (formula : List (List Literal)) (decisions : List Literal) (f : ℕ → Tree) → InRange n formula → All (λ l. l.class < n) decisions
    → ((c : ℕ) → c < n → (classes_left n (decisions ++ literal c true ∷ []) < classes_left n decisions) → (classes_left n (decisions ++ literal c false ∷ []) < classes_left n decisions)
    → (left : Tree) × (right : Tree) × (f c ≡ split c left right) × IsTree n formula (decisions ++ literal c true ∷ []) left × IsTree n formula (decisions ++ literal c false ∷ []) right)
    → IsTree n formula decisions (node_at n formula (closure_of n formula decisions) f)
node_is n formula decisions f range within below =
    let s : Literal → Bool = closure_of n formula decisions in
    let closure : IsClosure formula decisions s = closure_is n formula decisions range in
    elim (cases_Bool (does_clash n formula s)) [
      | inl t ↦ subst (IsTree n formula decisions) (sym (node_fails n formula s f t)) (clash_from formula decisions s closure (clash_there n formula s t))
      | inr c ↦
          let calm : ¬ (HasClash formula s) = λ h. both_ways (does_clash n formula s) c (clash_flag n formula s (closure_ranged n formula decisions s range within closure) h) in
          elim (cases_Option (find (is_open_need s) formula)) [
            | inl none ↦ subst (IsTree n formula decisions) (sym (node_asks n formula s f None c (class_none formula s none)))
                (found_leaf_of n formula decisions s (true_classes n s) closure calm none (length-map-range_with_len (λ k. s (literal k true)) 0 n)
                (λ k lt. get_or-map-range_with_len (λ j. s (literal j true)) 0 n k k false lt (omega arith)))
            | inr need ↦ elim (cases_Option (find (is_undecided s) need.0)) [
              | inl none ↦ absurd (open_has_member formula s need.0 calm need.1 none)
              | inr m ↦
                  let facts = split_of n formula decisions s need.0 m.0 range closure calm need.1 m.1 in
                  let parts = below m.0.class facts.1 facts.2 facts.3 in
                  subst (IsTree n formula decisions) (sym (node_asks n formula s f (Some m.0.class) c (class_some formula s need.0 m.0 need.1 m.1) ∙ parts.2))
                  (facts.0, parts.3, parts.4)
            ]
          ]
    ]

tree_below_is : (k n : ℕ) (formula : List (List Literal)) (decisions : List Literal) → InRange n formula → All (λ l. l.class < n) decisions → classes_left n decisions ≤ k → IsTree n formula decisions (tree_below k n formula decisions)
tree_below_is zero n formula decisions range within le = node_is n formula decisions (λ c. failed_leaf) range within (λ c lt a b. absurd (omega arith))
tree_below_is (suc k) n formula decisions range within le =
    let A : ℕ → List Literal = λ c. decisions ++ literal c true ∷ [] in
    let B : ℕ → List Literal = λ c. decisions ++ literal c false ∷ [] in
    node_is n formula decisions (λ c. split c (tree_below k n formula (A c)) (tree_below k n formula (B c))) range within (λ c lt a b. (
      tree_below k n formula (A c),
      tree_below k n formula (B c),
      refl,
      tree_below_is k n formula (A c) range (All-push (λ l. l.class < n) decisions (literal c true) within lt) (omega arith),
      tree_below_is k n formula (B c) range (All-push (λ l. l.class < n) decisions (literal c false) within lt) (omega arith),
    ))

pub left_most : (n : ℕ) (decisions : List Literal) → classes_left n decisions ≤ n
left_most zero decisions = omega arith
left_most (suc n) decisions = let a = one_most (list_any (λ l. eqb l.class n) decisions) in let b = left_most n decisions in omega (arith, a, b)

pub search_tree_is : SearchTreeIs
unfolding search_tree
search_tree_is n formula range = tree_below_is n n formula [] range (All-nil (λ l. l.class < n)) (left_most n [])
