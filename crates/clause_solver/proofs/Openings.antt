-- The first open need.
use Rattle.std.proofs.Common.{◌≡◌, ℕ, zero, suc, ◌+◌, ◌-◌, ◌<◌, ◌≤◌, Bool, true, false, not, cond, List, [], ◌∷◌, ◌++◌, ◌⊎◌, drop, length, get_or, take, refl}
use Rattle.std.proofs.Common.{ap, sym, ◌∙◌, arith, inl, inr, Some, None, subst}
use Rattle.std.proofs.lemmas.Bool.{and_parts, both_ways, cases_Bool, cases_lt, false_from_ne_true, not-false}
use Rattle.std.proofs.lemmas.List.{length-drop, take-append-drop, take_all}
use Rattle.std.proofs.lemmas.List.Elements.{All-contains, All-more, Contains-append_cases, Contains-append_left, Contains-get_or}
use Rattle.std.specs.{Prelude.{Contains, slice_get}, List.{find}}
use Rattle.listed.proofs.Lists.{contains_in, all_at}
use Rattle.search_terms.specs.{declared.literals.Literal.{Literal}, Closure.{literal, negation}, Marks.{flag_place, IsWithin}, Tree.{is_open_need}}
use Rattle.search_terms.proofs.Sets.{Contains-head, Contains-tail}
use Rattle.clause_solver.specs.{Marking.{set_of_trail}, Engine.{IsTable}, Nodes.{HaveNegative, IsLeastOpen}, declared.{nodes.Start.{Start}, table.Use.{Use}}}
use Rattle.clause_solver.specs.Starts.{IsFirstOpen, IsNextOpen, IsStart, IsSwept, NoneBefore}
use Rattle.clause_solver.proofs.Running.{among_contains, contains_among}

abbrev pub at : List (List Literal) → ℕ → List Literal
at own k = get_or own k []

-- what holds of all elements of a front and of the next one
contains_take : (row : List Use) (i : ℕ) (d u : Use) → i < length row → Contains (take (i + 1) row) u → Contains (take i row) u ⊎ (u ≡ get_or row i d)
contains_take row i d u lt c = All-contains (λ x. Contains (take i row) x ⊎ (x ≡ get_or row i d)) (take (i + 1) row) u
    (All-more (λ x. Contains (take i row) x ⊎ (x ≡ get_or row i d)) row i d lt (λ j e jlt. inl (Contains-get_or (take i row) j e jlt)) (inr refl)) c

pub least_take : (set : Literal → Bool) (own : List (List Literal)) (row : List Use) (before least i : ℕ) (d u : Use) → i < length row → u ≡ get_or row i d
    → u.sentence < least → is_open_need set (at own u.sentence) ≡ true → IsLeastOpen set own (take i row) before least → IsLeastOpen set own (take (i + 1) row) before u.sentence
least_take set own row before least i d u lt is less opens inv = record {
  lower = let x = inv.lower in omega (arith, x, less);
  opens = inr opens;
  none = λ v c vlt. elim (contains_take row i d v lt c) [
    | inl old ↦ inv.none v old (omega (arith, vlt, less))
    | inr e ↦ absurd (let same_one : v.sentence ≡ u.sentence = ap (λ z. z.sentence) (e ∙ sym is) in omega (arith, vlt, same_one))
  ];
}

pub swept_more : (set : Literal → Bool) (own : List (List Literal)) (uses : List (List Use)) (trail : List Literal) (before least less i : ℕ) (l : Literal) (row : List Use) → i < length trail → l ≡ get_or trail i l
    → row ≡ get_or uses (flag_place l) [] → IsLeastOpen set own row least less → IsSwept set own uses (take i trail) before least → IsSwept set own uses (take (i + 1) trail) before less
swept_more set own uses trail before least less i l row lt e r found inv = record {
  lower = let x = inv.lower in let y = found.lower in omega (arith, x, y);
  opens = elim found.opens [ inl same_one ↦ rw same_one inv.opens | inr o ↦ inr o ];
  none = All-more (λ m. m.positive ≡ true → (u : Use) → Contains (get_or uses (flag_place m) []) u → u.sentence < less → is_open_need set (at own u.sentence) ≡ false) trail i l lt
      (λ j d jlt t u c ult. inv.none j d jlt t u c (let y = found.lower in omega (arith, ult, y)))
      (rw (← e) (λ t u c ult. found.none u (rw r c) ult));
}

-- a literal that is as an open need has it in a set, and not in a part of it, is negative, and its class is true in the set alone
newly_true : (old new : Literal → Bool) (c : ℕ) (b : Bool) → IsWithin old new → cond b (not (new (literal c b))) (new (literal c (not b))) ≡ true → cond b (not (old (literal c b))) (old (literal c (not b))) ≡ false
    → (b ≡ false) × (new (literal c (not b)) ≡ true) × (old (literal c (not b)) ≡ false)
newly_true old new c true within n o = absurd (let is = within (literal c true) (not-false (old (literal c true)) o) in cc (rw is at n))
newly_true old new c false within n o = (refl, n, o)

-- a sentence that a set leaves open, and a part of it does not, has such a literal
newly_open : (old new : Literal → Bool) (s : List Literal) → IsWithin old new → is_open_need new s ≡ true → is_open_need old s ≡ false
    → (m : Literal) × Contains s m × (m.positive ≡ false) × (new (negation m) ≡ true) × (old (negation m) ≡ false)
newly_open old new [] within o n = absurd (cc n)
newly_open old new (x ∷ xs) within o n =
    let w = and_parts (cond x.positive (not (new x)) (new (negation x))) (is_open_need new xs) o in
    elim (cases_Bool (cond x.positive (not (old x)) (old (negation x)))) [
      | inl t ↦
          let f = newly_open old new xs within w.1 (rw t at n) in
          (f.0, Contains-tail x f.0 xs f.1, f.2, f.3, f.4)
      | inr f ↦
          let part = newly_true old new x.class x.positive within w.0 f in
          (x, Contains-head x xs, part.0, part.1, part.2)
    ]

-- what is on a trail, and not on its front, is behind it
behind : (trail : List Literal) (h : ℕ) (l : Literal) → set_of_trail trail l ≡ true → set_of_trail (take h trail) l ≡ false → Contains (drop h trail) l
behind trail h l t f = elim (Contains-append_cases (take h trail) (drop h trail) l (subst (λ xs. Contains xs l) (sym (take-append-drop h trail)) (among_contains trail l t))) [
  | inl c ↦ absurd (both_ways (set_of_trail (take h trail) l) f (contains_among (take h trail) l c))
  | inr c ↦ c
]

front_within : (trail : List Literal) (h : ℕ) → IsWithin (set_of_trail (take h trail)) (set_of_trail trail)
front_within trail h l t = contains_among trail l (subst (λ xs. Contains xs l) (take-append-drop h trail) (Contains-append_left (take h trail) (drop h trail) l (among_contains (take h trail) l t)))

-- what a slice from a height on lends
pub slice_behind : (h : ℕ) (lent trail : List Literal) → lent ≡ trail → take (length lent - h) (drop h lent) ≡ drop h trail
slice_behind h lent trail e = take_all (length lent - h) (drop h lent) (let len = length-drop h lent in omega (arith, len)) ∙ ap (drop h) e

-- none is open before the least of the rows behind a start
pub start_swept : (n : ℕ) (own : List (List Literal)) (uses : List (List Use)) (trail : List Literal) (start : Start) (least : ℕ) → IsTable n uses own → IsStart own trail start
    → IsSwept (set_of_trail trail) own uses (drop start.height trail) start.place least → NoneBefore own trail least
start_swept n own uses trail start least table known swept k klt = false_from_ne_true (is_open_need (set_of_trail trail) (at own k)) (λ o.
    let low = swept.lower in
    let place = known.place in
    let kplace : k < start.place = omega (arith, klt, low) in
    let in_own : k < length own = omega (arith, kplace, place) in
    let new = newly_open (set_of_trail (take start.height trail)) (set_of_trail trail) (at own k) (front_within trail start.height) o (known.none k kplace) in
    let there_it_is = behind trail start.height (negation new.0) new.3 new.4 in
    let w = table.listed k new.0 in_own new.1 in
    let sign : (negation new.0).positive ≡ true = rw new.2 refl in
    let f = All-contains (λ l. l.positive ≡ true → (u : Use) → Contains (get_or uses (flag_place l) []) u → u.sentence < least → is_open_need (set_of_trail trail) (at own u.sentence) ≡ false) (drop start.height trail) (negation new.0) swept.none there_it_is sign w.0
    w.1 (rw w.2 klt) in
    both_ways (is_open_need (set_of_trail trail) (at own k)) (subst (λ j. is_open_need (set_of_trail trail) (at own j) ≡ false) w.2 f) o)

-- before anything is true no sentence with a negative literal is open
none_at_first : (own : List (List Literal)) → HaveNegative own → NoneBefore own [] (length own)
none_at_first own negative k lt = false_from_ne_true (is_open_need (set_of_trail []) (at own k)) (λ o.
    let neg = negative k [] lt in
    cc (all_at (λ l. cond l.positive (not (set_of_trail [] l)) (set_of_trail [] (negation l))) (at own k) o (literal neg.0 false) (contains_in (at own k) (literal neg.0 false) neg.1)))

pub first_swept : (n : ℕ) (own : List (List Literal)) (uses : List (List Use)) (trail : List Literal) (least : ℕ) → IsTable n uses own → HaveNegative own
    → IsSwept (set_of_trail trail) own uses trail (length own) least → IsFirstOpen own trail least
first_swept n own uses trail least table negative swept = record {
  within = swept.lower;
  opens = λ lt. elim swept.opens [ inl e ↦ absurd (omega (arith, lt, e)) | inr o ↦ o ];
  none = start_swept n own uses trail (record { height = 0; place = length own }) least table
      (record { height = omega arith; place = omega arith; none = none_at_first own negative }) swept;
}

pub first_below : (own : List (List Literal)) (uses : List (List Use)) (trail seen : List Literal) (start : Start) (least : ℕ) → IsStart own trail start → least < start.place → NoneBefore own trail least
    → IsSwept (set_of_trail trail) own uses seen start.place least → IsFirstOpen own trail least
first_below own uses trail seen start least known lt none swept = record {
  within = let x = known.place in omega (arith, x, lt);
  opens = λ in_own. elim swept.opens [ inl e ↦ absurd (omega (arith, lt, e)) | inr o ↦ o ];
  none = none;
}

-- the first open one from a place on, if none before it is open
pub first_next : (own : List (List Literal)) (trail : List Literal) (from end place : ℕ) → end ≤ length own → NoneBefore own trail from → IsNextOpen (set_of_trail trail) own from end place
    → (place < end) ⊎ (end ≡ length own) → IsFirstOpen own trail place
first_next own trail from end place le none next last = record {
  within = let x = next.within in omega (arith, x, le);
  opens = λ lt. next.opens (elim last [ inl l ↦ l | inr e ↦ omega (arith, lt, e) ]);
  none = λ k klt. elim (cases_lt k from) [
    | inl before ↦ none k before
    | inr after ↦ next.none k after klt
  ];
}

pub find_at : (p : List Literal → Bool) (xs : List (List Literal)) (k : ℕ) → ((j : ℕ) → j < k → p (at xs j) ≡ false) → (k < length xs → p (at xs k) ≡ true) → k ≤ length xs → find p xs ≡ slice_get xs k
find_at p [] k none some le = refl
find_at p (x ∷ xs) zero none some le = rw (some (omega arith)) refl
find_at p (x ∷ xs) (suc k) none some le = rw (none 0 (omega arith)) (find_at p xs k (λ j lt. none (suc j) (omega arith)) (λ lt. some (omega arith)) (omega arith))

pub find_behind : (p : List Literal → Bool) (xs ys : List (List Literal)) → find p xs ≡ None → find p (xs ++ ys) ≡ find p ys
find_behind p [] ys h = refl
find_behind p (x ∷ xs) ys h = elim (cases_Bool (p x)) [
  | inl t ↦ absurd (cc (rw t at h))
  | inr f ↦ rw f (find_behind p xs ys (rw f at h))
]

pub find_front : (p : List Literal → Bool) (xs ys : List (List Literal)) (x : List Literal) → find p xs ≡ Some x → find p (xs ++ ys) ≡ Some x
find_front p [] ys x h = absurd (cc h)
find_front p (y ∷ xs) ys x h = elim (cases_Bool (p y)) [
  | inl t ↦ rw t (rw t at h)
  | inr f ↦ rw f (find_front p xs ys x (rw f at h))
]

get_past : (xs : List (List Literal)) (k : ℕ) → k ≡ length xs → slice_get xs k ≡ None
get_past [] k e = refl
get_past (x ∷ xs) zero e = absurd (omega (arith, e))
get_past (x ∷ xs) (suc k) e = get_past xs k (omega (arith, e))

get_there : (xs : List (List Literal)) (k : ℕ) (x : List Literal) → k < length xs → x ≡ get_or xs k x → slice_get xs k ≡ Some x
get_there [] k x lt e = absurd (omega arith)
get_there (y ∷ xs) zero x lt e = ap Some (sym e)
get_there (y ∷ xs) (suc k) x lt e = get_there xs k x (omega arith) e

pub found_none : (p : List Literal → Bool) (own : List (List Literal)) (k : ℕ) → ((j : ℕ) → j < k → p (at own j) ≡ false) → (k < length own → p (at own k) ≡ true) → k ≤ length own → k ≡ length own → find p own ≡ None
found_none p own k none some le e = find_at p own k none some le ∙ get_past own k e

pub found_some : (p : List Literal → Bool) (own : List (List Literal)) (k : ℕ) (x : List Literal) → ((j : ℕ) → j < k → p (at own j) ≡ false) → (k < length own → p (at own k) ≡ true) → k ≤ length own
    → k < length own → x ≡ get_or own k x → find p own ≡ Some x
found_some p own k x none some le lt e = find_at p own k none some le ∙ get_there own k x lt e
