use Rattle.std.proofs.Common.{◌≡◌, ℕ, zero, suc, ◌+◌, ◌*◌, ◌-◌, ◌<◌, Bool, true, false, not, ◌||◌, eqb, cond, List, [], ◌∷◌, ◌++◌, length, get_or, take, refl}
use Rattle.std.proofs.{Common.{ap, ◌∙◌, arith, inl, inr, Option, Some, None, subst, append_assoc, append-nil}, lemmas.List.{length_push, length-append}}
use Rattle.std.proofs.lemmas.Bool.{cases_Bool, and_from, and_cases, or_left, or_right, eq-eqb, not-false}
use Rattle.std.proofs.lemmas.List.Elements.{All-contains, All-weaker, All-head, All-tail, Contains-append_left, Contains-append_right, Contains-push}
use Rattle.std.proofs.lemmas.List.Elements.{Contains-get_or}
use Rattle.std.specs.{Prelude.{All, Contains, map, slice_get, is_some}, List.{list_any}}
use Rattle.listed.proofs.Lists.{at_end}
use Rattle.search_terms.specs.declared.literals.Literal.{Literal}
use Rattle.search_terms.specs.Closure.{literal, negation, is_same, same_sign, forces, IsUnitClosed, HasGiven, InClosure, Clashes, InRange, Models, satisfies}
use Rattle.search_terms.specs.{Derives.{Derives}, Tree.{is_open_need, Tree, IsTree, found_of, failed_leaves, log_of}}
use Rattle.search_terms.specs.Tree.Tree.{failed_leaf, found_leaf, split}
use Rattle.search_terms.proofs.Sets.{find_none, Contains-head, Contains-tail}

not_not : (b : Bool) → not (not b) ≡ b
not_not true = refl
not_not false = refl

pub negation_twice : (l : Literal) → negation (negation l) ≡ l
negation_twice l = ap (λ s. literal l.class s) (not_not l.positive)

pub negated_twice : (literals : List Literal) → map negation (map negation literals) ≡ literals
negated_twice [] = refl
negated_twice (l ∷ ls) = ap (λ m. m ∷ map negation (map negation ls)) (negation_twice l) ∙ ap (λ m. l ∷ m) (negated_twice ls)

closed_left : (formula more : List (List Literal)) (s : Literal → Bool) → IsUnitClosed (formula ++ more) s → IsUnitClosed formula s
closed_left formula more s closed = record {
  steps = λ k d lt.
      All-contains (λ x. All (λ l. forces s l x ≡ true → s l ≡ true) x) (formula ++ more) (get_or formula k d) closed.steps (Contains-append_left formula more (get_or formula k d) (Contains-get_or formula k d lt));
}

in_more : (formula more : List (List Literal)) (given : List Literal) (l : Literal) → InClosure formula given l → InClosure (formula ++ more) given l
in_more formula more given l h = λ s holds closed. h s holds (closed_left formula more s closed)

pub clash_more : (formula more : List (List Literal)) (given : List Literal) → Clashes formula given → Clashes (formula ++ more) given
clash_more formula more given clash = elim clash [
  | inl both ↦ inl (both.0, in_more formula more given both.0 both.1, in_more formula more given (negation both.0) both.2)
  | inr some ↦
      let here = Contains-append_left formula more some.1 (some.0, some.2, some.3) in
      inr (here.0, some.1, here.1, here.2, All-weaker (λ m. InClosure formula given (negation m)) (λ m. InClosure (formula ++ more) given (negation m)) (λ m h. in_more formula more given (negation m) h) some.1 some.4)
]

-- the log read from its first entry on
abbrev Follow : List (List Literal) → List (List Literal) → Type 0
Follow formula [] = Unit {0}
Follow formula (entry ∷ rest) = Clashes formula (map negation entry) × Follow (formula ++ entry ∷ []) rest

follow_append : (formula first second : List (List Literal)) → Follow formula first → Follow (formula ++ first) second → Follow formula (first ++ second)
follow_append formula [] second a b = rw append-nil at b
follow_append formula (entry ∷ rest) second a b = (a.0, follow_append (formula ++ entry ∷ []) rest second a.1 (rw append_assoc b))

follow_at : (formula log : List (List Literal)) → Follow formula log → (k : ℕ) (entry : List Literal) → slice_get log k ≡ Some entry → Clashes (formula ++ take k log) (map negation entry)
follow_at formula [] f k entry h = absurd (cc h)
follow_at formula (x ∷ rest) f zero entry h = let e : x ≡ entry = cc in rw append-nil (subst (λ y. Clashes formula (map negation y)) e f.0)
follow_at formula (x ∷ rest) f (suc k) entry h = rw append_assoc at (follow_at (formula ++ x ∷ []) rest f.1 k entry h)

pub same_refl : (l : Literal) → is_same l l ≡ true
same_refl l = and_from (eqb l.class l.class) (same_sign l.positive l.positive) (eq-eqb l.class l.class refl) (sign_refl l.positive)
  where
    sign_refl : (b : Bool) → same_sign b b ≡ true
    sign_refl true = refl
    sign_refl false = refl

-- where the decisions hold, the entry of a child forces the other value
entry_forces : (s : Literal → Bool) (decisions : List Literal) (m : Literal) → HasGiven s decisions → forces s (negation m) (map negation (decisions ++ m ∷ [])) ≡ true
entry_forces s [] m holds = and_from (is_same (negation m) (negation m) || s (negation (negation m))) true (or_left (is_same (negation m) (negation m)) (s (negation (negation m))) (same_refl (negation m))) refl
entry_forces s (a ∷ decisions) m holds =
    and_from (is_same (negation a) (negation m) || s (negation (negation a))) (forces s (negation m) (map negation (decisions ++ m ∷ [])))
    (or_right (is_same (negation a) (negation m)) (s (negation (negation a))) (rw negation_twice (All-head (λ l. s l ≡ true) a decisions holds)))
    (entry_forces s decisions m (All-tail (λ l. s l ≡ true) a decisions holds))

entry_member : (decisions : List Literal) (m : Literal) → Contains (map negation (decisions ++ m ∷ [])) (negation m)
entry_member [] m = Contains-head (negation m) []
entry_member (a ∷ decisions) m = Contains-tail (negation a) (negation m) (map negation (decisions ++ m ∷ [])) (entry_member decisions m)

child_gives : (formula : List (List Literal)) (decisions : List Literal) (m : Literal) → Contains formula (map negation (decisions ++ m ∷ [])) → InClosure formula decisions (negation m)
child_gives formula decisions m here = λ s holds closed.
    All-contains (λ l. forces s l (map negation (decisions ++ m ∷ [])) ≡ true → s l ≡ true) (map negation (decisions ++ m ∷ [])) (negation m)
    (All-contains (λ x. All (λ l. forces s l x ≡ true → s l ≡ true) x) formula (map negation (decisions ++ m ∷ [])) closed.steps here)
    (entry_member decisions m) (entry_forces s decisions m holds)

parent_clashes : (formula : List (List Literal)) (decisions : List Literal) (c : ℕ) → Contains formula (map negation (decisions ++ literal c true ∷ [])) → Contains formula (map negation (decisions ++ literal c false ∷ []))
    → Clashes formula decisions
parent_clashes formula decisions c left right = inl (literal c true, child_gives formula decisions (literal c false) right, child_gives formula decisions (literal c true) left)

none_left : (a b : Option (List Bool)) → cond (is_some a) a b ≡ None → (a ≡ None) × (b ≡ None)
none_left None b h = (refl, h)
none_left (Some x) b h = absurd (cc h)

-- a tree with nothing found has its root's entry last
log_ends : (decisions : List Literal) (tree : Tree) → found_of tree ≡ None → Contains (log_of decisions tree) (map negation decisions)
log_ends decisions failed_leaf none = Contains-head (map negation decisions) []
log_ends decisions (found_leaf chosen) none = absurd (cc none)
log_ends decisions (split c left right) none =
    Contains-push (log_of (decisions ++ literal c true ∷ []) left ++ log_of (decisions ++ literal c false ∷ []) right) (map negation decisions)

tree_follows : (classes : ℕ) (formula earlier : List (List Literal)) (decisions : List Literal) (tree : Tree) → IsTree classes formula decisions tree → found_of tree ≡ None
    → Follow (formula ++ earlier) (log_of decisions tree)
tree_follows classes formula earlier decisions failed_leaf is none = (rw negated_twice (clash_more formula earlier decisions is), tt)
tree_follows classes formula earlier decisions (found_leaf chosen) is none = absurd (cc none)
tree_follows classes formula earlier decisions (split c left right) is none =
    let A = decisions ++ literal c true ∷ [] in
    let B = decisions ++ literal c false ∷ [] in
    let both = none_left (found_of left) (found_of right) none in
    let first = tree_follows classes formula earlier A left is.1 both.0 in
    let second = tree_follows classes formula (earlier ++ log_of A left) B right is.2 both.1 in
    let G = formula ++ earlier ++ log_of A left ++ log_of B right in
    let in_left : Contains G (map negation A) =
    Contains-append_left (formula ++ earlier ++ log_of A left) (log_of B right) (map negation A)
    (Contains-append_right (formula ++ earlier) (log_of A left) (map negation A) (log_ends A left both.0)) in
    let in_right : Contains G (map negation B) = Contains-append_right (formula ++ earlier ++ log_of A left) (log_of B right) (map negation B) (log_ends B right both.1) in
    let parent : Clashes G decisions = parent_clashes G decisions c in_left in_right in
    follow_append (formula ++ earlier) (log_of A left ++ log_of B right) (map negation decisions ∷ [])
    (follow_append (formula ++ earlier) (log_of A left) (log_of B right) first (rw append_assoc second))
    (rw negated_twice (rw (← append_assoc (formula ++ earlier) (log_of A left) (log_of B right)) parent), tt)

last_push : {X : Type 0} (xs : List X) (x : X) → slice_get (xs ++ x ∷ []) (length (xs ++ x ∷ []) - 1) ≡ Some x
last_push xs x = let e : length (xs ++ x ∷ []) - 1 ≡ length xs = omega (arith, length_push xs x) in rw e (at_end xs x)

log_last : (tree : Tree) → found_of tree ≡ None → slice_get (log_of [] tree) (length (log_of [] tree) - 1) ≡ Some []
log_last failed_leaf none = last_push [] []
log_last (found_leaf chosen) none = absurd (cc none)
log_last (split c left right) none = last_push (log_of (literal c true ∷ []) left ++ log_of (literal c false ∷ []) right) []

-- the log of a tree with nothing found derives the empty entry
pub tree_derives : (classes : ℕ) (formula : List (List Literal)) (tree : Tree) → IsTree classes formula [] tree → found_of tree ≡ None → Derives formula (log_of [] tree)
tree_derives classes formula tree is none =
    let follow : Follow (formula ++ []) (log_of [] tree) = tree_follows classes formula [] [] tree is none in
    record { last = log_last tree none; each = follow_at formula (log_of [] tree) (rw append-nil at follow) }

satisfied_one : (v : ℕ → Bool) (s : Literal → Bool) (c : ℕ) (p : Bool) → v c ≡ s (literal c true) → cond p (not (s (literal c p))) (s (literal c (not p))) ≡ false → same_sign p (v c) ≡ true
satisfied_one v s c true e h = e ∙ not-false (s (literal c true)) h
satisfied_one v s c false e h = ap not (e ∙ h)

not_open : (v : ℕ → Bool) (s : Literal → Bool) (n : ℕ) (sentence : List Literal) → ((c : ℕ) → c < n → v c ≡ s (literal c true)) → All (λ l. l.class < n) sentence → is_open_need s sentence ≡ false
    → list_any (satisfies v) sentence ≡ true
not_open v s n [] same' range h = cc
not_open v s n (m ∷ ms) same' range h = elim (and_cases (cond m.positive (not (s m)) (s (negation m))) (is_open_need s ms) h) [
  | inl f ↦ or_left (satisfies v m) (list_any (satisfies v) ms) (satisfied_one v s m.class m.positive (same' m.class (All-head (λ l. l.class < n) m ms range)) f)
  | inr f ↦ or_right (satisfies v m) (list_any (satisfies v) ms) (not_open v s n ms same' (All-tail (λ l. l.class < n) m ms range) f)
]

pub found_model : (n : ℕ) (formula : List (List Literal)) (decisions : List Literal) (tree : Tree) (chosen : List Bool) → InRange n formula → IsTree n formula decisions tree → found_of tree ≡ Some chosen
    → Models (λ c. get_or chosen c false) formula
found_model n formula decisions failed_leaf chosen range is found = absurd (cc found)
found_model n formula decisions (found_leaf other) chosen range is found =
    let e : other ≡ chosen = cc found in
    subst (λ w. Models (λ c. get_or w c false) formula) e
    (λ k d lt. not_open (λ c. get_or other c false) is.set n (get_or formula k d) is.each (range k d lt) (find_none (is_open_need is.set) formula is.met k d lt))
found_model n formula decisions (split c left right) chosen range is found = elim (cases_Bool (is_some (found_of left))) [
  | inl t ↦ found_model n formula (decisions ++ literal c true ∷ []) left chosen range is.1 (rw t at found)
  | inr f ↦ found_model n formula (decisions ++ literal c false ∷ []) right chosen range is.2 (rw f at found)
]

-- two entries of children's trees and one of their parent
pub log_short : (decisions : List Literal) (tree : Tree) → found_of tree ≡ None → length (log_of decisions tree) + 1 ≡ 2 * failed_leaves tree
log_short decisions failed_leaf none = refl
log_short decisions (found_leaf chosen) none = absurd (cc none)
log_short decisions (split c left right) none =
    let both = none_left (found_of left) (found_of right) none in
    let A = log_of (decisions ++ literal c true ∷ []) left in
    let B = log_of (decisions ++ literal c false ∷ []) right in
    let first : length A + 1 ≡ 2 * failed_leaves left = log_short (decisions ++ literal c true ∷ []) left both.0 in
    let second : length B + 1 ≡ 2 * failed_leaves right = log_short (decisions ++ literal c false ∷ []) right both.1 in
    let long : length (A ++ B ++ map negation decisions ∷ []) ≡ length A + length B + 1 = length_push (A ++ B) (map negation decisions) ∙ ap (λ k. k + 1) (length-append A B) in
    rw (both.0, long) (omega (arith, first, second))
