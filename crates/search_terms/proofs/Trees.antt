use Rattle.std.proofs.Common.{◌≡◌, ℕ, zero, suc, ◌<◌, ◌≤◌, Bool, true, false, not, ◌&&◌, ◌||◌, eqb, cond, List, [], ◌∷◌, ◌++◌, length, get_or, refl, ap, ◌∙◌}
use Rattle.std.proofs.Common.{arith, inl, inr, ◌⊎◌, Some, None, subst}
use Rattle.std.proofs.lemmas.Bool.{cases_eq, and_parts, and_from, both_ways, or_from, not-true, ne_eqb, eq-eqb, or_right, or_left}
use Rattle.std.proofs.{lemmas.List.Elements.{All-contains, All-tail, All-head}, lemmas.List.Folds.{list_any-append, list_any-from_Any}}
use Rattle.std.specs.{Prelude.{All}, List.{find}}
use Rattle.listed.proofs.Bools.{lighter}
use Rattle.search_terms.specs.{declared.literals.Literal.{Literal}, Closure.{literal, negation, is_refuted, HasGiven, IsClosure, InRange}}
use Rattle.search_terms.specs.{Marks.{HasClash, is_decided, classes_left}, Tree.{is_open_need, is_undecided, IsFoundLeaf, IsSplit}}
use Rattle.search_terms.proofs.{Sets.{literal_of, find_some, find_none}, Least.{clash_to}}

pub given_held : (formula : List (List Literal)) (given : List Literal) (s : Literal → Bool) → IsClosure formula given s → HasGiven s given
given_held formula given s c k d lt = c.whole (get_or given k d) (λ t holds closed. holds k d lt)

sign_cases : (a b : Bool) → (a ≡ b) ⊎ (a ≡ not b)
sign_cases true true = inl refl
sign_cases true false = inr refl
sign_cases false true = inr refl
sign_cases false false = inl refl

literal_cases : (l m : Literal) → l.class ≡ m.class → (l ≡ m) ⊎ (l ≡ negation m)
literal_cases l m e = elim (sign_cases l.positive m.positive) [
  | inl p ↦ inl (ap (λ c. literal_of c l.positive) e ∙ ap (λ s. literal_of m.class s) p)
  | inr p ↦ inr (ap (λ c. literal_of c l.positive) e ∙ ap (λ s. literal_of m.class s) p)
]

differs : (s : Literal → Bool) (l m : Literal) → s l ≡ true → is_undecided s m ≡ true → eqb l.class m.class ≡ false
differs s l m h u =
    let both = and_parts (not (s m)) (not (s (negation m))) u in
    ne_eqb l.class m.class (λ e. elim (literal_cases l m e) [
      | inl same' ↦ both_ways (s m) (not-true (s m) both.0) (subst (λ k. s k ≡ true) same' h)
      | inr other ↦ both_ways (s (negation m)) (not-true (s (negation m)) both.1) (subst (λ k. s k ≡ true) other h)
    ])

pub undecided_free : (s : Literal → Bool) (decisions : List Literal) (m : Literal) → HasGiven s decisions → is_undecided s m ≡ true → is_decided m.class decisions ≡ false
undecided_free s [] m h u = refl
undecided_free s (l ∷ ls) m h u =
    or_from (eqb l.class m.class) (is_decided m.class ls) (differs s l m (All-head (λ k. s k ≡ true) l ls h) u) (undecided_free s ls m (All-tail (λ k. s k ≡ true) l ls h) u)

decided_more : (n c : ℕ) (b : Bool) (decisions : List Literal) → is_decided n (decisions ++ literal c b ∷ []) ≡ (is_decided n decisions || (eqb c n || false))
decided_more n c b decisions = list_any-append (λ l. eqb l.class n) decisions (literal c b ∷ [])

pub free_grows : (n c : ℕ) (b : Bool) (decisions : List Literal) → classes_left n (decisions ++ literal c b ∷ []) ≤ classes_left n decisions
free_grows zero c b decisions = omega arith
free_grows (suc n) c b decisions =
    let step : cond (is_decided n (decisions ++ literal c b ∷ [])) 0 1 ≤ cond (is_decided n decisions) 0 1 = rw (decided_more n c b decisions) (lighter (is_decided n decisions) (eqb c n || false)) in
    let rest = free_grows n c b decisions in
    omega arith

pub free_less : (n c : ℕ) (b : Bool) (decisions : List Literal) → c < n → is_decided c decisions ≡ false → classes_left n (decisions ++ literal c b ∷ []) < classes_left n decisions
free_less zero c b decisions lt f = absurd (omega arith)
free_less (suc n) c b decisions lt f = elim (cases_eq c n) [
  | inl e ↦
      let now : is_decided n (decisions ++ literal c b ∷ []) ≡ true = decided_more n c b decisions ∙ or_right (is_decided n decisions) (eqb c n || false) (or_left (eqb c n) false (eq-eqb c n e)) in
      let before : is_decided n decisions ≡ false = rw e at f in
      let rest = free_grows n c b decisions in
      rw (now, before) (omega arith)
  | inr ne ↦
      let below : c < n = omega arith in
      let rest = free_less n c b decisions below f in
      let step : cond (is_decided n (decisions ++ literal c b ∷ [])) 0 1 ≤ cond (is_decided n decisions) 0 1 = rw (decided_more n c b decisions) (lighter (is_decided n decisions) (eqb c n || false)) in
      omega arith
]

open_one : (p a b : Bool) → cond p (not a) b ≡ true → (not a && not b) ≡ false → b ≡ true
open_one true true b h k = cc
open_one true false true h k = refl
open_one true false false h k = cc
open_one false a true h k = refl
open_one false a false h k = h

open_refuted : (s : Literal → Bool) (need : List Literal) → is_open_need s need ≡ true → All (λ m. is_undecided s m ≡ false) need → is_refuted s need ≡ true
open_refuted s [] o u = refl
open_refuted s (m ∷ ms) o u =
    let both = and_parts (cond m.positive (not (s m)) (s (negation m))) (is_open_need s ms) o in
    and_from (s (negation m)) (is_refuted s ms)
    (open_one m.positive (s m) (s (negation m)) both.0 (All-head (λ k. is_undecided s k ≡ false) m ms u))
    (open_refuted s ms both.1 (All-tail (λ k. is_undecided s k ≡ false) m ms u))

-- an open need of a calm closure has an undecided member
pub open_has_member : (formula : List (List Literal)) (s : Literal → Bool) (need : List Literal) → ¬ (HasClash formula s) → find (is_open_need s) formula ≡ Some need → find (is_undecided s) need ≡ None → ⊥
open_has_member formula s need calm first none =
    let found = find_some (is_open_need s) formula need first in
    let refuted = open_refuted s need found.1 (find_none (is_undecided s) need none) in
    calm (inr (list_any-from_Any (is_refuted s) formula (found.0.0, need, found.0.1, found.0.2, refuted)))

pub found_leaf_of : (classes : ℕ) (formula : List (List Literal)) (decisions : List Literal) (s : Literal → Bool) (chosen : List Bool)
    → IsClosure formula decisions s → ¬ (HasClash formula s) → find (is_open_need s) formula ≡ None → length chosen ≡ classes
    → ((c : ℕ) → c < classes → get_or chosen c false ≡ s (literal c true)) → IsFoundLeaf classes formula decisions chosen
found_leaf_of classes formula decisions s chosen closure calm none long each = record {
  set = s;
  closure = closure;
  calm = λ k. calm (clash_to formula decisions s closure k);
  met = none;
  long = long;
  each = each;
}

pub split_of : (classes : ℕ) (formula : List (List Literal)) (decisions : List Literal) (s : Literal → Bool) (need : List Literal) (member : Literal)
    → InRange classes formula → IsClosure formula decisions s → ¬ (HasClash formula s) → find (is_open_need s) formula ≡ Some need → find (is_undecided s) need ≡ Some member
    → IsSplit formula decisions member.class × (member.class < classes)
    × (classes_left classes (decisions ++ literal member.class true ∷ []) < classes_left classes decisions)
    × (classes_left classes (decisions ++ literal member.class false ∷ []) < classes_left classes decisions)
split_of classes formula decisions s need member range closure calm first least =
    let sentence = find_some (is_open_need s) formula need first in
    let found = find_some (is_undecided s) need member least in
    let lt : member.class < classes = All-contains (λ k. k.class < classes) need member (All-contains (λ x. All (λ k. k.class < classes) x) formula need range sentence.0) found.0 in
    let f = undecided_free s decisions member (given_held formula decisions s closure) found.1 in (
      record { set = s; closure = closure; calm = λ k. calm (clash_to formula decisions s closure k); need = need; first = first; member = member; least = least; named = refl },
      lt,
      free_less classes member.class true decisions lt f,
      free_less classes member.class false decisions lt f,
    )
