use Rattle.std.proofs.Common.{◌≡◌, ℕ, zero, suc, ◌+◌, ◌-◌, ◌<◌, ◌≤◌, Bool, true, false, not, ◌||◌, eqb, List, [], ◌∷◌, ◌++◌, length, get_or, take, refl, ap}
use Rattle.std.proofs.{Common.{◌∙◌, arith, inl, inr, subst}, lemmas.Option.{slice_get_within, slice_get-get_or, get_or_from_slice_get}}
use Rattle.std.proofs.lemmas.Bool.{cases_Bool, and_parts, or_cases, eqb-true, or_parts}
use Rattle.std.proofs.{lemmas.List.Elements.{All-contains, All-append, All-nil, All-cons, All-more, All-head, All-tail}, Math.Numerals.{add-one}}
use Rattle.std.proofs.lemmas.List.{take_all}
use Rattle.std.specs.{Prelude.{All, Contains, map}, List.{list_any}}
use Rattle.search_terms.specs.declared.literals.Literal.{Literal}
use Rattle.search_terms.specs.Closure.{negation, is_same, same_sign, satisfies, forces, Models, HaveNoModel, IsUnitClosed, HasGiven, Clashes}
use Rattle.search_terms.specs.Derives.{Derives}
use Rattle.search_terms.proofs.Sets.{literal_of}

sign_negation : (a b : Bool) → same_sign (not a) b ≡ not (same_sign a b)
sign_negation true true = refl
sign_negation true false = refl
sign_negation false true = refl
sign_negation false false = refl

pub satisfies_negation : (v : ℕ → Bool) (l : Literal) → satisfies v (negation l) ≡ not (satisfies v l)
satisfies_negation v l = sign_negation l.positive (v l.class)

same_sign-true : (a b : Bool) → same_sign a b ≡ true → a ≡ b
same_sign-true true true h = refl
same_sign-true true false h = cc
same_sign-true false true h = cc
same_sign-true false false h = refl

pub same-true : (m l : Literal) → is_same m l ≡ true → m ≡ l
same-true m l h =
    let both = and_parts (eqb m.class l.class) (same_sign m.positive l.positive) h in
    ap (λ c. literal_of c m.positive) (eqb-true m.class l.class both.0) ∙ ap (λ s. literal_of l.class s) (same_sign-true m.positive l.positive both.1)

-- what a model satisfies is closed under unit steps
unit_in_model : (v : ℕ → Bool) (l : Literal) (sentence : List Literal) → list_any (satisfies v) sentence ≡ true → forces (satisfies v) l sentence ≡ true → satisfies v l ≡ true
unit_in_model v l [] some h = cc
unit_in_model v l (m ∷ ms) some h =
    let both = and_parts (is_same m l || satisfies v (negation m)) (forces (satisfies v) l ms) h in
    elim (or_cases (is_same m l) (satisfies v (negation m)) both.0) [
      | inl e ↦ elim (or_cases (satisfies v m) (list_any (satisfies v) ms) some) [
        | inl t ↦ subst (λ k. satisfies v k ≡ true) (same-true m l e) t
        | inr t ↦ unit_in_model v l ms t both.1
      ]
      | inr f ↦ elim (or_cases (satisfies v m) (list_any (satisfies v) ms) some) [
        | inl t ↦ absurd (both_negation v m t f)
        | inr t ↦ unit_in_model v l ms t both.1
      ]
    ]
  where
    both_negation : (v : ℕ → Bool) (m : Literal) → satisfies v m ≡ true → satisfies v (negation m) ≡ true → ⊥
    both_negation v m t f = cc (satisfies_negation v m, ap not t)

pub model_closed : (v : ℕ → Bool) (formula : List (List Literal)) → Models v formula → IsUnitClosed formula (satisfies v)
model_closed v formula model = record { steps = λ k d lt i e ilt h. unit_in_model v (get_or (get_or formula k d) i e) (get_or formula k d) (model k d lt) h }

not_both : (v : ℕ → Bool) (m : Literal) → satisfies v m ≡ true → satisfies v (negation m) ≡ true → ⊥
not_both v m t f = cc (satisfies_negation v m, ap not t)

not_refuted : (v : ℕ → Bool) (sentence : List Literal) → list_any (satisfies v) sentence ≡ true → All (λ m. satisfies v (negation m) ≡ true) sentence → ⊥
not_refuted v [] some all = cc
not_refuted v (m ∷ ms) some all = elim (or_cases (satisfies v m) (list_any (satisfies v) ms) some) [
  | inl t ↦ not_both v m t (All-head (λ k. satisfies v (negation k) ≡ true) m ms all)
  | inr t ↦ not_refuted v ms t (All-tail (λ k. satisfies v (negation k) ≡ true) m ms all)
]

-- where the closure clashes, no model holds the given literals
pub clash_no_model : (v : ℕ → Bool) (formula : List (List Literal)) (given : List Literal) → Models v formula → HasGiven (satisfies v) given → Clashes formula given → ⊥
clash_no_model v formula given model holds clash =
    let closed = model_closed v formula model in
    elim clash [
      | inl both ↦ not_both v both.0 (both.1 (satisfies v) holds closed) (both.2 (satisfies v) holds closed)
      | inr some ↦
          let here : Contains formula some.1 = (some.0, some.2, some.3) in
          not_refuted v some.1 (All-contains (λ s. list_any (satisfies v) s ≡ true) formula some.1 model here) (λ k d lt. some.4 k d lt (satisfies v) holds closed)
    ]

-- an entry whose negated literals the model does not all hold is true in it
none_satisfied : (v : ℕ → Bool) (entry : List Literal) → list_any (satisfies v) entry ≡ false → HasGiven (satisfies v) (map negation entry)
none_satisfied v [] h = All-nil (λ l. satisfies v l ≡ true)
none_satisfied v (m ∷ ms) h =
    let both = or_parts (satisfies v m) (list_any (satisfies v) ms) h in
    All-cons (λ l. satisfies v l ≡ true) (negation m) (map negation ms) (satisfies_negation v m ∙ ap not both.0) (none_satisfied v ms both.1)

entry_true : (v : ℕ → Bool) (formula : List (List Literal)) (entry : List Literal) → Models v formula → Clashes formula (map negation entry) → list_any (satisfies v) entry ≡ true
entry_true v formula entry model clash = elim (cases_Bool (list_any (satisfies v) entry)) [
  | inl t ↦ t
  | inr f ↦ absurd (clash_no_model v formula (map negation entry) model (none_satisfied v entry f) clash)
]

-- each entry up to k is true in the model
entries_true : (v : ℕ → Bool) (formula log : List (List Literal)) (k : ℕ) → k ≤ length log → Models v formula → Derives formula log → Models v (take k log)
entries_true v formula log zero le model d = All-nil (λ s. list_any (satisfies v) s ≡ true)
entries_true v formula log (suc k) le model d =
    let lt : k < length log = omega arith in
    let before : Models v (take k log) = entries_true v formula log k (omega arith) model d in
    let here : Clashes (formula ++ take k log) (map negation (get_or log k [])) = d.each k (get_or log k []) (slice_get-get_or log k [] lt) in
    let more : Models v (take (k + 1) log) = All-more (λ s. list_any (satisfies v) s ≡ true) log k [] lt before
    (entry_true v (formula ++ take k log) (get_or log k []) (All-append (λ s. list_any (satisfies v) s ≡ true) formula (take k log) model before) here) in
    rw add-one at more

pub derives_no_model : (formula log : List (List Literal)) → Derives formula log → HaveNoModel formula
derives_no_model formula log d v model =
    let all : Models v (take (length log) log) = entries_true v formula log (length log) (omega arith) model d in
    let lt : length log - 1 < length log = slice_get_within log (length log - 1) [] d.last in
    let whole : Models v log = rw (take_all (length log) log (omega arith)) at all in
    let e : get_or log (length log - 1) [] ≡ [] = get_or_from_slice_get log (length log - 1) [] [] d.last in
    let at_last : list_any (satisfies v) (get_or log (length log - 1) []) ≡ true = whole (length log - 1) [] lt in
    let f : list_any (satisfies v) [] ≡ true = rw e at at_last in
    cc
