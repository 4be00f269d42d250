use Rattle.std.proofs.Common.{◌≡◌, ℕ, zero, suc, ◌+◌, ◌*◌, ◌<◌, ◌≤◌, Bool, true, false, List, [], ◌∷◌, ◌++◌, length, get_or, set, take, replicate, refl, inl}
use Rattle.std.proofs.{Common.{inr, ◌⊎◌}, lemmas.List.{get_or-set_same, take_all}}
use Rattle.std.proofs.lemmas.List.Elements.{All-cons, All-nil, All-head, All-tail, All-more, All-contains, All-weaker, All-map, All-push, Contains-append_left}
use Rattle.std.proofs.{lemmas.List.Elements.{Contains-get_or, Contains-push}, lemmas.List.Folds.{Any-from_list_any, list_any-from_Any}}
use Rattle.std.proofs.lemmas.Bool.{and_parts, and_from}
use Rattle.std.specs.{Prelude.{All, map, ◌↔◌}, List.{list_all}}
use Rattle.search_terms.specs.{declared.literals.Literal.{Literal}, Closure.{negation, is_refuted, IsUnitClosed, HasGiven, InClosure, IsClosure, Clashes}}
use Rattle.search_terms.specs.Marks.{flag_place, is_marked, IsWithin, HasClash}
use Rattle.search_terms.proofs.Sets.{marked_set, marked_more, place_fits}

pub mark_step : (given : List Literal) (i : ℕ) (d : Literal) (old : Literal → Bool) (flags : List Bool) (n place : ℕ) → i < length given → place ≡ flag_place (get_or given i d)
    → length flags ≡ n * 2 → All (λ l. l.class < n) given → HasGiven (is_marked flags) (take i given)
    → ((s : Literal → Bool) → HasGiven s given → IsWithin old s → IsWithin (is_marked flags) s)
    → record { all : HasGiven (is_marked (set flags place true)) (take (i + 1) given); only : (s : Literal → Bool) → HasGiven s given → IsWithin old s → IsWithin (is_marked (set flags place true)) s }
mark_step given i d old flags n place lt e long range all only =
    let l = get_or given i d in
    let inside : flag_place l < length flags = rw long (place_fits l.class n l.positive (range i d lt)) in
    rw e (record {
      all = All-more (λ m. is_marked (set flags (flag_place l) true) m ≡ true) given i d lt
          (All-weaker (λ m. is_marked flags m ≡ true) (λ m. is_marked (set flags (flag_place l) true) m ≡ true) (λ m h. marked_more flags l m inside h) (take i given) all)
          (get_or-set_same flags (flag_place l) true false inside);
      only = λ s holds w m h. elim (marked_set flags l m inside h) [
        | inl same' ↦ rw same' (holds i d lt)
        | inr k ↦ only s holds w m k
      ];
    })

pub holds_all : (s : Literal → Bool) (given : List Literal) (i : ℕ) → length given ≤ i → HasGiven s (take i given) → HasGiven s given
holds_all s given i le h = rw (take_all i given le) at h

pub least_closed : (formula : List (List Literal)) (given : List Literal) (old mid new : Literal → Bool)
    → ((l : Literal) → old l ≡ true → ⊥)
    → HasGiven mid given
    → ((s : Literal → Bool) → HasGiven s given → IsWithin old s → IsWithin mid s)
    → IsWithin mid new
    → ((s : Literal → Bool) → IsWithin mid s → IsUnitClosed formula s → IsWithin new s)
    → IsUnitClosed formula new → IsClosure formula given new
least_closed formula given old mid new clear all only kept sound closed = record {
  sound = λ l h s holds closed_s. sound s (only s holds (λ m k. absurd (clear m k))) closed_s l h;
  whole = λ l h. h new (All-weaker (λ m. mid m ≡ true) (λ m. new m ≡ true) kept given all) closed;
}

unmarked_at : (n k : ℕ) → get_or (replicate n false) k false ≡ false
unmarked_at zero k = refl
unmarked_at (suc n) zero = refl
unmarked_at (suc n) (suc k) = unmarked_at n k

pub unmarked : (n : ℕ) (flags : List Bool) → flags ≡ replicate n false → (l : Literal) → is_marked flags l ≡ true → ⊥
unmarked n flags e l h = cc (rw e at h, unmarked_at n (flag_place l))

refuted_closure : (formula : List (List Literal)) (given : List Literal) (s : Literal → Bool) (sentence : List Literal) → IsClosure formula given s
    → is_refuted s sentence ≡ true → All (λ m. InClosure formula given (negation m)) sentence
refuted_closure formula given s [] c h = All-nil (λ m. InClosure formula given (negation m))
refuted_closure formula given s (m ∷ ms) c h =
    let both = and_parts (s (negation m)) (is_refuted s ms) h in
    All-cons (λ m. InClosure formula given (negation m)) m ms (c.sound (negation m) both.0) (refuted_closure formula given s ms c both.1)

pub all_true : {X : Type 0} (p : X → Bool) (xs : List X) → All (λ x. p x ≡ true) xs → list_all p xs ≡ true
all_true p [] h = refl
all_true p (x ∷ xs) h = and_from (p x) (list_all p xs) (All-head (λ x. p x ≡ true) x xs h) (all_true p xs (All-tail (λ x. p x ≡ true) x xs h))

closure_refuted : (formula : List (List Literal)) (given : List Literal) (s : Literal → Bool) (sentence : List Literal) → IsClosure formula given s
    → All (λ m. InClosure formula given (negation m)) sentence → is_refuted s sentence ≡ true
closure_refuted formula given s sentence c h = all_true (λ m. s (negation m)) sentence (All-weaker (λ m. InClosure formula given (negation m)) (λ m. s (negation m) ≡ true) (λ m k. c.whole (negation m) k) sentence h)

pub clash_from : (formula : List (List Literal)) (given : List Literal) (s : Literal → Bool) → IsClosure formula given s → HasClash formula s → Clashes formula given
clash_from formula given s c h = elim h [
  | inl both ↦ inl (both.0, c.sound both.0 both.1, c.sound (negation both.0) both.2)
  | inr some ↦
      let found = Any-from_list_any (is_refuted s) formula some in
      inr (found.0, found.1, found.2, found.3, refuted_closure formula given s found.1 c found.4)
]

pub clash_to : (formula : List (List Literal)) (given : List Literal) (s : Literal → Bool) → IsClosure formula given s → Clashes formula given → HasClash formula s
clash_to formula given s c h = elim h [
  | inl both ↦ inl (both.0, c.whole both.0 both.1, c.whole (negation both.0) both.2)
  | inr some ↦ inr (list_any-from_Any (is_refuted s) formula (some.0, some.1, some.2, some.3, closure_refuted formula given s some.1 c some.4))
]

pub clash_iff : (formula : List (List Literal)) (given : List Literal) (s : Literal → Bool) (r : Bool) → IsClosure formula given s → (r ≡ true) ↔ HasClash formula s → (r ≡ true) ↔ Clashes formula given
clash_iff formula given s r c h = ((λ t. clash_from formula given s c (h.0 t)), (λ k. h.1 (clash_to formula given s c k)))

pub negated_range : (literals : List Literal) (n : ℕ) → All (λ l. l.class < n) literals → All (λ l. l.class < n) (map negation literals)
negated_range literals n range = All-map (λ l. l.class < n) negation literals range

-- one more given literal: the old closure with it is the place to begin
pub closure_more : (formula : List (List Literal)) (given : List Literal) (l : Literal) (old mid new : Literal → Bool) → IsClosure formula given old
    → IsWithin old mid → mid l ≡ true → ((m : Literal) → mid m ≡ true → (m ≡ l) ⊎ (old m ≡ true))
    → IsWithin mid new → ((s : Literal → Bool) → IsUnitClosed formula s → IsWithin mid s → IsWithin new s) → IsUnitClosed formula new
    → IsClosure formula (given ++ l ∷ []) new
closure_more formula given l old mid new closure kept here only grown sound closed = record {
  sound = λ m h s holds closed_s. sound s closed_s (λ k t. elim (only k t) [
    | inl e ↦ rw e (holds_last s given l holds)
    | inr o ↦ closure.sound k o s (holds_front s given l holds) closed_s
  ]) m h;
  whole = λ m h. h new (All-push (λ k. new k ≡ true) given l (λ k d lt. grown (get_or given k d) (kept (get_or given k d) (closure.whole (get_or given k d) (λ s holds c. holds k d lt)))) (grown l here)) closed;
}
  where
    holds_front : (s : Literal → Bool) (given : List Literal) (l : Literal) → HasGiven s (given ++ l ∷ []) → HasGiven s given
    holds_front s given l holds k d lt = All-contains (λ m. s m ≡ true) (given ++ l ∷ []) (get_or given k d) holds (Contains-append_left given (l ∷ []) (get_or given k d) (Contains-get_or given k d lt))

    holds_last : (s : Literal → Bool) (given : List Literal) (l : Literal) → HasGiven s (given ++ l ∷ []) → s l ≡ true
    holds_last s given l holds = All-contains (λ m. s m ≡ true) (given ++ l ∷ []) l holds (Contains-push given l)
