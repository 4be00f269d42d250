use Rattle.std.proofs.Common.{◌≡◌, ℕ, ◌+◌, ◌*◌, ◌<◌, Bool, true, false, not, ◌&&◌, ◌||◌, cond, List, [], ◌∷◌, ◌++◌, length, get_or, set, take, refl, ap, sym}
use Rattle.std.proofs.{Common.{◌∙◌, arith, inl, inr, ◌⊎◌, Option, Some, None, subst}, lemmas.List.{get_or-set_same, get_or-set_other}}
use Rattle.std.proofs.lemmas.List.Elements.{All-append, All-cons, All-nil, All-contains, Contains-append_right, All-more}
use Rattle.std.proofs.{lemmas.Bool.{cases_eq, cases_Bool, and_parts, and_from, not-true}, lemmas.List.Sums.{sum_by-set}}
use Rattle.std.specs.{Prelude.{All, Contains, find, IfSome, count_by}, List.{list_all}}
use Rattle.search_terms.specs.{declared.literals.Literal.{Literal}, Closure.{negation, is_same, forces, IsUnitClosed, InRange}}
use Rattle.search_terms.specs.Marks.{flag_place, is_marked, IsWithin, IsForced}

or_mono : (a b c : Bool) → (b ≡ true → c ≡ true) → (a || b) ≡ true → (a || c) ≡ true
or_mono true b c f h = refl
or_mono false b c f h = f h

pub all_mono : {X : Type 0} (p q : X → Bool) (xs : List X) → ((x : X) → p x ≡ true → q x ≡ true) → list_all p xs ≡ true → list_all q xs ≡ true
all_mono p q [] f h = refl
all_mono p q (x ∷ xs) f h =
    let both = and_parts (p x) (list_all p xs) h in
    and_from (q x) (list_all q xs) (f x both.0) (all_mono p q xs f both.1)

pub forces_mono : (s t : Literal → Bool) (l : Literal) (sentence : List Literal) → IsWithin s t → forces s l sentence ≡ true → forces t l sentence ≡ true
forces_mono s t l sentence w h = all_mono (λ m. is_same m l || s (negation m)) (λ m. is_same m l || t (negation m)) sentence (λ m. or_mono (is_same m l) (s (negation m)) (t (negation m)) (w (negation m))) h

abbrev pub literal_of : ℕ → Bool → Literal
literal_of c sign = record { class = c; positive = sign }

same_place : (c d : ℕ) (a b : Bool) → c * 2 + cond a 1 0 ≡ d * 2 + cond b 1 0 → (c ≡ d) × (a ≡ b)
same_place c d true true e = (omega arith, refl)
same_place c d true false e = absurd (omega arith)
same_place c d false true e = absurd (omega arith)
same_place c d false false e = (omega arith, refl)

pub place_injective : (m l : Literal) → flag_place m ≡ flag_place l → m ≡ l
place_injective m l e =
    let both = same_place m.class l.class m.positive l.positive e in
    ap (λ c. literal_of c m.positive) both.0 ∙ ap (λ s. literal_of l.class s) both.1

pub marked_set : (flags : List Bool) (l m : Literal) → flag_place l < length flags → is_marked (set flags (flag_place l) true) m ≡ true → (m ≡ l) ⊎ (is_marked flags m ≡ true)
marked_set flags l m lt h = elim (cases_eq (flag_place m) (flag_place l)) [
  | inl e ↦ inl (place_injective m l e)
  | inr n ↦ inr (sym (get_or-set_other flags (flag_place l) (flag_place m) true false n) ∙ h)
]

pub marked_more : (flags : List Bool) (l m : Literal) → flag_place l < length flags → is_marked flags m ≡ true → is_marked (set flags (flag_place l) true) m ≡ true
marked_more flags l m lt h = elim (cases_eq (flag_place m) (flag_place l)) [
  | inl e ↦ rw e (get_or-set_same flags (flag_place l) true false lt)
  | inr n ↦ get_or-set_other flags (flag_place l) (flag_place m) true false n ∙ h
]

-- each closed set that holds what was marked first holds what is marked now
abbrev pub IsSoundly : List (List Literal) → (Literal → Bool) → (Literal → Bool) → Type 0
IsSoundly formula old new = (s : Literal → Bool) → IsWithin old s → IsUnitClosed formula s → IsWithin new s

pub forced_sound : (formula : List (List Literal)) (old : Literal → Bool) (flags : List Bool) (l : Literal) → flag_place l < length flags
    → IsForced formula (is_marked flags) l → IsSoundly formula old (is_marked flags) → IsSoundly formula old (is_marked (set flags (flag_place l) true))
forced_sound formula old flags l lt forced sound s w closed m h = elim (marked_set flags l m lt h) [
  | inl e ↦ rw e (All-contains (λ k. forces s k forced.sentence ≡ true → s k ≡ true) forced.sentence l
      (All-contains (λ sentence. All (λ k. forces s k sentence ≡ true → s k ≡ true) sentence) formula forced.sentence closed.steps forced.here)
      forced.member (forces_mono (is_marked flags) s l forced.sentence (sound s w closed) forced.forced))
  | inr k ↦ sound s w closed m k
]

pub Contains-head : {X : Type 0} (x : X) (xs : List X) → Contains (x ∷ xs) x
Contains-head x xs = (0, omega (arith, lengths x xs), refl)
  where
    lengths : {X : Type 0} (x : X) (xs : List X) → length (x ∷ xs) ≡ length xs + 1
    lengths x xs = omega arith

pub Contains-tail : {X : Type 0} (x y : X) (xs : List X) → Contains xs y → Contains (x ∷ xs) y
Contains-tail x y xs c = Contains-append_right (x ∷ []) xs y c

pub find_some : {X : Type 0} (p : X → Bool) (xs : List X) (x : X) → find p xs ≡ Some x → Contains xs x × (p x ≡ true)
find_some p [] x h = cc
find_some p (y ∷ ys) x h = elim (cases_Bool (p y)) [
  | inl t ↦ let e : y ≡ x = cc (rw t at h) in (subst (λ z. Contains (y ∷ ys) z) e (Contains-head y ys), subst (λ z. p z ≡ true) e t)
  | inr f ↦ let rest = find_some p ys x (rw f at h) in (Contains-tail y x ys rest.0, rest.1)
]

pub find_none : {X : Type 0} (p : X → Bool) (xs : List X) → find p xs ≡ None → All (λ x. p x ≡ false) xs
find_none p [] h = All-nil (λ x. p x ≡ false)
find_none p (y ∷ ys) h = elim (cases_Bool (p y)) [
  | inl t ↦ absurd (cc (rw t at h))
  | inr f ↦ All-cons (λ x. p x ≡ false) y ys f (find_none p ys (rw f at h))
]

-- what the search for a forced literal in one sentence says
abbrev pub is_unmet : (Literal → Bool) → List Literal → Literal → Bool
is_unmet s sentence l = not (s l) && forces s l sentence

pub forced_there : (formula : List (List Literal)) (s : Literal → Bool) (sentence : List Literal) (l : Literal)
    → Contains formula sentence → find (is_unmet s sentence) sentence ≡ Some l → IsForced formula s l
forced_there formula s sentence l here e =
    let found = find_some (is_unmet s sentence) sentence l e in
    let both = and_parts (not (s l)) (forces s l sentence) found.1 in
    record { sentence = sentence; here = here; member = found.0; forced = both.1; absent = not-true (s l) both.0 }

met : (a b : Bool) → (not a && b) ≡ false → b ≡ true → a ≡ true
met true b h k = refl
met false b h k = cc

pub sentence_met : (s : Literal → Bool) (sentence : List Literal) → find (is_unmet s sentence) sentence ≡ None
    → All (λ l. forces s l sentence ≡ true → s l ≡ true) sentence
sentence_met s sentence e = λ k d lt h. met (s (get_or sentence k d)) (forces s (get_or sentence k d) sentence) (find_none (is_unmet s sentence) sentence e k d lt) h

pub closed_more : (formula : List (List Literal)) (s : Literal → Bool) (i : ℕ) (sentence : List Literal) → i < length formula → sentence ≡ get_or formula i sentence
    → IsUnitClosed (take i formula) s → find (is_unmet s sentence) sentence ≡ None → IsUnitClosed (take (i + 1) formula) s
closed_more formula s i sentence lt e closed none = record {
  steps = All-more (λ x. All (λ l. forces s l x ≡ true → s l ≡ true) x) formula i sentence lt closed.steps (rw (← e) (sentence_met s sentence none));
}

pub closed_append : (first second : List (List Literal)) (s : Literal → Bool) → IsUnitClosed first s → IsUnitClosed second s → IsUnitClosed (first ++ second) s
closed_append first second s a b = record { steps = All-append (λ x. All (λ l. forces s l x ≡ true → s l ≡ true) x) first second a.steps b.steps }

pub forced_right : (first second : List (List Literal)) (s : Literal → Bool) (l : Literal) → IsForced second s l → IsForced (first ++ second) s l
forced_right first second s l f = record { sentence = f.sentence; here = Contains-append_right first second f.sentence f.here; member = f.member; forced = f.forced; absent = f.absent }

pub fewer_unmarked : (flags : List Bool) (i : ℕ) → i < length flags → get_or flags i false ≡ false → count_by not (set flags i true) < count_by not flags
fewer_unmarked flags i lt f =
    let e : count_by not (set flags i true) + cond (not (get_or flags i false)) 1 0 ≡ count_by not flags + 0 = sum_by-set (λ b. cond (not b) 1 0) flags i true false lt in
    omega (arith, rw f at e)

pub place_fits : (c n : ℕ) (b : Bool) → c < n → c * 2 + cond b 1 0 < n * 2
place_fits c n true h = omega arith
place_fits c n false h = omega arith

pub forced_in_range : (formula : List (List Literal)) (s : Literal → Bool) (l : Literal) (n : ℕ) → InRange n formula → IsForced formula s l → l.class < n
forced_in_range formula s l n range f =
    All-contains (λ k. k.class < n) f.sentence l (All-contains (λ x. All (λ k. k.class < n) x) formula f.sentence range f.here) f.member

pub forced_place : (formula : List (List Literal)) (s : Literal → Bool) (l : Literal) (n : ℕ) → InRange n formula → IsForced formula s l → flag_place l < n * 2
forced_place formula s l n range f = place_fits l.class n l.positive (forced_in_range formula s l n range f)

pub range_append : (first second : List (List Literal)) (n : ℕ) → InRange n first → InRange n second → InRange n (first ++ second)
range_append first second n a b = All-append (λ x. All (λ k. k.class < n) x) first second a b

pub weaker_if_some : {X : Type 0} (o : Option X) (P Q : X → Type 0) → ((x : X) → P x → Q x) → IfSome o P → IfSome o Q
weaker_if_some None P Q f h = h
weaker_if_some (Some x) P Q f h = f x h

-- both facts of a step of the loop, at the place that was marked
pub marking : (first second : List (List Literal)) (old : Literal → Bool) (flags : List Bool) (l : Literal) (n : ℕ) (place : ℕ) → place ≡ flag_place l → length flags ≡ n * 2
    → InRange n first → InRange n second → IsForced (first ++ second) (is_marked flags) l
    → IsWithin old (is_marked flags) → IsSoundly (first ++ second) old (is_marked flags)
    → record { kept : IsWithin old (is_marked (set flags place true)); sound : IsSoundly (first ++ second) old (is_marked (set flags place true)) }
marking first second old flags l n place e long a b forced kept sound =
    let lt : flag_place l < length flags = rw long (forced_place (first ++ second) (is_marked flags) l n (range_append first second n a b) forced) in
    rw e (record {
      kept = λ m h. marked_more flags l m lt (kept m h);
      sound = forced_sound (first ++ second) old flags l lt forced sound;
    })

pub marking_fewer : (first second : List (List Literal)) (flags : List Bool) (l : Literal) (n : ℕ) (place : ℕ) → place ≡ flag_place l → length flags ≡ n * 2
    → InRange n first → InRange n second → IsForced (first ++ second) (is_marked flags) l
    → count_by not (set flags place true) < count_by not flags
marking_fewer first second flags l n place e long a b forced =
    let lt : flag_place l < length flags = rw long (forced_place (first ++ second) (is_marked flags) l n (range_append first second n a b) forced) in
    rw e (fewer_unmarked flags (flag_place l) lt forced.absent)
