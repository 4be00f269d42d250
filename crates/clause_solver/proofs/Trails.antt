-- Marks, and taking them back.
use Rattle.std.proofs.Common.{◌≡◌, ℕ, zero, suc, ◌+◌, ◌<◌, ◌≤◌, Bool, true, false, not, ◌||◌, cond, List, [], ◌∷◌, ◌++◌, ◌⊎◌, length, get_or, set, take, refl}
use Rattle.std.proofs.{Common.{ap, sym, ◌∙◌, arith, inl, inr, Some, subst}, lemmas.Bool.{cases_eq, or_cases, or_left, or_right}}
use Rattle.std.proofs.lemmas.List.{length-set, length_push, get_or-set_same, get_or-set_other, take-append-le, take_at, take-take}
use Rattle.std.proofs.{lemmas.List.Folds.{list_any-append}, lemmas.List.Sums.{sum_by-set}}
use Rattle.std.proofs.{lemmas.List.Elements.{All-contains, All-push, Contains-append_left, Contains-get_or, Contains-push}, lemmas.Option.{slice_get_within}}
use Rattle.std.specs.Prelude.{slice_get, count_by}
use Rattle.listed.proofs.{Bools.{same_bool}, Lists.{at_end}}
use Rattle.search_terms.specs.{declared.literals.Literal.{Literal}, Closure.{is_same}, Marks.{flag_place, is_marked}}
use Rattle.search_terms.proofs.{Sets.{place_fits, marked_set, marked_more, place_injective}, Models.{same-true}, Certificates.{same_refl}}
use Rattle.clause_solver.specs.Marking.{set_of_trail, EachOnce, IsMarked}

pub among_push : (trail : List Literal) (l m : Literal) → set_of_trail (trail ++ l ∷ []) m ≡ (set_of_trail trail m || (is_same l m || false))
among_push trail l m = list_any-append (λ k. is_same k m) trail (l ∷ [])

pub among_last : (trail : List Literal) (l : Literal) → set_of_trail (trail ++ l ∷ []) l ≡ true
among_last trail l = among_push trail l l ∙ or_right (set_of_trail trail l) (is_same l l || false) (or_left (is_same l l) false (same_refl l))

pub among_before : (trail : List Literal) (l m : Literal) → set_of_trail trail m ≡ true → set_of_trail (trail ++ l ∷ []) m ≡ true
among_before trail l m h = among_push trail l m ∙ or_left (set_of_trail trail m) (is_same l m || false) h

pub among_cases : (trail : List Literal) (l m : Literal) → set_of_trail (trail ++ l ∷ []) m ≡ true → (m ≡ l) ⊎ (set_of_trail trail m ≡ true)
among_cases trail l m h = elim (or_cases (set_of_trail trail m) (is_same l m || false) (sym (among_push trail l m) ∙ h)) [
  | inl a ↦ inr a
  | inr b ↦ elim (or_cases (is_same l m) false b) [ inl e ↦ inl (sym (same-true l m e)) | inr n ↦ absurd (cc n) ]
]

get_left : (xs ys : List Literal) (k : ℕ) (l : Literal) → slice_get xs k ≡ Some l → slice_get (xs ++ ys) k ≡ Some l
get_left [] ys k l h = absurd (cc h)
get_left (x ∷ xs) ys zero l h = h
get_left (x ∷ xs) ys (suc k) l h = get_left xs ys k l h

get_of_push : (xs : List Literal) (x l : Literal) (k : ℕ) → slice_get (xs ++ x ∷ []) k ≡ Some l → (slice_get xs k ≡ Some l) ⊎ ((k ≡ length xs) × (l ≡ x))
get_of_push [] x l zero h = inr (refl, let e : x ≡ l = cc h in sym e)
get_of_push [] x l (suc k) h = absurd (cc h)
get_of_push (y ∷ xs) x l zero h = inl h
get_of_push (y ∷ xs) x l (suc k) h = elim (get_of_push xs x l k h) [ inl a ↦ inl a | inr b ↦ inr (ap suc b.0, b.1) ]

pub once_push : (trail : List Literal) (l : Literal) → EachOnce trail → set_of_trail trail l ≡ false → EachOnce (trail ++ l ∷ [])
once_push trail l once new k m h = elim (get_of_push trail l m k h) [
  | inl a ↦ let lt : k < length trail = slice_get_within trail k m a in rw (take-append-le k trail (l ∷ []) (omega arith)) (once k m a)
  | inr b ↦ rw (b.0, b.1, take_at trail (l ∷ []) (length trail) refl) new
]

marked_fewer : (flags : List Bool) (i : ℕ) → i < length flags → get_or flags i false ≡ false → count_by not (set flags i true) + 1 ≡ count_by not flags
marked_fewer flags i lt f =
    let e : count_by not (set flags i true) + cond (not (get_or flags i false)) 1 0 ≡ count_by not flags + 0 = sum_by-set (λ b. cond (not b) 1 0) flags i true false lt in
    omega (arith, rw f at e)

marked_more_left : (flags : List Bool) (i : ℕ) → i < length flags → get_or flags i false ≡ true → count_by not (set flags i false) ≡ count_by not flags + 1
marked_more_left flags i lt t =
    let e : count_by not (set flags i false) + cond (not (get_or flags i false)) 1 0 ≡ count_by not flags + 1 = sum_by-set (λ b. cond (not b) 1 0) flags i false false lt in
    omega (arith, rw t at e)

pub put_is : (n : ℕ) (flags : List Bool) (trail new : List Literal) (l : Literal) (place : ℕ) → IsMarked n flags trail → l.class < n → set_of_trail trail l ≡ false → place ≡ flag_place l → new ≡ trail ++ l ∷ []
    → IsMarked n (set flags place true) new
put_is n flags trail new l place is class fresh e now =
    let lt : flag_place l < length flags = rw is.long (place_fits l.class n l.positive class) in
    rw (e, now) (record {
      long = length-set flags (flag_place l) true ∙ is.long;
      marks = λ m. same_bool (is_marked (set flags (flag_place l) true) m) (set_of_trail (trail ++ l ∷ []) m)
          (λ h. elim (marked_set flags l m lt h) [ inl s ↦ rw s (among_last trail l) | inr k ↦ among_before trail l m (sym (is.marks m) ∙ k) ])
          (λ h. elim (among_cases trail l m h) [ inl s ↦ rw s (get_or-set_same flags (flag_place l) true false lt) | inr k ↦ marked_more flags l m lt (is.marks m ∙ k) ]);
      once = once_push trail l is.once fresh;
      few =
          let fewer : count_by not (set flags (flag_place l) true) + 1 ≡ count_by not flags = marked_fewer flags (flag_place l) lt (is.marks l ∙ fresh) in
          let was = is.few in
          omega (arith, length_push trail l, fewer, was);
      ranged = All-push (λ k. k.class < n) trail l is.ranged class;
    })

pub undo_place : (n : ℕ) (flags : List Bool) (trail rest : List Literal) (l : Literal) (place : ℕ) → place ≡ flag_place l → trail ≡ rest ++ l ∷ [] → IsMarked n flags trail → place < length flags
undo_place n flags trail rest l place e cut is =
    let in_range : l.class < n = All-contains (λ k. k.class < n) trail l is.ranged (rw cut (Contains-push rest l)) in
    rw (e, is.long) (place_fits l.class n l.positive in_range)

pub undo_is : (n : ℕ) (flags : List Bool) (trail rest : List Literal) (l : Literal) (place : ℕ) → place ≡ flag_place l → trail ≡ rest ++ l ∷ [] → IsMarked n flags trail → IsMarked n (set flags place false) rest
undo_is n flags trail rest l place e cut is =
    let lt : flag_place l < length flags = undo_place n flags trail rest l (flag_place l) refl cut is in
    let front : take (length rest) trail ≡ rest = rw cut (take_at rest (l ∷ []) (length rest) refl) in
    let gone : set_of_trail rest l ≡ false = subst (λ t. set_of_trail t l ≡ false) front (is.once (length rest) l (rw cut (at_end rest l))) in
    let was : (m : Literal) → is_marked flags m ≡ set_of_trail (rest ++ l ∷ []) m = λ m. is.marks m ∙ ap (λ t. set_of_trail t m) cut in
    rw e (record {
      long = length-set flags (flag_place l) false ∙ is.long;
      marks = λ m. elim (cases_eq (flag_place m) (flag_place l)) [
        | inl s ↦ let same_one : m ≡ l = place_injective m l s in rw same_one (get_or-set_same flags (flag_place l) false false lt ∙ sym gone)
        | inr n ↦ get_or-set_other flags (flag_place l) (flag_place m) false false n ∙ was m ∙ same_bool (set_of_trail (rest ++ l ∷ []) m) (set_of_trail rest m)
            (λ h. elim (among_cases rest l m h) [ inl s ↦ absurd (n (ap flag_place s)) | inr k ↦ k ])
            (among_before rest l m)
      ];
      once = λ k m h.
          let klt : k < length rest = slice_get_within rest k m h in
          let same_front : take k trail ≡ take k rest = rw cut (take-append-le k rest (l ∷ []) (omega arith)) in
          subst (λ t. set_of_trail t m ≡ false) same_front (is.once k m (rw cut (get_left rest (l ∷ []) k m h)));
      few =
          let more : count_by not (set flags (flag_place l) false) ≡ count_by not flags + 1 = marked_more_left flags (flag_place l) lt (was l ∙ among_last rest l) in
          let long : length trail ≡ length rest + 1 = ap length cut ∙ length_push rest l in
          let before = is.few in
          omega (arith, more, long, before);
      ranged = λ k d klt. All-contains (λ x. x.class < n) trail (get_or rest k d) is.ranged (rw cut (Contains-append_left rest (l ∷ []) (get_or rest k d) (Contains-get_or rest k d klt)));
    })

pub undo_front : (initial trail rest : List Literal) (l : Literal) → trail ≡ rest ++ l ∷ [] → trail ≡ take (length trail) initial → rest ≡ take (length rest) initial
undo_front initial trail rest l cut front =
    let long : length trail ≡ length rest + 1 = ap length cut ∙ length_push rest l in
    let le : length rest ≤ length trail = omega arith in
    sym (take_at rest (l ∷ []) (length rest) refl) ∙ ap (take (length rest)) (sym cut ∙ front) ∙ take-take (length rest) (length trail) initial le

pub undo_longer : (trail rest : List Literal) (l : Literal) (keep : ℕ) → trail ≡ rest ++ l ∷ [] → keep < length trail → keep ≤ length rest
undo_longer trail rest l keep cut lt = let long : length trail ≡ length rest + 1 = ap length cut ∙ length_push rest l in omega arith
