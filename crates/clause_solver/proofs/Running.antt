-- Unit steps.
use Rattle.std.proofs.Common.{◌≡◌, ℕ, zero, suc, ◌+◌, ◌<◌, ◌≤◌, Bool, true, false, not, ◌&&◌, ◌||◌, List, [], ◌∷◌, ◌++◌, ◌⊎◌, length, get_or, take, drop, refl}
use Rattle.std.proofs.Common.{ap, sym, ◌∙◌, arith, inl, inr, Some, None, subst, append_assoc, append-nil}
use Rattle.std.proofs.lemmas.Bool.{or_cases, or_left, or_right, and_from, and_parts, both_ways, not-true, not-false, false_from_ne_true}
use Rattle.std.proofs.lemmas.List.{length-append, take_all}
use Rattle.std.proofs.lemmas.List.Elements.{All-contains, All-more, All-weaker, All-head, All-tail, Contains-append_left, Contains-append_right}
use Rattle.std.proofs.lemmas.List.Elements.{Contains-append_cases, Contains-get_or}
use Rattle.std.specs.{Prelude.{All, Contains, map}, List.{find}}
use Rattle.listed.proofs.{Lists.{contains_in, in_contains, any_cases, any_from, In_at}, Bools.{cases_Option}}
use Rattle.search_terms.specs.{Form.{conflict_sentence}, declared.literals.Literal.{Literal}}
use Rattle.search_terms.specs.{Closure.{literal, negation, is_same, forces, is_refuted, IsClosedUnder, IsUnitClosed}, Marks.{IsConsistent}}
use Rattle.search_terms.proofs.Forms.{in_map}
pub use Rattle.search_terms.proofs.Lists.{item_at}
use Rattle.search_terms.proofs.{Sets.{find_some, find_none, forces_mono, Contains-head}, Models.{same-true}, Certificates.{same_refl}}
use Rattle.clause_solver.specs.{Marking.{set_of_trail}, Running.{Runs, Waits}, declared.table.Use.{Use}}
use Rattle.clause_solver.proofs.Trails.{among_last, among_cases}

pub among_contains : (trail : List Literal) (l : Literal) → set_of_trail trail l ≡ true → Contains trail l
among_contains trail l h =
    let w = any_cases (λ m. is_same m l) trail h in
    subst (λ k. Contains trail k) (same-true w.0 l w.2) (in_contains trail w.0 w.1)

pub contains_among : (trail : List Literal) (l : Literal) → Contains trail l → set_of_trail trail l ≡ true
contains_among trail l c = any_from (λ m. is_same m l) trail l (contains_in trail l c) (same_refl l)

pub among_more : (old more : List Literal) (l : Literal) → set_of_trail old l ≡ true → set_of_trail (old ++ more) l ≡ true
among_more old more l h = contains_among (old ++ more) l (Contains-append_left old more l (among_contains old l h))

-- of what a sentence that forces k holds, each literal is k or contradicted
pub forces_at : (set : Literal → Bool) (k : Literal) (s : List Literal) (m : Literal) → forces set k s ≡ true → Contains s m → (m ≡ k) ⊎ (set (negation m) ≡ true)
forces_at set k [] m h c = absurd (omega (arith, c.1))
forces_at set k (x ∷ xs) m h c =
    let both = and_parts (is_same x k || set (negation x)) (forces set k xs) h in
    elim (Contains-append_cases (x ∷ []) xs m c) [
      | inl one ↦
          let e : x ≡ m = single x m one in
          elim (or_cases (is_same x k) (set (negation x)) both.0) [
            | inl a ↦ inl (sym e ∙ same-true x k a)
            | inr b ↦ inr (subst (λ z. set (negation z) ≡ true) e b)
          ]
      | inr rest ↦ forces_at set k xs m both.1 rest
    ]
  where
    single : (x m : Literal) → Contains (x ∷ []) m → x ≡ m
    single x m (zero, lt, e) = e
    single x m (suc i, lt, e) = absurd (omega (arith, lt))

refuted_all : (set : Literal → Bool) (s : List Literal) → All (λ m. not (set (negation m)) ≡ false) s → is_refuted set s ≡ true
refuted_all set [] h = refl
refuted_all set (x ∷ xs) h = and_from (set (negation x)) (is_refuted set xs) (not-false (set (negation x)) (All-head (λ m. not (set (negation m)) ≡ false) x xs h)) (refuted_all set xs (All-tail (λ m. not (set (negation m)) ≡ false) x xs h))

pub none_free : (set : Literal → Bool) (s : List Literal) → find (λ m. not (set (negation m))) s ≡ None → is_refuted set s ≡ true
none_free set s h = refuted_all set s (find_none (λ m. not (set (negation m))) s h)

-- a sentence with a literal of the set that is not contradicted is met
pub met_by : (set : Literal → Bool) (s : List Literal) (l : Literal) → Contains s l → set l ≡ true → set (negation l) ≡ false → IsClosedUnder set s
met_by set s l here t f = λ i d lt h. elim (forces_at set (get_or s i d) s l h here) [
  | inl e ↦ subst (λ z. set z ≡ true) e t
  | inr c ↦ absurd (both_ways (set (negation l)) f c)
]

-- a sentence that does not force its free literal is met
pub met_free : (set : Literal → Bool) (s : List Literal) (l : Literal) → Contains s l → set (negation l) ≡ false → forces set l s ≡ false → IsClosedUnder set s
met_free set s l here f n = λ i d lt h. elim (forces_at set (get_or s i d) s l h here) [
  | inl e ↦ absurd (both_ways (forces set l s) n (subst (λ z. forces set z s ≡ true) (sym e) h))
  | inr c ↦ absurd (both_ways (set (negation l)) f c)
]

pub runs_none : (P : List (List Literal)) (old : List Literal) → IsConsistent (set_of_trail old) → Runs P old old
runs_none P old consistent = record { more = []; behind = sym (append-nil old); consistent = consistent; sound = λ set closed w. w }

pub runs_then : (P : List (List Literal)) (a b c : List Literal) → Runs P a b → Runs P b c → Runs P a c
runs_then P a b c f g = record {
  more = f.more ++ g.more;
  behind = g.behind ∙ ap (λ x. x ++ g.more) f.behind ∙ append_assoc a f.more g.more;
  consistent = g.consistent;
  sound = λ set closed w. g.sound set closed (f.sound set closed w);
}

pub closed_part : (P Q : List (List Literal)) (set : Literal → Bool) → ((s : List Literal) → Contains P s → Contains Q s) → IsUnitClosed Q set → IsUnitClosed P set
closed_part P Q set sub closed = record { steps = λ k d lt. All-contains (IsClosedUnder set) Q (get_or P k d) closed.steps (sub (get_or P k d) (Contains-get_or P k d lt)) }

pub runs_more : (P Q : List (List Literal)) (old new : List Literal) → ((s : List Literal) → Contains P s → Contains Q s) → Runs P old new → Runs Q old new
runs_more P Q old new sub r = record { more = r.more; behind = r.behind; consistent = r.consistent; sound = λ set closed w. r.sound set (closed_part P Q set sub closed) w }

pub negation_other : (l : Literal) → negation l ≡ l → ⊥
negation_other l e = not_self l.positive (ap (λ k. k.positive) e)
  where
    not_self : (b : Bool) → not b ≡ b → ⊥
    not_self true h = cc
    not_self false h = cc

negation_back : (l m : Literal) → negation l ≡ m → negation m ≡ l
negation_back l m e = sym (ap negation e) ∙ twice l
  where
    not_not : (b : Bool) → not (not b) ≡ b
    not_not true = refl
    not_not false = refl

    twice : (k : Literal) → negation (negation k) ≡ k
    twice k = ap (λ s. literal k.class s) (not_not k.positive)

-- one more mark, whose other sign is not marked
pub consistent_push : (old : List Literal) (l : Literal) → IsConsistent (set_of_trail old) → set_of_trail old (negation l) ≡ false → IsConsistent (set_of_trail (old ++ l ∷ []))
consistent_push old l consistent free m h k = elim (among_cases old l m h) [
  | inl a ↦ elim (among_cases old l (negation m) k) [
    | inl b ↦ negation_other m (b ∙ sym a)
    | inr c ↦ both_ways (set_of_trail old (negation l)) free (subst (λ z. set_of_trail old (negation z) ≡ true) a c)
  ]
  | inr b ↦ elim (among_cases old l (negation m) k) [
    | inl a ↦ both_ways (set_of_trail old (negation l)) free (subst (λ z. set_of_trail old z ≡ true) (sym (negation_back m l a)) b)
    | inr c ↦ consistent m b c
  ]
]

still_free : (old : List Literal) (l : Literal) → set_of_trail old (negation l) ≡ false → set_of_trail (old ++ l ∷ []) (negation l) ≡ false
still_free old l f = false_from_ne_true (set_of_trail (old ++ l ∷ []) (negation l)) (λ h. elim (among_cases old l (negation l) h) [
  | inl e ↦ negation_other l e
  | inr k ↦ both_ways (set_of_trail old (negation l)) f k
])

pub runs_push : (P : List (List Literal)) (old new : List Literal) (l : Literal) (s : List Literal) → Contains P s → Contains s l → IsConsistent (set_of_trail old) → set_of_trail old (negation l) ≡ false
    → forces (set_of_trail old) l s ≡ true → new ≡ old ++ l ∷ [] → Runs P old new
runs_push P old new l s here member consistent free forced e = rw e (record {
  more = l ∷ [];
  behind = refl;
  consistent = consistent_push old l consistent free;
  sound = λ set closed w m h. elim (among_cases old l m h) [
    | inl same_one ↦ rw same_one (All-contains (λ k. forces set k s ≡ true → set k ≡ true) s l (All-contains (IsClosedUnder set) P s closed.steps here) member (forces_mono (set_of_trail old) set l s w forced))
    | inr k ↦ w m k
  ];
})

pub free_is : (set : Literal → Bool) (s : List Literal) (l : Literal) → find (λ m. not (set (negation m))) s ≡ Some l → Contains s l × (set (negation l) ≡ false)
free_is set s l h = let w = find_some (λ m. not (set (negation m))) s l h in (w.0, not-true (set (negation l)) w.1)

pub settle_put : (old new s : List Literal) (l : Literal) → IsConsistent (set_of_trail old) → find (λ m. not (set_of_trail old (negation m))) s ≡ Some l → forces (set_of_trail old) l s ≡ true → new ≡ old ++ l ∷ []
    → Runs (s ∷ []) old new × IsClosedUnder (set_of_trail new) s
settle_put old new s l consistent found forced e =
    let w = free_is (set_of_trail old) s l found in (
      runs_push (s ∷ []) old new l s (Contains-head s []) w.0 consistent w.1 forced e,
      rw e (met_by (set_of_trail (old ++ l ∷ [])) s l w.0 (among_last old l) (still_free old l w.1)),
    )

pub settle_has : (old s : List Literal) (l : Literal) → find (λ m. not (set_of_trail old (negation m))) s ≡ Some l → set_of_trail old l ≡ true → IsClosedUnder (set_of_trail old) s
settle_has old s l found t = let w = free_is (set_of_trail old) s l found in met_by (set_of_trail old) s l w.0 t w.1

pub settle_not : (old s : List Literal) (l : Literal) → find (λ m. not (set_of_trail old (negation m))) s ≡ Some l → forces (set_of_trail old) l s ≡ false → IsClosedUnder (set_of_trail old) s
settle_not old s l found n = let w = free_is (set_of_trail old) s l found in met_free (set_of_trail old) s l w.0 w.1 n

-- where no literal's other sign is newly marked, the same is forced
abbrev is_fresh : (Literal → Bool) → (Literal → Bool) → Literal → Bool
is_fresh old new m = new (negation m) && not (old (negation m))

fresh_not : (a b : Bool) → (a && not b) ≡ false → a ≡ true → b ≡ true
fresh_not true true h k = refl
fresh_not true false h k = cc
fresh_not false b h k = cc

forces_back : (old new : Literal → Bool) (l : Literal) (sentence : List Literal) → All (λ m. is_fresh old new m ≡ false) sentence → forces new l sentence ≡ true → forces old l sentence ≡ true
forces_back old new l [] none h = refl
forces_back old new l (m ∷ ms) none h =
    let both = and_parts (is_same m l || new (negation m)) (forces new l ms) h in
    and_from (is_same m l || old (negation m)) (forces old l ms)
    (elim (or_cases (is_same m l) (new (negation m)) both.0) [
      | inl e ↦ or_left (is_same m l) (old (negation m)) e
      | inr k ↦ or_right (is_same m l) (old (negation m)) (fresh_not (new (negation m)) (old (negation m)) (All-head (λ x. is_fresh old new x ≡ false) m ms none) k)
    ])
    (forces_back old new l ms (All-tail (λ x. is_fresh old new x ≡ false) m ms none) both.1)

drop_front : {X : Type 0} (h : ℕ) (xs ys : List X) → h ≤ length xs → drop h (xs ++ ys) ≡ drop h xs ++ ys
drop_front zero xs ys le = refl
drop_front (suc h) [] ys le = absurd (omega arith)
drop_front (suc h) (x ∷ xs) ys le = drop_front h xs ys (omega arith)

-- what waits still does when marks are put behind
pub waits_grow : (h : ℕ) (old more s : List Literal) → h ≤ length old → Waits h old s → Waits h (old ++ more) s
waits_grow h old more s le (inr p) = inr (p.0, p.1, rw (drop_front h old more le) (Contains-append_left (drop h old) more (negation p.0) p.2))
waits_grow h old more s le (inl met) = elim (cases_Option (find (is_fresh (set_of_trail old) (set_of_trail (old ++ more))) s)) [
  | inr some ↦
      let found = find_some (is_fresh (set_of_trail old) (set_of_trail (old ++ more))) s some.0 some.1 in
      let both = and_parts (set_of_trail (old ++ more) (negation some.0)) (not (set_of_trail old (negation some.0))) found.1 in
      elim (Contains-append_cases old more (negation some.0) (among_contains (old ++ more) (negation some.0) both.0)) [
        | inl was ↦ absurd (both_ways (set_of_trail old (negation some.0)) (not-true (set_of_trail old (negation some.0)) both.1) (contains_among old (negation some.0) was))
        | inr now ↦ inr (some.0, found.0, rw (drop_front h old more le) (Contains-append_right (drop h old) more (negation some.0) now))
      ]
  | inl none ↦ inl (λ k d lt f. among_more old more (get_or s k d) (met k d lt (forces_back (set_of_trail old) (set_of_trail (old ++ more)) (get_or s k d) s (find_none (is_fresh (set_of_trail old) (set_of_trail (old ++ more))) s none) f)))
]

pub runs_longer : (P : List (List Literal)) (old new : List Literal) → Runs P old new → length old ≤ length new
runs_longer P old new r = rw r.behind (omega (arith, length-append old r.more))

-- one sentence of those looked at in turn
pub sweep_runs : (P : List (List Literal)) (old cur new s : List Literal) → Contains P s → Runs P old cur → Runs (s ∷ []) cur new → Runs P old new
sweep_runs P old cur new s here a b = runs_then P old cur new a (runs_more (s ∷ []) P cur new (λ t c. elim (Contains-append_cases [] (s ∷ []) t c) [ inl n ↦ absurd (omega (arith, n.1)) | inr o ↦ subst (λ z. Contains P z) (only s t o) here ]) b)
  where
    only : (s t : List Literal) → Contains (s ∷ []) t → s ≡ t
    only s t (zero, lt, e) = e
    only s t (suc i, lt, e) = absurd (omega (arith, lt))

pub waits_after : (P : List (List Literal)) (old cur new s : List Literal) (Q : List (List Literal)) → Runs P old cur → Runs Q cur new → Waits (length old) cur s → Waits (length old) new s
waits_after P old cur new s Q a b w = rw b.behind (waits_grow (length old) cur b.more s (runs_longer P old cur a) w)

pub sweep_waits : (P : List (List Literal)) (old cur new s : List Literal) (i : ℕ) → i < length P → s ≡ get_or P i s → Runs P old cur → Runs (s ∷ []) cur new → IsClosedUnder (set_of_trail new) s
    → All (Waits (length old) cur) (take i P) → All (Waits (length old) new) (take (i + 1) P)
sweep_waits P old cur new s i lt e a b met before =
    All-more (Waits (length old) new) P i s lt
    (All-weaker (Waits (length old) cur) (Waits (length old) new) (λ t w. waits_after P old cur new t (s ∷ []) a b w) (take i P) before)
    (rw (← e) (inl met))

pub sweep_end : {X : Type 0} (Q : X → Type 0) (xs : List X) (i : ℕ) → length xs ≤ i → All Q (take i xs) → All Q xs
sweep_end Q xs i le h = rw (take_all i xs le) at h

-- what stands where there is no use
abbrev pub no_use : Use
no_use = record { sentence = 0; one = 0; other = 0 }

-- one use of those looked at in turn
pub row_waits : (P : List (List Literal)) (row : List Use) (old cur new : List Literal) (i : ℕ) (d : Use) → i < length row → Runs P old cur
    → Runs (get_or P (get_or row i d).sentence [] ∷ []) cur new → IsClosedUnder (set_of_trail new) (get_or P (get_or row i d).sentence [])
    → All (λ u. Waits (length old) cur (get_or P u.sentence [])) (take i row) → All (λ u. Waits (length old) new (get_or P u.sentence [])) (take (i + 1) row)
row_waits P row old cur new i d lt a b met before =
    All-more (λ u. Waits (length old) new (get_or P u.sentence [])) row i d lt
    (All-weaker (λ u. Waits (length old) cur (get_or P u.sentence [])) (λ u. Waits (length old) new (get_or P u.sentence []))
    (λ u w. waits_after P old cur new (get_or P u.sentence []) (get_or P (get_or row i d).sentence [] ∷ []) a b w) (take i row) before)
    (inl met)

-- the pair of a class and one that conflicts with it
pub pair_in : (p : ℕ) (others : List ℕ) (i : ℕ) → i < length others → Contains (map (conflict_sentence p) others) (conflict_sentence p (get_or others i 0))
pair_in p others i lt = in_contains (map (conflict_sentence p) others) (conflict_sentence p (get_or others i 0)) (in_map (conflict_sentence p) others (get_or others i 0) (In_at others i 0 lt))

pub old_kept : (P : List (List Literal)) (old new : List Literal) (l : Literal) → Runs P old new → set_of_trail old l ≡ true → set_of_trail new l ≡ true
old_kept P old new l r h = rw r.behind (among_more old r.more l h)

pub pair_excludes : (set : Literal → Bool) (p q : ℕ) → set (literal p true) ≡ true → IsClosedUnder set (conflict_sentence p q) → set (literal q false) ≡ true
pair_excludes set p q t met = met 1 (literal q false) (omega arith) (and_from (is_same (literal p false) (literal q false) || set (literal p true)) (forces set (literal q false) (literal q false ∷ []))
    (or_right (is_same (literal p false) (literal q false)) (set (literal p true)) t)
    (and_from (is_same (literal q false) (literal q false) || set (literal q true)) true (or_left (is_same (literal q false) (literal q false)) (set (literal q true)) (same_refl (literal q false))) refl))

pub excluded_more : (p : ℕ) (others : List ℕ) (old cur new s : List Literal) (i : ℕ) → i < length others → s ≡ conflict_sentence p (get_or others i 0) → set_of_trail old (literal p true) ≡ true
    → Runs (map (conflict_sentence p) others) old cur → Runs (s ∷ []) cur new → IsClosedUnder (set_of_trail new) s
    → All (λ q. set_of_trail cur (literal q false) ≡ true) (take i others) → All (λ q. set_of_trail new (literal q false) ≡ true) (take (i + 1) others)
excluded_more p others old cur new s i lt e t a b met before =
    let c : Runs (map (conflict_sentence p) others) old new = sweep_runs (map (conflict_sentence p) others) old cur new s (rw e (pair_in p others i lt)) a b in
    All-more (λ q. set_of_trail new (literal q false) ≡ true) others i 0 lt
    (All-weaker (λ q. set_of_trail cur (literal q false) ≡ true) (λ q. set_of_trail new (literal q false) ≡ true) (λ q h. rw b.behind (among_more cur b.more (literal q false) h)) (take i others) before)
    (pair_excludes (set_of_trail new) p (get_or others i 0) (old_kept (map (conflict_sentence p) others) old new (literal p true) c t) (rw e at met))
