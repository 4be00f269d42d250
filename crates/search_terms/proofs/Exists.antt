use Rattle.std.proofs.Common.{◌≡◌, ℕ, zero, suc, ◌+◌, ◌*◌, ◌<◌, ◌≤◌, ◌^◌, Bool, true, false, not, ◌&&◌, cond, List, [], ◌∷◌, ◌++◌, length, set, replicate, refl}
use Rattle.std.proofs.{Common.{◌∙◌, arith, inl, inr, ◌⊎◌, Option, Some, None, subst}, Math.ListN.{get_or-eq_default}, Math.Numerals.{add-one}}
use Rattle.std.proofs.{Math.Pow.{pow_mono}, lemmas.Grind.{pow_more}, lemmas.Bool.{cases_Bool, cases_eq, cases_lt, both_ways, and_parts, and_from}}
use Rattle.std.proofs.{lemmas.List.{get_or-set_same, length-set, length-replicate}, lemmas.List.FromFn.{get_or-map-range_with_len, length-map-range_with_len}}
use Rattle.std.proofs.lemmas.List.Elements.{All-nil, All-cons, All-append, All-head, All-tail, All-weaker, All-push}
use Rattle.std.specs.{Prelude.{All, map, is_some, count_by}, List.{list_any, find}}
use Rattle.listed.proofs.Bools.{cases_Option}
use Rattle.search_terms.specs.declared.literals.Literal.{Literal}
use Rattle.search_terms.specs.Closure.{literal, negation, forces, is_refuted, IsUnitClosed, HasGiven, IsClosure, Clashes, InRange}
use Rattle.search_terms.specs.Marks.{flag_place, is_marked, IsWithin, IsForced, HasClash, classes_left, true_classes}
use Rattle.search_terms.specs.Tree.{is_open_need, is_undecided, IsFoundLeaf, IsSplit, Tree, IsTree, found_of, failed_leaves, log_of}
use Rattle.search_terms.specs.Tree.Tree.{failed_leaf, found_leaf, split}
use Rattle.search_terms.proofs.Sets.{literal_of, is_unmet, IsSoundly, marked_set, marked_more, place_fits, forced_there, forced_right, forced_place}
use Rattle.search_terms.proofs.{Sets.{forced_sound, sentence_met, fewer_unmarked, Contains-head}, Least.{least_closed, unmarked, clash_from, negated_range}}
use Rattle.search_terms.proofs.Trees.{found_leaf_of, split_of, open_has_member}

-- either a sentence forces one more literal, or the set is closed
pub forced_or_closed : (formula : List (List Literal)) (s : Literal → Bool) → ((l : Literal) × IsForced formula s l) ⊎ IsUnitClosed formula s
forced_or_closed [] s = inr (record { steps = All-nil (λ sentence. All (λ l. forces s l sentence ≡ true → s l ≡ true) sentence) })
forced_or_closed (x ∷ xs) s = elim (cases_Option (find (is_unmet s x) x)) [
  | inr some ↦ inl (some.0, forced_there (x ∷ xs) s x some.0 (Contains-head x xs) some.1)
  | inl none ↦ elim (forced_or_closed xs s) [
    | inl f ↦ inl (f.0, forced_right (x ∷ []) xs s f.0 f.1)
    | inr closed ↦ inr (record { steps = All-cons (λ sentence. All (λ l. forces s l sentence ≡ true → s l ≡ true) sentence) x xs (sentence_met s x none) closed.steps })
  ]
]

abbrev mark : List Bool → List Literal → List Bool
mark flags [] = flags
mark flags (a ∷ given) = set (mark flags given) (flag_place a) true

mark_long : (n : ℕ) (flags : List Bool) (given : List Literal) → length flags ≡ n * 2 → length (mark flags given) ≡ n * 2
mark_long n flags [] long = long
mark_long n flags (a ∷ given) long = length-set (mark flags given) (flag_place a) true ∙ mark_long n flags given long

mark_place : (n : ℕ) (flags : List Bool) (a : Literal) (given : List Literal) → length flags ≡ n * 2 → a.class < n → flag_place a < length (mark flags given)
mark_place n flags a given long lt = rw (mark_long n flags given long) (place_fits a.class n a.positive lt)

mark_all : (n : ℕ) (flags : List Bool) (given : List Literal) → length flags ≡ n * 2 → All (λ l. l.class < n) given → HasGiven (is_marked (mark flags given)) given
mark_all n flags [] long range = All-nil (λ l. is_marked flags l ≡ true)
mark_all n flags (a ∷ given) long range =
    let lt = mark_place n flags a given long (All-head (λ l. l.class < n) a given range) in
    All-cons (λ l. is_marked (mark flags (a ∷ given)) l ≡ true) a given
    (get_or-set_same (mark flags given) (flag_place a) true false lt)
    (All-weaker (λ l. is_marked (mark flags given) l ≡ true) (λ l. is_marked (mark flags (a ∷ given)) l ≡ true) (λ l h. marked_more (mark flags given) a l lt h) given
    (mark_all n flags given long (All-tail (λ l. l.class < n) a given range)))

mark_only : (n : ℕ) (flags : List Bool) (given : List Literal) → length flags ≡ n * 2 → All (λ l. l.class < n) given
    → (s : Literal → Bool) → HasGiven s given → IsWithin (is_marked flags) s → IsWithin (is_marked (mark flags given)) s
mark_only n flags [] long range s holds w m h = w m h
mark_only n flags (a ∷ given) long range s holds w m h =
    let lt = mark_place n flags a given long (All-head (λ l. l.class < n) a given range) in
    elim (marked_set (mark flags given) a m lt h) [
      | inl e ↦ rw e (All-head (λ l. s l ≡ true) a given holds)
      | inr k ↦ mark_only n flags given long (All-tail (λ l. l.class < n) a given range) s (All-tail (λ l. s l ≡ true) a given holds) w m k
    ]

pub record IsClosing (n : ℕ) (formula : List (List Literal)) (old new : List Bool) : Type 0 where
  pub long : length new ≡ n * 2
  pub kept : IsWithin (is_marked old) (is_marked new)
  pub sound : IsSoundly formula (is_marked old) (is_marked new)
  pub closed : IsUnitClosed formula (is_marked new)

close_from : (fuel n : ℕ) (formula : List (List Literal)) (flags : List Bool) → InRange n formula → length flags ≡ n * 2 → count_by not flags ≤ fuel
    → (new : List Bool) × IsClosing n formula flags new
close_from zero n formula flags range long le = elim (forced_or_closed formula (is_marked flags)) [
  | inl f ↦
      let lt : flag_place f.0 < length flags = rw long (forced_place formula (is_marked flags) f.0 n range f.1) in
      let fewer = fewer_unmarked flags (flag_place f.0) lt f.1.absent in
      absurd (omega arith)
  | inr closed ↦ (flags, record { long = long; kept = λ l h. h; sound = λ s w c. w; closed = closed })
]
close_from (suc fuel) n formula flags range long le = elim (forced_or_closed formula (is_marked flags)) [
  | inl f ↦
      let lt : flag_place f.0 < length flags = rw long (forced_place formula (is_marked flags) f.0 n range f.1) in
      let fewer = fewer_unmarked flags (flag_place f.0) lt f.1.absent in
      let more = set flags (flag_place f.0) true in
      let rest = close_from fuel n formula more range (length-set flags (flag_place f.0) true ∙ long) (omega arith) in (
        rest.0,
        record {
          long = rest.1.long;
          kept = λ l h. rest.1.kept l (marked_more flags f.0 l lt h);
          sound = λ s w c. rest.1.sound s (forced_sound formula (is_marked flags) flags f.0 lt f.1 (λ t v d. v) s w c) c;
          closed = rest.1.closed;
        },
      )
  | inr closed ↦ (flags, record { long = long; kept = λ l h. h; sound = λ s w c. w; closed = closed })
]

-- there is a closure
pub closure_exists : (n : ℕ) (formula : List (List Literal)) (given : List Literal) → InRange n formula → All (λ l. l.class < n) given
    → (flags : List Bool) × (length flags ≡ n * 2) × IsClosure formula given (is_marked flags)
closure_exists n formula given range within =
    let clear = replicate (n * 2) false in
    let long : length clear ≡ n * 2 = length-replicate (n * 2) false in
    let start = mark clear given in
    let closing = close_from (count_by not start) n formula start range (mark_long n clear given long) (omega arith) in (
      closing.0,
      closing.1.long,
      least_closed formula given (is_marked clear) (is_marked start) (is_marked closing.0) (unmarked (n * 2) clear refl)
          (mark_all n clear given long within) (mark_only n clear given long within) closing.1.kept closing.1.sound closing.1.closed,
    )

abbrev BothAt : List Bool → ℕ → Type 0
BothAt flags c = (is_marked flags (literal_of c true) ≡ true) × (is_marked flags (literal_of c false) ≡ true)

both_below : (n : ℕ) (flags : List Bool) → ((c : ℕ) × BothAt flags c) ⊎ ((c : ℕ) → c < n → BothAt flags c → ⊥)
both_below zero flags = inr (λ c lt h. omega arith)
both_below (suc n) flags = elim (both_below n flags) [
  | inl found ↦ inl found
  | inr none ↦ elim (cases_Bool (is_marked flags (literal_of n true) && is_marked flags (literal_of n false))) [
    | inl t ↦ inl (n, and_parts (is_marked flags (literal_of n true)) (is_marked flags (literal_of n false)) t)
    | inr f ↦ inr (λ c lt h. elim (cases_eq c n) [
      | inl e ↦ both_ways (is_marked flags (literal_of n true) && is_marked flags (literal_of n false)) f
          (let k = subst (BothAt flags) e h in and_from (is_marked flags (literal_of n true)) (is_marked flags (literal_of n false)) k.0 k.1)
      | inr ne ↦ none c (omega arith) h
    ])
  ]
]

marked_in_range : (flags : List Bool) (l : Literal) → is_marked flags l ≡ true → flag_place l < length flags
marked_in_range flags l h = elim (cases_lt (flag_place l) (length flags)) [
  | inl lt ↦ lt
  | inr ge ↦ absurd (both_ways (is_marked flags l) (get_or-eq_default flags false ge) h)
]

both_at : (flags : List Bool) (c : ℕ) (p : Bool) → is_marked flags (literal_of c p) ≡ true → is_marked flags (literal_of c (not p)) ≡ true → BothAt flags c
both_at flags c true h k = (h, k)
both_at flags c false h k = (k, h)

class_below : (c x n : ℕ) → c * 2 + x < n * 2 → c < n
class_below c x n h = omega arith

clash_cases : (n : ℕ) (formula : List (List Literal)) (flags : List Bool) → length flags ≡ n * 2 → HasClash formula (is_marked flags) ⊎ ¬ (HasClash formula (is_marked flags))
clash_cases n formula flags long = elim (both_below n flags) [
  | inl b ↦ inl (inl (literal_of b.0 true, b.1.0, b.1.1))
  | inr none ↦ elim (cases_Bool (list_any (is_refuted (is_marked flags)) formula)) [
    | inl t ↦ inl (inr t)
    | inr f ↦ inr (λ h. elim h [
      | inl b ↦
          let lt : flag_place b.0 < n * 2 = rw long at (marked_in_range flags b.0 b.1) in
          none b.0.class (class_below b.0.class (cond b.0.positive 1 0) n lt) (both_at flags b.0.class b.0.positive b.1 b.2)
      | inr t ↦ both_ways (list_any (is_refuted (is_marked flags)) formula) f t
    ])
  ]
]

abbrev SplitFacts : ℕ → List (List Literal) → List Literal → ℕ → Type 0
SplitFacts n formula decisions c =
    IsSplit formula decisions c × (c < n)
    × (classes_left n (decisions ++ literal c true ∷ []) < classes_left n decisions)
    × (classes_left n (decisions ++ literal c false ∷ []) < classes_left n decisions)

abbrev NodeCases : ℕ → List (List Literal) → List Literal → Type 0
NodeCases n formula decisions = Clashes formula decisions ⊎ (((v : List Bool) × IsFoundLeaf n formula decisions v) ⊎ ((c : ℕ) × SplitFacts n formula decisions c))

node_exists : (n : ℕ) (formula : List (List Literal)) (decisions : List Literal) → InRange n formula → All (λ l. l.class < n) decisions → NodeCases n formula decisions
node_exists n formula decisions range within =
    let flags = closure_exists n formula decisions range within in
    let s : Literal → Bool = is_marked flags.0 in
    elim (clash_cases n formula flags.0 flags.1) [
      | inl clash ↦ inl (clash_from formula decisions s flags.2 clash)
      | inr calm ↦ elim (cases_Option (find (is_open_need s) formula)) [
        | inl none ↦ inr (inl (
          true_classes n s,
          found_leaf_of n formula decisions s (true_classes n s) flags.2 calm none (length-map-range_with_len (λ c. s (literal c true)) 0 n)
              (λ c lt. get_or-map-range_with_len (λ k. s (literal k true)) 0 n c c false lt (omega arith)),
        ))
        | inr need ↦ elim (cases_Option (find (is_undecided s) need.0)) [
          | inl none ↦ absurd (open_has_member formula s need.0 calm need.1 none)
          | inr m ↦ inr (inr (m.0.class, split_of n formula decisions s need.0 m.0 range flags.2 calm need.1 m.1))
        ]
      ]
    ]

pub tree_from : (fuel n : ℕ) (formula : List (List Literal)) (decisions : List Literal) → InRange n formula → All (λ l. l.class < n) decisions → classes_left n decisions ≤ fuel
    → (tree : Tree) × IsTree n formula decisions tree
tree_from zero n formula decisions range within le = elim (node_exists n formula decisions range within) [
  | inl clash ↦ (failed_leaf, clash)
  | inr other ↦ elim other [
    | inl leaf ↦ (found_leaf leaf.0, leaf.1)
    | inr facts ↦ let less = facts.1.2 in absurd (omega arith)
  ]
]
tree_from (suc fuel) n formula decisions range within le = elim (node_exists n formula decisions range within) [
  | inl clash ↦ (failed_leaf, clash)
  | inr other ↦ elim other [
    | inl leaf ↦ (found_leaf leaf.0, leaf.1)
    | inr facts ↦
        let c = facts.0 in
        let a = facts.1.2 in
        let b = facts.1.3 in
        let left = tree_from fuel n formula (decisions ++ literal c true ∷ []) range (All-push (λ l. l.class < n) decisions (literal c true) within facts.1.1) (omega arith) in
        let right = tree_from fuel n formula (decisions ++ literal c false ∷ []) range (All-push (λ l. l.class < n) decisions (literal c false) within facts.1.1) (omega arith) in
        (split c left.0 right.0, (facts.1.0, left.1, right.1))
  ]
]

-- there is a tree
pub tree_exists : (n : ℕ) (formula : List (List Literal)) → InRange n formula → (tree : Tree) × IsTree n formula [] tree
tree_exists n formula range = tree_from (classes_left n []) n formula [] range (All-nil (λ l. l.class < n)) (omega arith)

pow_sum : (a b f : ℕ) → a < f → b < f → 2 ^ a + 2 ^ b ≤ 2 ^ f
pow_sum a b zero x y = absurd (omega arith)
pow_sum a b (suc g) x y =
    let al : a ≤ g = omega arith in
    let bl : b ≤ g = omega arith in
    let p : 2 ^ a ≤ 2 ^ g = pow_mono al in
    let q : 2 ^ b ≤ 2 ^ g = pow_mono bl in
    let e : 2 ^ suc g ≡ 2 ^ g * 2 = rw add-one at (pow_more 2 g) in
    rw e (omega arith)

fails_cond : (b : Bool) (x y z : ℕ) → x ≤ z → x + y ≤ z → x + cond b 0 y ≤ z
fails_cond true x y z h k = omega arith
fails_cond false x y z h k = k

-- the failed leaves are at most two to the number of classes that are left
pub fails_bound : (n : ℕ) (formula : List (List Literal)) (decisions : List Literal) (tree : Tree) → InRange n formula → IsTree n formula decisions tree → failed_leaves tree ≤ 2 ^ classes_left n decisions
fails_bound n formula decisions failed_leaf range is = pow_mono {i = 0} (omega arith)
fails_bound n formula decisions (found_leaf chosen) range is = omega arith
fails_bound n formula decisions (split c left right) range is =
    let here = is.0 in
    let facts = split_of n formula decisions here.set here.need here.member range here.closure (λ k. here.calm (clash_from formula decisions here.set here.closure k)) here.first here.least in
    let a : classes_left n (decisions ++ literal c true ∷ []) < classes_left n decisions = rw here.named facts.2 in
    let b : classes_left n (decisions ++ literal c false ∷ []) < classes_left n decisions = rw here.named facts.3 in
    let x = fails_bound n formula (decisions ++ literal c true ∷ []) left range is.1 in
    let y = fails_bound n formula (decisions ++ literal c false ∷ []) right range is.2 in
    let p = pow_sum (classes_left n (decisions ++ literal c true ∷ [])) (classes_left n (decisions ++ literal c false ∷ [])) (classes_left n decisions) a b in
    fails_cond (is_some (found_of left)) (failed_leaves left) (failed_leaves right) (2 ^ classes_left n decisions) (omega arith) (omega arith)

free_whole : (n : ℕ) → classes_left n [] ≡ n
free_whole zero = refl
free_whole (suc n) = let e = free_whole n in omega arith

pub fails_whole : (n : ℕ) (formula : List (List Literal)) (tree : Tree) → InRange n formula → IsTree n formula [] tree → failed_leaves tree ≤ 2 ^ n
fails_whole n formula tree range is = rw free_whole at (fails_bound n formula [] tree range is)

-- two to the nineteen is less than a million
pub fails_small : (n : ℕ) (formula : List (List Literal)) (tree : Tree) → n ≤ 19 → InRange n formula → IsTree n formula [] tree → failed_leaves tree ≤ 1000000
fails_small n formula tree le range is =
    let all = fails_whole n formula tree range is in
    let p : 2 ^ n ≤ 524288 = pow_mono le in
    omega (arith, all, p)

-- the decisions of a tree are on its classes, and so is its log
pub log_ranged : (n : ℕ) (formula : List (List Literal)) (decisions : List Literal) (tree : Tree) → InRange n formula → IsTree n formula decisions tree → All (λ l. l.class < n) decisions → InRange n (log_of decisions tree)
log_ranged n formula decisions failed_leaf range is within = All-cons (λ s. All (λ l. l.class < n) s) (map negation decisions) [] (negated_range decisions n within) (All-nil (λ s. All (λ l. l.class < n) s))
log_ranged n formula decisions (found_leaf chosen) range is within = All-nil (λ s. All (λ l. l.class < n) s)
log_ranged n formula decisions (split c left right) range is within =
    let here = is.0 in
    let facts = split_of n formula decisions here.set here.need here.member range here.closure (λ k. here.calm (clash_from formula decisions here.set here.closure k)) here.first here.least in
    let below : c < n = rw here.named facts.1 in
    let A = decisions ++ literal c true ∷ [] in
    let B = decisions ++ literal c false ∷ [] in
    let P : List Literal → Type 0 = λ s. All (λ l. l.class < n) s in
    All-append P (log_of A left ++ log_of B right) (map negation decisions ∷ [])
    (All-append P (log_of A left) (log_of B right)
    (log_ranged n formula A left range is.1 (All-push (λ l. l.class < n) decisions (literal c true) within below))
    (log_ranged n formula B right range is.2 (All-push (λ l. l.class < n) decisions (literal c false) within below)))
    (All-cons P (map negation decisions) [] (negated_range decisions n within) (All-nil P))
