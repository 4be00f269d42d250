-- Dead packages, forced and idle clauses, and the whole of pruning.
use Rattle.std.proofs.Common.{◌≡◌, ◌≢◌, ℕ, ◌<◌, ◌≤◌, Bool, true, false, not, ◌&&◌, ◌||◌, eqb, cond, List, [], ◌∷◌, length, ◌⊎◌, inl, inr, refl, sym, ◌∙◌, ap}
use Rattle.std.proofs.Common.{subst, arith, filter, ◌↔◌}
use Rattle.std.proofs.lemmas.Bool.{both_ways, cases_eq, cases_lt, and_parts, and_cases, or_cases, not-true, not-false, false_from_ne_true}
use Rattle.std.proofs.lemmas.List.{get_or_past}
use Rattle.std.specs.{List.{list_all, list_any}, Cmp.Lexicographic.{pointwise}}
use Rattle.row_book.specs.{Sets.{NumSet, Within, Hit, Is, plus}, Repository.{Repository, Healthy, Coinst, against, clauses_of}, Flattening.{packages}}
use Rattle.row_book.specs.{Sound.{TidyRepository}, Facing.{sides}, Rounds.{weigh}}
use Rattle.row_book.specs.Pruning.{made_dead, with_clauses, is_dead, with_empty_clause, others, without_clause, serves, is_forced, is_harmless, is_hit_anyway}
use Rattle.row_book.specs.Pruning.{is_idle, is_dropped, prune_clause, prune_clauses, prune_package, prune_over, prune, lift_idle}
use Rattle.listed.specs.Lists.{In, here, there, has, Inside, is_inside}
use Rattle.clause_pool.specs.Lists.{InOrder}
use Rattle.clause_pool.proofs.{Clauses.{inside_at}, Order.{order_filter}}
use Rattle.listed.proofs.Lists.{In_cases, In_none, has_In, all_at, any_cases}
use Rattle.row_book.proofs.{Lists.{any_hit, hit_any}, Sets.{Hit-mono, plus_old, plus_new, plus_cases}}
use Rattle.row_book.proofs.{Repositories.{both, healthy_coinst, Hit_inside, in_packages, symmetric}, Facing.{face_parts, side_hit}}
use Rattle.clause_prune.specs.Laws.{DeadKeeps, ForcedKeeps, IdleLifts, IdleKeeps, PruneKeeps, PruneIsTidy}
use Rattle.clause_prune.proofs.Changed.{size_same, row_new, row_other, row_cases, row_in, row_hits, to_row, from_row, others_parts, other_or, drop_from}
use Rattle.clause_prune.proofs.Changed.{drop_back, tidy_row, with_order}

-- dead
dead_out : (R : Repository) (p : ℕ) (I : NumSet) → is_dead R p ≡ true → Healthy R I → Is I p → ⊥
dead_out R p I d h i =
    let w : (d : List ℕ) × (e : List ℕ) × In d (sides R p) × In e (sides R p) × ((m n : ℕ) → In m d → In n e → against R m n ≡ true) =
    face_parts (against R) (sides R p) (sides R p) d in
    let x : Hit (Is I) w.0 = side_hit R I p w.0 h i w.2 in
    let y : Hit (Is I) w.1 = side_hit R I p w.1 h i w.3 in
    both_ways (against R x.by y.by) (h.peace x.by y.by x.alive y.alive) (w.4 x.by y.by x.inside y.inside)

pub dead_keeps_lem : DeadKeeps
dead_keeps_lem R p I d = (
  (λ h. to_row R p ([] ∷ []) I h (λ i. absurd (dead_out R p I d h i))),
  (λ h. from_row R p ([] ∷ []) I h (λ i. absurd (In_none (row_hits R p ([] ∷ []) I h i [] here).inside))),
)

-- forced
forced_hit : (R : Repository) (p : ℕ) (d : List ℕ) (I : NumSet) → TidyRepository R → is_forced R p d ≡ true → Healthy (without_clause R p d) I → Is I p → Hit (Is I) d
forced_hit R p d I t r h i =
    let w : (e : List ℕ) × In e (others R p d) × (list_all (serves R d) e ≡ true) = any_cases (λ e. list_all (serves R d) e) (others R p d) r in
    let x : Hit (Is I) w.0 = row_hits R p (others R p d) I h i w.0 w.1 in
    elim (or_cases (has d x.by) (list_any (λ c. is_inside c d) (clauses_of R x.by)) (all_at (serves R d) w.0 w.2 x.by x.inside)) [
      | inl y ↦ record { by = x.by; inside = has_In d x.by y; alive = x.alive }
      | inr y ↦
          let v : (c : List ℕ) × In c (clauses_of R x.by) × (is_inside c d ≡ true) = any_cases (λ c. is_inside c d) (clauses_of R x.by) y in
          let ne : x.by ≢ p = λ e. t.apart p w.0 (others_parts R p d w.0 w.1) (subst (λ k. In k w.0) e x.inside) in
          Hit_inside (inside_at v.0 d v.2) (h.abundance x.by x.alive v.0 (row_in R p (others R p d) x.by v.0 ne v.1))
    ]

pub forced_keeps_lem : ForcedKeeps
forced_keeps_lem R p d I t r = ((λ h. drop_from R p d I h), (λ h. drop_back R p d I h (forced_hit R p d I t r h)))

-- idle
record Idle (R : Repository) (p : ℕ) (d : List ℕ) (x : ℕ) : Type 0 where
  member : In x d
  conflicting : (y : ℕ) → y < length R.clauses → against R x y ≡ true → is_harmless R p d y ≡ true
  needs : (c : List ℕ) → In c (clauses_of R x) → In p c ⊎ ((e : List ℕ) × In e (others R p d) × Inside e c)

idle_from : (R : Repository) (p : ℕ) (d : List ℕ) (x : ℕ) → is_idle R p d x ≡ true → Idle R p d x
idle_from R p d x h =
    let other : ℕ → Bool = λ y. not (against R x y) || is_harmless R p d y in
    let a : (has d x ≡ true) × ((list_all other (packages R) && list_all (is_hit_anyway R p d) (clauses_of R x)) ≡ true) =
    and_parts (has d x) (list_all other (packages R) && list_all (is_hit_anyway R p d) (clauses_of R x)) h in
    let b : (list_all other (packages R) ≡ true) × (list_all (is_hit_anyway R p d) (clauses_of R x) ≡ true) =
    and_parts (list_all other (packages R)) (list_all (is_hit_anyway R p d) (clauses_of R x)) a.1 in
    record {
      member = has_In d x a.0;
      conflicting = λ y l t. elim (or_cases (not (against R x y)) (is_harmless R p d y) (all_at other (packages R) b.0 y (in_packages R y l))) [
        | inl f ↦ absurd (both_ways (against R x y) (not-true (against R x y) f) t)
        | inr g ↦ g
      ];
      needs = λ c i. elim (or_cases (has c p) (list_any (λ e. is_inside e c) (others R p d)) (all_at (is_hit_anyway R p d) (clauses_of R x) b.1 c i)) [
        | inl y ↦ inl (has_In c p y)
        | inr y ↦ let v : (e : List ℕ) × In e (others R p d) × (is_inside e c ≡ true) = any_cases (λ e. is_inside e c) (others R p d) y in
            inr (v.0, v.1, inside_at v.0 c v.2)
      ];
    }

idle_conflict : (R : Repository) (p : ℕ) (d : List ℕ) (x : ℕ) (I : NumSet) → Idle R p d x → Healthy (without_clause R p d) I → Is I p → (Hit (Is I) d → ⊥) →
    (y : ℕ) → Is I y → against R x y ≡ true → ⊥
idle_conflict R p d x I s h ip unhit y iy t =
    let l : y < length R.clauses = subst (λ k. y < k) (size_same R p (others R p d)) (h.packages y iy) in
    let rest : Bool = list_any (λ e. list_all (against R y) e) (others R p d) in
    let a : (not (eqb y p) ≡ true) × ((has d y || (against R p y || rest)) ≡ true) = and_parts (not (eqb y p)) (has d y || (against R p y || rest)) (s.conflicting y l t) in
    elim (or_cases (has d y) (against R p y || rest) a.1) [
      | inl m ↦ unhit (record { by = y; inside = has_In d y m; alive = iy })
      | inr b ↦ elim (or_cases (against R p y) rest b) [
        | inl c ↦ both_ways (against R p y) (h.peace p y ip iy) c
        | inr c ↦
            let w : (e : List ℕ) × In e (others R p d) × (list_all (against R y) e ≡ true) = any_cases (λ e. list_all (against R y) e) (others R p d) c in
            let z : Hit (Is I) w.0 = row_hits R p (others R p d) I h ip w.0 w.1 in
            both_ways (against R y z.by) (h.peace y z.by iy z.alive) (all_at (against R y) w.0 w.2 z.by z.inside)
      ]
    ]

idle_plus : (R : Repository) (p : ℕ) (d : List ℕ) (x : ℕ) (I : NumSet) → TidyRepository R → ((n : ℕ) → In n d → n < length R.clauses) → Idle R p d x →
    Healthy (without_clause R p d) I → Is I p → (Hit (Is I) d → ⊥) → Healthy R (plus I x)
idle_plus R p d x I t range s h ip unhit =
    let old : (n : ℕ) → Is I n → Is (plus I x) n = plus_old I x in
    let calm : (y : ℕ) → Is I y → against R x y ≡ false = λ y i. false_from_ne_true (against R x y) (idle_conflict R p d x I s h ip unhit y i) in
    let own : (c : List ℕ) → In c (others R p d) → Hit (Is (plus I x)) c = λ c i. Hit-mono old (row_hits R p (others R p d) I h ip c i) in
    record {
      packages = λ n i. elim (plus_cases I x n i) [
        | inl a ↦ subst (λ k. n < k) (size_same R p (others R p d)) (h.packages n a)
        | inr e ↦ range n (subst (λ k. In k d) (sym e) s.member)
      ];
      abundance = λ n i c j. elim (plus_cases I x n i) [
        | inl a ↦ elim (cases_eq n p) [
          | inl e ↦ elim (other_or R p d c (subst (λ k. In c (clauses_of R k)) e j)) [
            | inl o ↦ own c o
            | inr g ↦ record { by = x; inside = subst (λ k. In x k) (sym g) s.member; alive = plus_new I x x refl }
          ]
          | inr ne ↦ Hit-mono old (h.abundance n a c (row_in R p (others R p d) n c ne j))
        ]
        | inr e ↦ elim (s.needs c (subst (λ k. In c (clauses_of R k)) e j)) [
          | inl m ↦ record { by = p; inside = m; alive = old p ip }
          | inr w ↦ Hit_inside w.2 (own w.0 w.1)
        ]
      ];
      peace = λ m n i j. elim (plus_cases I x m i) [
        | inl a ↦ elim (plus_cases I x n j) [
          | inl b ↦ h.peace m n a b
          | inr f ↦ symmetric R t.sound m n ∙ (ap (λ k. against R k m) f ∙ calm m a)
        ]
        | inr e ↦ elim (plus_cases I x n j) [
          | inl b ↦ ap (λ k. against R k n) e ∙ calm n b
          | inr f ↦ ap (λ k. against R k n) e ∙ (ap (λ k. against R x k) f ∙ t.sound.conflicts.apart x)
        ]
      ];
    }

pub idle_lifts_ranged : (R : Repository) (p : ℕ) (d : List ℕ) (x : ℕ) (I : NumSet) → TidyRepository R → ((n : ℕ) → In n d → n < length R.clauses) → is_idle R p d x ≡ true →
    Healthy (without_clause R p d) I → Healthy R (lift_idle I p d x)
idle_lifts_ranged R p d x I t range idle h = pick (I p && not (list_any I d)) refl
  where
    pick : (b : Bool) → (I p && not (list_any I d)) ≡ b → Healthy R (cond b (plus I x) I)
    pick true e =
        let w : (I p ≡ true) × (not (list_any I d) ≡ true) = and_parts (I p) (not (list_any I d)) e in
        idle_plus R p d x I t range (idle_from R p d x idle) h w.0 (λ g. both_ways (list_any I d) (not-true (list_any I d) w.1) (any_hit I d g))
    pick false e =
        drop_back R p d I h (λ i. elim (and_cases (I p) (not (list_any I d)) e) [
          | inl a ↦ absurd (both_ways (I p) a i)
          | inr a ↦ hit_any I d (not-false (list_any I d) a)
        ])

pub idle_lifts_lem : IdleLifts
idle_lifts_lem R p d x I t i idle h = idle_lifts_ranged R p d x I t (t.sound.clauses p d i).1 idle h

lift_idle_more : (I : NumSet) (p : ℕ) (d : List ℕ) (x : ℕ) → Within I (lift_idle I p d x)
lift_idle_more I p d x n i = pick (I p && not (list_any I d))
  where
    pick : (b : Bool) → cond b (plus I x) I n ≡ true
    pick true = plus_old I x n i
    pick false = i

idle_ranged : (R : Repository) (p : ℕ) (d : List ℕ) (x : ℕ) (S : NumSet) → TidyRepository R → ((n : ℕ) → In n d → n < length R.clauses) → is_idle R p d x ≡ true →
    (Coinst R S ↔ Coinst (without_clause R p d) S)
idle_ranged R p d x S t range idle = (
  (λ h. record { whole = h.whole; healthy = drop_from R p d h.whole h.healthy; contains = h.contains }),
  (λ h. record {
    whole = lift_idle h.whole p d x;
    healthy = idle_lifts_ranged R p d x h.whole t range idle h.healthy;
    contains = λ n i. lift_idle_more h.whole p d x n (h.contains n i);
  }),
)

pub idle_keeps_lem : IdleKeeps
idle_keeps_lem R p d x S t i idle = idle_ranged R p d x S t (t.sound.clauses p d i).1 idle

-- the whole
abbrev pub Lighter : List (List ℕ) → List (List ℕ) → Type 0
Lighter xs ys = (xs ≡ ys) ⊎ (weigh xs < weigh ys)

pub lighter_trans : (xs ys zs : List (List ℕ)) → Lighter xs ys → Lighter ys zs → Lighter xs zs
lighter_trans xs ys zs (inl e) (inl f) = inl (e ∙ f)
lighter_trans xs ys zs (inl e) (inr l) = inr (subst (λ r. weigh r < weigh zs) (sym e) l)
lighter_trans xs ys zs (inr k) (inl f) = inr (subst (λ r. weigh xs < weigh r) f k)
lighter_trans xs ys zs (inr k) (inr l) = inr (omega arith)

filter_lighter : (f : List ℕ → Bool) (xs : List (List ℕ)) → Lighter (filter f xs) xs
filter_lighter f [] = inl refl
filter_lighter f (x ∷ xs) = pick (f x) (filter_lighter f xs)
  where
    pick : (b : Bool) → Lighter (filter f xs) xs → Lighter (cond b (x ∷ filter f xs) (filter f xs)) (x ∷ xs)
    pick true (inl e) = inl (ap (λ r. x ∷ r) e)
    pick true (inr l) = inr (omega arith)
    pick false (inl e) = inr (let k : weigh (filter f xs) ≡ weigh xs = ap weigh e in omega (arith, k))
    pick false (inr l) = inr (omega arith)

one_lighter : (ys : List (List ℕ)) → (ys ≡ [] → ⊥) → Lighter ([] ∷ []) ys
one_lighter [] f = absurd (f refl)
one_lighter ([] ∷ []) f = inl refl
one_lighter ([] ∷ (d ∷ ds)) f = inr (omega arith)
one_lighter ((x ∷ c) ∷ ds) f = inr (omega arith)

dead_row : (R : Repository) (p : ℕ) → TidyRepository R → is_dead R p ≡ true → clauses_of R p ≡ [] → ⊥
dead_row R p t h e =
    let w : (d : List ℕ) × (e : List ℕ) × In d (sides R p) × In e (sides R p) × ((m n : ℕ) → In m d → In n e → against R m n ≡ true) =
    face_parts (against R) (sides R p) (sides R p) h in
    let alone : (d : List ℕ) → In d (sides R p) → In p d =
    λ d i. elim (In_cases i) [ inl g ↦ subst (λ k. In p k) (sym g) here | inr j ↦ absurd (In_none (subst (λ r. In d r) e j)) ] in
    both_ways (against R p p) (t.sound.conflicts.apart p) (w.4 p p (alone w.0 w.2) (alone w.1 w.3))

with_weight : (R : Repository) (p : ℕ) (cs : List (List ℕ)) → Lighter cs (clauses_of R p) → (n : ℕ) → Lighter (clauses_of (with_clauses R p cs) n) (clauses_of R n)
with_weight R p cs g n =
    elim (cases_eq n p) [
      | inl e ↦ subst (λ k. Lighter (clauses_of (with_clauses R p cs) k) (clauses_of R k)) (sym e) (elim (cases_lt p (length R.clauses)) [
        | inl l ↦ subst (λ r. Lighter r (clauses_of R p)) (sym (row_new R p cs l)) g
        | inr past ↦ inl (get_or_past (with_clauses R p cs).clauses p [] (subst (λ k. k ≤ p) (sym (size_same R p cs)) past) ∙ sym (get_or_past R.clauses p [] past))
      ])
      | inr ne ↦ inl (row_other R p cs n ne)
    ]

pub record Step (R F : Repository) : Type 0 where
  pub keeps : (S : NumSet) → (Coinst R S ↔ Coinst F S)
  pub tidy : TidyRepository F
  pub size : length F.clauses ≡ length R.clauses
  pub conflicts : F.conflicts ≡ R.conflicts
  pub rows : (p : ℕ) (c : List ℕ) → In c (clauses_of F p) → In c (clauses_of R p) ⊎ (c ≡ [])
  pub order : ((p : ℕ) → InOrder (clauses_of R p)) → (p : ℕ) → InOrder (clauses_of F p)
  pub weight : (p : ℕ) → Lighter (clauses_of F p) (clauses_of R p)

stay : (R : Repository) → TidyRepository R → Step R R
stay R t = record { keeps = λ S. ((λ h. h), (λ h. h)); tidy = t; size = refl; conflicts = refl; rows = λ p c i. inl i; order = λ o. o; weight = λ p. inl refl }

pub steps : (R F G : Repository) → Step R F → Step F G → Step R G
steps R F G a b = record {
  keeps = λ S. both (a.keeps S) (b.keeps S);
  tidy = b.tidy;
  size = b.size ∙ a.size;
  conflicts = b.conflicts ∙ a.conflicts;
  rows = λ p c i. elim (b.rows p c i) [ inl j ↦ a.rows p c j | inr e ↦ inr e ];
  order = λ o. b.order (a.order o);
  weight = λ p. lighter_trans (clauses_of G p) (clauses_of F p) (clauses_of R p) (b.weight p) (a.weight p);
}

drop_step : (R : Repository) (p : ℕ) (d : List ℕ) → TidyRepository R → ((n : ℕ) → In n d → n < length R.clauses) → is_dropped R p d ≡ true → Step R (without_clause R p d)
drop_step R p d t range go = record {
  keeps = λ S. elim (or_cases (is_forced R p d) (list_any (is_idle R p d) d) go) [
    | inl f ↦ healthy_coinst R (without_clause R p d) (λ I. forced_keeps_lem R p d I t f) S
    | inr i ↦ let w : (x : ℕ) × In x d × (is_idle R p d x ≡ true) = any_cases (is_idle R p d) d i in idle_ranged R p d w.0 S t range w.2
  ];
  tidy = tidy_row R p (others R p d) t (inl (others_parts R p d));
  size = size_same R p (others R p d);
  conflicts = refl;
  rows = λ n c i. elim (row_cases R p (others R p d) n c i) [
    | inl j ↦ inl j
    | inr w ↦ inl (subst (λ k. In c (clauses_of R k)) (sym w.0) (others_parts R p d c w.1))
  ];
  weight = with_weight R p (others R p d) (filter_lighter (λ c. not (pointwise eqb c d)) (clauses_of R p));
  order = λ o n. with_order R p (others R p d) (order_filter (λ c. not (pointwise eqb c d)) (clauses_of R p) (o p)) o n;
}

pub clause_step : (R : Repository) (p : ℕ) (d : List ℕ) → TidyRepository R → ((n : ℕ) → In n d → n < length R.clauses) → Step R (prune_clause R p d).left
clause_step R p d t range = pick (is_dropped R p d) refl
  where
    pick : (b : Bool) → is_dropped R p d ≡ b → Step R (cond b (without_clause R p d) R)
    pick true e = drop_step R p d t range e
    pick false e = stay R t

pub clauses_step : (ds : List (List ℕ)) (R : Repository) (p : ℕ) → TidyRepository R → ((d : List ℕ) → In d ds → (n : ℕ) → In n d → n < length R.clauses) → Step R (prune_clauses R p ds).left
clauses_step [] R p t range = stay R t
clauses_step (d ∷ ds) R p t range =
    let s : Step R (prune_clause R p d).left = clause_step R p d t (range d here) in
    steps R (prune_clause R p d).left (prune_clauses R p (d ∷ ds)).left s
    (clauses_step ds (prune_clause R p d).left p s.tidy (λ c i n j. subst (λ k. n < k) (sym s.size) (range c (there i) n j)))

pub package_step : (R : Repository) (p : ℕ) → TidyRepository R → Step R (prune_package R p).left
package_step R p t = pick (is_dead R p) refl
  where
    pick : (b : Bool) → is_dead R p ≡ b → Step R (cond b (made_dead R p) (prune_clauses R p (clauses_of R p))).left
    pick true e = record {
      keeps = healthy_coinst R (with_empty_clause R p) (λ I. dead_keeps_lem R p I e);
      tidy = tidy_row R p ([] ∷ []) t (inr (λ c i. elim (In_cases i) [ inl g ↦ g | inr j ↦ absurd (In_none j) ]));
      size = size_same R p ([] ∷ []);
      conflicts = refl;
      rows = λ n c i. elim (row_cases R p ([] ∷ []) n c i) [
        | inl j ↦ inl j
        | inr w ↦ inr (elim (In_cases w.1) [ inl g ↦ g | inr j ↦ absurd (In_none j) ])
      ];
      weight = with_weight R p ([] ∷ []) (one_lighter (clauses_of R p) (dead_row R p t e));
      order = λ o n. with_order R p ([] ∷ []) ((λ d i. absurd (In_none i)), tt) o n;
    }
    pick false e = clauses_step (clauses_of R p) R p t (λ d i. (t.sound.clauses p d i).1)

pub over_step : (ps : List ℕ) (R : Repository) → TidyRepository R → Step R (prune_over R ps).left
over_step [] R t = stay R t
over_step (p ∷ ps) R t =
    let s : Step R (prune_package R p).left = package_step R p t in
    steps R (prune_package R p).left (prune_over R (p ∷ ps)).left s (over_step ps (prune_package R p).left s.tidy)

pub prune_step : (R : Repository) → TidyRepository R → Step R (prune R)
unfolding prune
prune_step R t = over_step (packages R) R t

pub prune_keeps_lem : PruneKeeps
prune_keeps_lem R S t = (prune_step R t).keeps S

pub prune_is_tidy_lem : PruneIsTidy
prune_is_tidy_lem R t =
    let s : Step R (prune R) = prune_step R t in
    record { tidy = s.tidy; size = s.size; conflicts = s.conflicts; clauses = s.rows }
