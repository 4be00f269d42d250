-- The tree of a family: what it tells of tests, and how its numbers rise.
use Rattle.std.proofs.Common.{◌≡◌, ℕ, ◌<◌, ◌≤◌, ◌⊎◌, Bool, true, false, ◌&&◌, ◌||◌, eqb, ltb, cond, List, [], ◌∷◌, inl, inr, refl, sym, ◌∙◌, ap, ap₂, subst}
use Rattle.std.proofs.Common.{length, arith, eqb-true, suc, ◌+◌, not, add-one, drop, drop-cons, get_or, lt-ltb}
use Rattle.std.proofs.lemmas.Bool.{cond-false, cond-true, eqb-false, false_from_ne_true, le-ltb, not_from_false, not_from_true}
use Rattle.std.specs.List.{list_any}
use Rattle.listed.specs.Lists.{In, has, here, there, is_inside, Ascending}
use Rattle.listed.proofs.Lists.{In_none}
use Rattle.clause_pool.specs.{Lists.{Before, InOrder}, Clauses.{apart_from}}
use Rattle.clause_families.specs.Branches.{any_of, bare, branch, first_leap, is_empty, later_leaps, no_leap, nodes_of, tree_of, with_clause, Above, BuiltOf}
use Rattle.clause_families.specs.{Branches.{Climbs, Grows, Leap, Standing, Tree, TreeOf}, Inclusion.{has_shorter, is_within, some_inside}}
use Rattle.clause_families.specs.declared.family_tree.FamilyTree.{FamilyTree}
use Rattle.clause_pool.proofs.Clauses.{inside_at}
use Rattle.clause_families.proofs.{Families.{inside_length}, Walked.{above_less}}

once_again : (e t z : Bool) → (t || ((e && t) || z)) ≡ (t || z)
once_again e true z = refl
once_again true false z = refl
once_again false false z = refl

in_front : (a b x y : Bool) → (a || ((b || x) || y)) ≡ (b || (a || (x || y)))
in_front true true x y = refl
in_front true false x y = refl
in_front false true x y = refl
in_front false false x y = refl

no_more : (b y : Bool) → ((b || false) || y) ≡ (b || y)
no_more true y = refl
no_more false y = refl

two_first : (a b z : Bool) → (b || (a || z)) ≡ (a || (b || z))
two_first true true z = refl
two_first true false z = refl
two_first false true z = refl
two_first false false z = refl

-- a tree with a clause more has one that passes where the clause passes or one did before
any_with : (test : List ℕ → Bool) (given : Leap) (n : ℕ) (ns : List ℕ) (tree : Tree) → any_of test (with_clause given (n ∷ ns) tree) ≡ (test (n ∷ ns) || any_of test tree)
any_with test given n [] bare = refl
any_with test given n (x ∷ xs) bare = ap (λ b. b || false) (any_with (λ c. test (n ∷ c)) no_leap x xs bare) ∙ no_more (test (n ∷ (x ∷ xs))) false
any_with test given n [] (branch m leap ends below beside) = pick (eqb n m) refl
  where
    pick : (b : Bool) → eqb n m ≡ b → any_of test (cond b (branch m leap true below beside) (branch n given true bare (branch m leap ends below beside))) ≡ (test (n ∷ []) || any_of test (branch m leap ends below beside))
    pick true e =
        ap (λ k. test (k ∷ []) || (any_of (λ c. test (m ∷ c)) below || any_of test beside)) (sym (eqb-true n m e))
        ∙ sym (once_again ends (test (n ∷ [])) (any_of (λ c. test (m ∷ c)) below || any_of test beside))
        ∙ ap (λ k. test (n ∷ []) || ((ends && test (k ∷ [])) || (any_of (λ c. test (m ∷ c)) below || any_of test beside))) (eqb-true n m e)
    pick false e = refl
any_with test given n (x ∷ xs) (branch m leap ends below beside) = pick (eqb n m) refl (any_with (λ c. test (m ∷ c)) given x xs below) (any_with (λ c. test (n ∷ c)) no_leap x xs bare)
  where
    pick : (b : Bool) → eqb n m ≡ b → any_of (λ c. test (m ∷ c)) (with_clause given (x ∷ xs) below) ≡ (test (m ∷ (x ∷ xs)) || any_of (λ c. test (m ∷ c)) below) →
        any_of (λ c. test (n ∷ c)) (with_clause no_leap (x ∷ xs) bare) ≡ (test (n ∷ (x ∷ xs)) || false) →
        any_of test (cond b (branch m leap ends (with_clause given (x ∷ xs) below) beside) (branch n given false (with_clause no_leap (x ∷ xs) bare) (branch m leap ends below beside)))
        ≡ (test (n ∷ (x ∷ xs)) || any_of test (branch m leap ends below beside))
    pick true e again alone =
        ap (λ b. (ends && test (m ∷ [])) || (b || any_of test beside)) again
        ∙ in_front (ends && test (m ∷ [])) (test (m ∷ (x ∷ xs))) (any_of (λ c. test (m ∷ c)) below) (any_of test beside)
        ∙ ap (λ k. test (k ∷ (x ∷ xs)) || any_of test (branch m leap ends below beside)) (sym (eqb-true n m e))
    pick false e again alone =
        ap (λ b. b || any_of test (branch m leap ends below beside)) alone ∙ no_more (test (n ∷ (x ∷ xs))) (any_of test (branch m leap ends below beside))

-- a test of the family is one of its tree, and of the empty clause where it holds that
pub any_built : (test : List ℕ → Bool) (leaps : List Leap) (family : List (List ℕ)) → list_any test family ≡ ((list_any is_empty family && test []) || any_of test (tree_of leaps family))
any_built test leaps [] = refl
any_built test leaps ([] ∷ cs) =
    ap (λ b. test [] || b) (any_built test (later_leaps leaps) cs) ∙ once_again (list_any is_empty cs) (test []) (any_of test (tree_of (later_leaps leaps) cs))
any_built test leaps ((n ∷ ns) ∷ cs) =
    ap (λ b. test (n ∷ ns) || b) (any_built test (later_leaps leaps) cs)
    ∙ two_first (list_any is_empty cs && test []) (test (n ∷ ns)) (any_of test (tree_of (later_leaps leaps) cs))
    ∙ ap (λ b. (list_any is_empty cs && test []) || b) (sym (any_with test (first_leap leaps) n ns (tree_of (later_leaps leaps) cs)))

above_with : (given : Leap) (x : ℕ) (c : List ℕ) (tree : Tree) → ((k : ℕ) → In k c → x < k) → Above x tree → Above x (with_clause given c tree)
above_with given x [] tree u a = a
above_with given x (n ∷ ns) bare u a = (u n here, above_with no_leap x ns bare (λ k i. u k (there i)) tt, tt)
above_with given x (n ∷ ns) (branch m leap ends below beside) u a =
    pick (eqb n m) (above_with given x ns below (λ k i. u k (there i)) a.1) (above_with no_leap x ns bare (λ k i. u k (there i)) tt)
  where
    pick : (b : Bool) → Above x (with_clause given ns below) → Above x (with_clause no_leap ns bare) →
        Above x (cond b (branch m leap (is_empty ns || ends) (with_clause given ns below) beside) (branch n given (is_empty ns) (with_clause no_leap ns bare) (branch m leap ends below beside)))
    pick true again alone = (a.0, again, a.2)
    pick false again alone = (u n here, alone, a)

-- the clause begins no higher than the tree does
abbrev Leads : List ℕ → Tree → Type 0
Leads [] tree = Unit
Leads (n ∷ ns) bare = Unit
Leads (n ∷ ns) (branch m leap ends below beside) = (n < m) ⊎ ((n ≡ m) × Leads ns below)

leads_bare : (c : List ℕ) → Leads c bare
leads_bare [] = tt
leads_bare (n ∷ ns) = tt

leads_first : (given : Leap) (c d : List ℕ) (tree : Tree) → Before c d → Leads c (with_clause given d tree)
leads_first given [] d tree b = tt
leads_first given (n ∷ ns) [] tree b = absurd b
leads_first given (n ∷ ns) (m ∷ ms) bare (inl l) = inl l
leads_first given (n ∷ ns) (m ∷ ms) bare (inr w) = inr (w.0, leads_first no_leap ns ms bare w.1)
leads_first given (n ∷ ns) (m ∷ ms) (branch k leap ends below beside) b = pick (eqb m k) refl (λ w. leads_first given ns ms below w) (λ w. leads_first no_leap ns ms bare w)
  where
    pick : (t : Bool) → eqb m k ≡ t → (Before ns ms → Leads ns (with_clause given ms below)) → (Before ns ms → Leads ns (with_clause no_leap ms bare)) →
        Leads (n ∷ ns) (cond t (branch k leap (is_empty ms || ends) (with_clause given ms below) beside) (branch m given (is_empty ms) (with_clause no_leap ms bare) (branch k leap ends below beside)))
    pick true e again alone = let s : m ≡ k = eqb-true m k e in elim b [ inl l ↦ inl (omega arith) | inr w ↦ inr (w.0 ∙ s, again w.1) ]
    pick false e again alone = elim b [ inl l ↦ inl l | inr w ↦ inr (w.0, alone w.1) ]

climbs_with : (given : Leap) (c : List ℕ) (tree : Tree) → Ascending c → Climbs tree → Leads c tree → Climbs (with_clause given c tree)
climbs_with given [] tree a up l = up
climbs_with given (n ∷ ns) bare a up l = ((above_with no_leap n ns bare a.0 tt, tt), (climbs_with no_leap ns bare a.1 tt (leads_bare ns), tt))
climbs_with given (n ∷ ns) (branch m leap ends below beside) a up l =
    pick (eqb n m) refl (λ w. climbs_with given ns below a.1 up.1.0 w) (climbs_with no_leap ns bare a.1 tt (leads_bare ns))
  where
    pick : (b : Bool) → eqb n m ≡ b → (Leads ns below → Climbs (with_clause given ns below)) → Climbs (with_clause no_leap ns bare) →
        Climbs (cond b (branch m leap (is_empty ns || ends) (with_clause given ns below) beside) (branch n given (is_empty ns) (with_clause no_leap ns bare) (branch m leap ends below beside)))
    pick true e again alone =
        let s : n ≡ m = eqb-true n m e in
        let rest : Leads ns below = elim l [ inl k ↦ absurd (omega arith) | inr w ↦ w.1 ] in
        ((above_with given m ns below (λ k i. let h : n < k = a.0 k i in omega arith) up.0.0, up.0.1), (again rest, up.1.1))
    pick false e again alone =
        let less : n < m = elim l [ inl k ↦ k | inr w ↦ absurd (eqb-false n m e w.0) ] in
        ((above_with no_leap n ns bare a.0 tt, (less, above_less n m below less up.0.0, above_less n m beside less up.0.1)), (alone, up))

pub climbs_built : (leaps : List Leap) (family : List (List ℕ)) → InOrder family → ((c : List ℕ) → In c family → Ascending c) → Climbs (tree_of leaps family)
climbs_built leaps [] o up = tt
climbs_built leaps (c ∷ []) o up = climbs_with (first_leap leaps) c bare (up c here) tt (leads_bare c)
climbs_built leaps (c ∷ (d ∷ ds)) o up =
    let others : List Leap = later_leaps leaps in
    climbs_with (first_leap leaps) c (tree_of (later_leaps leaps) (d ∷ ds)) (up c here) (climbs_built (later_leaps leaps) (d ∷ ds) o.1 (λ e i. up e (there i)))
    (leads_first (first_leap others) c d (tree_of (later_leaps others) ds) (o.0 d here))

-- no clause yet
pub built_none : (built : FamilyTree) (family : List (List ℕ)) → family ≡ [] → built.nodes.items ≡ [] → built.holds_empty ≡ false → BuiltOf built family
built_none built family none nodes empty = subst (BuiltOf built) (sym none) (record { leaps = []; nodes = nodes; empty = empty; short = λ c i. absurd (In_none i) })

-- one clause more
short_more : (family : List (List ℕ)) (clause : List ℕ) (old new : ℕ) → new ≤ old → new ≤ length clause → ((c : List ℕ) → In c family → old ≤ length c) → (c : List ℕ) → In c (clause ∷ family) → new ≤ length c
short_more family clause old new low least h c here = least
short_more family clause old new low least h c (there i) = let l : old ≤ length c = h c i in omega arith

pub built_empty : (built new : FamilyTree) (family : List (List ℕ)) (clause : List ℕ) (b : Bool) → b ≡ eqb (length clause) 0 → b ≡ true → new.nodes.items ≡ built.nodes.items → new.holds_empty ≡ true →
    new.shortest ≤ built.shortest → new.shortest ≤ length clause → BuiltOf built family → BuiltOf new (clause ∷ family)
built_empty built new family [] b e t same up low least w =
    record { leaps = no_leap ∷ w.leaps; nodes = same ∙ w.nodes; empty = up; short = short_more family [] built.shortest new.shortest low least w.short }
built_empty built new family (n ∷ ns) b e t same up low least w = let z : suc (length ns) ≡ 0 = eqb-true (length (n ∷ ns)) 0 (sym e ∙ t) in absurd (omega arith)

pub built_more : (built new : FamilyTree) (family : List (List ℕ)) (clause : List ℕ) (b : Bool) → b ≡ eqb (length clause) 0 → b ≡ false → new.holds_empty ≡ built.holds_empty →
    new.shortest ≤ built.shortest → new.shortest ≤ length clause →
    ((tree : Tree) → built.nodes.items ≡ nodes_of 0 tree → Grows clause tree new.nodes.items) → BuiltOf built family → BuiltOf new (clause ∷ family)
built_more built new family [] b e t same low least f w = absurd (let z : false ≡ true = sym t ∙ e in cc)
built_more built new family (n ∷ ns) b e t same low least f w =
    let g : Grows (n ∷ ns) (tree_of w.leaps family) new.nodes.items = f (tree_of w.leaps family) w.nodes in
    record { leaps = g.leap ∷ w.leaps; nodes = g.is; empty = same ∙ w.empty; short = short_more family (n ∷ ns) built.shortest new.shortest low least w.short }

-- no clause is shorter than the shortest
none_shorter : (bound : ℕ) (family : List (List ℕ)) (clause : List ℕ) → ((c : List ℕ) → In c family → bound ≤ length c) → length clause ≤ bound → has_shorter family clause ≡ false
none_shorter bound [] clause h low = refl
none_shorter bound (c ∷ cs) clause h low =
    let l : bound ≤ length c = h c here in
    ap₂ (λ x y. (x && is_inside c clause) || y) (le-ltb (length c) (length clause) (omega arith)) (none_shorter bound cs clause (λ d i. h d (there i)) low)

pub none_as_short : (built : FamilyTree) (family : List (List ℕ)) (clause : List ℕ) → TreeOf built family → length clause ≤ built.shortest → has_shorter family clause ≡ false
none_as_short built family clause t low = none_shorter built.shortest family clause t.by.short low

-- the nodes are those of a tree, from the first place on
abbrev pub standing_built : (built : FamilyTree) (family : List (List ℕ)) → TreeOf built family → Standing 0 built.nodes.items
standing_built built family t =
    record { tree = tree_of t.by.leaps family; climbs = climbs_built t.by.leaps family t.in_order t.rising; front = []; at = refl; is = t.by.nodes }

-- the test of the tree, and of the empty clause
pub shorter_built : (built : FamilyTree) (family : List (List ℕ)) (clause : List ℕ) (t : TreeOf built family) →
    has_shorter family clause ≡ ((built.holds_empty && ltb 0 (length clause)) || any_of (is_within clause (length clause)) (tree_of t.by.leaps family))
shorter_built built family clause t =
    any_built (is_within clause (length clause)) t.by.leaps family
    ∙ ap (λ b. b || any_of (is_within clause (length clause)) (tree_of t.by.leaps family))
    (ap₂ (λ x y. x && y) (sym t.by.empty) (last (ltb 0 (length clause))))
  where
    last : (b : Bool) → (b && true) ≡ b
    last true = refl
    last false = refl

-- a clause within another one is no longer
inside_as_within : (clause : List ℕ) (family : List (List ℕ)) → Ascending clause → ((c : List ℕ) → In c family → Ascending c) →
    some_inside family clause ≡ list_any (is_within clause (length clause + 1)) family
inside_as_within clause [] up rise = refl
inside_as_within clause (d ∷ ds) up rise =
    ap₂ (λ x y. x || y)
    (both (ltb (length d) (length clause + 1)) (is_inside d clause)
    (λ h. let l : length d ≤ length clause = inside_length d clause (rise d here) up (inside_at d clause h) in lt-ltb (length d) (length clause + 1) (omega arith)))
    (inside_as_within clause ds up (λ c i. rise c (there i)))
  where
    both : (x y : Bool) → (y ≡ true → x ≡ true) → y ≡ (x && y)
    both true y f = refl
    both false true f = sym (f refl)
    both false false f = refl

-- no clause as long as each of the family has one of it inside, if it is shorter
none_within : (bound : ℕ) (family : List (List ℕ)) (clause : List ℕ) → Ascending clause → ((c : List ℕ) → In c family → Ascending c) → ((c : List ℕ) → In c family → bound ≤ length c) → length clause < bound →
    some_inside family clause ≡ false
none_within bound [] clause up rise h low = refl
none_within bound (c ∷ cs) clause up rise h low =
    ap₂ (λ x y. x || y)
    (false_from_ne_true (is_inside c clause) (λ k.
    let l : length c ≤ length clause = inside_length c clause (rise c here) up (inside_at c clause k) in
    let m : bound ≤ length c = h c here in
    omega arith))
    (none_within bound cs clause up (λ d i. rise d (there i)) (λ d i. h d (there i)) low)

pub none_so_short : (built : FamilyTree) (family : List (List ℕ)) (clause : List ℕ) → TreeOf built family → Ascending clause → length clause < built.shortest → some_inside family clause ≡ false
none_so_short built family clause t up low = none_within built.shortest family clause up t.rising t.by.short low

pub inside_built : (built : FamilyTree) (family : List (List ℕ)) (clause : List ℕ) (t : TreeOf built family) → Ascending clause →
    some_inside family clause ≡ (built.holds_empty || any_of (is_within clause (length clause + 1)) (tree_of t.by.leaps family))
inside_built built family clause t up =
    inside_as_within clause family up t.rising
    ∙ any_built (is_within clause (length clause + 1)) t.by.leaps family
    ∙ ap (λ b. b || any_of (is_within clause (length clause + 1)) (tree_of t.by.leaps family))
    (ap₂ (λ x y. x && (y && true)) (sym t.by.empty) (lt-ltb 0 (length clause + 1) (omega arith)) ∙ last built.holds_empty)
  where
    last : (b : Bool) → (b && (true && true)) ≡ b
    last true = refl
    last false = refl

-- the clauses without a number, from a place on
module _ (q : ℕ) (cs : List (List ℕ)) (i : ℕ) (below : i < length cs) where
  one : drop i cs ≡ get_or cs i [] ∷ drop (i + 1) cs
  one = drop-cons cs i [] below ∙ ap (λ n. get_or cs i [] ∷ drop n cs) (sym (add-one i))

  pub without_less : has (get_or cs i []) q ≡ true → apart_from q (drop i cs) ≡ apart_from q (drop (i + 1) cs)
  without_less h = ap (apart_from q) one ∙ cond-false (not (has (get_or cs i []) q)) (get_or cs i [] ∷ apart_from q (drop (i + 1) cs)) (apart_from q (drop (i + 1) cs)) (not_from_true (has (get_or cs i []) q) h)

  pub without_more : has (get_or cs i []) q ≡ false → apart_from q (drop i cs) ≡ get_or cs i [] ∷ apart_from q (drop (i + 1) cs)
  without_more h = ap (apart_from q) one ∙ cond-true (not (has (get_or cs i []) q)) (get_or cs i [] ∷ apart_from q (drop (i + 1) cs)) (apart_from q (drop (i + 1) cs)) (not_from_false (has (get_or cs i []) q) h)
