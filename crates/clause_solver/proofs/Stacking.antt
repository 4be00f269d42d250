use Rattle.std.proofs.Common.{◌≡◌, ℕ, ◌+◌, ◌*◌, ◌-◌, ◌<◌, ◌≤◌, Bool, true, false, List, [], ◌∷◌, ◌++◌, refl, ap, sym, ◌∙◌, arith, Some, None, subst}
use Rattle.std.proofs.{Common.{append_assoc, zero-add}, lemmas.List.Elements.{All-contains, Contains-append_left, Contains-get_or}}
use Rattle.std.specs.Prelude.{map, All, get_or}
use Rattle.search_terms.specs.{declared.literals.Literal.{Literal}, Closure.{literal, negation, Clashes}}
use Rattle.search_terms.specs.{Tree.{Tree, IsTree, IsFoundLeaf, IsSplit, found_of, failed_leaves, log_of}, Marks.{classes_left}, Tree.Tree.{failed_leaf, split}}
use Rattle.clause_solver.specs.Standing.{Stands, signs, StandsIn, StandsPast}
use Rattle.search_terms.proofs.{Shapes.{fails_shape, meets_shape, splits_shape}, Computed.{left_most}}
use Rattle.clause_solver.proofs.Standing.{stands_found, stands_fails, stands_down, stands_across, stands_is, stands_up_true, stands_up_false}

pub snoc_same : {X : Type 0} (xs ys : List X) (x y : X) → xs ++ x ∷ [] ≡ ys ++ y ∷ [] → (xs ≡ ys) × (x ≡ y)
snoc_same [] [] x y h = (refl, cc h)
snoc_same [] (b ∷ []) x y h = absurd (cc h)
snoc_same [] (b ∷ c ∷ ys) x y h = absurd (cc h)
snoc_same (a ∷ []) [] x y h = absurd (cc h)
snoc_same (a ∷ c ∷ xs) [] x y h = absurd (cc h)
snoc_same (a ∷ xs) (b ∷ ys) x y h =
    let t : xs ++ x ∷ [] ≡ ys ++ y ∷ [] = cc h in
    let e : a ≡ b = cc h in
    let r = snoc_same xs ys x y t in
    (ap (λ z. z ∷ xs) e ∙ ap (λ z. b ∷ z) r.0, r.1)

signs_push : (ds : List Literal) (l : Literal) → signs (ds ++ l ∷ []) ≡ signs ds ++ l.positive ∷ []
signs_push [] l = refl
signs_push (d ∷ ds) l = ap (λ z. d.positive ∷ z) (signs_push ds l)

pub go_across : (n : ℕ) (formula : List (List Literal)) (decisions rest now : List Literal) (l : Literal) (failed : ℕ) (log : List (List Literal)) → decisions ≡ rest ++ l ∷ [] → l.positive ≡ true
    → now ≡ rest ++ literal l.class false ∷ [] → StandsPast n formula decisions failed log → StandsIn n formula now failed log
go_across n formula decisions rest now l failed log cut sign e past tree is =
    let p = past tree is in
    let path : signs decisions ≡ signs rest ++ true ∷ [] = ap signs cut ∙ signs_push rest l ∙ ap (λ b. signs rest ++ b ∷ []) sign in
    let up = stands_up_true tree [] (signs rest) p.sub decisions p.before p.logged (rw path at p.stands) in
    let both = snoc_same rest up.above l (literal up.c true) (sym cut ∙ up.below_is) in
    let across = stands_across tree [] (signs rest) up.c p.sub up.right up.above p.before p.logged up.stands p.none in
    let now_is : now ≡ up.above ++ literal up.c false ∷ [] = e ∙ ap (λ x. x ++ literal l.class false ∷ []) both.0 ∙ ap (λ k. up.above ++ literal k.class false ∷ []) both.1 in
    let now_path : signs now ≡ signs rest ++ false ∷ [] = ap signs e ∙ signs_push rest (literal l.class false) in
    let log_is : log ≡ p.logged ++ log_of (up.above ++ literal up.c true ∷ []) p.sub = p.entries ∙ ap (λ x. p.logged ++ log_of x p.sub) up.below_is in
    (up.right, rw (now_path, now_is, p.count, log_is) across)

pub go_up : (n : ℕ) (formula : List (List Literal)) (decisions rest : List Literal) (l : Literal) (failed : ℕ) (log now : List (List Literal)) → decisions ≡ rest ++ l ∷ [] → l.positive ≡ false
    → now ≡ log ++ map negation rest ∷ [] → StandsPast n formula decisions failed log → StandsPast n formula rest failed now
go_up n formula decisions rest l failed log now cut sign e past tree is =
    let p = past tree is in
    let path : signs decisions ≡ signs rest ++ false ∷ [] = ap signs cut ∙ signs_push rest l ∙ ap (λ b. signs rest ++ b ∷ []) sign in
    let up = stands_up_false tree [] (signs rest) p.sub decisions p.before p.logged (rw path at p.stands) in
    let both = snoc_same rest up.above l (literal up.c false) (sym cut ∙ up.below_is) in
    let count = p.count in
    let more = up.count in
    let log_is : now ≡ up.logged ++ (log_of (rest ++ literal up.c true ∷ []) up.left ++ log_of (rest ++ literal up.c false ∷ []) p.sub ++ map negation rest ∷ []) =
    e ∙ ap (λ x. x ++ map negation rest ∷ []) (p.entries ∙ ap (λ x. x ++ log_of decisions p.sub) up.entries ∙ ap (λ x. up.logged ++ log_of (up.above ++ literal up.c true ∷ []) up.left ++ log_of x p.sub) up.below_is)
    ∙ ap (λ x. up.logged ++ log_of (x ++ literal up.c true ∷ []) up.left ++ log_of (x ++ literal up.c false ∷ []) p.sub ++ map negation rest ∷ []) (sym both.0) ∙ simp append_assoc in
    record {
      sub = split up.c up.left p.sub;
      before = up.before;
      logged = up.logged;
      stands = subst (λ x. Stands tree [] (signs rest) (split up.c up.left p.sub) x up.before up.logged) (sym both.0) up.stands;
      none = rw up.none p.none;
      count = rw up.none (omega arith);
      entries = log_is;
    }

pub stands_first : (n : ℕ) (formula : List (List Literal)) → StandsIn n formula [] 0 []
stands_first n formula tree is = (tree, (refl, refl, refl, refl))

pub stack_found : (n budget failed : ℕ) (formula log : List (List Literal)) (decisions : List Literal) (chosen : List Bool) (tree : Tree) → IsFoundLeaf n formula decisions chosen → failed ≤ budget
    → StandsIn n formula decisions failed log → IsTree n formula [] tree → (found_of tree ≡ Some chosen) × (failed_leaves tree ≤ budget)
stack_found n budget failed formula log decisions chosen tree leaf le stands is =
    let s = stands tree is in
    let shape = meets_shape n formula decisions chosen s.0 leaf (stands_is n formula tree [] (signs decisions) s.0 decisions failed log is s.1) in
    let r = stands_found tree [] (signs decisions) chosen decisions failed log (subst (λ t. Stands tree [] (signs decisions) t decisions failed log) shape s.1) in
    (r.0, omega (arith, r.1))

pub stack_spent : (n budget failed : ℕ) (formula log : List (List Literal)) (decisions : List Literal) (tree : Tree) → Clashes formula decisions → failed ≡ budget
    → StandsIn n formula decisions failed log → IsTree n formula [] tree → budget < failed_leaves tree
stack_spent n budget failed formula log decisions tree clash e stands is =
    let s = stands tree is in
    let shape = fails_shape n formula decisions s.0 clash (stands_is n formula tree [] (signs decisions) s.0 decisions failed log is s.1) in
    let r : failed + failed_leaves failed_leaf ≤ failed_leaves tree = stands_fails tree [] (signs decisions) failed_leaf decisions failed log (subst (λ t. Stands tree [] (signs decisions) t decisions failed log) shape s.1) in
    omega arith

pub stack_down : (n failed c : ℕ) (formula log : List (List Literal)) (decisions now : List Literal) → IsSplit formula decisions c → now ≡ decisions ++ literal c true ∷ []
    → StandsIn n formula decisions failed log → StandsIn n formula now failed log
stack_down n failed c formula log decisions now here e stands tree is =
    let s = stands tree is in
    let shape = splits_shape n formula decisions c s.0 here (stands_is n formula tree [] (signs decisions) s.0 decisions failed log is s.1) in
    let down = stands_down tree [] (signs decisions) c shape.left shape.right decisions failed log (subst (λ t. Stands tree [] (signs decisions) t decisions failed log) shape.is s.1) in
    let path : signs now ≡ signs decisions ++ true ∷ [] = ap signs e ∙ signs_push decisions (literal c true) in
    (shape.left, rw (path, e) down)

pub stack_past : (n failed : ℕ) (formula log now : List (List Literal)) (decisions : List Literal) → Clashes formula decisions → now ≡ log ++ map negation decisions ∷ []
    → StandsIn n formula decisions failed log → StandsPast n formula decisions (failed + 1) now
stack_past n failed formula log now decisions clash e stands tree is =
    let s = stands tree is in
    let shape = fails_shape n formula decisions s.0 clash (stands_is n formula tree [] (signs decisions) s.0 decisions failed log is s.1) in
    record { sub = failed_leaf; before = failed; logged = log; stands = subst (λ t. Stands tree [] (signs decisions) t decisions failed log) shape s.1; none = refl; count = refl; entries = e }

pub stack_refuted : (n budget failed : ℕ) (formula log : List (List Literal)) (tree : Tree) → failed ≤ budget → StandsPast n formula [] failed log → IsTree n formula [] tree
    → (found_of tree ≡ None) × (failed_leaves tree ≤ budget) × (log ≡ log_of [] tree)
stack_refuted n budget failed formula log tree le past is =
    let p = past tree is in
    let none : found_of tree ≡ None = subst (λ t. found_of t ≡ None) p.stands.0 p.none in
    let count : failed ≡ failed_leaves tree = p.count ∙ ap (λ k. k + failed_leaves p.sub) p.stands.2 ∙ zero-add (failed_leaves p.sub) ∙ ap failed_leaves p.stands.0 in
    let entries : log ≡ log_of [] tree = p.entries ∙ ap (λ x. x ++ log_of [] p.sub) p.stands.3 ∙ ap (log_of []) p.stands.0 in
    (none, omega arith, entries)

pub fewer_left : (budget failed n : ℕ) (old new : List Literal) → failed < budget + 1 → (budget + 1 - (failed + 1)) * (n + 1) + classes_left n new < (budget + 1 - failed) * (n + 1) + classes_left n old
fewer_left budget failed n old new lt =
    let f = left_most n new in
    let e : budget + 1 - failed ≡ (budget + 1 - (failed + 1)) + 1 = omega arith in
    rw e (omega arith)

pub range_front : (n : ℕ) (decisions rest : List Literal) (l : Literal) → decisions ≡ rest ++ l ∷ [] → All (λ k. k.class < n) decisions → All (λ k. k.class < n) rest
range_front n decisions rest l cut range = λ k d lt. All-contains (λ x. x.class < n) decisions (get_or rest k d) range (rw cut (Contains-append_left rest (l ∷ []) (get_or rest k d) (Contains-get_or rest k d lt)))
