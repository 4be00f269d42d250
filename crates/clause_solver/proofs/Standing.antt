use Rattle.std.proofs.Common.{◌≡◌, ℕ, ◌+◌, ◌≤◌, Bool, true, false, List, [], ◌∷◌, ◌++◌, refl, ap, sym, ◌∙◌, arith, Some, None, append_assoc, append-nil}
use Rattle.search_terms.specs.{declared.literals.Literal.{Literal}, Closure.{literal}, Tree.{Tree, IsTree, found_of, failed_leaves, log_of}}
use Rattle.search_terms.specs.Tree.Tree.{failed_leaf, found_leaf, split}
use Rattle.clause_solver.specs.Standing.{Stands}

-- at a found leaf the tree's answer is known
pub stands_found : (tree : Tree) (ds : List Literal) (path : List Bool) (chosen : List Bool) (below : List Literal) (failed : ℕ) (log : List (List Literal))
    → Stands tree ds path (found_leaf chosen) below failed log → (found_of tree ≡ Some chosen) × (failed_leaves tree ≡ failed)
stands_found tree ds [] chosen below failed log s = rw (← s.0) (refl, sym s.2)
stands_found failed_leaf ds (b ∷ path) chosen below failed log s = absurd s
stands_found (found_leaf other) ds (b ∷ path) chosen below failed log s = absurd s
stands_found (split c left right) ds (true ∷ path) chosen below failed log s =
    let r = stands_found left (ds ++ literal c true ∷ []) path chosen below failed log s in
    rw r.0 (refl, omega (arith, r.1))
stands_found (split c left right) ds (false ∷ path) chosen below failed log s =
    let r = stands_found right (ds ++ literal c false ∷ []) path chosen below s.1.0 s.1.1 s.1.4 in
    let e = s.1.2 in
    rw s.0 (r.0, omega (arith, r.1, e))

-- what is behind is part of the whole
pub stands_fails : (tree : Tree) (ds : List Literal) (path : List Bool) (sub : Tree) (below : List Literal) (failed : ℕ) (log : List (List Literal))
    → Stands tree ds path sub below failed log → failed + failed_leaves sub ≤ failed_leaves tree
stands_fails tree ds [] sub below failed log s = rw s.0 (let z = s.2 in omega arith)
stands_fails failed_leaf ds (b ∷ path) sub below failed log s = absurd s
stands_fails (found_leaf other) ds (b ∷ path) sub below failed log s = absurd s
stands_fails (split c left right) ds (true ∷ path) sub below failed log s =
    let r = stands_fails left (ds ++ literal c true ∷ []) path sub below failed log s in
    omega arith
stands_fails (split c left right) ds (false ∷ path) sub below failed log s =
    let r = stands_fails right (ds ++ literal c false ∷ []) path sub below s.1.0 s.1.1 s.1.4 in
    let e = s.1.2 in
    rw s.0 (omega (arith, r, e))

-- one step down
pub stands_down : (tree : Tree) (ds : List Literal) (path : List Bool) (c : ℕ) (left right : Tree) (below : List Literal) (failed : ℕ) (log : List (List Literal))
    → Stands tree ds path (split c left right) below failed log → Stands tree ds (path ++ true ∷ []) left (below ++ literal c true ∷ []) failed log
stands_down tree ds [] c left right below failed log s = rw (← s.0) (refl, ap (λ x. x ++ literal c true ∷ []) s.1, s.2, s.3)
stands_down failed_leaf ds (b ∷ path) c left right below failed log s = absurd s
stands_down (found_leaf other) ds (b ∷ path) c left right below failed log s = absurd s
stands_down (split d l r) ds (true ∷ path) c left right below failed log s = stands_down l (ds ++ literal d true ∷ []) path c left right below failed log s
stands_down (split d l r) ds (false ∷ path) c left right below failed log s =
    (s.0, (s.1.0, s.1.1, s.1.2, s.1.3, stands_down r (ds ++ literal d false ∷ []) path c left right below s.1.0 s.1.1 s.1.4))

-- from a refuted left child to its sibling
pub stands_across : (tree : Tree) (ds : List Literal) (path : List Bool) (c : ℕ) (left right : Tree) (below : List Literal) (failed : ℕ) (log : List (List Literal))
    → Stands tree ds path (split c left right) below failed log → found_of left ≡ None
    → Stands tree ds (path ++ false ∷ []) right (below ++ literal c false ∷ []) (failed + failed_leaves left) (log ++ log_of (below ++ literal c true ∷ []) left)
stands_across tree ds [] c left right below failed log s none =
    rw (← s.0, s.1, s.2, s.3) (none, (0, [], omega arith, sym (append-nil (log_of (ds ++ literal c true ∷ []) left)), (refl, refl, refl, refl)))
stands_across failed_leaf ds (b ∷ path) c left right below failed log s none = absurd s
stands_across (found_leaf other) ds (b ∷ path) c left right below failed log s none = absurd s
stands_across (split d l r) ds (true ∷ path) c left right below failed log s none = stands_across l (ds ++ literal d true ∷ []) path c left right below failed log s none
stands_across (split d l r) ds (false ∷ path) c left right below failed log s none =
    let e = s.1.2 in (
      s.0,
      (
        s.1.0 + failed_leaves left,
        s.1.1 ++ log_of (below ++ literal c true ∷ []) left,
        omega (arith, e),
        ap (λ x. x ++ log_of (below ++ literal c true ∷ []) left) s.1.3 ∙ simp append_assoc,
        stands_across r (ds ++ literal d false ∷ []) path c left right below s.1.0 s.1.1 s.1.4 none,
      ),
    )

pub stands_is : (n : ℕ) (formula : List (List Literal)) (tree : Tree) (ds : List Literal) (path : List Bool) (sub : Tree) (below : List Literal) (failed : ℕ) (log : List (List Literal))
    → IsTree n formula ds tree → Stands tree ds path sub below failed log → IsTree n formula below sub
stands_is n formula tree ds [] sub below failed log is s = rw (s.0, s.1) is
stands_is n formula failed_leaf ds (b ∷ path) sub below failed log is s = absurd s
stands_is n formula (found_leaf other) ds (b ∷ path) sub below failed log is s = absurd s
stands_is n formula (split c left right) ds (true ∷ path) sub below failed log is s = stands_is n formula left (ds ++ literal c true ∷ []) path sub below failed log is.1 s
stands_is n formula (split c left right) ds (false ∷ path) sub below failed log is s = stands_is n formula right (ds ++ literal c false ∷ []) path sub below s.1.0 s.1.1 is.2 s.1.4

pub record IsLeftOf (tree : Tree) (ds : List Literal) (path : List Bool) (sub : Tree) (below : List Literal) (failed : ℕ) (log : List (List Literal)) : Type 0 where
  pub c : ℕ
  pub right : Tree
  pub above : List Literal
  pub below_is : below ≡ above ++ literal c true ∷ []
  pub stands : Stands tree ds path (split c sub right) above failed log

pub stands_up_true : (tree : Tree) (ds : List Literal) (path : List Bool) (sub : Tree) (below : List Literal) (failed : ℕ) (log : List (List Literal))
    → Stands tree ds (path ++ true ∷ []) sub below failed log → IsLeftOf tree ds path sub below failed log
stands_up_true failed_leaf ds [] sub below failed log s = absurd s
stands_up_true (found_leaf v) ds [] sub below failed log s = absurd s
stands_up_true (split c left right) ds [] sub below failed log s = record { c = c; right = right; above = ds; below_is = s.1; stands = (ap (λ x. split c x right) s.0, refl, s.2, s.3) }
stands_up_true failed_leaf ds (b ∷ path) sub below failed log s = absurd s
stands_up_true (found_leaf v) ds (b ∷ path) sub below failed log s = absurd s
stands_up_true (split c left right) ds (true ∷ path) sub below failed log s =
    let r = stands_up_true left (ds ++ literal c true ∷ []) path sub below failed log s in
    record { c = r.c; right = r.right; above = r.above; below_is = r.below_is; stands = r.stands }
stands_up_true (split c left right) ds (false ∷ path) sub below failed log s =
    let r = stands_up_true right (ds ++ literal c false ∷ []) path sub below s.1.0 s.1.1 s.1.4 in
    record { c = r.c; right = r.right; above = r.above; below_is = r.below_is; stands = (s.0, (s.1.0, s.1.1, s.1.2, s.1.3, r.stands)) }

pub record IsRightOf (tree : Tree) (ds : List Literal) (path : List Bool) (sub : Tree) (below : List Literal) (failed : ℕ) (log : List (List Literal)) : Type 0 where
  pub c : ℕ
  pub left : Tree
  pub above : List Literal
  pub before : ℕ
  pub logged : List (List Literal)
  pub below_is : below ≡ above ++ literal c false ∷ []
  pub none : found_of left ≡ None
  pub count : failed ≡ before + failed_leaves left
  pub entries : log ≡ logged ++ log_of (above ++ literal c true ∷ []) left
  pub stands : Stands tree ds path (split c left sub) above before logged

pub stands_up_false : (tree : Tree) (ds : List Literal) (path : List Bool) (sub : Tree) (below : List Literal) (failed : ℕ) (log : List (List Literal))
    → Stands tree ds (path ++ false ∷ []) sub below failed log → IsRightOf tree ds path sub below failed log
stands_up_false failed_leaf ds [] sub below failed log s = absurd s
stands_up_false (found_leaf v) ds [] sub below failed log s = absurd s
stands_up_false (split c left right) ds [] sub below failed log s =
    let e = s.1.2 in
    let z = s.1.4.2 in
    record {
      c = c;
      left = left;
      above = ds;
      before = 0;
      logged = [];
      below_is = s.1.4.1;
      none = s.0;
      count = omega arith;
      entries = s.1.3 ∙ ap (λ x. log_of (ds ++ literal c true ∷ []) left ++ x) s.1.4.3 ∙ append-nil (log_of (ds ++ literal c true ∷ []) left);
      stands = (ap (λ x. split c left x) s.1.4.0, refl, refl, refl);
    }
stands_up_false failed_leaf ds (b ∷ path) sub below failed log s = absurd s
stands_up_false (found_leaf v) ds (b ∷ path) sub below failed log s = absurd s
stands_up_false (split c left right) ds (true ∷ path) sub below failed log s =
    let r = stands_up_false left (ds ++ literal c true ∷ []) path sub below failed log s in
    record { c = r.c; left = r.left; above = r.above; before = r.before; logged = r.logged; below_is = r.below_is; none = r.none; count = r.count; entries = r.entries; stands = r.stands }
stands_up_false (split c left right) ds (false ∷ path) sub below failed log s =
    let r = stands_up_false right (ds ++ literal c false ∷ []) path sub below s.1.0 s.1.1 s.1.4 in
    let e = s.1.2 in
    let k = r.count in
    record {
      c = r.c;
      left = r.left;
      above = r.above;
      before = failed_leaves left + r.before;
      logged = log_of (ds ++ literal c true ∷ []) left ++ r.logged;
      below_is = r.below_is;
      none = r.none;
      count = omega arith;
      entries = s.1.3 ∙ ap (λ x. log_of (ds ++ literal c true ∷ []) left ++ x) r.entries ∙ simp append_assoc;
      stands = (s.0, (r.before, r.logged, refl, refl, r.stands));
    }
