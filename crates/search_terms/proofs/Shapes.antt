use Rattle.std.proofs.{Common.{◌≡◌, ℕ, ◌<◌, Bool, true, false, List, [], ◌∷◌, ◌++◌, refl, ap, sym, ◌∙◌, Some, None, subst}, Math.Path.{fun_ext}}
use Rattle.std.proofs.{lemmas.List.{ext_get_or}, lemmas.Option.{same_Some}}
use Rattle.std.specs.List.{find}
use Rattle.listed.proofs.Bools.{same_bool}
use Rattle.search_terms.specs.{declared.literals.Literal.{Literal}, Closure.{literal, IsClosure, Clashes}}
use Rattle.search_terms.specs.{Tree.{is_open_need, is_undecided, IsFoundLeaf, IsSplit, Tree, IsTree}, Tree.Tree.{failed_leaf, found_leaf, split}}

pub one_closure : (formula : List (List Literal)) (given : List Literal) (s t : Literal → Bool) → IsClosure formula given s → IsClosure formula given t → s ≡ t
one_closure formula given s t a b = fun_ext (λ l. same_bool (s l) (t l) (λ h. b.whole l (a.sound l h)) (λ h. a.whole l (b.sound l h)))

pub fails_shape : (classes : ℕ) (formula : List (List Literal)) (decisions : List Literal) (tree : Tree) → Clashes formula decisions → IsTree classes formula decisions tree → tree ≡ failed_leaf
fails_shape classes formula decisions failed_leaf clash is = refl
fails_shape classes formula decisions (found_leaf chosen) clash is = absurd (is.calm clash)
fails_shape classes formula decisions (split c left right) clash is = absurd (is.0.calm clash)

same_chosen : (classes : ℕ) (formula : List (List Literal)) (decisions : List Literal) (v w : List Bool) → IsFoundLeaf classes formula decisions v → IsFoundLeaf classes formula decisions w → v ≡ w
same_chosen classes formula decisions v w a b =
    let e = one_closure formula decisions a.set b.set a.closure b.closure in
    ext_get_or false v w (a.long ∙ sym b.long) (λ c lt.
    let ltc : c < classes = rw a.long at lt in
    a.each c ltc ∙ ap (λ s. s (literal c true)) e ∙ sym (b.each c ltc))

pub meets_shape : (classes : ℕ) (formula : List (List Literal)) (decisions : List Literal) (chosen : List Bool) (tree : Tree)
    → IsFoundLeaf classes formula decisions chosen → IsTree classes formula decisions tree → tree ≡ found_leaf chosen
meets_shape classes formula decisions chosen failed_leaf leaf is = absurd (leaf.calm is)
meets_shape classes formula decisions chosen (found_leaf other) leaf is = ap found_leaf (same_chosen classes formula decisions other chosen is leaf)
meets_shape classes formula decisions chosen (split c left right) leaf is =
    let e = one_closure formula decisions leaf.set is.0.set leaf.closure is.0.closure in
    let none : find (is_open_need is.0.set) formula ≡ None = subst (λ s. find (is_open_need s) formula ≡ None) e leaf.met in
    absurd (cc (none, is.0.first))

same_split : (formula : List (List Literal)) (decisions : List Literal) (c d : ℕ) → IsSplit formula decisions c → IsSplit formula decisions d → c ≡ d
same_split formula decisions c d a b =
    let e = one_closure formula decisions a.set b.set a.closure b.closure in
    let first : find (is_open_need b.set) formula ≡ Some a.need = subst (λ s. find (is_open_need s) formula ≡ Some a.need) e a.first in
    let need : a.need ≡ b.need = same_Some a.need b.need (sym first ∙ b.first) in
    let least : find (is_undecided b.set) b.need ≡ Some a.member = subst (λ n. find (is_undecided b.set) n ≡ Some a.member) need (subst (λ s. find (is_undecided s) a.need ≡ Some a.member) e a.least) in
    let member : a.member ≡ b.member = same_Some a.member b.member (sym least ∙ b.least) in
    a.named ∙ ap (λ l. l.class) member ∙ sym b.named

pub record IsSplitTree (classes : ℕ) (formula : List (List Literal)) (decisions : List Literal) (c : ℕ) (tree : Tree) : Type 0 where
  pub left : Tree
  pub right : Tree
  pub is : tree ≡ split c left right
  pub left_is : IsTree classes formula (decisions ++ literal c true ∷ []) left
  pub right_is : IsTree classes formula (decisions ++ literal c false ∷ []) right

pub splits_shape : (classes : ℕ) (formula : List (List Literal)) (decisions : List Literal) (c : ℕ) (tree : Tree)
    → IsSplit formula decisions c → IsTree classes formula decisions tree → IsSplitTree classes formula decisions c tree
splits_shape classes formula decisions c failed_leaf here is = absurd (here.calm is)
splits_shape classes formula decisions c (found_leaf chosen) here is =
    let e = one_closure formula decisions is.set here.set is.closure here.closure in
    let none : find (is_open_need here.set) formula ≡ None = subst (λ s. find (is_open_need s) formula ≡ None) e is.met in
    absurd (cc (none, here.first))
splits_shape classes formula decisions c (split d left right) here is =
    let e : d ≡ c = same_split formula decisions d c is.0 here in
    record {
      left = left;
      right = right;
      is = ap (λ k. split k left right) e;
      left_is = subst (λ k. IsTree classes formula (decisions ++ literal k true ∷ []) left) e is.1;
      right_is = subst (λ k. IsTree classes formula (decisions ++ literal k false ∷ []) right) e is.2;
    }
