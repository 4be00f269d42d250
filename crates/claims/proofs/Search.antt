-- The search, as its trees are.
use Rattle.std.proofs.Common.{◌≡◌, ℕ, ◌+◌, Bool, true, false, List, [], ◌∷◌, ◌++◌, Option, Some, None, refl, sym, ap, ◌∙◌, subst, arith}
use Rattle.std.specs.{Prelude.{◌↔◌, is_some, if◌then◌else◌}, List.{find}, Option.{option_and_then, option_map}}
use Rattle.search_terms.specs.{declared.literals.Literal.{Literal}, Closure.{literal, IsClosure, InClosure}}
use Rattle.search_terms.specs.{Tree.{Tree, IsTree, IsFoundLeaf, IsSplit, failed_leaves, found_of, is_undecided}, Tree.Tree.{failed_leaf, found_leaf, split}}
use Rattle.claims.specs.{Search.{class_to_split, SplitsOn, Searched, failed, found, found_first, tried_both}, Laws.{TreesAreSearches, SearchesAreOne}}
use Rattle.listed.proofs.Bools.{same_bool}

set_from : (formula : List (List Literal)) (ds : List Literal) (set : Literal → Bool) → IsClosure formula ds set → (l : Literal) → (set l ≡ true) ↔ InClosure formula ds l
set_from formula ds set c l = (c.sound l, c.whole l)

splits_on_none : (classes : ℕ) (formula : List (List Literal)) (ds : List Literal) (chosen : List Bool) → IsFoundLeaf classes formula ds chosen → SplitsOn formula ds None
splits_on_none classes formula ds chosen leaf = (
  leaf.calm,
  (leaf.set, set_from formula ds leaf.set leaf.closure, ap (option_and_then (λ need. option_map (λ l. l.class) (find (is_undecided leaf.set) need))) leaf.met),
)

splits_on_some : (formula : List (List Literal)) (ds : List Literal) (c : ℕ) → IsSplit formula ds c → SplitsOn formula ds (Some c)
splits_on_some formula ds c s = (
  s.calm,
  (
    s.set,
    set_from formula ds s.set s.closure,
    ap (option_and_then (λ need. option_map (λ l. l.class) (find (is_undecided s.set) need))) s.first ∙ ap (option_map (λ l. l.class)) s.least ∙ ap Some (sym s.named),
  ),
)

split_searched : (formula : List (List Literal)) (ds : List Literal) (c m n : ℕ) (first second : Option (List Bool)) → SplitsOn formula ds (Some c)
    → Searched formula (ds ++ literal c true ∷ []) (is_some first) m → Searched formula (ds ++ literal c false ∷ []) (is_some second) n
    → Searched formula ds (is_some (if is_some first then first else second)) (m + (if is_some first then 0 else n))
split_searched formula ds c m n None second asks left right = tried_both asks left right
split_searched formula ds c m n (Some chosen) second asks left right = subst (Searched formula ds true) (let same : m ≡ m + 0 = omega arith in same) (found_first asks left)

searched : (classes : ℕ) (formula : List (List Literal)) (ds : List Literal) (tree : Tree) → IsTree classes formula ds tree → Searched formula ds (is_some (found_of tree)) (failed_leaves tree)
searched classes formula ds failed_leaf c = failed c
searched classes formula ds (found_leaf chosen) leaf = found (splits_on_none classes formula ds chosen leaf)
searched classes formula ds (split c left right) s =
    split_searched formula ds c (failed_leaves left) (failed_leaves right) (found_of left) (found_of right) (splits_on_some formula ds c s.0)
    (searched classes formula (ds ++ literal c true ∷ []) left s.1) (searched classes formula (ds ++ literal c false ∷ []) right s.2)

pub trees_are_searches : TreesAreSearches
trees_are_searches classes formula tree t = searched classes formula [] tree t

splits_on_one : (formula : List (List Literal)) (ds : List Literal) (x y : Option ℕ) → SplitsOn formula ds x → SplitsOn formula ds y → x ≡ y
splits_on_one formula ds x y a b =
    let first = a.1 in
    let second = b.1 in
    let each : (l : Literal) → first.0 l ≡ second.0 l
    = λ l. same_bool (first.0 l) (second.0 l) (λ e. (second.1 l).1 ((first.1 l).0 e)) (λ e. (first.1 l).1 ((second.1 l).0 e)) in
    let same : first.0 ≡ second.0 = λ i l. each l i in
    sym first.2 ∙ ap (λ set. class_to_split set formula) same ∙ second.2

same_class : (c d : ℕ) → Some c ≡ Some d → c ≡ d
same_class c d e = cc

pub searches_are_one : SearchesAreOne
searches_are_one formula ds e f m n (failed c) (failed d) = (refl, refl)
searches_are_one formula ds e f m n (failed c) (found a) = absurd (a.0 c)
searches_are_one formula ds e f m n (failed c) (found_first a s) = absurd (a.0 c)
searches_are_one formula ds e f m n (failed c) (tried_both a s t) = absurd (a.0 c)
searches_are_one formula ds e f m n (found a) (failed d) = absurd (a.0 d)
searches_are_one formula ds e f m n (found a) (found b) = (refl, refl)
searches_are_one formula ds e f m n (found a) (found_first {c = c} b s) = absurd (let never : None ≡ Some c = splits_on_one formula ds None (Some c) a b in cc)
searches_are_one formula ds e f m n (found a) (tried_both {c = c} b s t) = absurd (let never : None ≡ Some c = splits_on_one formula ds None (Some c) a b in cc)
searches_are_one formula ds e f m n (found_first a s) (failed d) = absurd (a.0 d)
searches_are_one formula ds e f m n (found_first {c = c} a s) (found b) = absurd (let never : None ≡ Some c = splits_on_one formula ds None (Some c) b a in cc)
searches_are_one formula ds e f m n (found_first {c = c} a s) (found_first {c = d} b t) =
    let same : c ≡ d = same_class c d (splits_on_one formula ds (Some c) (Some d) a b) in
    searches_are_one formula (ds ++ literal c true ∷ []) true true m n s (subst (λ k. Searched formula (ds ++ literal k true ∷ []) true n) (sym same) t)
searches_are_one formula ds e f m n (found_first {c = c} a s) (tried_both {c = d} {m = k} b t u) =
    let same : c ≡ d = same_class c d (splits_on_one formula ds (Some c) (Some d) a b) in
    absurd (let never : (true ≡ false) × (m ≡ k) = searches_are_one formula (ds ++ literal c true ∷ []) true false m k s (subst (λ k'. Searched formula (ds ++ literal k' true ∷ []) false k) (sym same) t) in cc never.0)
searches_are_one formula ds e f m n (tried_both a s t) (failed d) = absurd (a.0 d)
searches_are_one formula ds e f m n (tried_both {c = c} a s t) (found b) = absurd (let never : None ≡ Some c = splits_on_one formula ds None (Some c) b a in cc)
searches_are_one formula ds e f m n (tried_both {c = c} {m = k} a s t) (found_first {c = d} b u) =
    let same : c ≡ d = same_class c d (splits_on_one formula ds (Some c) (Some d) a b) in
    absurd (let never : (false ≡ true) × (k ≡ n) = searches_are_one formula (ds ++ literal c true ∷ []) false true k n s (subst (λ k'. Searched formula (ds ++ literal k' true ∷ []) true n) (sym same) u) in cc never.0)
searches_are_one formula ds e f m n (tried_both {c = c} {m = k} {n = i} a s t) (tried_both {c = d} {m = l} {n = j} b u v) =
    let same : c ≡ d = same_class c d (splits_on_one formula ds (Some c) (Some d) a b) in
    let first = searches_are_one formula (ds ++ literal c true ∷ []) false false k l s (subst (λ k'. Searched formula (ds ++ literal k' true ∷ []) false l) (sym same) u) in
    let second = searches_are_one formula (ds ++ literal c false ∷ []) e f i j t (subst (λ k'. Searched formula (ds ++ literal k' false ∷ []) f j) (sym same) v) in
    (second.0, ap (λ z. z + i) first.1 ∙ ap (λ z. l + z) second.1)
