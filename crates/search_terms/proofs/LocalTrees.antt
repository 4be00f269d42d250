-- Trees are local, and so is what is counted of them.
use Rattle.std.proofs.Common.{◌≡◌, ℕ, ◌+◌, ◌<◌, Bool, true, false, cond, List, [], ◌∷◌, ◌++◌, inl, inr, length, refl, ap, ap₂, sym, ◌∙◌, subst, map, Some, None}
use Rattle.std.proofs.{Common.{Option}, lemmas.List.{map-append}, lemmas.Option.{same_Some}}
use Rattle.std.specs.{Prelude.{is_some}, List.{find}, Option.{option_map}}
use Rattle.listed.proofs.Lists.{In_cases, In_none, find_some}
use Rattle.row_book.specs.{Sets.{NumSet}, Repository.{Repository}}
use Rattle.search_terms.specs.{declared.literals.Literal.{Literal}, Closure.{literal, IsClosure, Clashes}, Form.{form}}
use Rattle.search_terms.specs.Tree.{is_open_need, is_undecided, IsFoundLeaf, IsSplit, Tree, IsTree, found_of, failed_leaves}
use Rattle.search_terms.specs.{Tree.Tree.{failed_leaf, found_leaf, split}, Local.{ReachStandsIn, SameChoice, SameTree, TreeIsLocal}}
use Rattle.search_terms.proofs.{Shapes.{fails_shape}, Forms.{in_either}, LocalClosures.{moved, AreIn, clash_there, reached}, LocalReturns.{image_parts}}
use Rattle.search_terms.proofs.LocalNeeds.{clash_back, reached_there, agree, open_in, least_there, needs_there}
use Rattle.row_book.proofs.Flags.{flag_in}

module _ (R : Repository) (goals : List (List ℕ)) (U : NumSet) (to : ℕ → ℕ) (other : Repository) (is : ReachStandsIn R goals U to other) where
  abbrev here_form : List (List Literal)
  here_form = form R goals

  abbrev there_form : List (List Literal)
  there_form = form other (map (map to) goals)

  one_more : (given : List Literal) → AreIn U given → (l : Literal) → U l.class ≡ true → AreIn U (given ++ l ∷ [])
  one_more given u l v k i = elim (in_either given (l ∷ []) k i) [
    | inl a ↦ u k a
    | inr b ↦ elim (In_cases b) [
      | inl e ↦ subst (λ z. U z.class ≡ true) (sym e) v
      | inr none ↦ absurd (In_none none)
    ]
  ]

  same_choice : (given : List Literal) → AreIn U given → (chosen chosen_there : List Bool) → IsFoundLeaf (length R.clauses) here_form given chosen
      → IsFoundLeaf (length other.clauses) there_form (map (moved to) given) chosen_there → SameChoice U to chosen chosen_there
  same_choice given u chosen chosen_there a b = record {
    each = λ n v.
        b.each (to n) (is.within n v) ∙ agree R goals U to other is given u a.set b.set a.closure b.closure (literal n true) v ∙ sym (a.each n (is.classes n v));
    none_else = λ n h.
        let lt : n < length R.clauses = subst (λ z. n < z) a.long (flag_in chosen n h) in
        reached R goals U to other is given u n (a.closure.sound (literal n true) (sym (a.each n lt) ∙ h));
    none_else_there = λ m h.
        let lt : m < length other.clauses = subst (λ z. m < z) b.long (flag_in chosen_there m h) in
        image_parts R goals U to other is m (reached_there R goals U to other is given u m (b.closure.sound (literal m true) (sym (b.each m lt) ∙ h)));
  }

  -- where the one has a need open, the other has
  needs_differ : (given : List Literal) → AreIn U given → (s t : Literal → Bool) → IsClosure here_form given s → IsClosure there_form (map (moved to) given) t → ¬ (Clashes here_form given)
      → find (is_open_need s) here_form ≡ None → (need : List Literal) → find (is_open_need t) there_form ≡ Some need → ⊥
  needs_differ given u s t a b calm none need some =
      let e : find (is_open_need t) there_form ≡ None = needs_there R goals U to other is given u s t a b calm ∙ ap (option_map (map (moved to))) none in
      cc (e, some)

  needs_differ_there : (given : List Literal) → AreIn U given → (s t : Literal → Bool) → IsClosure here_form given s → IsClosure there_form (map (moved to) given) t → ¬ (Clashes here_form given)
      → (need : List Literal) → find (is_open_need s) here_form ≡ Some need → find (is_open_need t) there_form ≡ None → ⊥
  needs_differ_there given u s t a b calm need some none =
      let e : find (is_open_need t) there_form ≡ Some (map (moved to) need) = needs_there R goals U to other is given u s t a b calm ∙ ap (option_map (map (moved to))) some in
      cc (e, none)

  -- both split on the same class, which is of U
  same_split_there : (given : List Literal) → AreIn U given → (c d : ℕ) → IsSplit here_form given c → IsSplit there_form (map (moved to) given) d → (U c ≡ true) × (d ≡ to c)
  same_split_there given u c d a b =
      let found = find_some (is_open_need a.set) here_form a.need a.first in
      let within : AreIn U a.need = open_in R goals U to other is given u a.set b.set a.closure b.closure a.need found.0 found.1 in
      let e : find (is_open_need b.set) there_form ≡ Some (map (moved to) a.need) = needs_there R goals U to other is given u a.set b.set a.closure b.closure a.calm ∙ ap (option_map (map (moved to))) a.first in
      let need : b.need ≡ map (moved to) a.need = same_Some b.need (map (moved to) a.need) (sym b.first ∙ e) in
      let least : find (is_undecided b.set) (map (moved to) a.need) ≡ Some (moved to a.member) = least_there R goals U to other is given u a.set b.set a.closure b.closure a.need within ∙ ap (option_map (moved to)) a.least in
      let member : b.member ≡ moved to a.member = same_Some b.member (moved to a.member) (sym b.least ∙ ap (find (is_undecided b.set)) need ∙ least) in
      let picked = find_some (is_undecided a.set) a.need a.member a.least in (
        subst (λ z. U z ≡ true) (sym a.named) (within a.member picked.0),
        b.named ∙ ap (λ l. l.class) member ∙ ap to (sym a.named),
      )

  below : (given : List Literal) (c d : ℕ) (sign : Bool) (tree : Tree) → d ≡ to c → IsTree (length other.clauses) there_form (map (moved to) given ++ literal d sign ∷ []) tree
      → IsTree (length other.clauses) there_form (map (moved to) (given ++ literal c sign ∷ [])) tree
  below given c d sign tree e h =
      subst (λ z. IsTree (length other.clauses) there_form z tree) (sym (map-append (moved to) given (literal c sign ∷ [])))
      (subst (λ z. IsTree (length other.clauses) there_form (map (moved to) given ++ literal z sign ∷ []) tree) e h)

  pub trees_there : (given : List Literal) → AreIn U given → (first second : Tree) → IsTree (length R.clauses) here_form given first
      → IsTree (length other.clauses) there_form (map (moved to) given) second → SameTree U to first second
  trees_there given u failed_leaf second a b =
      subst (λ z. SameTree U to failed_leaf z) (sym (fails_shape (length other.clauses) there_form (map (moved to) given) second (clash_there R goals U to other is given u a) b)) tt
  trees_there given u (found_leaf chosen) failed_leaf a b = absurd (a.calm (clash_back R goals U to other is given u b))
  trees_there given u (found_leaf chosen) (found_leaf chosen_there) a b = same_choice given u chosen chosen_there a b
  trees_there given u (found_leaf chosen) (split d left_there right_there) a b = absurd (needs_differ given u a.set b.0.set a.closure b.0.closure a.calm a.met b.0.need b.0.first)
  trees_there given u (split c left right) failed_leaf a b = absurd (a.0.calm (clash_back R goals U to other is given u b))
  trees_there given u (split c left right) (found_leaf chosen_there) a b = absurd (needs_differ_there given u a.0.set b.set a.0.closure b.closure a.0.calm a.0.need a.0.first b.met)
  trees_there given u (split c left right) (split d left_there right_there) a b =
      let same = same_split_there given u c d a.0 b.0 in (
        same.0,
        same.1,
        trees_there (given ++ literal c true ∷ []) (one_more given u (literal c true) same.0) left left_there a.1 (below given c d true left_there same.1 b.1),
        trees_there (given ++ literal c false ∷ []) (one_more given u (literal c false) same.0) right right_there a.2 (below given c d false right_there same.1 b.2),
      )

pub tree_is_local_lem : TreeIsLocal
tree_is_local_lem R goals U to other is first second a b = trees_there R goals U to other is [] (λ l i. absurd (In_none i)) first second a b

-- both find something, or none does
pub same_finds : (U : NumSet) (to : ℕ → ℕ) (first second : Tree) → SameTree U to first second → is_some (found_of second) ≡ is_some (found_of first)
same_finds U to failed_leaf failed_leaf h = refl
same_finds U to failed_leaf (found_leaf chosen_there) h = absurd h
same_finds U to failed_leaf (split d left_there right_there) h = absurd h
same_finds U to (found_leaf chosen) failed_leaf h = absurd h
same_finds U to (found_leaf chosen) (found_leaf chosen_there) h = refl
same_finds U to (found_leaf chosen) (split d left_there right_there) h = absurd h
same_finds U to (split c left right) failed_leaf h = absurd h
same_finds U to (split c left right) (found_leaf chosen_there) h = absurd h
same_finds U to (split c left right) (split d left_there right_there) h =
    picked (found_of left) (found_of right) (found_of left_there) (found_of right_there) (same_finds U to left left_there h.2) (same_finds U to right right_there h.3)
  where
    picked : (a b c d : Option (List Bool)) → is_some c ≡ is_some a → is_some d ≡ is_some b → is_some (cond (is_some c) c d) ≡ is_some (cond (is_some a) a b)
    picked None b None d e f = f
    picked None b (Some x) d e f = cc e
    picked (Some y) b None d e f = cc e
    picked (Some y) b (Some x) d e f = refl

-- as many leaves fail before the first found one
pub same_fails : (U : NumSet) (to : ℕ → ℕ) (first second : Tree) → SameTree U to first second → failed_leaves second ≡ failed_leaves first
same_fails U to failed_leaf failed_leaf h = refl
same_fails U to failed_leaf (found_leaf chosen_there) h = absurd h
same_fails U to failed_leaf (split d left_there right_there) h = absurd h
same_fails U to (found_leaf chosen) failed_leaf h = absurd h
same_fails U to (found_leaf chosen) (found_leaf chosen_there) h = refl
same_fails U to (found_leaf chosen) (split d left_there right_there) h = absurd h
same_fails U to (split c left right) failed_leaf h = absurd h
same_fails U to (split c left right) (found_leaf chosen_there) h = absurd h
same_fails U to (split c left right) (split d left_there right_there) h =
    ap₂ (λ a b. a + b) (same_fails U to left left_there h.2)
    (ap₂ (λ s n. cond s 0 n) (same_finds U to left left_there h.2) (same_fails U to right right_there h.3))
