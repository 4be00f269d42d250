-- Searches that are not made.
use Rattle.std.{proofs.Common.{◌≡◌, ℕ, ◌<◌, true, false, ◌||◌, Bool, List, [], ◌∷◌, inl, inr, length, refl, sym, ◌∙◌, ap, ap₂, subst, arith, eqb, Option, Some, None, ◌⊎◌, ◌++◌, slice_index_or}, proofs.lemmas.Bool.{and_from, or_left, le-ltb, both_ways, eq-eqb, eqb-true}, proofs.lemmas.List.Elements.{All-contains, All-cons, All-nil, All-head}, specs.Prelude.{Contains}, specs.List.{find}, specs.Option.{option_map_or}}
use Rattle.listed.{proofs.Lists.{in_contains, has_In, contains_in, find_none, find_some}, specs.Lists.{In, here, there}}
use Rattle.row_book.{specs.Book.{listed_for}, specs.Needs.{NeedsFit}, specs.Repository.{Repository}}
use Rattle.search_terms.{specs.declared.literals.Literal.{Literal}, specs.Closure.{literal, negation, is_same, Clashes, InClosure, IsClosedUnder, IsUnitClosed, IsClosure}, specs.Form.{conflict_sentence, form, goal_sentence, repository_form}, specs.Tree.Tree.{failed_leaf, found_leaf, split}, proofs.Certificates.{same_refl}, proofs.Forms.{conflict_in, goal_in}, proofs.Found.{one_tree}, specs.Tree.{is_open_need, Tree, IsTree}}
use Rattle.clause_solver.{specs.declared.outcomes.Verdict.TheVariants.{No, Yes}, specs.declared.outcomes.Verdict.{Verdict}, proofs.Calm.{closure_closed}, proofs.Preparing.{clash_part}, proofs.Running.{closed_part}}
use Rattle.suite_compare.{specs.Asking.{tree_of, verdict_of}, specs.Kinds.{kernel_in, together_in, AreRivals, alone_in, IsOneClass}, specs.declared.judge.Judge.{Judge}, proofs.Judged.{pair_fits, tree_is}, specs.Bad.{entered_verdict, AreAllBadTo}, specs.Report.{is_yes}, specs.declared.verdicts.Bad.{Bad}}

-- Two classes that conflict do not go together, and one failed leaf tells it.
-- the class of a goal of one class is true in each closed set, and so at the root
one_true : (p : ℕ) (set : Literal → Bool) → IsClosedUnder set (goal_sentence (p ∷ [])) → set (literal p true) ≡ true
one_true p set closed =
    closed 0 (literal p true) (omega arith) (and_from (is_same (literal p true) (literal p true) || set (literal p false)) true (or_left (is_same (literal p true) (literal p true)) (set (literal p false)) (same_refl (literal p true))) refl)

single_true : (R : Repository) (goals : List (List ℕ)) (p : ℕ) → In (p ∷ []) goals → InClosure (form R goals) [] (literal p true)
single_true R goals p i = λ set holds closed.
    one_true p set (All-contains (IsClosedUnder set) (form R goals) (goal_sentence (p ∷ [])) closed.steps (in_contains (form R goals) (goal_sentence (p ∷ [])) (goal_in R goals (p ∷ []) i)))

-- so the root of two that conflict clashes
rivals_clash : (R : Repository) (p q : ℕ) → In q (listed_for R.conflicts p) → Clashes (form R ((p ∷ []) ∷ ((q ∷ []) ∷ []))) []
rivals_clash R p q i =
    let goals : List (List ℕ) = (p ∷ []) ∷ ((q ∷ []) ∷ []) in
    let c = in_contains (form R goals) (conflict_sentence p q) (conflict_in R goals p q i) in
    inr (
      c.0,
      conflict_sentence p q,
      c.1,
      c.2,
      All-cons (λ m. InClosure (form R goals) [] (negation m)) (literal p false) (literal q false ∷ []) (single_true R goals p here)
          (All-cons (λ m. InClosure (form R goals) [] (negation m)) (literal q false) [] (single_true R goals q (there here)) (All-nil (λ m. InClosure (form R goals) [] (negation m)))),
    )

-- and two kinds are judged so
pub rivals_told : (judge : Judge) (first second : ℕ) → first < length judge.kinds.items → second < length judge.kinds.items → AreRivals judge.kernel.book.now.conflicts (listed_for judge.kinds.items first) (listed_for judge.kinds.items second)
    → No ≡ together_in judge first second
rivals_told judge first second l m rivals =
    let R : Repository = kernel_in judge in
    let goals : List (List ℕ) = (rivals.one ∷ []) ∷ ((rivals.other ∷ []) ∷ []) in
    let same : listed_for judge.kinds.items first ∷ (listed_for judge.kinds.items second ∷ []) ≡ goals = ap₂ (λ a b. a ∷ (b ∷ [])) rivals.first_is rivals.second_is in
    let fit : NeedsFit (length judge.kernel.book.now.rows) goals = subst (NeedsFit (length judge.kernel.book.now.rows)) same (pair_fits (length judge.kernel.book.now.rows) judge.kinds.items first second l m judge.fit) in
    let clash : Clashes (form R goals) [] = rivals_clash R rivals.one rivals.other (has_In (listed_for judge.kernel.book.now.conflicts rivals.one) rivals.other rivals.against) in
    let leaf : tree_of R goals ≡ failed_leaf = one_tree (length R.clauses) (form R goals) [] failed_leaf (tree_of R goals) clash (tree_is judge.kernel.pool.now judge.kernel.book.now goals judge.kernel.sound fit) in
    sym (ap (λ g. verdict_of judge.budget (tree_of R g)) same ∙ ap (verdict_of judge.budget) leaf ∙ rw (le-ltb judge.budget 1 (omega (arith, judge.allowed.0))) refl)

-- Two goals of which one is a single class have one tree in both orders: that goal is met at the root, so it is never the
-- open need that a node takes up.
swap_in : {X : Type 0} {a b x : X} {rest : List X} → In x (a ∷ (b ∷ rest)) → In x (b ∷ (a ∷ rest))
swap_in here = there here
swap_in (there here) = here
swap_in (there (there i)) = there (there i)

swap_contains : (a b : List Literal) (rest : List (List Literal)) (s : List Literal) → Contains (a ∷ (b ∷ rest)) s → Contains (b ∷ (a ∷ rest)) s
swap_contains a b rest s c = in_contains (b ∷ (a ∷ rest)) s (swap_in (contains_in (a ∷ (b ∷ rest)) s c))

-- the closure asks for no order of the sentences
closure_swap : (a b : List Literal) (rest : List (List Literal)) (given : List Literal) (set : Literal → Bool) → IsClosure (a ∷ (b ∷ rest)) given set → IsClosure (b ∷ (a ∷ rest)) given set
closure_swap a b rest given set c = record {
  sound = λ l h. λ s holds closed. c.sound l h s holds (closed_part (a ∷ (b ∷ rest)) (b ∷ (a ∷ rest)) s (swap_contains a b rest) closed);
  whole = λ l h. c.whole l (λ s holds closed. h s holds (closed_part (b ∷ (a ∷ rest)) (a ∷ (b ∷ rest)) s (swap_contains b a rest) closed));
}

find_swap : (p : List Literal → Bool) (a b : List Literal) (rest : List (List Literal)) → p a ≡ false → find p (b ∷ (a ∷ rest)) ≡ find p (a ∷ (b ∷ rest))
find_swap p a b rest e = rw e refl

-- a goal of one class is met in each closed set
one_is_met : (c : ℕ) (rest : List (List Literal)) (set : Literal → Bool) → IsUnitClosed (goal_sentence (c ∷ []) ∷ rest) set → is_open_need set (goal_sentence (c ∷ [])) ≡ false
one_is_met c rest set closed = rw (one_true c set (All-head (IsClosedUnder set) (goal_sentence (c ∷ [])) rest closed.steps)) refl

-- a sentence that is met in each closed set changes places with the next one
tree_swap : (n : ℕ) (a b : List Literal) (rest : List (List Literal)) → ((more : List (List Literal)) (set : Literal → Bool) → IsUnitClosed (a ∷ more) set → is_open_need set a ≡ false)
    → (given : List Literal) (tree : Tree) → IsTree n (a ∷ (b ∷ rest)) given tree → IsTree n (b ∷ (a ∷ rest)) given tree
tree_swap n a b rest met given failed_leaf is = clash_part (a ∷ (b ∷ rest)) (b ∷ (a ∷ rest)) given (swap_contains a b rest) is
tree_swap n a b rest met given (found_leaf chosen) is = record {
  set = is.set;
  closure = closure_swap a b rest given is.set is.closure;
  calm = λ k. is.calm (clash_part (b ∷ (a ∷ rest)) (a ∷ (b ∷ rest)) given (swap_contains b a rest) k);
  met = find_swap (is_open_need is.set) a b rest (met (b ∷ rest) is.set (closure_closed (a ∷ (b ∷ rest)) given is.set is.closure)) ∙ is.met;
  long = is.long;
  each = is.each;
}
tree_swap n a b rest met given (split d left right) is = (
  record {
    set = is.0.set;
    closure = closure_swap a b rest given is.0.set is.0.closure;
    calm = λ k. is.0.calm (clash_part (b ∷ (a ∷ rest)) (a ∷ (b ∷ rest)) given (swap_contains b a rest) k);
    need = is.0.need;
    first = find_swap (is_open_need is.0.set) a b rest (met (b ∷ rest) is.0.set (closure_closed (a ∷ (b ∷ rest)) given is.0.set is.0.closure)) ∙ is.0.first;
    member = is.0.member;
    least = is.0.least;
    named = is.0.named;
  },
  tree_swap n a b rest met (given ++ literal d true ∷ []) left is.1,
  tree_swap n a b rest met (given ++ literal d false ∷ []) right is.2,
)

-- so the verdict on two kinds of which one is a single class is that in the other order
single_swap : (judge : Judge) (first second : ℕ) → first < length judge.kinds.items → second < length judge.kinds.items → IsOneClass (listed_for judge.kinds.items first) → together_in judge first second ≡ together_in judge second first
single_swap judge first second l m one =
    let R : Repository = kernel_in judge in
    let A : List ℕ = listed_for judge.kinds.items first in
    let B : List ℕ = listed_for judge.kinds.items second in
    let met : (more : List (List Literal)) (set : Literal → Bool) → IsUnitClosed (goal_sentence A ∷ more) set → is_open_need set (goal_sentence A) ≡ false = rw one.1 (one_is_met one.0) in
    let swapped : IsTree (length R.clauses) (form R (B ∷ (A ∷ []))) [] (tree_of R (A ∷ (B ∷ []))) = tree_swap (length R.clauses) (goal_sentence A) (goal_sentence B) (repository_form R) met [] (tree_of R (A ∷ (B ∷ [])))
    (tree_is judge.kernel.pool.now judge.kernel.book.now (A ∷ (B ∷ [])) judge.kernel.sound (pair_fits (length judge.kernel.book.now.rows) judge.kinds.items first second l m judge.fit)) in
    ap (verdict_of judge.budget) (one_tree (length R.clauses) (form R (B ∷ (A ∷ []))) [] (tree_of R (B ∷ (A ∷ []))) (tree_of R (A ∷ (B ∷ [])))
    (tree_is judge.kernel.pool.now judge.kernel.book.now (B ∷ (A ∷ [])) judge.kernel.sound (pair_fits (length judge.kernel.book.now.rows) judge.kinds.items second first m l judge.fit)) swapped)

pub one_class : (goal : List ℕ) → length goal ≡ 1 → IsOneClass goal
one_class [] e = absurd (omega (arith, e))
one_class (c ∷ []) e = (c, refl)
one_class (c ∷ (d ∷ rest)) e = absurd (omega (arith, e))

-- the list of an earlier kind tells the verdict
pub entered_told : (judge : Judge) (lists : List (List Bad)) (first second : ℕ) (v : Verdict) → first < length judge.kinds.items → second < length judge.kinds.items
    → AreAllBadTo judge lists (length lists) → second < length lists → is_yes (alone_in judge first) ≡ true → is_yes (alone_in judge second) ≡ true
    → IsOneClass (listed_for judge.kinds.items first) ⊎ IsOneClass (listed_for judge.kinds.items second) → v ≡ entered_verdict (slice_index_or lists second []) first → v ≡ together_in judge first second
entered_told judge lists first second v l m earlier lt first_yes second_yes single entered = entered ∙ told (find (λ b. eqb b.kind first) list) refl ∙ swapped single
  where
    list : List Bad
    list = slice_index_or lists second []

    told : (o : Option Bad) → find (λ b. eqb b.kind first) list ≡ o → option_map_or (λ b. b.verdict) o Yes ≡ together_in judge second first
    told (Some b) e =
        let found = find_some (λ x. eqb x.kind first) list b e in
        (earlier.each second lt).verdict b found.0 ∙ ap (together_in judge second) (eqb-true b.kind first found.1)
    told None e = elim ((earlier.each second lt).whole second_yes first l first_yes) [
      | inl w ↦ absurd (both_ways (eqb w.0.kind first) (find_none (λ x. eqb x.kind first) list e w.0 w.1) (eq-eqb w.0.kind first w.2))
      | inr both ↦ sym both
    ]

    swapped : IsOneClass (listed_for judge.kinds.items first) ⊎ IsOneClass (listed_for judge.kinds.items second) → together_in judge second first ≡ together_in judge first second
    swapped (inl one) = sym (single_swap judge first second l m one)
    swapped (inr one) = single_swap judge second first m l one
