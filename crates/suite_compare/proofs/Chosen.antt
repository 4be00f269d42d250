-- First choices: along them nothing fails, and which kinds may not go together.
use Rattle.std.{proofs.Common.{◌≡◌, ℕ, Bool, true, false, not, ◌&&◌, List, [], ◌∷◌, ◌++◌, inl, inr, length, refl, ap, sym, ◌∙◌, subst, arith, Option, Some, None, ◌<◌, get_or, set, ◌+◌, eqb, take, add-one, zero-add}, specs.List.{find, list_any, flat_map, range_with_len}, proofs.lemmas.Bool.{or_cases, or_left, or_right, both_ways, and_parts, not-true, false_from_ne_true, cases_eq, cases_lt, cases_Bool}, proofs.lemmas.List.Elements.{All-nil, All-push}, proofs.lemmas.Option.{same_Some}, proofs.Math.ListN.{get_or-eq_default}, proofs.lemmas.List.{length-set, get_or-set_same, get_or-set_other, take_more}, specs.Prelude.{◌↔◌}}
use Rattle.listed.{proofs.Lists.{contains_in, In_has, has_In, In_append_left, In_append_right, any_none, In_at, In_cases, In_map_cases, In_none, some_item, empty_or, filter_cases, filter_from, In_flat, In_flat_cases, In_place, In_append_cases}, specs.Lists.{here, In, has}, proofs.Numbers.{range_more}}
use Rattle.row_book.{specs.Sets.{NumSet, Is, Hit, union}, specs.Repository.{Repository, against, clauses_of}, specs.Book.{listed_for, repository_of, Sound}, specs.Uses.{row_id}, specs.declared.book.Book.{Book}, specs.Needs.{NeedsFit}}
use Rattle.search_terms.{specs.declared.literals.Literal.{Literal}, specs.Closure.{literal, satisfies, HasGiven, Models}, specs.Form.{goal_sentence, clause_sentence, conflict_sentence, form}, specs.Tree.{is_open_need, is_undecided, Tree, IsTree, found_of, failed_leaves}, specs.Tree.Tree.{failed_leaf, found_leaf, split}, proofs.Sets.{find_some}, proofs.Models.{model_closed, clash_no_model}, proofs.Forms.{IsSentence, sentence_cases, models_from, in_either}, proofs.Forms.IsSentence.{of_goal, of_clause, of_conflict}, proofs.Ranges.{rows_long, listed_in, other_way}}
use Rattle.suite_compare.{specs.FirstChoices.{first_member, is_one_of, IsFirstChoice}, specs.Choices.{AreBelow, AreFlagged, has_first_member, HaveFirsts, IsServed, IsChosen}, proofs.Groups.{In_last}, specs.Groups.{IsEntered}, specs.Suspects.{facing, without_choice, AreAllChosen, AreHeld, AreHolders, AreSuspects}}
use Rattle.clause_pool.specs.Interned.{Interned, clause_at, clauses_at, ids_at}
use Rattle.repo_model.proofs.Elements.{range_cases, range_from}

decided_one : (a b : Bool) → b ≡ true → (not a && not b) ≡ false
decided_one true b e = refl
decided_one false b e = rw e refl

-- in a set that lies in what T satisfies, the first undecided member of an open list of classes is its first one
picked_first : (set : Literal → Bool) (T : NumSet) (c : List ℕ) (m : Literal) → ((l : Literal) → set l ≡ true → satisfies T l ≡ true) → is_open_need set (goal_sentence c) ≡ true → is_one_of T (first_member c) ≡ true
    → find (is_undecided set) (goal_sentence c) ≡ Some m → (n : ℕ) × (m ≡ literal n true) × Is T n
picked_first set T [] m under o p f = absurd (cc p)
picked_first set T (x ∷ xs) m under o p f =
    let w = and_parts (not (set (literal x true))) (is_open_need set (goal_sentence xs)) o in
    let other : set (literal x false) ≡ false = false_from_ne_true (set (literal x false)) (λ h. both_ways (T x) (not-true (T x) (under (literal x false) h)) p) in
    let take_it : is_undecided set (literal x true) ≡ true = rw (not-true (set (literal x true)) w.0, other) refl in
    (x, sym (same_Some (literal x true) m (rw take_it at f)), p)

head_hits : (T : NumSet) (c : List ℕ) → is_one_of T (first_member c) ≡ true → Hit (Is T) c
head_hits T [] h = absurd (cc h)
head_hits T (x ∷ xs) h = record { by = x; inside = here; alive = h }

module _ (R : Repository) (goals : List (List ℕ)) (T : NumSet) (choice : IsFirstChoice R goals T) where
  model : Models T (form R goals)
  model = models_from R goals T (record { packages = choice.classes; abundance = λ n h c i. head_hits T c (choice.of_clauses n h c i); peace = choice.peace }) (λ g i. head_hits T g (choice.of_goals g i))

  -- the first open need is decided by a member of T
  decides : (set : Literal → Bool) (s : List Literal) (m : Literal) → ((l : Literal) → set l ≡ true → satisfies T l ≡ true) → IsSentence R goals s → is_open_need set s ≡ true → find (is_undecided set) s ≡ Some m
      → (n : ℕ) × (m ≡ literal n true) × Is T n
  decides set s m under (of_goal g i e) o f = picked_first set T g m under (subst (λ x. is_open_need set x ≡ true) e o) (choice.of_goals g i) (subst (λ x. find (is_undecided set) x ≡ Some m) e f)
  decides set s m under (of_clause p c lt i e) o f =
      let o' : is_open_need set (clause_sentence p c) ≡ true = subst (λ x. is_open_need set x ≡ true) e o in
      let w = and_parts (set (literal p true)) (is_open_need set (goal_sentence c)) o' in
      let f' : find (is_undecided set) (clause_sentence p c) ≡ Some m = subst (λ x. find (is_undecided set) x ≡ Some m) e f in
      let skip : is_undecided set (literal p false) ≡ false = decided_one (set (literal p false)) (set (literal p true)) w.0 in
      picked_first set T c m under w.1 (choice.of_clauses p (under (literal p true) w.0) c i) (rw skip at f')
  decides set s m under (of_conflict p q i e) o f =
      let o' : is_open_need set (conflict_sentence p q) ≡ true = subst (λ x. is_open_need set x ≡ true) e o in
      let w = and_parts (set (literal p true)) (is_open_need set (literal q false ∷ [])) o' in
      let v = and_parts (set (literal q true)) true w.1 in
      absurd (both_ways (against R p q) (choice.peace p q (under (literal p true) w.0) (under (literal q true) v.0)) (In_has i))

  tells : (decisions : List Literal) (tree : Tree) → HasGiven (satisfies T) decisions → IsTree (length R.clauses) (form R goals) decisions tree → (failed_leaves tree ≡ 0) × ((chosen : List Bool) × (found_of tree ≡ Some chosen))
  tells decisions failed_leaf holds is = absurd (clash_no_model T (form R goals) decisions model holds is)
  tells decisions (found_leaf chosen) holds is = (refl, (chosen, refl))
  tells decisions (split c left right) holds is =
      let at = is.0 in
      let found = find_some (is_open_need at.set) (form R goals) at.need at.first in
      let under : (l : Literal) → at.set l ≡ true → satisfies T l ≡ true = λ l h. at.closure.sound l h (satisfies T) holds (model_closed T (form R goals) model) in
      let w = decides at.set at.need at.member under (sentence_cases R goals at.need (contains_in (form R goals) at.need found.0)) found.1 at.least in
      let e : c ≡ w.0 = at.named ∙ ap (λ l. l.class) w.1 in
      let more : HasGiven (satisfies T) (decisions ++ literal c true ∷ []) = All-push (λ l. satisfies T l ≡ true) decisions (literal c true) holds (rw e w.2) in
      let rest = tells (decisions ++ literal c true ∷ []) left more is.1 in
      let some = rest.1 in
      rw some.1 (let z = rest.0 in omega arith, (some.0, refl))

  -- the tree finds something, and has no failed leaf before it
  pub choice_tells : (tree : Tree) → IsTree (length R.clauses) (form R goals) [] tree → (failed_leaves tree ≡ 0) × ((chosen : List Bool) × (found_of tree ≡ Some chosen))
  choice_tells tree is = tells [] tree (All-nil (λ l. satisfies T l ≡ true)) is

one_of_more : (S W : NumSet) (o : Option ℕ) → ((n : ℕ) → Is S n → Is W n) → is_one_of S o ≡ true → is_one_of W o ≡ true
one_of_more S W None w h = absurd (cc h)
one_of_more S W (Some n) w h = w n h

-- two choices of which no members conflict are one for both lists of goals
pub choices_join : (R : Repository) (A B : List (List ℕ)) (S T : NumSet) → ((m n : ℕ) → against R m n ≡ true → against R n m ≡ true) → IsFirstChoice R A S → IsFirstChoice R B T
    → ((m n : ℕ) → Is S m → Is T n → against R m n ≡ false) → IsFirstChoice R (A ++ B) (union S T)
choices_join R A B S T way a b peace = record {
  classes = λ n h. elim (or_cases (S n) (T n) h) [ inl x ↦ a.classes n x | inr y ↦ b.classes n y ];
  of_goals = λ g i. elim (in_either A B g i) [ inl x ↦ left_more g (a.of_goals g x) | inr y ↦ right_more g (b.of_goals g y) ];
  of_clauses = λ p h c i. elim (or_cases (S p) (T p) h) [ inl x ↦ left_more c (a.of_clauses p x c i) | inr y ↦ right_more c (b.of_clauses p y c i) ];
  peace = λ m n h k. elim (or_cases (S m) (T m) h) [
    | inl x ↦ elim (or_cases (S n) (T n) k) [ inl y ↦ a.peace m n x y | inr y ↦ peace m n x y ]
    | inr x ↦ elim (or_cases (S n) (T n) k) [
      | inl y ↦ false_from_ne_true (against R m n) (λ t. both_ways (against R n m) (peace n m y x) (way m n t))
      | inr y ↦ b.peace m n x y
    ]
  ];
}
  where
    left_more : (c : List ℕ) → is_one_of S (first_member c) ≡ true → is_one_of (union S T) (first_member c) ≡ true
    left_more c h = one_of_more S (union S T) (first_member c) (λ n x. or_left (S n) (T n) x) h

    right_more : (c : List ℕ) → is_one_of T (first_member c) ≡ true → is_one_of (union S T) (first_member c) ≡ true
    right_more c h = one_of_more T (union S T) (first_member c) (λ n y. or_right (S n) (T n) y) h

pub flagged_below : (flags : List Bool) (members : List ℕ) → AreFlagged flags members → AreBelow (length flags) members
flagged_below flags members f n i = elim (cases_lt n (length flags)) [
  | inl lt ↦ lt
  | inr ge ↦ absurd (both_ways (has members n) (sym (f.each n) ∙ get_or-eq_default flags false ge) (In_has i))
]

-- the flags that are up are those of members that are left
pub record AreLeft (size : ℕ) (flags : List Bool) (members : List ℕ) : Type 0 where
  pub long : length flags ≡ size
  pub below : AreBelow size members
  pub each : (n : ℕ) → get_or flags n false ≡ true → In n members

pub left_all : (flags : List Bool) (members : List ℕ) → AreFlagged flags members → AreLeft (length flags) flags members
left_all flags members f = record { long = refl; below = flagged_below flags members f; each = λ n t. has_In members n (sym (f.each n) ∙ t) }

pub last_left : (size : ℕ) (flags : List Bool) (members less : List ℕ) (n : ℕ) → members ≡ less ++ n ∷ [] → AreLeft size flags members → n < length flags
last_left size flags members less n e f = subst (λ z. n < z) (sym f.long) (f.below n (subst (λ z. In n z) (sym e) (In_append_right less (n ∷ []) n here)))

pub left_less : (size : ℕ) (flags new : List Bool) (members less : List ℕ) (n : ℕ) → members ≡ less ++ n ∷ [] → new ≡ set flags n false → AreLeft size flags members → AreLeft size new less
left_less size flags new members less n e made f = rw made (record {
  long = length-set flags n false ∙ f.long;
  below = λ k i. f.below k (subst (λ z. In k z) (sym e) (In_append_left less (n ∷ []) k i));
  each = λ k t. elim (cases_eq k n) [
    | inl same ↦ absurd (both_ways (get_or (set flags n false) n false) (get_or-set_same flags n false false (last_left size flags members less n e f)) (rw same at t))
    | inr other ↦ elim (In_last less members n k e (f.each k (sym (get_or-set_other flags n k false false other) ∙ t))) [ inl i ↦ i | inr h ↦ absurd (other h) ]
  ];
})

-- the numbers of the row of a class of a sound book are classes
pub row_numbers : (pool : Interned) (book : Book) (p : ℕ) (row : List ℕ) → Sound pool book → p < length book.rows → row ≡ ids_at pool (row_id book.rows p) → (c : List ℕ) → In c (clauses_at pool row) → AreBelow (length book.rows) c
row_numbers pool book p row sound inside lent c i = sound.rows.numbers (row_id book.rows p) (In_at book.rows p 0 inside) c (subst (λ z. In c (clauses_at pool z)) lent i)

-- the first member of each clause, by the ids of the clauses
pub have_firsts : (pool : Interned) (row chosen : List ℕ) → ((id : ℕ) → In id row → has_first_member chosen (clause_at pool id) ≡ true) → HaveFirsts (clauses_at pool row) chosen
have_firsts pool row chosen so c i = let w = In_map_cases (clause_at pool) row c i in ap (has_first_member chosen) w.2 ∙ so w.0 w.1

pub served : (pool : Interned) (book : Book) (class : ℕ) (chosen : List ℕ) (clauses : List (List ℕ)) → list_any (has chosen) (listed_for book.conflicts class) ≡ false → clauses ≡ clauses_of (repository_of pool book) class → HaveFirsts clauses chosen
    → IsServed (repository_of pool book) chosen class
served pool book class chosen clauses none are firsts = record {
  firsts = subst (λ z. HaveFirsts z chosen) are firsts;
  peace = λ n i. false_from_ne_true (has (listed_for book.conflicts class) n) (λ h.
      both_ways (has chosen n) (any_none (has chosen) (listed_for book.conflicts class) none n (has_In (listed_for book.conflicts class) n h)) (In_has i));
}

pub choice_is : (pool : Interned) (book : Book) (goal chosen : List ℕ) → AreBelow (length book.rows) chosen → has_first_member chosen goal ≡ true → ((p : ℕ) → In p chosen → IsServed (repository_of pool book) chosen p)
    → IsFirstChoice (repository_of pool book) (goal ∷ []) (has chosen)
choice_is pool book goal chosen below first so = record {
  classes = λ n h. subst (λ z. n < z) (sym (rows_long pool book.rows)) (below n (has_In chosen n h));
  of_goals = λ g i. elim (In_cases i) [ inl e ↦ ap (has_first_member chosen) e ∙ first | inr x ↦ absurd (In_none x) ];
  of_clauses = λ p h c i. (so p (has_In chosen p h)).firsts c i;
  peace = λ m n h k. (so m (has_In chosen m h)).peace n (has_In chosen n k);
}

-- the members of first choices are classes
pub chosen_fit : (pool : Interned) (book : Book) (kinds choices : List (List ℕ)) (n : ℕ) → AreAllChosen (repository_of pool book) kinds n choices → NeedsFit (length book.rows) choices
chosen_fit pool book kinds choices n so c i m j =
    let p : (k : ℕ) × (k < length choices) × (get_or choices k [] ≡ c) = In_place choices c [] i in
    let chosen : IsChosen (repository_of pool book) (listed_for kinds p.0) c = subst (IsChosen (repository_of pool book) (listed_for kinds p.0)) p.2 (so.each p.0 (subst (λ z. p.0 < z) so.long p.1)) in
    subst (λ z. m < z) (rows_long pool book.rows) ((chosen m j).classes m (In_has j))

-- a kind under classes
pub held_none : (table : List (List ℕ)) (kind : ℕ) → AreHeld table table [] kind
held_none table kind = record { kept = λ c k i. i; all = λ c i. absurd (In_none i); only = λ c k i. inl i }

pub held_more : (start table new : List (List ℕ)) (classes : List ℕ) (i kind : ℕ) → i < length classes → IsEntered table new (get_or classes i 0) kind
    → AreHeld start table (take i classes) kind → AreHeld start new (take (i + 1) classes) kind
held_more start table new classes i kind l e so = record {
  kept = λ c k j. e.kept c k (so.kept c k j);
  all = λ c j. elim (In_last (take i classes) (take (i + 1) classes) (get_or classes i 0) c (take_more classes i 0 l) j) [
    | inl o ↦ e.kept c kind (so.all c o)
    | inr f ↦ subst (λ z. In kind (listed_for new z)) (sym f) e.entered
  ];
  only = λ c k j. elim (e.only c k j) [ inl o ↦ so.only c k o | inr f ↦ inr f.1 ];
}

-- kinds under the classes of their choices
pub holders_none : (choices table : List (List ℕ)) → ((k : ℕ) → listed_for table k ≡ []) → AreHolders 0 choices table
holders_none choices table none = record { all = λ k c l. absurd (omega arith); only = λ c k i. absurd (In_none (subst (λ z. In k z) (none c) i)) }

pub holders_more : (n : ℕ) (choices table new : List (List ℕ)) (lent : List ℕ) → lent ≡ listed_for choices n → AreHeld table new lent n → AreHolders n choices table → AreHolders (n + 1) choices new
holders_more n choices table new lent at held so = record {
  all = λ k c m i. elim (cases_eq k n) [
    | inl e ↦ subst (λ z. In z (listed_for new c)) (sym e) (held.all c (subst (λ z. In c z) (ap (λ z. listed_for choices z) e ∙ sym at) i))
    | inr o ↦ held.kept c k (so.all k c (omega arith) i)
  ];
  only = λ c k i. elim (held.only c k i) [ inl o ↦ let b : k < n = so.only c k o in omega arith | inr e ↦ omega arith ];
}

-- one place more
pub range_pushed : (made new : List ℕ) (n : ℕ) → new ≡ made ++ n ∷ [] → made ≡ range_with_len 0 n → new ≡ range_with_len 0 (n + 1)
range_pushed made new n e so = e ∙ ap (λ z. z ++ n ∷ []) so ∙ sym (rw add-one (range_more 0 n ∙ ap (λ k. range_with_len 0 n ++ k ∷ []) (zero-add n)))

-- every place, where the kind has no choice
pub all_suspects : (conflicts choices : List (List ℕ)) (kind : ℕ) (suspects : List ℕ) → suspects ≡ range_with_len 0 (length choices) → AreSuspects conflicts choices kind suspects
all_suspects conflicts choices kind suspects e = record {
  all = λ k l. inl (subst (λ z. In k z) (sym e) (range_from (length choices) 0 k (omega arith) (omega (arith, l))));
  only = λ k i. let w = range_cases (length choices) 0 k (subst (λ z. In k z) e i) in omega (arith, w.1);
}

-- and else the kinds without a choice, and those that have a class which conflicts with one of the choice
pub facing_suspects : (conflicts choices table : List (List ℕ)) (kind : ℕ) (choice without found sorted : List ℕ) → choice ≡ listed_for choices kind → eqb (length choice) 0 ≡ false → AreHolders (length choices) choices table
    → without ≡ without_choice choices (length choices) → found ≡ without ++ facing conflicts table choice → ((k : ℕ) → In k sorted ↔ In k found) → AreSuspects conflicts choices kind sorted
facing_suspects conflicts choices table kind choice without found sorted is some holders free made same = record {
  all = λ k m. elim (empty_or (listed_for choices k)) [
    | inl e ↦ inl (there_is k (In_append_left without (facing conflicts table choice) k (subst (λ z. In k z) (sym free)
        (filter_from (λ k. eqb (length (listed_for choices k)) 0) (range_with_len 0 (length choices)) k (range_from (length choices) 0 k (omega arith) (omega (arith, m))) (ap (λ z. eqb (length z) 0) e)))))
    | inr w ↦ elim (cases_Bool (has sorted k)) [
      | inl t ↦ inl (has_In sorted k t)
      | inr f ↦ inr (record {
        first = subst (λ z. (n : ℕ) × In n z) is (some_item choice some);
        second = w;
        peace = λ a b ia ib. false_from_ne_true (has (listed_for conflicts a) b) (λ h. both_ways (has sorted k) f (In_has (there_is k (In_append_right without (facing conflicts table choice) k
            (In_flat (λ c. flat_map (listed_for table) (listed_for conflicts c)) choice a k (subst (λ z. In a z) (sym is) ia) (In_flat (listed_for table) (listed_for conflicts a) b k (has_In (listed_for conflicts a) b h) (holders.all k b m ib)))))));
      })
    ]
  ];
  only = λ k j. elim (In_append_cases without (facing conflicts table choice) k (subst (λ z. In k z) made ((same k).0 j))) [
    | inl o ↦ let w = range_cases (length choices) 0 k (filter_cases (λ k. eqb (length (listed_for choices k)) 0) (range_with_len 0 (length choices)) k (subst (λ z. In k z) free o)).0 in omega (arith, w.1)
    | inr i ↦
        let w = In_flat_cases (λ c. flat_map (listed_for table) (listed_for conflicts c)) choice k i in
        let v = In_flat_cases (listed_for table) (listed_for conflicts w.0) k w.2 in
        holders.only v.0 k v.2
  ];
}
  where
    there_is : (k : ℕ) → In k (without ++ facing conflicts table choice) → In k sorted
    there_is k i = (same k).1 (subst (λ z. In k z) (sym made) i)

-- what conflicts with a class is within the table
pub conflicts_within : (pool : Interned) (book : Book) (class : ℕ) (lent : List ℕ) (table : List (List ℕ)) → Sound pool book → lent ≡ listed_for book.conflicts class → length table ≡ length (repository_of pool book).clauses → AreBelow (length table) lent
conflicts_within pool book class lent table sound is size q i =
    let j : In class (listed_for book.conflicts q) = other_way book.conflicts sound.conflicts class q (subst (λ z. In q z) is i) in
    let b : q < length book.conflicts = listed_in book.conflicts q class j in
    let e : length book.conflicts ≡ length book.rows = book.paired in
    let r : length (repository_of pool book).clauses ≡ length book.rows = rows_long pool book.rows in
    omega arith
