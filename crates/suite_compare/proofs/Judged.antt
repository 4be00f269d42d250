-- Verdicts on kinds.
use Rattle.std.{proofs.Common.{◌≡◌, ℕ, ◌<◌, Bool, true, false, not, List, [], ◌∷◌, inl, inr, length, get_or, refl, sym, ◌∙◌, ap, subst, arith}, specs.List.{flat_map}, proofs.lemmas.Bool.{cases_lt, and_from, and_parts, cases_Bool, both_ways, false≢true, lt-ltb, le-ltb}, proofs.lemmas.List.{get_or-map, get_or_past, length-map}}
use Rattle.listed.{proofs.Lists.{in_cond_cases, in_cond_first, In_flat_cases, In_flat, In_cases, In_none, In_at, has_In}, specs.Lists.{In, has}}
use Rattle.clause_pool.specs.Interned.{Interned}
use Rattle.row_book.{specs.Book.{listed_for, repository_of, Sound}, specs.Needs.{AreNeeds, IsNeed, NeedsFit}, specs.Repository.{Repository}, specs.declared.book.Book.{Book}}
use Rattle.suite_compare.{specs.FirstChoices.{IsFirstChoice}, specs.Bad.{bad, bad_entry, is_bad, AreAllBad, AreBad, AreSingles}, specs.Choices.{ArePeaceful}, specs.Kinds.{alone, alone_in, kernel_in, kernel_verdict, together, together_in}, specs.Asking.{tree_of, verdict_of}, specs.Report.{is_yes}, specs.Suspects.{AreChoices, AreSuspects}, specs.declared.verdicts.Bad.{Bad}, specs.declared.judge.Judge.{Judge}, specs.declared.suspect.Choices.{Choices}, proofs.Chosen.{choice_tells, choices_join}}
use Rattle.search_terms.{specs.Form.{form}, specs.Tree.{Tree, IsTree, failed_leaves}, proofs.Computed.{search_tree_is}, specs.Closure.{InRange}, proofs.Found.{one_tree}, proofs.Ranges.{form_ranged, rows_long}}
use Rattle.clause_solver.{specs.Verdicts.{IsSearchVerdict, IsVerdictOf}, specs.declared.outcomes.Verdict.{Verdict}, specs.declared.outcomes.Verdict.TheVariants.{Yes, No, Spent}}

pub need_at : (kinds : List (List ℕ)) (k : ℕ) → k < length kinds → AreNeeds kinds → IsNeed (listed_for kinds k)
need_at kinds k l needs = needs (listed_for kinds k) (In_at kinds k [] l)

pub below_at : (size : ℕ) (kinds : List (List ℕ)) (k : ℕ) → k < length kinds → NeedsFit size kinds → (i : ℕ) → i < length (listed_for kinds k) → get_or (listed_for kinds k) i 0 < size
below_at size kinds k l fit i m = fit (listed_for kinds k) (In_at kinds k [] l) _ (In_at (listed_for kinds k) i 0 m)

pub one_fits : (size : ℕ) (kinds : List (List ℕ)) (k : ℕ) → k < length kinds → NeedsFit size kinds → NeedsFit size (listed_for kinds k ∷ [])
one_fits size kinds k l fit c i = elim (In_cases i) [ inl e ↦ fit c (subst (λ z. In z kinds) (sym e) (In_at kinds k [] l)) | inr x ↦ absurd (In_none x) ]

pub pair_fits : (size : ℕ) (kinds : List (List ℕ)) (k m : ℕ) → k < length kinds → m < length kinds → NeedsFit size kinds → NeedsFit size (listed_for kinds k ∷ (listed_for kinds m ∷ []))
pair_fits size kinds k m l lm fit c i = elim (In_cases i) [ inl e ↦ fit c (subst (λ z. In z kinds) (sym e) (In_at kinds k [] l)) | inr r ↦ one_fits size kinds m lm fit c r ]

-- what a tree tells is one verdict
pub verdict_told : (budget : ℕ) (tree : Tree) (v : Verdict) → IsVerdictOf budget tree v → v ≡ verdict_of budget tree
verdict_told budget tree Yes w = rw (le-ltb budget (failed_leaves tree) w.1, w.0) refl
verdict_told budget tree No w = rw (le-ltb budget (failed_leaves tree) w.1, w.0) refl
verdict_told budget tree Spent w = rw (lt-ltb budget (failed_leaves tree) w) refl

-- the tree of a sound book's formula is the computed one
pub tree_is : (pool : Interned) (book : Book) (goals : List (List ℕ)) → Sound pool book → NeedsFit (length book.rows) goals
    → IsTree (length (repository_of pool book).clauses) (form (repository_of pool book) goals) [] (tree_of (repository_of pool book) goals)
unfolding tree_of
tree_is pool book goals sound fit =
    search_tree_is (length (repository_of pool book).clauses) (form (repository_of pool book) goals)
    (subst (λ z. InRange z (form (repository_of pool book) goals)) (sym (rows_long pool book.rows)) (form_ranged pool book goals sound book.paired fit))

pub verdict_is : (pool : Interned) (book : Book) (goals : List (List ℕ)) (budget : ℕ) (v : Verdict) → Sound pool book → NeedsFit (length book.rows) goals → IsSearchVerdict (repository_of pool book) goals budget v
    → v ≡ kernel_verdict (repository_of pool book) budget goals
verdict_is pool book goals budget v sound fit w =
    let R : Repository = repository_of pool book in
    verdict_told budget w.0 v w.2
    ∙ ap (verdict_of budget) (sym (one_tree (length (repository_of pool book).clauses) (form (repository_of pool book) goals) [] w.0 (tree_of (repository_of pool book) goals) w.1 (tree_is pool book goals sound fit)))

yes_at : (v : Verdict) → is_yes v ≡ true → v ≡ Yes
yes_at Yes e = refl
yes_at No e = absurd (false≢true e)
yes_at Spent e = absurd (false≢true e)

-- kinds whose first choices are at peace go together
pub paired_yes : (pool : Interned) (book : Book) (budget : ℕ) (A B S T : List ℕ) → Sound pool book → NeedsFit (length book.rows) (A ∷ (B ∷ [])) → IsFirstChoice (repository_of pool book) (A ∷ []) (has S)
    → IsFirstChoice (repository_of pool book) (B ∷ []) (has T) → ArePeaceful book.conflicts S T → together (repository_of pool book) budget A B ≡ Yes
paired_yes pool book budget A B S T sound fit first second peace =
    let R : Repository = repository_of pool book in
    let joined = choices_join R (A ∷ []) (B ∷ []) (has S) (has T) (λ m n h. sound.conflicts.either_way m n h) first second (λ m n i j. peace m n (has_In S m i) (has_In T n j)) in
    let tells = choice_tells R (A ∷ (B ∷ [])) _ joined (tree_of R (A ∷ (B ∷ []))) (tree_is pool book (A ∷ (B ∷ [])) sound fit) in
    rw (le-ltb budget (failed_leaves (tree_of R (A ∷ (B ∷ [])))) (omega (arith, tells.0)), tells.1.1) refl

-- the verdict on a kind, as it was found to say
pub single_at : (judge : Judge) (singles : List Verdict) (k : ℕ) → k < length judge.kinds.items → AreSingles judge singles → get_or singles k Spent ≡ alone_in judge k
single_at judge singles k l told = ap (λ z. get_or z k Spent) told ∙ get_or-map (alone (kernel_in judge) judge.budget) judge.kinds.items k [] Spent l

pub single_yes : (judge : Judge) (singles : List Verdict) (k : ℕ) (v : Verdict) (r b : Bool) → k < length judge.kinds.items → AreSingles judge singles → v ≡ get_or singles k Spent → r ≡ is_yes v → r ≡ b → is_yes (alone_in judge k) ≡ b
single_yes judge singles k v r b l told at is t = ap is_yes (sym (at ∙ single_at judge singles k l told)) ∙ sym is ∙ t

-- the bad kinds of a kind that goes by itself
pub bad_from : (judge : Judge) (singles : List Verdict) (choices : Choices) (kind : ℕ) (suspects : List ℕ) (list : List Bad) → kind < length judge.kinds.items → AreSingles judge singles
    → AreChoices (kernel_in judge) judge.kinds.items choices → AreSuspects judge.kernel.book.now.conflicts choices.firsts.items kind suspects → list ≡ flat_map (bad_entry judge singles kind) suspects → AreBad judge kind list
bad_from judge singles choices kind suspects list l told chosen suspected made = record {
  within = λ b i. let w = was b i in subst (λ z. z < length judge.kinds.items) (sym (ap (λ z. z.kind) (entry b i).1)) (below w.0 w.1);
  single = λ b i. let w = was b i in
      subst (λ z. is_yes (alone_in judge z) ≡ true) (sym (ap (λ z. z.kind) (entry b i).1)) (ap is_yes (sym (single_at judge singles w.0 (below w.0 w.1) told)) ∙ (entry b i).0);
  verdict = λ b i. ap (λ z. z.verdict) (entry b i).1 ∙ ap (together_in judge kind) (sym (ap (λ z. z.kind) (entry b i).1));
  whole = λ first k m yes. elim (suspected.all k (subst (λ z. k < z) (sym chosen.chosen.long) m)) [
    | inl i ↦ elim (cases_Bool (is_yes (together_in judge kind k))) [
      | inl t ↦ inr (yes_at (together_in judge kind k) t)
      | inr f ↦ let e : Bad = bad k (together_in judge kind k) in inl (
        e,
        subst (λ z. In e z) (sym made) (In_flat (bad_entry judge singles kind) suspects k e i (in_cond_first (is_bad judge singles kind k) e e []
            (and_from (is_yes (get_or singles k Spent)) (not (is_yes (together_in judge kind k))) (ap is_yes (single_at judge singles k m told) ∙ yes) (ap not f)) refl)),
        refl,
      )
    ]
    | inr j ↦ inr (paired_yes judge.kernel.pool.now judge.kernel.book.now judge.budget (listed_for judge.kinds.items kind) (listed_for judge.kinds.items k) (listed_for choices.firsts.items kind) (listed_for choices.firsts.items k) judge.kernel.sound
        (pair_fits (length judge.kernel.book.now.rows) judge.kinds.items kind k l m judge.fit) (chosen.chosen.each kind l j.first.0 j.first.1) (chosen.chosen.each k m j.second.0 j.second.1) j.peace)
  ];
}
  where
    was : (b : Bad) → In b list → (k : ℕ) × In k suspects × In b (bad_entry judge singles kind k)
    was b i = In_flat_cases (bad_entry judge singles kind) suspects b (subst (λ z. In b z) made i)

    entry : (b : Bad) (i : In b list) → (is_yes (get_or singles (was b i).0 Spent) ≡ true) × (b ≡ bad (was b i).0 (together_in judge kind (was b i).0))
    entry b i = elim (in_cond_cases (is_bad judge singles kind (was b i).0) b (bad (was b i).0 (together_in judge kind (was b i).0)) [] (was b i).2) [
      | inl e ↦ ((and_parts (is_yes (get_or singles (was b i).0 Spent)) (not (is_yes (together_in judge kind (was b i).0))) e.1).0, e.0)
      | inr n ↦ absurd (In_none n)
    ]

    below : (k : ℕ) → In k suspects → k < length judge.kinds.items
    below k i = subst (λ z. k < z) chosen.chosen.long (suspected.only k i)

-- and of one that does not
pub bad_none : (judge : Judge) (kind : ℕ) (list : List Bad) → is_yes (alone_in judge kind) ≡ false → list ≡ [] → AreBad judge kind list
bad_none judge kind list not_yes e = subst (AreBad judge kind) (sym e) (record {
  within = λ b i. absurd (In_none i);
  single = λ b i. absurd (In_none i);
  verdict = λ b i. absurd (In_none i);
  whole = λ first. absurd (both_ways (is_yes (alone_in judge kind)) not_yes first);
})

pub singles_long : (judge : Judge) (singles : List Verdict) → AreSingles judge singles → length singles ≡ length judge.kinds.items
singles_long judge singles e = ap length e ∙ length-map judge.kinds.items (alone (kernel_in judge) judge.budget)

pub entry_yes : (judge : Judge) (singles : List Verdict) (kind other : ℕ) → is_yes (together_in judge kind other) ≡ true → bad_entry judge singles kind other ≡ []
entry_yes judge singles kind other both = elim (cases_Bool (is_yes (get_or singles other Spent))) [ inl t ↦ rw (t, both) refl | inr f ↦ rw f refl ]

pub entry_bad : (judge : Judge) (singles : List Verdict) (kind other : ℕ) (v : Verdict) → is_yes (get_or singles other Spent) ≡ true → v ≡ together_in judge kind other → is_yes v ≡ false → bad_entry judge singles kind other ≡ bad other v ∷ []
entry_bad judge singles kind other v single is off = rw (single, ap is_yes (sym is) ∙ off) (ap (λ z. bad other z ∷ []) (sym is))

pub bad_within : (judge : Judge) (bad : List (List Bad)) (k : ℕ) (b : Bad) → AreAllBad judge bad → In b (get_or bad k []) → b.kind < length bad
bad_within judge bad k b so i = elim (cases_lt k (length bad)) [
  | inl l ↦ let m : k < length judge.kinds.items = omega (arith, so.long) in subst (λ z. b.kind < z) (sym so.long) ((so.each k m).within b i)
  | inr g ↦ absurd (In_none (subst (λ z. In b z) (get_or_past bad k [] g) i))
]
