-- The conflicts that matter, pair by pair.
use Rattle.std.proofs.Common.{◌≡◌, ℕ, zero, suc, ◌+◌, ◌-◌, ◌<◌, ◌≤◌, ◌⊎◌, true, false, Some, None, take, List, [], ◌∷◌, ◌++◌, length, get_or, drop, map, inl}
use Rattle.std.proofs.{Common.{inr, refl, sym, ap, ◌∙◌, subst, arith}, lemmas.Bool.{cases_Bool}}
use Rattle.std.proofs.{lemmas.List.{drop-drop, drop_all, drop_more, length-drop, map-append, take-append-drop, take_all}, Math.Seq.{drop-nil}}
use Rattle.std.specs.{Prelude.{is_some, ltb}, Option.{option_map}}
use Rattle.listed.proofs.Lists.{in_take, In_drop, In_append_cases, In_append_left, In_append_right, In_cases, In_none}
use Rattle.clause_pool.specs.Interned.{Interned, row_at}
use Rattle.clause_solver.specs.{Verdicts.{IsSearchVerdict}, declared.outcomes.Verdict.{Verdict}, declared.outcomes.Verdict.TheVariants.{Yes, No, Spent}}
use Rattle.row_book.specs.{Book.{lists_of_pairs, repository_of, PairsFit, Sound}, Needs.{NeedsFit}, Repository.{Repository}, Sets.{NumSet}}
use Rattle.row_book.specs.{Sound.{SoundRepository}, declared.book.Book.{Book}, declared.pair.Pair.{Pair}}
use Rattle.listed.specs.Lists.{In, here, there}
use Rattle.row_book.proofs.Repositories.{repository_same}
use Rattle.search_terms.proofs.Ranges.{rows_long}
use Rattle.suite_compare.specs.Asking.{tree_of, verdict_of}
use Rattle.suite_compare.proofs.Judged.{verdict_is}
use Rattle.explain_core.specs.{Deletion.{KeptItem, is_no, items_of, kept_behind, kept_by, kept_of}, Only.{conflicts_within, only, pair}, Reach.{IsReach}}
use Rattle.explain_core.specs.Reasons.{clashes_of, conflicts_reached, is_spent_verdict, reasons_among, reasons_of, clash_pairs, tree_over, verdict_over}
use Rattle.explain_core.specs.declared.explanation.Clash.{Clash}
use Rattle.search_terms.specs.Tree.{Tree, failed_leaves, found_of}
use Rattle.explain_core.proofs.{Reached.{reach_one}, AtOnce.{pairs_at_once}, Deleted.{block_left_out, no_is}, CoreLoop.{behind_none, behind_step}}
use Rattle.explain_core.proofs.Told.{clashes_back, clashes_items, clashes_there, kept_clash, kept_clashes}

clashes_more : (clashes new : List Clash) (kept : List (KeptItem Pair)) → new ≡ clashes ++ clashes_of kept → kept_clashes new ≡ kept_clashes clashes ++ kept
clashes_more clashes new kept e = ap kept_clashes e ∙ map-append kept_clash clashes (clashes_of kept) ∙ ap (λ l. kept_clashes clashes ++ l) (clashes_back kept)

-- the others of a block of pairs
pub others_fit : (size : ℕ) (clashes : List Clash) (pairs others : List Pair) (from : ℕ) → others ≡ clash_pairs clashes ++ drop from pairs → PairsFit (clash_pairs clashes) size → PairsFit pairs size → PairsFit others size
others_fit size clashes pairs others from e front whole = record {
  ordered = λ x i. elim (cases x i) [ inl a ↦ front.ordered x a | inr b ↦ whole.ordered x b ];
  below = λ x i. elim (cases x i) [ inl a ↦ front.below x a | inr b ↦ whole.below x b ];
}
  where
    cases : (x : Pair) → In x others → In x (clash_pairs clashes) ⊎ In x pairs
    cases x i = elim (In_append_cases (clash_pairs clashes) (drop from pairs) x (subst (λ l. In x l) e i)) [ inl a ↦ inl a | inr b ↦ inr (In_drop from pairs x b) ]

pub told_fit : (size : ℕ) (clashes new : List Clash) (x : Pair) (v : Verdict) → new ≡ clashes ++ clashes_of (kept_by x v) → (x.low < x.high) × (x.high < size) → PairsFit (clash_pairs clashes) size → PairsFit (clash_pairs new) size
told_fit size clashes new x v e fits fit = record { ordered = λ y i. (each y i).0; below = λ y i. (each y i).1 }
  where
    by : (v : Verdict) (y : Pair) → In y (clash_pairs (clashes_of (kept_by x v))) → (y.low < y.high) × (y.high < size)
    by No y j = absurd (In_none j)
    by Yes y j = elim (In_cases j) [ inl same ↦ subst (λ z. (z.low < z.high) × (z.high < size)) (sym same) fits | inr k ↦ absurd (In_none k) ]
    by Spent y j = elim (In_cases j) [ inl same ↦ subst (λ z. (z.low < z.high) × (z.high < size)) (sym same) fits | inr k ↦ absurd (In_none k) ]

    each : (y : Pair) → In y (clash_pairs new) → (y.low < y.high) × (y.high < size)
    each y i = elim (In_append_cases (clash_pairs clashes) (clash_pairs (clashes_of (kept_by x v))) y (subst (λ l. In y l) (ap clash_pairs e ∙ map-append (λ c. pair c.first c.second) clashes (clashes_of (kept_by x v))) i)) [
      | inl a ↦ (fit.ordered y a, fit.below y a)
      | inr b ↦ by v y b
    ]

pub clash_step : (g : List Pair → Verdict) (pairs : List Pair) (clashes new : List Clash) (others : List Pair) (place from : ℕ) (x d : Pair) (v : Verdict) → place < length pairs → from ≡ place + 1 → x ≡ get_or pairs place d →
    others ≡ clash_pairs clashes ++ drop from pairs → v ≡ g others → new ≡ clashes ++ clashes_of (kept_by x v) →
    kept_of g pairs ≡ kept_behind g (kept_clashes clashes) (drop place pairs) → kept_of g pairs ≡ kept_behind g (kept_clashes new) (drop (place + 1) pairs)
clash_step g pairs clashes new others place from x d v l next is made told pushed e =
    behind_step g (kept_of g pairs) (kept_clashes clashes) (kept_clashes new) x (drop place pairs) (drop (place + 1) pairs) v
    (told ∙ ap g (made ∙ ap (λ k. clash_pairs clashes ++ drop k pairs) next ∙ ap (λ f. f ++ drop (place + 1) pairs) (sym (clashes_items clashes))))
    (drop_more pairs place d l ∙ ap (λ y. y ∷ drop (place + 1) pairs) (sym is))
    (clashes_more clashes new (kept_by x v) pushed) e

-- a block of pairs, each of which has the verdict no with the others of the block
pub clash_skip : (g : List Pair → Verdict) (pairs : List Pair) (clashes : List Clash) (others : List Pair) (place count : ℕ) → others ≡ clash_pairs clashes ++ drop (place + count) pairs →
    ((more : List Pair) → ((x : Pair) → In x others → In x more) → ((x : Pair) → In x more → In x (clash_pairs clashes) ⊎ In x pairs) → g more ≡ No) →
    kept_of g pairs ≡ kept_behind g (kept_clashes clashes) (drop place pairs) → kept_of g pairs ≡ kept_behind g (kept_clashes clashes) (drop (place + count) pairs)
clash_skip g pairs clashes others place count made refused e =
    e ∙ ap (kept_behind g (kept_clashes clashes)) cut
    ∙ block_left_out g (kept_clashes clashes) (take count (drop place pairs)) (drop (place + count) pairs) each
  where
    cut : drop place pairs ≡ take count (drop place pairs) ++ drop (place + count) pairs
    cut = sym (take-append-drop count (drop place pairs)) ∙ ap (λ l. take count (drop place pairs) ++ l) (drop-drop count place pairs)

    each : (front : List Pair) → ((x : Pair) → In x front → In x (take count (drop place pairs))) → g (items_of (kept_clashes clashes) ++ (front ++ drop (place + count) pairs)) ≡ No
    each front within = subst (λ l. g (l ++ (front ++ drop (place + count) pairs)) ≡ No) (sym (clashes_items clashes)) (refused (clash_pairs clashes ++ (front ++ drop (place + count) pairs)) more of)
      where
        more : (x : Pair) → In x others → In x (clash_pairs clashes ++ (front ++ drop (place + count) pairs))
        more x i = elim (In_append_cases (clash_pairs clashes) (drop (place + count) pairs) x (subst (λ l. In x l) made i)) [
          | inl a ↦ In_append_left (clash_pairs clashes) (front ++ drop (place + count) pairs) x a
          | inr b ↦ In_append_right (clash_pairs clashes) (front ++ drop (place + count) pairs) x (In_append_right front (drop (place + count) pairs) x b)
        ]

        of : (x : Pair) → In x (clash_pairs clashes ++ (front ++ drop (place + count) pairs)) → In x (clash_pairs clashes) ⊎ In x pairs
        of x i = elim (In_append_cases (clash_pairs clashes) (front ++ drop (place + count) pairs) x i) [
          | inl a ↦ inl a
          | inr b ↦ elim (In_append_cases front (drop (place + count) pairs) x b) [
            | inl a ↦ inr (In_drop place pairs x (in_take (drop place pairs) count x (within x a)))
            | inr c ↦ inr (In_drop (place + count) pairs x c)
          ]
        ]

pub clash_done : (g : List Pair → Verdict) (pairs : List Pair) (clashes : List Clash) (place : ℕ) → length pairs ≤ place → kept_of g pairs ≡ kept_behind g (kept_clashes clashes) (drop place pairs) →
    clashes ≡ clashes_of (kept_of g pairs)
clash_done g pairs clashes place l e =
    sym (ap clashes_of (e ∙ behind_none g (kept_clashes clashes) (drop place pairs) (drop_all place pairs l)) ∙ clashes_there clashes)

-- a book with the rows of another and with these pairs
pub chosen_is : (pool : Interned) (book chosen : Book) (pairs : List Pair) → chosen.rows ≡ book.rows → chosen.conflicts ≡ lists_of_pairs pairs (length book.rows) → repository_of pool chosen ≡ only (repository_of pool book) pairs
chosen_is pool book chosen pairs rows conflicts =
    repository_same (repository_of pool chosen) (only (repository_of pool book) pairs) (ap (map (row_at pool)) rows) (conflicts ∙ ap (lists_of_pairs pairs) (sym (rows_long pool book.rows)))

pub over_is : (pool : Interned) (book chosen : Book) (pairs : List Pair) (goals : List (List ℕ)) (budget : ℕ) (v : Verdict) → chosen.rows ≡ book.rows → chosen.conflicts ≡ lists_of_pairs pairs (length book.rows) →
    Sound pool chosen → NeedsFit (length book.rows) goals → IsSearchVerdict (repository_of pool chosen) goals budget v → v ≡ verdict_over (repository_of pool book) budget goals pairs
over_is pool book chosen pairs goals budget v rows conflicts sound fit w =
    verdict_is pool chosen goals budget v sound (subst (λ r. NeedsFit (length r) goals) (sym rows) fit) w
    ∙ ap (λ S. verdict_of budget (tree_of S goals)) (chosen_is pool book chosen pairs rows conflicts)

-- where the goals clash at once by the others of a block of pairs, the block is left out
pub clash_block : (pool : Interned) (book : Book) (sound : Sound pool book) (budget : ℕ) (goals : List (List ℕ)) (needs : NeedsFit (length book.rows) goals)
    (pairs : List Pair) (clashes : List Clash) (others : List Pair) (place count : ℕ) → 0 < budget → PairsFit (clash_pairs clashes) (length book.rows) → PairsFit pairs (length book.rows) →
    others ≡ clash_pairs clashes ++ drop (place + count) pairs → is_no (verdict_over (repository_of pool book) 1 goals others) ≡ true →
    kept_of (verdict_over (repository_of pool book) budget goals) pairs ≡ kept_behind (verdict_over (repository_of pool book) budget goals) (kept_clashes clashes) (drop place pairs) →
    kept_of (verdict_over (repository_of pool book) budget goals) pairs ≡ kept_behind (verdict_over (repository_of pool book) budget goals) (kept_clashes clashes) (drop (place + count) pairs)
clash_block pool book sound budget goals needs pairs clashes others place count some front whole made clash =
    clash_skip (verdict_over (repository_of pool book) budget goals) pairs clashes others place count made
    (λ more within of.
    pairs_at_once pool book sound budget goals needs others more (others_fit (length book.rows) clashes pairs others (place + count) made front whole) (fit more of) within
    (no_is (verdict_over (repository_of pool book) 1 goals others) clash) some)
  where
    fit : (more : List Pair) → ((x : Pair) → In x more → In x (clash_pairs clashes) ⊎ In x pairs) → PairsFit more (length book.rows)
    fit more of = record {
      ordered = λ x i. elim (of x i) [ inl a ↦ front.ordered x a | inr b ↦ whole.ordered x b ];
      below = λ x i. elim (of x i) [ inl a ↦ front.below x a | inr b ↦ whole.below x b ];
    }

-- the rest of a list behind a place, as it is lent
pub slice_rest : {X : Type 0} (xs : List X) (k : ℕ) → take (length xs - k) (drop k xs) ≡ drop k xs
slice_rest xs k = let e : length (drop k xs) ≡ length xs - k = length-drop k xs in take_all (length xs - k) (drop k xs) (omega (arith, e))

pub others_are : (pairs lent made : List Pair) (told clashes : List Clash) (from : ℕ) → lent ≡ made → made ≡ clash_pairs told ++ take (length pairs - from) (drop from pairs) → told ≡ clashes → lent ≡ clash_pairs clashes ++ drop from pairs
others_are pairs lent made told clashes from same e is =
    same ∙ e ∙ ap (λ cs. clash_pairs cs ++ take (length pairs - from) (drop from pairs)) is ∙ ap (λ l. clash_pairs clashes ++ l) (slice_rest pairs from)

-- where the search with all pairs is spent the reasons are open, and else those that were told
spent_is : (budget : ℕ) (tree : Tree) → is_spent_verdict (verdict_of budget tree) ≡ ltb budget (failed_leaves tree)
spent_is budget tree = elim (cases_Bool (ltb budget (failed_leaves tree))) [
  | inl t ↦ rw t refl
  | inr f ↦ elim (cases_Bool (is_some (found_of tree))) [ inl s ↦ rw (f, s) refl | inr n ↦ rw (f, n) refl ]
]

pub open_reasons : (R : Repository) (budget : ℕ) (goals : List (List ℕ)) (pairs : List Pair) (v : Verdict) → pairs ≡ conflicts_reached R goals → v ≡ verdict_over R budget goals pairs → is_spent_verdict v ≡ true →
    None ≡ option_map clashes_of (reasons_of R budget goals)
open_reasons R budget goals pairs v are told spent =
    let over : ltb budget (failed_leaves (tree_over R goals pairs)) ≡ true = sym (spent_is budget (tree_over R goals pairs)) ∙ ap is_spent_verdict (sym told) ∙ spent in
    (rw over refl) ∙ ap (λ ps. option_map clashes_of (reasons_among R budget goals ps)) are

pub given_reasons : (R : Repository) (budget : ℕ) (goals : List (List ℕ)) (pairs : List Pair) (v : Verdict) (clashes : List Clash) → pairs ≡ conflicts_reached R goals → v ≡ verdict_over R budget goals pairs →
    is_spent_verdict v ≡ false → clashes ≡ clashes_of (kept_of (verdict_over R budget goals) pairs) → Some clashes ≡ option_map clashes_of (reasons_of R budget goals)
given_reasons R budget goals pairs v clashes are told spent made =
    let within : ltb budget (failed_leaves (tree_over R goals pairs)) ≡ false = sym (spent_is budget (tree_over R goals pairs)) ∙ ap is_spent_verdict (sym told) ∙ spent in
    let here_too : Some (clashes_of (kept_of (verdict_over R budget goals) pairs)) ≡ option_map clashes_of (reasons_among R budget goals pairs) = rw within refl in
    ap (λ cs. Some cs) made ∙ here_too ∙ ap (λ ps. option_map clashes_of (reasons_among R budget goals ps)) are

-- the conflicts within what was reached
pub reached_are : (R : Repository) (goals : List (List ℕ)) (flags : NumSet) (pairs : List Pair) → SoundRepository R → NeedsFit (length R.clauses) goals → IsReach R goals flags → pairs ≡ conflicts_within R flags → pairs ≡ conflicts_reached R goals
reached_are R goals flags pairs sound fit reach made = made ∙ ap (conflicts_within R) (reach_one R goals sound fit flags reach)
