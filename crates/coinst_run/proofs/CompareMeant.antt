-- What the report of a comparison means.
use Rattle.std.proofs.Common.{◌≡◌, Bool, true, false, not, List, [], ◌∷◌, ap, refl, subst, ◌∙◌}
use Rattle.std.specs.{Prelude.{if◌then◌else◌, filter, length}, List.{list_any}}
use Rattle.suite_compare.specs.{Asking.{verdict_in}, declared.report.ReportLine.{ReportLine}}
use Rattle.suite_compare.specs.{declared.report.ReportLine.TheVariants.{Broken1, Broken2, Open1, Open2}, Refusals.{home_in, packages_in}}
use Rattle.suite_compare.specs.{Indexes.{Judged, SearchedIndex, searched}, Listing.{HasNoOpenLine, ListsExactly, is_broken, says_open}}
use Rattle.suite_compare.proofs.{Deciding.{verdict_is_judged}, Exact.{report_lists_exactly}, Lost.{empty_list_loses_nothing, without_open_lines}}
use Rattle.coinst_run.proofs.{Prints.{exact_lists_print_exactly, lines_are_cut}, AnswerMeant.{told_means}, Given.{at_end, kernel_read}}
use Rattle.listed.specs.Lists.{In}
use Rattle.listed.proofs.Lists.{In_none, filter_from}
use Rattle.coinst_run.specs.declared.answer.ReportVerdict.TheVariants.{Done, Negative, Undecided}
use Rattle.coinst_run.specs.{Compare.{broken_lines, compare_answer, lines_answer, newer_course}, CompareMeaning.{CompareIsMeant, CompareMeans}}
use Rattle.coinst_run.specs.{CompareText.{comparison_verdict}, Index.{index_in}}

-- nothing is told where the run is done
open_not_done : (b : Bool) → (if b then Negative else (if true then Undecided else Done)) ≡ Done → ⊥
open_not_done true e = let k : ⊥ = cc in k
open_not_done false e = let k : ⊥ = cc in k

done_is_empty : (lines : List ReportLine) → comparison_verdict lines ≡ Done → lines ≡ []
done_is_empty [] e = refl
done_is_empty (Broken1 name ∷ rest) e = absurd (let k : ⊥ = cc in k)
done_is_empty (Broken2 first second ∷ rest) e = absurd (let k : ⊥ = cc in k)
done_is_empty (Open1 name ∷ rest) e = absurd (open_not_done (list_any is_broken rest) e)
done_is_empty (Open2 first second ∷ rest) e = absurd (open_not_done (list_any is_broken rest) e)

-- where no line is counted as open, none is open
none_open : (lines : List ReportLine) → length (filter says_open lines) ≡ 0 → HasNoOpenLine lines
none_open lines zero =
    λ line i. go line (says_open line) refl (none_among lines zero line i)
  where
    go : (line : ReportLine) (b : Bool) → says_open line ≡ b → (says_open line ≡ true → ⊥) → says_open line ≡ false
    go line true e none = absurd (none e)
    go line false e none = e

    no_items : (xs : List ReportLine) → length xs ≡ 0 → xs ≡ []
    no_items [] e = refl
    no_items (x ∷ xs) e = absurd (let k : ⊥ = cc in k)

    none_among : (lines : List ReportLine) → length (filter says_open lines) ≡ 0 → (line : ReportLine) → In line lines → says_open line ≡ true → ⊥
    none_among lines zero line i up = In_none (subst (In line) (no_items (filter says_open lines) zero) (filter_from says_open lines line i up))

pub compare_is_meant : CompareIsMeant
unfolding broken_lines
compare_is_meant old new budget limit hold readings verdict printed e =
    let first = kernel_read verdict printed old limit hold (newer_course new budget limit hold) readings e in
    let second = kernel_read verdict printed new limit hold (compare_answer budget limit hold (index_in first.0)) first.1 first.4 in
    let lines : List ReportLine = broken_lines budget limit hold (index_in first.0) (index_in second.0) in
    let end = at_end verdict printed (lines_answer lines) second.1 second.4 in
    let older : SearchedIndex = searched first.0 budget limit hold in
    let newer : SearchedIndex = searched second.0 budget limit hold in
    let exact : ListsExactly Judged older newer lines = report_lists_exactly older newer (verdict_in limit hold (home_in first.0) (packages_in first.0) budget) (verdict_in limit hold (home_in second.0) (packages_in second.0) budget)
    (λ goals. verdict_is_judged limit hold (home_in first.0) (packages_in first.0) budget goals) (λ goals. verdict_is_judged limit hold (home_in second.0) (packages_in second.0) budget goals) in (
      first.0,
      second.0,
      first.2 ∙ ap (λ rest. (old, first.0) ∷ rest) (second.2 ∙ ap (λ rest. (new, second.0) ∷ rest) end.0),
      told_means (CompareMeans first.0 second.0 budget limit hold) (lines_answer lines) verdict printed end.1 record {
        old_accepted = first.3;
        new_accepted = second.3;
        prints = exact_lists_print_exactly first.0 budget limit hold newer first.3 lines exact;
        lines = lines;
        exact = exact;
        cut = lines_are_cut first.0 budget limit hold newer first.3 lines exact;
        losses = λ zero. without_open_lines older newer lines exact (none_open lines zero);
        nothing_lost = λ done. empty_list_loses_nothing older newer (subst (ListsExactly Judged older newer) (done_is_empty lines done) exact);
        reads = refl;
        whole = refl;
      },
    )
