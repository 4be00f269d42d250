-- The two sentences, from what a report means.
use Rattle.std.proofs.Common.{◌≡◌, ℕ, Bool, true, false, cond, List, [], ◌++◌, Option, Some, None, filter, length, refl, sym, ap, subst, ◌∙◌, append_assoc}
use Rattle.std.proofs.lemmas.List.{append-nil}
use Rattle.std.specs.{Prelude.{codes, unwrap_or}, Fmt.{decimal}, List.{flat_map, list_any}}
use Rattle.byte_flow.specs.History.{OpenedFile}
use Rattle.coinst_words.specs.{Jobs.{job_of}, declared.job.Job.TheVariants.{Kernel, Compare}}
use Rattle.suite_compare.specs.{Indexes.{searched}, Listing.{is_broken, says_open}, Refusals.{home_in, packages_in}, declared.report.ReportLine.{ReportLine}}
use Rattle.suite_compare.specs.declared.report.ReportLine.TheVariants.{Broken1, Broken2, Open1, Open2}
use Rattle.kernel_text.specs.{KernelText.{format_of}, declared.member.Member.{Member}}
use Rattle.listed.specs.Lists.{In}
use Rattle.repo_model.proofs.Accepted.{accepted}
use Rattle.claims.specs.{Classes.{IsOneOf}, Printed.{comparison_status, printed_comparison, printed_line}, Sentences.{CompareIsTrue, KernelIsTrue}}
use Rattle.claims.specs.Laws.{as_read}
use Rattle.claims.proofs.{PrintedKernels.{people}, CompareSentence.{comparisons_mean_this}, KernelSentence.{kernels_mean_this}}
use Rattle.claims.proofs.Words.{compare_words_ask, kernel_words_ask}
use Rattle.coinst_run.specs.{IndexKernel.{classed_kernel, index_kernel}, CompareText.{comparison_line, comparison_text, comparison_verdict, end_text}}
use Rattle.coinst_run.specs.{CompareMeaning.{CompareMeans}, KernelMeaning.{KernelMeans}, Lines.{line_of_text}, Meaning.{IsMeant, MeansJob}}
use Rattle.coinst_run.specs.{Status.{code_of, verdict_status}, declared.answer.ReportVerdict.{ReportVerdict}}
use Rattle.coinst_run.specs.declared.answer.ReportVerdict.TheVariants.{Done, Negative, Undecided}
use Rattle.listed.proofs.Lists.{flat_same}

-- each member is a stanza
people_of : (text : List ℕ) (limit : ℕ) (hold : Bool) (printed : List ℕ) (k : KernelMeans text limit hold printed) → (m : Member) → In m k.members → IsOneOf (packages_in text) m
unfolding index_kernel classed_kernel
people_of text limit hold printed k m i = people limit hold (home_in text) (packages_in text) (accepted text k.accepted) m (subst (λ ms. In m ms) k.people i)

pub kernel_is_true : (words : List (List ℕ)) (readings : List OpenedFile) (verdict : ReportVerdict) (printed : List ℕ) → IsMeant words readings verdict printed → KernelIsTrue words readings (code_of (verdict_status verdict)) printed
kernel_is_true words readings verdict printed m limit hold path low is =
    let job : m.job ≡ Kernel path false (unwrap_or limit 65536) hold = kernel_words_ask limit hold path m.job low (ap job_of (sym is) ∙ m.asked) in
    let means : MeansJob (Kernel path false (unwrap_or limit 65536) hold) readings verdict printed = subst (λ j. MeansJob j readings verdict printed) job m.means in
    let k : KernelMeans means.0 (unwrap_or limit 65536) hold printed = means.3 in (
      means.0,
      means.1,
      ap (λ v. code_of (verdict_status v)) means.2,
      kernels_mean_this means.0 printed (format_of hold) k.repository k.members k.held k.accepted k.reads (people_of means.0 (unwrap_or limit 65536) hold printed k) k.stands k.keeps,
    )

-- the lines in both spellings
one_name : (word name : List ℕ) → word ++ (codes " " ++ name) ≡ word ++ ((codes " " ++ name) ++ [])
one_name word name = ap (λ t. word ++ t) (sym (append-nil (codes " " ++ name)))

two_names : (word first second : List ℕ) → word ++ (codes " " ++ (first ++ (codes " " ++ second))) ≡ word ++ ((codes " " ++ first) ++ ((codes " " ++ second) ++ []))
two_names word first second = ap (λ t. word ++ (codes " " ++ (first ++ t))) (sym (append-nil (codes " " ++ second)))

pub same_line : (l : ReportLine) → comparison_line l ≡ printed_line l
same_line (Broken1 a) = ap line_of_text (one_name (codes "broken") a)
same_line (Broken2 a b) = ap (λ t. line_of_text (codes "broken" ++ (codes " " ++ t))) (append_assoc a (codes " ") b) ∙ ap line_of_text (two_names (codes "broken") a b)
same_line (Open1 a) = ap line_of_text (one_name (codes "open") a)
same_line (Open2 a b) = ap (λ t. line_of_text (codes "open" ++ (codes " " ++ t))) (append_assoc a (codes " ") b) ∙ ap line_of_text (two_names (codes "open") a b)

same_text : (lines : List ReportLine) → comparison_text lines ≡ printed_comparison lines
unfolding comparison_text end_text printed_comparison
same_text lines =
    let broken : List ℕ = decimal (length (filter is_broken lines)) in
    let undecided : List ℕ = decimal (length (filter says_open lines)) in
    ap (λ t. t ++ end_text lines) (flat_same comparison_line printed_line lines (λ l i. same_line l))
    ∙ ap (λ t. flat_map printed_line lines ++ line_of_text (codes "end " ++ t)) (append_assoc broken (codes " ") undecided)

-- the status of a list in both spellings
comparison_ends : (lines : List ReportLine) → code_of (verdict_status (comparison_verdict lines)) ≡ comparison_status lines
comparison_ends lines = by (list_any is_broken lines) (list_any says_open lines)
  where
    by : (a b : Bool) → code_of (verdict_status (cond a Negative (cond b Undecided Done))) ≡ cond a 1 (cond b 8 0)
    by true b = refl
    by false true = refl
    by false false = refl

pub compare_is_true : (words : List (List ℕ)) (readings : List OpenedFile) (verdict : ReportVerdict) (printed : List ℕ) → IsMeant words readings verdict printed → CompareIsTrue words readings (code_of (verdict_status verdict)) printed
compare_is_true words readings verdict printed m budget limit hold first second low small is =
    let b : ℕ = unwrap_or budget 10000 in
    let n : ℕ = unwrap_or limit 65536 in
    let job : m.job ≡ Compare first second b n hold = compare_words_ask budget limit hold first second m.job low small (ap job_of (sym is) ∙ m.asked) in
    let means : MeansJob (Compare first second b n hold) readings verdict printed = subst (λ j. MeansJob j readings verdict printed) job m.means in
    let k : CompareMeans means.0 means.1 b n hold verdict printed = means.3 in (
      (searched means.0 b n hold),
      (searched means.1 b n hold),
      means.2,
      (refl, refl, refl),
      (refl, refl, refl),
      (
        k.lines,
        comparisons_mean_this (searched means.0 b n hold) (searched means.1 b n hold) k.lines k.old_accepted k.new_accepted k.exact,
        k.reads ∙ same_text k.lines,
        ap (λ v. code_of (verdict_status v)) k.whole ∙ comparison_ends k.lines,
      ),
    )
