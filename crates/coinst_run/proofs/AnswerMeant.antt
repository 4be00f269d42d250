-- What an answer means, by what it is made of.
use Rattle.std.proofs.{Common.{◌≡◌, ◌<◌, ◌≤◌, ℕ, Bool, true, false, cond, List, [], Option, Some, None, refl, subst}, lemmas.Bool.{ltb-false, ltb-true}}
use Rattle.std.specs.Prelude.{⊤, nat_lt}
use Rattle.search_terms.specs.Tree.{Tree, failed_leaves, found_of, log_of}
use Rattle.coinst_run.specs.{declared.answer.ReportVerdict.{ReportVerdict}, declared.answer.ReportVerdict.TheVariants.{Done, Negative, Undecided}}
use Rattle.coinst_run.specs.{Answer.{Answer, refused, reported}, Query.{by_found, by_tree}, QueryText.{no_text, undecided_text}}

-- where the answer is a report, this is what it says as a whole and in its bytes
abbrev pub AnswerMeans : (ReportVerdict → List ℕ → Type 0) → Answer → Type 0
AnswerMeans P (reported verdict printed) = P verdict printed
AnswerMeans P (refused cause line) = ⊤

-- so it is of the report that is given
pub told_means : (P : ReportVerdict → List ℕ → Type 0) (answer : Answer) (verdict : ReportVerdict) (printed : List ℕ) → answer ≡ reported verdict printed → AnswerMeans P answer → P verdict printed
told_means P answer verdict printed same m = subst (AnswerMeans P) same m

pub means_more : (P Q : ReportVerdict → List ℕ → Type 0) (answer : Answer) → ((verdict : ReportVerdict) (printed : List ℕ) → P verdict printed → Q verdict printed) → AnswerMeans P answer → AnswerMeans Q answer
means_more P Q (reported verdict printed) f m = f verdict printed m
means_more P Q (refused cause line) f m = tt

-- an answer by a tree
pub tree_means : (P : ReportVerdict → List ℕ → Type 0) (shown : List Bool → List ℕ) (budget : ℕ) (tree : Tree) → (failed_leaves tree ≤ budget → (chosen : List Bool) → found_of tree ≡ Some chosen → P Done (shown chosen)) →
    (failed_leaves tree ≤ budget → found_of tree ≡ None → P Negative (no_text (log_of [] tree))) → (budget < failed_leaves tree → P Undecided (undecided_text budget)) → AnswerMeans P (by_tree shown budget tree)
tree_means P shown budget tree found none spent = by (nat_lt budget (failed_leaves tree)) refl (found_of tree) refl
  where
    by : (b : Bool) → nat_lt budget (failed_leaves tree) ≡ b → (chosen : Option (List Bool)) → found_of tree ≡ chosen → AnswerMeans P (cond b (reported Undecided (undecided_text budget)) (by_found shown tree chosen))
    by true past chosen is = spent (ltb-true budget (failed_leaves tree) past)
    by false past (Some chosen) is = found (ltb-false budget (failed_leaves tree) past) chosen is
    by false past None is = none (ltb-false budget (failed_leaves tree) past) is
