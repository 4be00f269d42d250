use Rattle.std.proofs.{Common.{sym, ap, subst, ◌∙◌}, lemmas.List.{length-map}}
use Rattle.clause_pool.specs.Interned.{row_at}
use Rattle.clause_solver.specs.Outcomes.{IsSearchOutcome}
use Rattle.row_book.specs.{Book.{repository_of}, Needs.{NeedsFit}}
use Rattle.coinst_run.specs.{declared.answer.ReportVerdict.TheVariants.{Done, Negative, Undecided}, Answer.{reported}, Course.{answers}}
use Rattle.coinst_run.specs.StoredQuery.{classes_text}
use Rattle.coinst_run.proofs.StoredKernels.{found_told, refuted_told, spent_told}
use Rattle.coinst_run.proofs.stored_query.tree_report.Goals as goal

pub returns-in_ok-classes_text-in-Found : goal.returns-in_ok-classes_text-in-Found
returns-in_ok-classes_text-in-Found c =
    let R = repository_of c.args.pool.now c.args.book.now in
    let fit = subst (λ n. NeedsFit n c.args.needs.now) (sym (length-map c.args.book.now.rows (row_at c.args.pool.now))) c.requires.fit in
    rw c.of.ensures (ap answers
    (found_told R c.args.needs.now c.requires.repository fit c.args.budget c.in-Found.chosen (subst (IsSearchOutcome R c.args.needs.now c.args.budget) c.in-Found.is c.in_ok-chosen.ensures.tree)
    ∙ ap (reported Done) (sym (c.in_ok-classes_text-in-Found.ensures ∙ ap classes_text c.as_slice.ensures))))

pub returns-in_ok-no_text-in-Refuted : goal.returns-in_ok-no_text-in-Refuted
returns-in_ok-no_text-in-Refuted c =
    let R = repository_of c.args.pool.now c.args.book.now in
    let fit = subst (λ n. NeedsFit n c.args.needs.now) (sym (length-map c.args.book.now.rows (row_at c.args.pool.now))) c.requires.fit in
    rw c.of-in-Refuted.ensures (ap answers
    (refuted_told R c.args.needs.now c.requires.repository fit c.args.budget c.in-Refuted.log (subst (IsSearchOutcome R c.args.needs.now c.args.budget) c.in-Refuted.is c.in_ok-chosen.ensures.tree)
    ∙ ap (reported Negative) (sym c.in_ok-no_text-in-Refuted.ensures)))

pub returns-in_ok-undecided_text-in-Spent : goal.returns-in_ok-undecided_text-in-Spent
returns-in_ok-undecided_text-in-Spent c =
    let R = repository_of c.args.pool.now c.args.book.now in
    let fit = subst (λ n. NeedsFit n c.args.needs.now) (sym (length-map c.args.book.now.rows (row_at c.args.pool.now))) c.requires.fit in
    rw c.of-in-Spent.ensures (ap answers
    (spent_told R c.args.needs.now c.requires.repository fit c.args.budget c.in-Spent.failed (subst (IsSearchOutcome R c.args.needs.now c.args.budget) c.in-Spent.is c.in_ok-chosen.ensures.tree)
    ∙ ap (reported Undecided) (sym c.in_ok-undecided_text-in-Spent.ensures)))
