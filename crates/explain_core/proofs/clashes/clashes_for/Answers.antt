use Rattle.std.proofs.Common.{◌∙◌, length, sym, ap, subst}
use Rattle.row_book.specs.{Book.{repository_of, PairsFit}, Flags.{flag}, Needs.{NeedsFit}, Sound.{SoundRepository}}
use Rattle.row_book.proofs.BookRepositories.{book_size}
use Rattle.explain_core.specs.{Reach.{IsReach}, Reasons.{clashes_of, verdict_over}, Deletion.{kept_of}}
use Rattle.explain_core.proofs.{ClashLoop.{given_reasons, open_reasons, reached_are}, Withins.{within_fit}}
use Rattle.suite_compare.proofs.SuiteKernels.{suite_sound}
use Rattle.explain_core.proofs.clashes.clashes_for.Goals as goal

pub verdict_over-requires-clause-pairs : goal.verdict_over-requires-clause-pairs
verdict_over-requires-clause-pairs c =
    let v = c.args.view.now in
    let sound : SoundRepository (repository_of v.pool v.book) = subst SoundRepository (sym v.of_suite.book_is.repository) (suite_sound v.suite.home v.suite.packages) in
    subst (λ n. PairsFit c.as_slice-2.result.now n) (book_size v.pool v.book)
    (subst (λ ps. PairsFit ps (length (repository_of v.pool v.book).clauses)) (sym (c.as_slice-2.ensures.value ∙ c.in_ok-pairs.ensures)) (within_fit (repository_of v.pool v.book) sound (flag c.as_slice.result.now)))

pub reasons_among-requires-clause-pairs : goal.reasons_among-requires-clause-pairs
reasons_among-requires-clause-pairs c =
    let v = c.args.view.now in
    let sound : SoundRepository (repository_of v.pool v.book) = subst SoundRepository (sym v.of_suite.book_is.repository) (suite_sound v.suite.home v.suite.packages) in
    subst (λ n. PairsFit c.as_slice-3.result.now n) (book_size v.pool v.book)
    (subst (λ ps. PairsFit ps (length (repository_of v.pool v.book).clauses)) (sym (c.as_slice-3.ensures.value ∙ c.in_ok-pairs.ensures)) (within_fit (repository_of v.pool v.book) sound (flag c.as_slice.result.now)))

pub returns-then-is_spent_verdict : goal.returns-then-is_spent_verdict
returns-then-is_spent_verdict c =
    let v = c.args.view.now in
    let sound : SoundRepository (repository_of v.pool v.book) = subst SoundRepository (sym v.of_suite.book_is.repository) (suite_sound v.suite.home v.suite.packages) in
    open_reasons (repository_of v.pool v.book) c.args.budget c.args.goals.now c.as_slice-2.result.now c.in_ok-verdict.verdict
    (reached_are (repository_of v.pool v.book) c.args.goals.now (flag c.as_slice.result.now) c.as_slice-2.result.now sound (subst (λ n. NeedsFit n c.args.goals.now) (sym (book_size v.pool v.book)) c.requires.goals)
    (subst (λ fs. IsReach (repository_of v.pool v.book) c.args.goals.now (flag fs)) (sym c.as_slice.ensures.value) c.in_ok-reach.ensures) (c.as_slice-2.ensures.value ∙ c.in_ok-pairs.ensures))
    c.in_ok-verdict.ensures (sym c.is_spent_verdict.ensures ∙ c.if-is_spent_verdict.true)

pub returns : goal.returns
returns c =
    let v = c.args.view.now in
    let sound : SoundRepository (repository_of v.pool v.book) = subst SoundRepository (sym v.of_suite.book_is.repository) (suite_sound v.suite.home v.suite.packages) in
    given_reasons (repository_of v.pool v.book) c.args.budget c.args.goals.now c.as_slice-2.result.now c.in_ok-verdict.verdict c.in_ok-clashes.clashes
    (reached_are (repository_of v.pool v.book) c.args.goals.now (flag c.as_slice.result.now) c.as_slice-2.result.now sound (subst (λ n. NeedsFit n c.args.goals.now) (sym (book_size v.pool v.book)) c.requires.goals)
    (subst (λ fs. IsReach (repository_of v.pool v.book) c.args.goals.now (flag fs)) (sym c.as_slice.ensures.value) c.in_ok-reach.ensures) (c.as_slice-2.ensures.value ∙ c.in_ok-pairs.ensures))
    c.in_ok-verdict.ensures (sym c.is_spent_verdict.ensures ∙ c.if-is_spent_verdict.false)
    (c.in_ok-clashes.ensures ∙ ap (λ ps. clashes_of (kept_of (verdict_over (repository_of v.pool v.book) c.args.budget c.args.goals.now) ps)) (c.as_slice-3.ensures.value ∙ sym c.as_slice-2.ensures.value))
