use Rattle.std.proofs.Common.{◌≡◌, ◌<◌, ◌∙◌, arith, ap, length, subst, sym, Some}
use Rattle.clause_pool.proofs.Interned.{kept_along}
use Rattle.row_book.specs.{Book.{repository_of}, Repository.{Repository}, Rounds.{limit_at, round, round_count}}
use Rattle.row_book.proofs.{Books.{repository_kept, sound_kept}, BookRepositories.{book_size, sound_repository}}
use Rattle.kernel_rounds.specs.Extracting.{refusal, OnRoundLimit}
use Rattle.kernel_rounds.proofs.Midways.{falls, midway_refused, midway_size, told_other, told_same}
use Rattle.kernel_rounds.proofs.extraction.rounds.Goals as goal
use Rattle.kernel_rounds.proofs.extraction.rounds.Goals.{In_ok-now-2}

other : (c : In_ok-now-2) → round c.args.limit c.args.hold (repository_of c.loop-made.work c.loop-made.now.book) ≡ repository_of c.loop-made.work c.loop-made.now.book → ⊥
other c =
    let sound = c.loop-made.invariant.sound in
    told_other c.args.limit c.args.hold c.loop-made.work c.reduce.new.pool c.loop-made.now.book c.in-Ok.made.book sound.rows.is_pool c.reduce.ensures.kept sound c.in-Ok.ensures.reduced.is
    (sym c.same_books.ensures ∙ c.if-same_books.false)

pub round_error-requires : goal.round_error-requires
round_error-requires c =
    let R : Repository = repository_of c.args.into.now c.args.book.now in
    let a : length c.loop-made.now.class_of.items ≡ length R.clauses = midway_size c.args.limit c.args.hold R c.args.into.now c.loop-made.into c.loop-made.work c.loop-made.now c.loop-made.invariant in
    let b : length R.clauses ≡ length c.args.book.now.rows = book_size c.args.into.now c.args.book.now in
    let d : length c.args.book.now.rows < 4294967295 = c.args.book.now.few in
    let e : length c.as_slice.result.now ≡ length c.loop-made.now.class_of.items = ap length c.as_slice.ensures.value in
    omega (arith, a, b, d, e)

pub returns-in-Err-clause-passed : goal.returns-in-Err-clause-passed
returns-in-Err-clause-passed c =
    let R : Repository = repository_of c.args.into.now c.args.book.now in
    subst (OnRoundLimit (λ passed. limit_at c.args.limit c.args.hold R ≡ Some passed)) (sym (c.round_error.ensures ∙ ap (λ z. refusal c.loop-made.now.number z c.in-Err.fault) c.as_slice.ensures.value))
    (midway_refused c.args.limit c.args.hold R c.args.into.now c.loop-made.into c.loop-made.work c.loop-made.now c.in-Err.fault
    (sound_repository c.args.into.now c.args.book.now c.requires.sound.rows.is_pool c.requires.sound) c.loop-made.invariant c.in-Err.ensures.passed)

pub same_books-requires-clause-first : goal.same_books-requires-clause-first
same_books-requires-clause-first c =
    let sound = c.loop-made.invariant.sound in
    sound_kept c.loop-made.work c.reduce.new.pool sound.rows.is_pool c.reduce.ensures.kept c.loop-made.now.book sound

pub returns-in_err-kernel-clause-kept : goal.returns-in_err-kernel-clause-kept
returns-in_err-kernel-clause-kept c = kept_along c.args.into.now c.loop-made.into c.finish.new.into c.loop-made.invariant.steps.kept c.finish.ensures.kept

pub returns-then-same_books-clause-kernel : goal.returns-then-same_books-clause-kernel
returns-then-same_books-clause-kernel c =
    let sound = c.loop-made.invariant.sound in
    c.in_ok-kernel.ensures.kernel (repository_of c.args.into.now c.args.book.now) c.args.limit c.args.into.now c.loop-made.work
    (sound_repository c.args.into.now c.args.book.now c.requires.sound.rows.is_pool c.requires.sound) c.loop-made.invariant c.in-Ok.ensures.reduced
    (told_same c.args.limit c.args.hold c.loop-made.work c.reduce.new.pool c.loop-made.now.book c.in-Ok.made.book sound.rows.is_pool c.reduce.ensures.kept sound c.in-Ok.ensures.reduced.is
    (sym c.same_books.ensures ∙ c.if-same_books.true))

pub returns-then-same_books-clause-only : goal.returns-then-same_books-clause-only
returns-then-same_books-clause-only c =
    c.in_ok-kernel.ensures.only (repository_of c.args.into.now c.args.book.now) c.args.limit c.args.into.now c.loop-made.work c.loop-made.invariant

pub returns-then-same_books-clause-kept : goal.returns-then-same_books-clause-kept
returns-then-same_books-clause-kept c = kept_along c.args.into.now c.loop-made.into c.finish.new.into c.loop-made.invariant.steps.kept c.finish.ensures.kept

pub go_on-requires-clause-before : goal.go_on-requires-clause-before
go_on-requires-clause-before c =
    let sound = c.loop-made.invariant.sound in
    sound_kept c.loop-made.work c.reduce.new.pool sound.rows.is_pool c.reduce.ensures.kept c.loop-made.now.book sound

pub returns-in_err-now-2-clause-kept : goal.returns-in_err-now-2-clause-kept
returns-in_err-now-2-clause-kept c = kept_along c.args.into.now c.loop-made.into c.go_on.new.into c.loop-made.invariant.steps.kept c.go_on.ensures.kept

pub loop-made-smaller : goal.loop-made-smaller
loop-made-smaller c =
    let sound = c.loop-made.invariant.sound in
    let before : Repository = repository_of c.loop-made.work c.loop-made.now.book in
    subst (λ z. round_count c.args.limit c.args.hold z < round_count c.args.limit c.args.hold before) (sym (c.in_ok-now-2.ensures.book ∙ c.in-Ok.ensures.reduced.is))
    (falls c.args.limit c.args.hold before (sound_repository c.loop-made.work c.loop-made.now.book sound.rows.is_pool sound) (other (goal.at.loop-made-smaller c).In_ok-now-2))

pub loop-made-preserved : goal.loop-made-preserved
loop-made-preserved c =
    let sound = c.loop-made.invariant.sound in
    c.in_ok-now-2.ensures.next (repository_of c.args.into.now c.args.book.now) c.args.limit c.args.hold c.args.into.now c.loop-made.work
    (sound_repository c.args.into.now c.args.book.now c.requires.sound.rows.is_pool c.requires.sound) c.loop-made.invariant
    (repository_kept c.loop-made.work c.reduce.new.pool sound.rows.is_pool c.reduce.ensures.kept c.loop-made.now.book sound) c.in-Ok.ensures.reduced (other (goal.at.loop-made-preserved c).In_ok-now-2)
