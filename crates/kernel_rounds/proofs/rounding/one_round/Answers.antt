use Rattle.std.proofs.Common.{◌∙◌, ◌++◌, not, ap, subst, sym}
use Rattle.std.specs.Prelude.{if◌then◌else◌, []}
use Rattle.row_book.specs.{Book.{repository_of}, Rounds.{round_steps}, Trail.{trail_meaning, SoundSteps}}
use Rattle.row_book.proofs.Books.{repository_kept, sound_kept}
use Rattle.kernel_rounds.proofs.Midways.{changes_told, round_changes, sound_step, told_kept, AreTold}
use Rattle.kernel_rounds.proofs.rounding.one_round.Goals as goal
use Rattle.kernel_rounds.proofs.rounding.one_round.Goals.{In_ok-told}

next : (c : In_ok-told) → AreTold c.reduce.new.pool c.in_ok-told.told
    (trail_meaning c.args.pool.now c.args.past.steps ++ (if (not c.same_books-changed.result) then round_steps c.args.limit c.args.hold (repository_of c.args.pool.now c.args.book) else []))
next c =
    let old = c.args.pool.now in
    let new = c.reduce.new.pool in
    let is = c.requires.sound.rows.is_pool in
    changes_told c.args.limit c.args.hold (repository_of old c.args.book) new new c.args.book c.args.past.steps c.in_ok-told.told (trail_meaning old c.args.past.steps) c.in_ok-made.made (not c.same_books-changed.result)
    (record { meaning = told_kept old new is c.reduce.ensures.kept c.args.past.steps c.requires.past; sound = λ step i. sound_step old new is c.reduce.ensures.kept step (c.requires.past step i) })
    c.in_ok-made.ensures.reduced (repository_kept old new is c.reduce.ensures.kept c.args.book c.requires.sound) (sound_kept old new is c.reduce.ensures.kept c.args.book c.requires.sound) c.in_ok-told.ensures

pub same_books-changed-requires-clause-first : goal.same_books-changed-requires-clause-first
same_books-changed-requires-clause-first c = sound_kept c.args.pool.now c.reduce.new.pool c.requires.sound.rows.is_pool c.reduce.ensures.kept c.args.book c.requires.sound

pub keep_live-requires-clause-steps : goal.keep_live-requires-clause-steps
keep_live-requires-clause-steps c = subst (SoundSteps c.reduce.new.pool) (sym c.as_slice.ensures) (next (goal.at.keep_live-requires-clause-steps c).In_ok-told).sound

pub returns-clause-changed : goal.returns-clause-changed
returns-clause-changed c =
    round_changes c.args.limit c.args.hold c.args.pool.now c.reduce.new.pool c.args.book c.in_ok-made.made.book c.same_books-changed.result c.requires.sound.rows.is_pool c.reduce.ensures.kept c.requires.sound
    c.in_ok-made.ensures.reduced.is c.same_books-changed.ensures

pub returns-clause-trail : goal.returns-clause-trail
returns-clause-trail c = c.in_ok-kept.ensures.steps.meaning ∙ ap (trail_meaning c.reduce.new.pool) c.as_slice.ensures ∙ (next (goal.at.returns-clause-trail c).In_ok-told).meaning

pub returns-clause-books : goal.returns-clause-books
returns-clause-books c = c.in_ok-kept.ensures.steps.sound (subst (SoundSteps c.reduce.new.pool) (sym c.as_slice.ensures) (next (goal.at.returns-clause-books c).In_ok-told).sound)
