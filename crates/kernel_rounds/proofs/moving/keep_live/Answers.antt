use Rattle.std.proofs.Common.{◌∙◌, ap, map, subst, sym}
use Rattle.clause_pool.specs.{Interned.{row_at}, Compacting.{RowsOf}}
use Rattle.listed.specs.Lists.{In}
use Rattle.listed.proofs.Lists.{In_append_left, In_append_right}
use Rattle.kernel_rounds.specs.Moving.{live_rows, trail_rows}
use Rattle.kernel_rounds.proofs.MovedSteps.{live_same, live_within, only_live}
use Rattle.kernel_rounds.proofs.moving.keep_live.Goals as goal

pub compact-requires : goal.compact-requires
compact-requires c =
    subst (RowsOf c.args.pool.now) (sym (c.as_slice.ensures.value ∙ c.in_ok-live.ensures))
    (live_within c.args.pool.now c.args.book.now c.args.steps.now c.requires.book c.requires.steps)

pub rename-requires : goal.rename-requires
rename-requires c = λ id i.
    c.in_ok-remap.ensures.ok.known id
    (subst (λ z. In id z) (sym (c.as_slice.ensures.value ∙ c.in_ok-live.ensures)) (In_append_left c.args.book.now.rows (trail_rows c.args.steps.now) id i))

pub rename_steps-requires : goal.rename_steps-requires
rename_steps-requires c = λ id i.
    c.in_ok-remap.ensures.ok.known id
    (subst (λ z. In id z) (sym (c.as_slice.ensures.value ∙ c.in_ok-live.ensures)) (In_append_right c.args.book.now.rows (trail_rows c.args.steps.now) id i))

pub returns-clause-only : goal.returns-clause-only
returns-clause-only c =
    let k = c.in_ok-remap.ensures.ok in
    let book = c.in_ok-moved.ensures c.args.pool.now c.compact.new.self c.as_slice.result.now k in
    let steps = c.in_ok-renamed.ensures c.args.pool.now c.compact.new.self c.as_slice.result.now k in
    only_live c.args.pool.now c.compact.new.self c.as_slice.result.now c.in_ok-remap.remap (live_rows c.in_ok-moved.moved c.in_ok-renamed.renamed) c.compact.ensures.sound k
    (live_same c.args.pool.now c.compact.new.self c.args.book.now c.in_ok-moved.moved c.args.steps.now c.in_ok-renamed.renamed book.repository steps.meaning
    ∙ sym (ap (map (row_at c.args.pool.now)) (c.as_slice.ensures.value ∙ c.in_ok-live.ensures)))
    (live_within c.compact.new.self c.in_ok-moved.moved c.in_ok-renamed.renamed (book.sound c.requires.book) (steps.sound c.requires.steps))
