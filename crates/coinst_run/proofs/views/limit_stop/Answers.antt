use Rattle.std.proofs.Common.{◌++◌, ap, ◌∙◌}
use Rattle.row_book.specs.Rounds.{PassedRound}
use Rattle.coinst_run.specs.{declared.answer.Cause.TheVariants.{ClauseLimit}, Answer.{refused}, Ending.{stop_ending}, Kernel.{kernel_of}}
use Rattle.coinst_run.specs.Lines.{about, row_text, stage_text}
use Rattle.coinst_run.proofs.{Follows.{stops_at}, Kernels.{passed_told}}
use Rattle.coinst_run.proofs.views.limit_stop.Goals as goal

pub returns-in_ok-push_row-in-Limit : goal.returns-in_ok-push_row-in-Limit
returns-in_ok-push_row-in-Limit c = λ index hold w.
    let passed : PassedRound = record { number = c.in-Limit.round; gone = c.in-Limit.gone; over = c.in-Limit.package; count = c.in-Limit.count } in
    let words = c.push_row.new.out.items in
    stops_at (kernel_of c.args.path.now c.args.limit hold index) (refused ClauseLimit (about c.args.path.now words)) (stop_ending c.refused.result)
    (passed_told c.args.path.now c.args.limit hold index passed c.in-Limit.name c.in-Limit.version words (rw c.in-Limit.is at w)
    (rw (c.as_slice.ensures, c.as_slice-in-Limit.ensures) at c.in_ok-push_row-in-Limit.ensures ∙ ap (λ t. t ++ row_text c.in-Limit.name c.in-Limit.version c.in-Limit.count) (rw (c.from.ensures, c.from-in-Limit.ensures, c.from-in-Limit-2.ensures) at (c.in_ok-push_stage-in-Limit.ensures ∙ ap (λ t. t ++ stage_text c.from.result c.from-in-Limit.result c.from-in-Limit-2.result) c.new-words.ensures.items))))
    (c.refused.ensures (about c.args.path.now words) (rw c.as_slice-in-Limit-2.ensures.value at c.line_about-line.ensures))
