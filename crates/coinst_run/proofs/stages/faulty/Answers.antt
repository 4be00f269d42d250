use Rattle.std.proofs.Common.{rules}
use Rattle.coinst_run.specs.{Answer.{refused}, Ending.{stop_ending}, Index.{by_fault}, Lines.{fault_line}}
use Rattle.coinst_run.proofs.{Follows.{stops_at}, Kernels.{index_faulty}}
use Rattle.coinst_run.proofs.stages.faulty.Goals as goal

pub returns : goal.returns
returns c = λ text there refuses.
    let line = fault_line c.args.path.now c.args.fault in
    stops_at (by_fault c.args.path.now text there) (refused c.fault_cause.result line) (stop_ending c.refused.result)
    (index_faulty c.args.fault c.args.path.now text there c.fault_cause.result refuses (search rules) c.fault_cause.ensures) (c.refused.ensures line c.fault_line.ensures)
