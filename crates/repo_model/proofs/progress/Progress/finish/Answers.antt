use Rattle.std.proofs.{Common.{arith}, lemmas.Grind.{common_steps}}
use Rattle.repo_model.proofs.Standing.{place_first}
use Rattle.repo_model.proofs.progress.Progress.finish.Goals as goal

pub read_behind-requires-clause-place : goal.read_behind-requires-clause-place
read_behind-requires-clause-place c = place_first _ _ c.args.self.counted (grind (arith, common_steps))
