use Rattle.std.proofs.Common.{◌∙◌, ap, map}
use Rattle.std.specs.Prelude.{not}
use Rattle.migrate_plan.specs.Mix.{is_taken}
use Rattle.migrate_plan.proofs.Flagged.{map_not}
use Rattle.migrate_plan.proofs.flags.left_flags.Goals as goal

pub returns : goal.returns
returns c = c.in_ok-left.ensures ∙ ap (map not) (c.deref.ensures.value ∙ c.in_ok-taken.ensures) ∙ map_not (λ facts. is_taken c.args.taken.now facts.name) c.args.suite.now.packages
