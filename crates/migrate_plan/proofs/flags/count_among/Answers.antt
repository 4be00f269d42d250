use Rattle.std.proofs.Common.{◌∙◌, Bool, List, ap, length}
use Rattle.std.specs.Prelude.{filter}
use Rattle.migrate_plan.specs.Mix.{is_taken}
use Rattle.migrate_plan.proofs.Flagged.{count_up}
use Rattle.migrate_plan.proofs.flags.count_among.Goals as goal

pub returns : goal.returns
returns c =
    c.count_raised.ensures ∙ ap (λ (flags : List Bool). length (filter (λ flag. flag) flags)) (c.deref.ensures.value ∙ c.in_ok-flags.ensures)
    ∙ count_up (λ facts. is_taken c.args.names.now facts.name) c.args.suite.now.packages
