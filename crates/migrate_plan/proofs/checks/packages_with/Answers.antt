use Rattle.std.proofs.Common.{◌+◌, ap₂, arith}
use Rattle.listed.proofs.Lists.{filter_short}
use Rattle.migrate_plan.specs.Mix.{is_taken}
use Rattle.migrate_plan.proofs.checks.packages_with.Goals as goal

pub overflow_add-count : goal.overflow_add-count
overflow_add-count c = omega (arith, c.count.ensures, c.in_ok-found.ensures, filter_short (λ facts. is_taken c.args.names.now facts.name) c.args.new.now.packages, c.args.old.now.few, c.args.new.now.few)

pub returns : goal.returns
returns c = ap₂ (λ m n. m + n) c.count.ensures c.in_ok-found.ensures
