use Rattle.std.proofs.{Common.{subst}, lemmas.Option.{same_Some}}
use Rattle.kernel_rounds.specs.Known.{AreKnownRounds}
use Rattle.migrate_plan.proofs.reuse.keep_rounds.Goals as goal

pub returns-then-is_taken : goal.returns-then-is_taken
returns-then-is_taken c = λ are known rounds is. subst AreKnownRounds (same_Some c.args.rounds rounds is) known

pub returns-else-is_none : goal.returns-else-is_none
returns-else-is_none c = λ are known. are
