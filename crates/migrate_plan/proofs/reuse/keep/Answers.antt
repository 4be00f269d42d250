use Rattle.std.proofs.Common.{subst}
use Rattle.migrate_plan.specs.BothSuites.{HasMixRows, KnowsRounds}
use Rattle.migrate_plan.proofs.reuse.keep.Goals as goal

pub follow-requires : goal.follow-requires
follow-requires c = rw c.in-Beside.is at c.requires

pub returns-in_default-clause-reuse : goal.returns-in_default-clause-reuse
returns-in_default-clause-reuse c = λ both is known rows. is

pub returns-then-is_taken-clause-reuse : goal.returns-then-is_taken-clause-reuse
returns-then-is_taken-clause-reuse c = λ both is known rows. record {
  base_is = c.follow.ensures both is.base_is (subst (HasMixRows both c.args.reuse.now.base c.args.flags.items) c.in-Beside.is rows);
  known_are = is.known_are;
  rounds_are = c.keep_rounds.ensures is.rounds_are (subst KnowsRounds c.in-Beside.is known);
}

pub returns-else-is_taken-clause-reuse : goal.returns-else-is_taken-clause-reuse
returns-else-is_taken-clause-reuse c = λ both is known rows. record {
  base_is = is.base_is;
  known_are = is.known_are;
  rounds_are = c.keep_rounds.ensures is.rounds_are (subst KnowsRounds c.in-Beside.is known);
}
