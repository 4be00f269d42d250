use Rattle.std.{proofs.Common.{ap}, specs.Option.{option_map_or}}
use Rattle.clause_solver.specs.declared.outcomes.Verdict.TheVariants.{Yes}
use Rattle.suite_compare.proofs.verdicts.entered.Goals as goal

pub returns-in-Some : goal.returns-in-Some
returns-in-Some c = ap (λ o. option_map_or (λ b. b.verdict) o Yes) c.in-Some.ensures

pub returns-in-None : goal.returns-in-None
returns-in-None c = ap (λ o. option_map_or (λ b. b.verdict) o Yes) c.in-None.ensures
