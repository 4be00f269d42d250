use Rattle.search_terms.specs.Marks.{is_marked, IsForced}
use Rattle.search_terms.proofs.Sets.{forced_right, weaker_if_some}
use Rattle.refutation_check.proofs.flags.forced_by_either.Goals as goal

pub returns-in-None-clause-some : goal.returns-in-None-clause-some
returns-in-None-clause-some c =
    weaker_if_some c.forced-in-None.result (IsForced c.args.second.now (is_marked c.args.flags.now)) _
    (forced_right c.args.first.now c.args.second.now (is_marked c.args.flags.now)) c.forced-in-None.ensures.some
