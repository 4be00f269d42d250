use Rattle.std.proofs.Common.{◌++◌}
use Rattle.search_terms.specs.Marks.{is_marked}
use Rattle.search_terms.proofs.Least.{least_closed}
use Rattle.refutation_check.proofs.closures.fill.Goals as goal

pub returns : goal.returns
returns c = least_closed (c.args.first.now ++ c.args.second.now) c.args.given.now (is_marked c.args.flags.now) (is_marked c.mark_all.new.flags) (is_marked c.close.new.flags)
    c.requires.clear c.mark_all.ensures.all c.mark_all.ensures.only c.close.ensures.kept c.close.ensures.sound c.close.ensures.closed
