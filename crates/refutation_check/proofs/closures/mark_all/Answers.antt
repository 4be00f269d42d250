use Rattle.std.proofs.Common.{arith, ◌<◌, ◌≤◌, ◌≡◌, ◌*◌, length}
use Rattle.search_terms.specs.Marks.{is_marked}
use Rattle.search_terms.proofs.Least.{mark_step, holds_all}
use Rattle.refutation_check.proofs.closures.mark_all.Goals as goal

pub loop-l-preserved : goal.loop-l-preserved
loop-l-preserved c =
    let lt : c.loop-l.l-index < length c.args.given.now = omega arith in
    let long : length c.loop-l.flags ≡ c.args.classes * 2 = omega arith in
    mark_step c.args.given.now c.loop-l.l-index _ (is_marked c.args.flags.now) c.loop-l.flags c.args.classes c.place.result lt c.place.ensures long c.requires.given c.loop-l.invariant.all c.loop-l.invariant.only

pub returns-clause-all : goal.returns-clause-all
returns-clause-all c =
    let le : length c.args.given.now ≤ c.loop-l.l-index = omega arith in
    holds_all (is_marked c.loop-l.flags) c.args.given.now c.loop-l.l-index le c.loop-l.invariant.all
