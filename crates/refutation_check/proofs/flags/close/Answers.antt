use Rattle.std.proofs.Common.{arith, rules, ◌++◌, ◌≡◌, ◌*◌, length}
use Rattle.search_terms.specs.Marks.{is_marked, IsForced}
use Rattle.search_terms.proofs.Sets.{marking, marking_fewer}
use Rattle.refutation_check.proofs.flags.close.Goals as goal

pub loop-l-smaller : goal.loop-l-smaller
loop-l-smaller c =
    let long : length c.loop-l.flags ≡ c.args.classes * 2 = omega arith in
    let forced : IsForced (c.args.first.now ++ c.args.second.now) (is_marked c.loop-l.flags) c.in-Some.l = search (rules, c.in-Some.ensures.some) in
    marking_fewer c.args.first.now c.args.second.now c.loop-l.flags c.in-Some.l c.args.classes c.place.result c.place.ensures long c.requires.first c.requires.second forced

pub loop-l-preserved : goal.loop-l-preserved
loop-l-preserved c =
    let long : length c.loop-l.flags ≡ c.args.classes * 2 = omega arith in
    let forced : IsForced (c.args.first.now ++ c.args.second.now) (is_marked c.loop-l.flags) c.in-Some.l = search (rules, c.in-Some.ensures.some) in
    marking c.args.first.now c.args.second.now (is_marked c.args.flags.now) c.loop-l.flags c.in-Some.l c.args.classes c.place.result c.place.ensures long c.requires.first c.requires.second forced
    c.loop-l.invariant.kept c.loop-l.invariant.sound
