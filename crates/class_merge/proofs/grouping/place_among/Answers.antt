use Rattle.class_merge.proofs.Groups.{placed_new, placed_old}
use Rattle.class_merge.proofs.grouping.place_among.Goals as goal

pub returns-in-Some : goal.returns-in-Some
returns-in-Some c = placed_old c.args.seen.now c.args.firsts.now.items c.args.key.now c.args.number c.in-Some.place c.in-Some.ensures

pub returns : goal.returns
returns c =
    placed_new c.args.seen.now c.push-2.new.self c.args.firsts.now.items c.push.new.self.items c.args.key.now c.args.number c.push-2.result c.in_default.ensures
    c.in_ok-push.ensures.items c.push-2.ensures.place c.push-2.ensures.ok
