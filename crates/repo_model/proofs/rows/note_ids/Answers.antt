use Rattle.std.proofs.{Common.{◌∙◌, get_or}, lemmas.List.{get_or_default}}
use Rattle.listed.proofs.Lists.{In_at}
use Rattle.repo_model.proofs.Ranked.{map_more}
use Rattle.repo_model.proofs.rows.note_ids.Goals as goal

pub bounds-order-rank : goal.bounds-order-rank
bounds-order-rank c = c.requires (get_or c.args.ranks.now c.loop-rank.rank-index 0) (In_at c.args.ranks.now c.loop-rank.rank-index 0 c.loop-rank-test.true)

pub loop-rank-preserved : goal.loop-rank-preserved
loop-rank-preserved c =
    let rank = get_or c.args.ranks.now c.loop-rank.rank-index 0 in
    let within = c.requires rank (In_at c.args.ranks.now c.loop-rank.rank-index 0 c.loop-rank-test.true) in
    map_more (λ k. get_or c.args.order.now k 0) c.args.ranks.now c.loop-rank.made.items c.push.new.self.items c.loop-rank.rank-index c.index-order-rank.result c.loop-rank-test.true c.loop-rank.invariant
    c.in_ok-push.ensures.items (c.index-order-rank.is ∙ get_or_default c.args.order.now rank c.index-order-rank.result 0 within)
