use Rattle.std.proofs.{Common.{◌∙◌, ◌||◌, ap, get_or}, lemmas.List.{get_or_default, take_all}}
use Rattle.std.specs.List.{list_any}
use Rattle.listed.specs.Lists.{has}
use Rattle.clause_prune.specs.Filing.{entries_in, tell_within, under}
use Rattle.clause_prune.proofs.Files.{listed_more}
use Rattle.clause_prune.proofs.filing.push_each_within.Goals as goal

pub loop-number-preserved : goal.loop-number-preserved
loop-number-preserved c = λ n.
    let k = c.loop-number.number-index in
    let x = get_or c.args.clause.now k 0 in
    listed_more c.args.pool.now (entries_in c.args.lists.now) c.args.clause.now c.args.clause.now c.args.found.now.items k x c.loop-number.found.items c.push_packages.new.found.items n
    c.loop-number-test.true (get_or_default c.args.clause.now k 0 x c.loop-number-test.true)
    (c.in_ok-push_packages.ensures n ∙ ap (λ z. has c.loop-number.found.items n || tell_within c.args.pool.now z c.args.clause.now n) c.list_under.ensures) (c.loop-number.invariant n)

pub returns : goal.returns
returns c = λ n.
    c.loop-number.invariant n
    ∙ ap (λ z. has c.args.found.now.items n || list_any (λ x. tell_within c.args.pool.now (under (entries_in c.args.lists.now) x) c.args.clause.now n) z) (take_all c.loop-number.number-index c.args.clause.now c.loop-number-test.false)
