use Rattle.std.proofs.Common.{◌≡◌, length, arith, subst}
use Rattle.listed.proofs.Lists.{item_in}
use Rattle.clause_flatten.proofs.Tidied.{TidiedTo, tidied_all, tidied_count, tidied_fit, tidied_more, tidied_none, tidied_tidy}
use Rattle.clause_flatten.proofs.tidy_rows.tidy_rows.Goals as goal

pub loop-number-init : goal.loop-number-init
loop-number-init c = tidied_none c.args.pool.now c.args.rows.now c.in_ok-made.made.items c.in_ok-made.ensures.items

pub tidy_row-requires-clause-row : goal.tidy_row-requires-clause-row
tidy_row-requires-clause-row c =
    c.requires.fit.of_pool c.index-rows-number.result (item_in c.args.rows.now c.loop-number.number c.index-rows-number.result (omega arith) c.index-rows-number.is)

pub loop-number-preserved : goal.loop-number-preserved
loop-number-preserved c =
    tidied_more c.args.pool.now c.args.rows.now c.loop-number.made.items c.push.new.self.items c.loop-number.number c.index-rows-number.result c.in_ok-first.first
    c.loop-number.invariant (omega arith) c.index-rows-number.is c.in_ok-first.ensures.of_pool c.in_ok-first.ensures.tidied c.in_ok-push.ensures.items

pub returns-clause-tidied : goal.returns-clause-tidied
returns-clause-tidied c =
    let e : c.loop-number.number ≡ length c.args.rows.now = omega arith in
    tidied_all c.args.pool.now c.args.rows.now c.loop-number.made.items (subst (TidiedTo c.args.pool.now c.args.rows.now c.loop-number.made.items) e c.loop-number.invariant)

pub returns-clause-fit : goal.returns-clause-fit
returns-clause-fit c =
    let e : c.loop-number.number ≡ length c.args.rows.now = omega arith in
    tidied_fit c.args.pool.now c.args.rows.now c.loop-number.made.items (subst (TidiedTo c.args.pool.now c.args.rows.now c.loop-number.made.items) e c.loop-number.invariant) c.requires.fit

pub returns-clause-tidy : goal.returns-clause-tidy
returns-clause-tidy c =
    let e : c.loop-number.number ≡ length c.args.rows.now = omega arith in
    tidied_tidy c.args.pool.now c.args.rows.now c.loop-number.made.items (subst (TidiedTo c.args.pool.now c.args.rows.now c.loop-number.made.items) e c.loop-number.invariant) c.requires.fit

pub returns-clause-count : goal.returns-clause-count
returns-clause-count c =
    let e : c.loop-number.number ≡ length c.args.rows.now = omega arith in
    tidied_count c.args.pool.now c.args.rows.now c.loop-number.made.items (subst (TidiedTo c.args.pool.now c.args.rows.now c.loop-number.made.items) e c.loop-number.invariant)
