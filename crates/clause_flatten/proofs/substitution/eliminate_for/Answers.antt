use Rattle.std.proofs.{Common.{◌≡◌, ◌<◌, ◌+◌, ◌-◌, ℕ, ap, get_or, length, drop, subst, sym, arith}, lemmas.List.{drop_all}}
use Rattle.clause_pool.proofs.{Lists.{In_at}, Interned.{kept_along}}
use Rattle.clause_flatten.proofs.Midway.{Around, Midway, all_rows, below, each_row, midway_none, midway_refused, midway_step}
use Rattle.clause_flatten.proofs.substitution.eliminate_for.Goals as goal

pub loop-place-init : goal.loop-place-init
loop-place-init c =
    record {
      rows = midway_none c.args.pool.now c.args.rows.now c.args.gone (drop (length c.args.users.now) c.args.users.now) (drop_all (length c.args.users.now) c.args.users.now (omega arith))
          c.requires.fit c.requires.tidy;
      table = c.requires.table;
    }

pub replace_row-requires-clause-user : goal.replace_row-requires-clause-user
replace_row-requires-clause-user c =
    let l : c.loop-place.place - 1 < length c.args.users.now = omega arith in
    subst (λ z. get_or c.args.users.now (c.loop-place.place - 1) 0 < z) (sym c.loop-place.invariant.rows.size)
    (below c.args.pool.now c.args.rows.now c.args.gone c.requires.fit.is_pool c.requires.fit c.requires.tidy c.requires.gone c.args.users.now c.requires.users
    (get_or c.args.users.now (c.loop-place.place - 1) 0) (In_at c.args.users.now (c.loop-place.place - 1) 0 l))

pub returns-in_err-replace_row-clause-each : goal.returns-in_err-replace_row-clause-each
returns-in_err-replace_row-clause-each c =
    let i : ℕ = c.loop-place.place - 1 in
    let l : i < length c.args.users.now = omega arith in
    let half : Midway c.args.pool.now c.args.rows.now c.args.gone c.loop-place.pool c.loop-place.rows (drop (i + 1) c.args.users.now) =
    subst (λ n. Midway c.args.pool.now c.args.rows.now c.args.gone c.loop-place.pool c.loop-place.rows (drop n c.args.users.now)) (omega arith) c.loop-place.invariant.rows in
    let around : Around c.loop-place.pool c.loop-place.rows (get_or c.args.users.now i 0) c.replace_row.new.pool c.replace_row.new.rows =
    record {
      size = c.replace_row.auto.rows;
      kept = c.replace_row.ensures.kept;
      fit = c.replace_row.ensures.fit;
      tidy = c.replace_row.ensures.tidy;
      others = c.replace_row.ensures.others;
      stay = c.replace_row.ensures.stay;
    } in
    each_row c.args.pool.now c.args.rows.now c.args.gone c.requires.fit.is_pool c.requires.fit c.requires.tidy c.requires.gone c.args.users.now c.requires.users
    c.replace_row.new.pool c.replace_row.new.rows (i + 1)
    (midway_refused c.args.pool.now c.args.rows.now c.args.gone c.requires.fit.is_pool c.requires.fit c.requires.tidy c.requires.gone c.args.users.now c.requires.users
    i l c.loop-place.pool c.loop-place.rows half
    c.replace_row.new.pool c.replace_row.new.rows around c.in_err-replace_row.ensures.err)

pub returns-in_err-replace_row-clause-kept : goal.returns-in_err-replace_row-clause-kept
returns-in_err-replace_row-clause-kept c = kept_along c.args.pool.now c.loop-place.pool c.replace_row.new.pool c.loop-place.invariant.rows.kept c.replace_row.ensures.kept

pub loop-place-preserved : goal.loop-place-preserved
loop-place-preserved c =
    let i : ℕ = c.loop-place.place - 1 in
    let l : i < length c.args.users.now = omega arith in
    let half : Midway c.args.pool.now c.args.rows.now c.args.gone c.loop-place.pool c.loop-place.rows (drop (i + 1) c.args.users.now) =
    subst (λ n. Midway c.args.pool.now c.args.rows.now c.args.gone c.loop-place.pool c.loop-place.rows (drop n c.args.users.now)) (omega arith) c.loop-place.invariant.rows in
    let around : Around c.loop-place.pool c.loop-place.rows (get_or c.args.users.now i 0) c.replace_row.new.pool c.replace_row.new.rows =
    record {
      size = c.replace_row.auto.rows;
      kept = c.replace_row.ensures.kept;
      fit = c.replace_row.ensures.fit;
      tidy = c.replace_row.ensures.tidy;
      others = c.replace_row.ensures.others;
      stay = c.replace_row.ensures.stay;
    } in
    record {
      rows = midway_step c.args.pool.now c.args.rows.now c.args.gone c.requires.fit.is_pool c.requires.fit c.requires.tidy c.requires.gone c.args.users.now c.requires.users
          i l c.loop-place.pool c.loop-place.rows half
          c.replace_row.new.pool c.replace_row.new.rows around c.in_ok-replace_row.ensures.ok;
      table = c.replace_row.ensures.table;
    }

pub returns-clause-ok : goal.returns-clause-ok
returns-clause-ok c =
    let first : c.loop-place.place ≡ 0 = omega arith in
    all_rows c.args.pool.now c.args.rows.now c.args.gone c.requires.fit.is_pool c.requires.fit c.requires.tidy c.requires.gone c.args.users.now c.requires.users
    c.loop-place.pool c.loop-place.rows c.loop-place.place (ap (λ n. drop n c.args.users.now) first) c.loop-place.invariant.rows

pub returns-clause-each : goal.returns-clause-each
returns-clause-each c =
    each_row c.args.pool.now c.args.rows.now c.args.gone c.requires.fit.is_pool c.requires.fit c.requires.tidy c.requires.gone c.args.users.now c.requires.users
    c.loop-place.pool c.loop-place.rows c.loop-place.place c.loop-place.invariant.rows
