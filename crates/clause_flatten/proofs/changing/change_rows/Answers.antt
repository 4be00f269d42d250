use Rattle.std.proofs.{Common.{◌≡◌, ◌<◌, ◌+◌, ◌-◌, ℕ, List, get_or, length, drop, subst, sym, arith}, lemmas.List.{drop_all, length-map}}
use Rattle.clause_pool.specs.{Interned.{clauses_at}, Lists.{InOrder}}
use Rattle.clause_pool.proofs.{Lists.{In_at}, Interned.{kept_along, kept_same}}
use Rattle.row_book.specs.Book.{listed_for}
use Rattle.listed.specs.Lists.{In}
use Rattle.clause_flatten.specs.{Ready.{table_of}, Substitution.{table_row}}
use Rattle.clause_flatten.proofs.Halfway.{Halfway, halfway_all, halfway_none, halfway_step}
use Rattle.clause_flatten.proofs.WorkedRows.{lists_at, not_named, not_own, users_below, users_rise}
use Rattle.clause_flatten.proofs.changing.change_rows.Goals as goal

pub loop-place-init : goal.loop-place-init
loop-place-init c =
    record {
      rows = halfway_none (table_of c.args.pool.now c.args.rows.now) c.args.gone (drop (length c.args.users.now) c.args.users.now) (drop_all (length c.args.users.now) c.args.users.now (omega arith));
      ready = c.requires.ready;
      kept = kept_same c.args.pool.now;
    }

pub change_row-requires-clause-user : goal.change_row-requires-clause-user
change_row-requires-clause-user c =
    let l : c.loop-place.place - 1 < length c.args.users.now = omega arith in
    subst (λ z. get_or c.args.users.now (c.loop-place.place - 1) 0 < z) (sym c.loop-place.auto.rows)
    (users_below c.args.pool.now c.args.rows.now c.args.gone c.args.users.now c.requires.users
    (get_or c.args.users.now (c.loop-place.place - 1) 0) (In_at c.args.users.now (c.loop-place.place - 1) 0 l))

pub returns-in_err-change_row-clause-kept : goal.returns-in_err-change_row-clause-kept
returns-in_err-change_row-clause-kept c = kept_along c.args.pool.now c.loop-place.pool c.change_row.new.pool c.loop-place.invariant.kept c.change_row.ensures.kept

pub loop-place-preserved : goal.loop-place-preserved
loop-place-preserved c =
    let i : ℕ = c.loop-place.place - 1 in
    let l : i < length c.args.users.now = omega arith in
    let start : List (List (List ℕ)) = table_of c.args.pool.now c.args.rows.now in
    let half : Halfway (table_of c.args.pool.now c.args.rows.now) c.args.gone (drop (i + 1) c.args.users.now) (table_of c.loop-place.pool c.loop-place.rows) =
    subst (λ n. Halfway (table_of c.args.pool.now c.args.rows.now) c.args.gone (drop n c.args.users.now) (table_of c.loop-place.pool c.loop-place.rows)) (omega arith) c.loop-place.invariant.rows in
    record {
      rows = subst (Halfway start c.args.gone (drop i c.args.users.now)) (sym c.in_ok-change_row.ensures.ok)
          (halfway_step start c.args.gone c.args.users.now
          (λ p j. subst (λ n. p < n) (sym (length-map c.args.rows.now (clauses_at c.args.pool.now))) (users_below c.args.pool.now c.args.rows.now c.args.gone c.args.users.now c.requires.users p j))
          (users_rise c.args.pool.now c.args.rows.now c.args.gone c.args.users.now c.requires.users)
          (not_own c.args.pool.now c.args.rows.now c.args.gone c.args.users.now c.requires.users c.requires.ready.tidy)
          i l (table_of c.loop-place.pool c.loop-place.rows) half);
      ready = c.change_row.ensures.ready;
      kept = kept_along c.args.pool.now c.loop-place.pool c.change_row.new.pool c.loop-place.invariant.kept c.change_row.ensures.kept;
    }

pub returns-clause-ok : goal.returns-clause-ok
returns-clause-ok c =
    let start : List (List (List ℕ)) = table_of c.args.pool.now c.args.rows.now in
    let first : c.loop-place.place ≡ 0 = omega arith in
    let at : (p : ℕ) → table_row (table_of c.args.pool.now c.args.rows.now) p ≡ clauses_at c.args.pool.now (listed_for c.args.rows.now p) = lists_at c.args.pool.now c.args.rows.now in
    halfway_all start c.args.gone c.args.users.now
    (λ p j. subst (λ n. p < n) (sym (length-map c.args.rows.now (clauses_at c.args.pool.now))) (users_below c.args.pool.now c.args.rows.now c.args.gone c.args.users.now c.requires.users p j))
    (users_rise c.args.pool.now c.args.rows.now c.args.gone c.args.users.now c.requires.users)
    (not_own c.args.pool.now c.args.rows.now c.args.gone c.args.users.now c.requires.users c.requires.ready.tidy)
    (subst (λ n. c.args.gone < n) (sym (length-map c.args.rows.now (clauses_at c.args.pool.now))) c.requires.gone)
    (λ p f d i. not_named c.args.pool.now c.args.rows.now c.args.gone c.args.users.now c.requires.users p f d (subst (λ z. In d z) (at p) i))
    (λ p. subst InOrder (sym (at p)) (c.requires.ready.fit.in_order p))
    (λ p d i. c.requires.ready.tidy.apart p d (subst (λ z. In d z) (at p) i))
    (λ p d e i j. c.requires.ready.tidy.minimal p d e (subst (λ z. In d z) (at p) i) (subst (λ z. In e z) (at p) j))
    (table_of c.loop-place.pool c.loop-place.rows)
    (subst (λ n. Halfway (table_of c.args.pool.now c.args.rows.now) c.args.gone (drop n c.args.users.now) (table_of c.loop-place.pool c.loop-place.rows)) first c.loop-place.invariant.rows)
