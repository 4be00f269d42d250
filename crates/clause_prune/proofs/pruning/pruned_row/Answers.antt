use Rattle.std.proofs.{Common.{◌≡◌, ◌++◌, ◌∙◌, ap, append-nil, false, map, subst, sym, true}, lemmas.Result.{IfOk-weaker}}
use Rattle.clause_pool.specs.Interned.{clauses_at, ids_at, row_at}
use Rattle.listed.specs.Lists.{In}
use Rattle.row_book.specs.{Uses.{row_id}, Pruning.{is_dead}, Rounds.{IdleStep}, Trail.{trail_meaning}}
use Rattle.listed.proofs.Lists.{In_at, item_in}
use Rattle.clause_prune.specs.Tests.{repository_in}
use Rattle.clause_prune.proofs.{Left.{dead_is, dead_package, dead_steps, interned_row, live_package, live_steps}, Passing.{read_zero}}
use Rattle.clause_prune.proofs.pruning.pruned_row.Goals as goal
use Rattle.listed.proofs.Bools.{on_ok}

pub row-requires : goal.row-requires
row-requires c = c.requires.fit.of_pool c.index-rows-number.result (item_in c.args.rows.now c.args.number c.index-rows-number.result c.requires.inside c.index-rows-number.is)

pub returns-then-dead-clause-row : goal.returns-then-dead-clause-row
returns-then-dead-clause-row c =
    let first : c.as_slice.result.now ≡ ids_at c.args.pool.now (row_id c.args.rows.now c.args.number) = (c.as_slice.ensures.value ∙ c.in_ok-ids.ensures.items ∙ c.row.ensures.lent ∙ ap (ids_at c.args.pool.now) (c.index-rows-number.is ∙ read_zero c.args.rows.now c.args.number c.index-rows-number.result c.requires.inside)) in
    let e : is_dead (repository_in c.args.pool.now c.args.rows.now c.args.table.now) c.args.number ≡ true = sym (c.in_ok-dead.ensures ∙ dead_is c.args.pool.now c.args.rows.now c.args.number c.as_slice.result.now c.args.table.now c.requires.inside first) ∙ c.if-dead.true in
    IfOk-weaker c.empty_row.result _ _ (λ id f. dead_package c.args.pool.now c.args.rows.now c.args.number c.as_slice.result.now c.args.table.now c.requires.inside first (row_at c.empty_row.new.pool id) e f) c.empty_row.ensures.row

pub returns-then-dead-clause-idle : goal.returns-then-dead-clause-idle
returns-then-dead-clause-idle c =
    let first : c.as_slice.result.now ≡ ids_at c.args.pool.now (row_id c.args.rows.now c.args.number) = (c.as_slice.ensures.value ∙ c.in_ok-ids.ensures.items ∙ c.row.ensures.lent ∙ ap (ids_at c.args.pool.now) (c.index-rows-number.is ∙ read_zero c.args.rows.now c.args.number c.index-rows-number.result c.requires.inside)) in
    let e : is_dead (repository_in c.args.pool.now c.args.rows.now c.args.table.now) c.args.number ≡ true = sym (c.in_ok-dead.ensures ∙ dead_is c.args.pool.now c.args.rows.now c.args.number c.as_slice.result.now c.args.table.now c.requires.inside first) ∙ c.if-dead.true in
    on_ok c.empty_row.result (sym (append-nil (trail_meaning c.args.pool.now c.args.idle.now)) ∙ ap (λ z. trail_meaning c.args.pool.now c.args.idle.now ++ map IdleStep z)
    (sym (dead_steps c.args.pool.now c.args.rows.now c.args.number c.as_slice.result.now c.args.table.now c.requires.inside first e)))

pub prune_each-requires-clause-members : goal.prune_each-requires-clause-members
prune_each-requires-clause-members c = λ d i.
    let same : c.as_slice-2.result.now ≡ ids_at c.args.pool.now (row_id c.args.rows.now c.args.number) = (c.as_slice-2.ensures.value ∙ c.in_ok-ids.ensures.items ∙ c.row.ensures.lent ∙ ap (ids_at c.args.pool.now) (c.index-rows-number.is ∙ read_zero c.args.rows.now c.args.number c.index-rows-number.result c.requires.inside)) in
    c.requires.fit.numbers (row_id c.args.rows.now c.args.number) (In_at c.args.rows.now c.args.number 0 c.requires.inside) d (subst (λ z. In d (clauses_at c.args.pool.now z)) same i)

pub returns-clause-row : goal.returns-clause-row
returns-clause-row c =
    let same : c.as_slice-2.result.now ≡ ids_at c.args.pool.now (row_id c.args.rows.now c.args.number) = (c.as_slice-2.ensures.value ∙ c.in_ok-ids.ensures.items ∙ c.row.ensures.lent ∙ ap (ids_at c.args.pool.now) (c.index-rows-number.is ∙ read_zero c.args.rows.now c.args.number c.index-rows-number.result c.requires.inside)) in
    let first : c.as_slice.result.now ≡ ids_at c.args.pool.now (row_id c.args.rows.now c.args.number) = (c.as_slice.ensures.value ∙ c.in_ok-ids.ensures.items ∙ c.row.ensures.lent ∙ ap (ids_at c.args.pool.now) (c.index-rows-number.is ∙ read_zero c.args.rows.now c.args.number c.index-rows-number.result c.requires.inside)) in
    let e : is_dead (repository_in c.args.pool.now c.args.rows.now c.args.table.now) c.args.number ≡ false = sym (c.in_ok-dead.ensures ∙ dead_is c.args.pool.now c.args.rows.now c.args.number c.as_slice.result.now c.args.table.now c.requires.inside first) ∙ c.if-dead.false in
    IfOk-weaker c.intern_row.result _ _ (λ id at. live_package c.args.pool.now c.args.rows.now c.args.number c.as_slice-2.result.now c.args.table.now c.requires.inside same c.in_ok-left.left (row_at c.intern_row.new.self id) e c.in_ok-left.ensures.left
    (interned_row c.args.pool.now c.intern_row.new.self c.as_slice-3.result.now id c.intern_row.ensures.clauses at ∙ ap (clauses_at c.args.pool.now) c.as_slice-3.ensures)) c.intern_row.ensures.ok

pub returns-clause-idle : goal.returns-clause-idle
returns-clause-idle c =
    let same : c.as_slice-2.result.now ≡ ids_at c.args.pool.now (row_id c.args.rows.now c.args.number) = (c.as_slice-2.ensures.value ∙ c.in_ok-ids.ensures.items ∙ c.row.ensures.lent ∙ ap (ids_at c.args.pool.now) (c.index-rows-number.is ∙ read_zero c.args.rows.now c.args.number c.index-rows-number.result c.requires.inside)) in
    let first : c.as_slice.result.now ≡ ids_at c.args.pool.now (row_id c.args.rows.now c.args.number) = (c.as_slice.ensures.value ∙ c.in_ok-ids.ensures.items ∙ c.row.ensures.lent ∙ ap (ids_at c.args.pool.now) (c.index-rows-number.is ∙ read_zero c.args.rows.now c.args.number c.index-rows-number.result c.requires.inside)) in
    let e : is_dead (repository_in c.args.pool.now c.args.rows.now c.args.table.now) c.args.number ≡ false = sym (c.in_ok-dead.ensures ∙ dead_is c.args.pool.now c.args.rows.now c.args.number c.as_slice.result.now c.args.table.now c.requires.inside first) ∙ c.if-dead.false in
    on_ok c.intern_row.result (c.in_ok-left.ensures.idle ∙ ap (λ z. trail_meaning c.args.pool.now c.args.idle.now ++ map IdleStep z) (sym (live_steps c.args.pool.now c.args.rows.now c.args.number c.as_slice-2.result.now c.args.table.now c.requires.inside same e)))
