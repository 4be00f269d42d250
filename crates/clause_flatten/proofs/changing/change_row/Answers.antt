use Rattle.std.proofs.Common.{◌≡◌, ◌<◌, ◌∙◌, ap, get_or, refl, slice_set, subst, sym}
use Rattle.clause_pool.specs.{Clauses.{apart_from}, Interned.{clauses_at}}
use Rattle.listed.specs.Lists.{In}
use Rattle.row_book.specs.{Book.{listed_for}, Holders.{ArePlaced, TellsRows}}
use Rattle.row_book.proofs.Holders.{are_placed, tells_kept}
use Rattle.clause_families.proofs.Families.{empty_items}
use Rattle.clause_flatten.proofs.Turning.{left_ready, left_table, lent_row, new_below, new_ready, new_table, ready_kept, slot_lent, useful_apart}
use Rattle.clause_flatten.proofs.changing.change_row.Goals as goal

pub shorten-requires-clause-placed : goal.shorten-requires-clause-placed
shorten-requires-clause-placed c =
    let slot = get_or c.args.rows.now c.args.user c.index-rows-user-then-is_empty.result in
    subst (λ ps. ArePlaced c.args.pool.now c.args.gone ps slot) (sym c.clauses_with-places.ensures)
    (subst (ArePlaced c.args.pool.now c.args.gone (listed_for c.args.uses.now.clauses c.args.gone)) (sym (slot_lent c.args.rows.now c.args.user c.index-rows-user-then-is_empty.result (listed_for c.args.rows.now c.args.user) c.requires.user c.index-rows-user-then-is_empty.is refl))
    (are_placed c.args.pool.now c.args.rows.now c.args.uses.now c.args.gone c.args.user c.requires.ready.table))

pub returns-then-is_empty-clause-ok : goal.returns-then-is_empty-clause-ok
returns-then-is_empty-clause-ok c =
    let lent = lent_row c.args.rows.now c.args.user c.index-rows-user.result c.as_slice-row.result.now c.requires.user c.index-rows-user.is c.as_slice-row.ensures in
    let same = slot_lent c.args.rows.now c.args.user c.index-rows-user-then-is_empty.result c.as_slice-row.result.now c.requires.user c.index-rows-user-then-is_empty.is lent in
    left_table c.args.pool.now c.args.rows.now c.args.uses.now c.requires.ready c.args.user c.args.gone c.requires.user
    c.as_slice-row.result.now c.as_slice-others.result.now c.in_ok-useful.useful.items c.in_ok-useful.useful.items lent
    (lent_row c.args.rows.now c.args.gone c.index-rows-gone.result c.as_slice-others.result.now c.requires.gone c.index-rows-gone.is c.as_slice-others.ensures)
    refl c.in_ok-useful.ensures
    (empty_items c.in_ok-useful.useful.items c.in_ok-useful.useful.len c.is_empty.result c.in_ok-useful.useful.ok.0 c.is_empty.ensures c.if-is_empty.true)
    c.shorten.new.row c.shorten.new.row refl (c.shorten.ensures.made ∙ ap (λ z. apart_from c.args.gone (clauses_at c.args.pool.now z)) same)
    (λ id i. subst (λ z. In id z) same (c.shorten.ensures.part id i))

pub returns-then-is_empty-clause-ready : goal.returns-then-is_empty-clause-ready
returns-then-is_empty-clause-ready c =
    let lent = lent_row c.args.rows.now c.args.user c.index-rows-user.result c.as_slice-row.result.now c.requires.user c.index-rows-user.is c.as_slice-row.ensures in
    let same = slot_lent c.args.rows.now c.args.user c.index-rows-user-then-is_empty.result c.as_slice-row.result.now c.requires.user c.index-rows-user-then-is_empty.is lent in
    left_ready c.args.pool.now c.args.rows.now c.args.uses.now c.requires.ready c.args.user c.args.gone c.requires.user
    c.as_slice-row.result.now c.as_slice-others.result.now c.in_ok-useful.useful.items c.in_ok-useful.useful.items lent
    (lent_row c.args.rows.now c.args.gone c.index-rows-gone.result c.as_slice-others.result.now c.requires.gone c.index-rows-gone.is c.as_slice-others.ensures)
    refl c.in_ok-useful.ensures
    (empty_items c.in_ok-useful.useful.items c.in_ok-useful.useful.len c.is_empty.result c.in_ok-useful.useful.ok.0 c.is_empty.ensures c.if-is_empty.true)
    c.shorten.new.row c.shorten.new.row refl (c.shorten.ensures.made ∙ ap (λ z. apart_from c.args.gone (clauses_at c.args.pool.now z)) same)
    (λ id i. subst (λ z. In id z) same (c.shorten.ensures.part id i))

pub with_unions-requires-clause-own : goal.with_unions-requires-clause-own
with_unions-requires-clause-own c =
    useful_apart c.args.pool.now c.args.rows.now c.args.uses.now c.requires.ready c.args.user c.args.gone c.requires.user
    c.as_slice-row.result.now c.as_slice-others.result.now c.in_ok-useful.useful.items c.as_slice.result.now
    (lent_row c.args.rows.now c.args.user c.index-rows-user.result c.as_slice-row.result.now c.requires.user c.index-rows-user.is c.as_slice-row.ensures)
    (lent_row c.args.rows.now c.args.gone c.index-rows-gone.result c.as_slice-others.result.now c.requires.gone c.index-rows-gone.is c.as_slice-others.ensures)
    c.as_slice.ensures.value c.in_ok-useful.ensures

pub returns-in_err-new-clause-ready : goal.returns-in_err-new-clause-ready
returns-in_err-new-clause-ready c =
    ready_kept c.args.pool.now c.args.rows.now c.args.uses.now c.requires.ready c.with_unions.new.pool c.args.uses.now c.with_unions.ensures.kept
    (tells_kept c.args.pool.now c.with_unions.new.pool c.args.rows.now c.with_unions.ensures.kept c.args.uses.now c.requires.ready.table)

pub replace-requires-clause-numbers : goal.replace-requires-clause-numbers
replace-requires-clause-numbers c id i n j =
    subst (λ z. n < z) (sym c.requires.ready.table.size)
    (new_below c.args.pool.now c.args.rows.now c.args.uses.now c.requires.ready c.args.user c.args.gone c.requires.user
    c.as_slice-row.result.now c.as_slice-others.result.now c.in_ok-useful.useful.items c.as_slice.result.now
    (lent_row c.args.rows.now c.args.user c.index-rows-user.result c.as_slice-row.result.now c.requires.user c.index-rows-user.is c.as_slice-row.ensures)
    (lent_row c.args.rows.now c.args.gone c.index-rows-gone.result c.as_slice-others.result.now c.requires.gone c.index-rows-gone.is c.as_slice-others.ensures)
    c.as_slice.ensures.value c.in_ok-useful.ensures
    c.with_unions.new.pool c.in_ok-new.ensures.kept c.as_slice-2.result.now c.in_ok-new.new.items c.as_slice-2.ensures.value c.in_ok-new.ensures.of_pool c.in_ok-new.ensures.ok id i n j)

pub returns-in_err-replace-clause-ready : goal.returns-in_err-replace-clause-ready
returns-in_err-replace-clause-ready c =
    ready_kept c.args.pool.now c.args.rows.now c.args.uses.now c.requires.ready c.with_unions.new.pool c.replace.new.self c.with_unions.ensures.kept
    (c.in_err-replace.ensures.err c.args.rows.now
    (tells_kept c.args.pool.now c.with_unions.new.pool c.args.rows.now c.with_unions.ensures.kept c.args.uses.now c.requires.ready.table))

pub returns-clause-ok : goal.returns-clause-ok
returns-clause-ok c =
    new_table c.args.pool.now c.args.rows.now c.args.uses.now c.requires.ready c.args.user c.args.gone c.requires.user
    c.as_slice-row.result.now c.as_slice-others.result.now c.in_ok-useful.useful.items c.as_slice.result.now
    (lent_row c.args.rows.now c.args.user c.index-rows-user.result c.as_slice-row.result.now c.requires.user c.index-rows-user.is c.as_slice-row.ensures)
    (lent_row c.args.rows.now c.args.gone c.index-rows-gone.result c.as_slice-others.result.now c.requires.gone c.index-rows-gone.is c.as_slice-others.ensures)
    c.as_slice.ensures.value c.in_ok-useful.ensures
    c.with_unions.new.pool c.in_ok-new.ensures.kept c.of.result c.in_ok-new.new.items c.of.ensures c.in_ok-new.ensures.of_pool c.in_ok-new.ensures.ok

pub returns-clause-ready : goal.returns-clause-ready
returns-clause-ready c =
    let same : c.as_slice-2.result.now ≡ c.of.result = c.as_slice-2.ensures.value ∙ sym c.of.ensures in
    new_ready c.args.pool.now c.args.rows.now c.args.uses.now c.requires.ready c.args.user c.args.gone c.requires.user
    c.as_slice-row.result.now c.as_slice-others.result.now c.in_ok-useful.useful.items c.as_slice.result.now
    (lent_row c.args.rows.now c.args.user c.index-rows-user.result c.as_slice-row.result.now c.requires.user c.index-rows-user.is c.as_slice-row.ensures)
    (lent_row c.args.rows.now c.args.gone c.index-rows-gone.result c.as_slice-others.result.now c.requires.gone c.index-rows-gone.is c.as_slice-others.ensures)
    c.as_slice.ensures.value c.in_ok-useful.ensures
    c.with_unions.new.pool c.in_ok-new.ensures.kept c.of.result c.in_ok-new.new.items c.of.ensures c.in_ok-new.ensures.of_pool c.in_ok-new.ensures.ok
    c.replace.new.self
    (subst (λ z. TellsRows c.with_unions.new.pool (slice_set c.args.rows.now c.args.user z) c.replace.new.self) same
    (c.in_ok-replace.ensures.ok c.args.rows.now c.requires.user
    (sym (lent_row c.args.rows.now c.args.user c.index-rows-user.result c.as_slice-row.result.now c.requires.user c.index-rows-user.is c.as_slice-row.ensures))
    (tells_kept c.args.pool.now c.with_unions.new.pool c.args.rows.now c.with_unions.ensures.kept c.args.uses.now c.requires.ready.table)))
