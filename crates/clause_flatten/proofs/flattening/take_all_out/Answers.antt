use Rattle.std.proofs.Common.{◌≡◌, ◌<◌, ◌+◌, false, Some, arith, length, replicate, ap, ◌∙◌}
use Rattle.std.proofs.lemmas.List as lists
use Rattle.std.proofs.lemmas.Result.{err_from_is_err_and}
use Rattle.clause_pool.specs.Interned.{row_at}
use Rattle.clause_flatten.specs.{Ready.{table_of}, Substitution.{table_without, length_in}}
use Rattle.clause_pool.proofs.Interned.{kept_along}
use Rattle.row_book.specs.{Book.{repository_of}, Numbers.{numbers}, Flattening.{may_go, passed_by, passes, remaining_after}, Repository.{Repository}}
use Rattle.row_book.specs.Sets.{without}
use Rattle.clause_flatten.proofs.Running.{HasEnded, first_there, on_limit, run_empty, run_full, run_here, run_more, run_passed, run_size, run_start}
use Rattle.clause_flatten.proofs.flattening.take_all_out.Goals as goal

pub loop-turn-init : goal.loop-turn-init
loop-turn-init c =
    run_start c.args.pool.now c.args.book.now c.args.rule.limit c.args.rule.hold c.args.rows.now c.args.uses.now c.args.waiting.now c.in_ok-held.held.items
    c.requires.sound.rows.is_pool c.requires.sound c.requires.first c.requires.ready c.requires.waiting c.requires.within
    (c.in_ok-held.ensures ∙ ap (λ n. replicate n false) c.size.ensures)

pub returns-in_default-clause-flat : goal.returns-in_default-clause-flat
returns-in_default-clause-flat c =
    let R : Repository = repository_of c.args.pool.now c.args.book.now in
    let size : length (repository_of c.args.pool.now c.args.book.now).clauses ≡ length c.args.book.now.rows = lists.length-map c.args.book.now.rows (row_at c.args.pool.now) in
    let end : HasEnded (repository_of c.args.pool.now c.args.book.now) c.args.rule.limit c.args.rule.hold c.loop-turn.pool c.loop-turn.rows c.loop-turn.held.items =
    run_empty R c.args.rule.limit c.args.rule.hold c.loop-turn.turn c.args.pool.now c.loop-turn.pool c.loop-turn.rows c.loop-turn.uses c.loop-turn.waiting c.loop-turn.held.items c.loop-turn.invariant (omega arith)
    (c.in_default.ensures.none (may_go R (remaining_after c.args.rule.limit c.args.rule.hold R c.loop-turn.turn)) (length_in (table_of c.loop-turn.pool c.loop-turn.rows)) c.loop-turn.invariant.filed) in
    end.same

pub returns-in_default-clause-held : goal.returns-in_default-clause-held
returns-in_default-clause-held c =
    let R : Repository = repository_of c.args.pool.now c.args.book.now in
    let size : length (repository_of c.args.pool.now c.args.book.now).clauses ≡ length c.args.book.now.rows = lists.length-map c.args.book.now.rows (row_at c.args.pool.now) in
    let end : HasEnded (repository_of c.args.pool.now c.args.book.now) c.args.rule.limit c.args.rule.hold c.loop-turn.pool c.loop-turn.rows c.loop-turn.held.items =
    run_empty R c.args.rule.limit c.args.rule.hold c.loop-turn.turn c.args.pool.now c.loop-turn.pool c.loop-turn.rows c.loop-turn.uses c.loop-turn.waiting c.loop-turn.held.items c.loop-turn.invariant (omega arith)
    (c.in_default.ensures.none (may_go R (remaining_after c.args.rule.limit c.args.rule.hold R c.loop-turn.turn)) (length_in (table_of c.loop-turn.pool c.loop-turn.rows)) c.loop-turn.invariant.filed) in
    end.held

pub returns-in_default-clause-within : goal.returns-in_default-clause-within
returns-in_default-clause-within c =
    let R : Repository = repository_of c.args.pool.now c.args.book.now in
    let size : length (repository_of c.args.pool.now c.args.book.now).clauses ≡ length c.args.book.now.rows = lists.length-map c.args.book.now.rows (row_at c.args.pool.now) in
    let end : HasEnded (repository_of c.args.pool.now c.args.book.now) c.args.rule.limit c.args.rule.hold c.loop-turn.pool c.loop-turn.rows c.loop-turn.held.items =
    run_empty R c.args.rule.limit c.args.rule.hold c.loop-turn.turn c.args.pool.now c.loop-turn.pool c.loop-turn.rows c.loop-turn.uses c.loop-turn.waiting c.loop-turn.held.items c.loop-turn.invariant (omega arith)
    (c.in_default.ensures.none (may_go R (remaining_after c.args.rule.limit c.args.rule.hold R c.loop-turn.turn)) (length_in (table_of c.loop-turn.pool c.loop-turn.rows)) c.loop-turn.invariant.filed) in
    end.within

pub returns-in_default-clause-few : goal.returns-in_default-clause-few
returns-in_default-clause-few c =
    let size : length (repository_of c.args.pool.now c.args.book.now).clauses ≡ length c.args.book.now.rows = lists.length-map c.args.book.now.rows (row_at c.args.pool.now) in
    c.loop-turn.invariant.told.count ∙ size

pub take_out_or_hold-requires-clause-few : goal.take_out_or_hold-requires-clause-few
take_out_or_hold-requires-clause-few c =
    let R : Repository = repository_of c.args.pool.now c.args.book.now in
    let size : length (repository_of c.args.pool.now c.args.book.now).clauses ≡ length c.args.book.now.rows = lists.length-map c.args.book.now.rows (row_at c.args.pool.now) in
    let here : length c.loop-turn.rows ≡ length (repository_of c.args.pool.now c.args.book.now).clauses =
    run_size R c.args.rule.limit c.args.rule.hold c.loop-turn.turn c.args.pool.now c.loop-turn.pool c.loop-turn.rows c.loop-turn.uses c.loop-turn.waiting c.loop-turn.held.items c.loop-turn.invariant in
    omega (arith, c.args.book.now.few)

pub take_out_or_hold-requires-clause-there : goal.take_out_or_hold-requires-clause-there
take_out_or_hold-requires-clause-there c =
    let R : Repository = repository_of c.args.pool.now c.args.book.now in
    first_there R c.args.rule.limit c.args.rule.hold c.loop-turn.turn c.args.pool.now c.loop-turn.pool c.loop-turn.rows c.loop-turn.uses c.loop-turn.waiting c.loop-turn.held.items c.loop-turn.invariant c.in-Some.next
    (c.in-Some.ensures.first (may_go R (remaining_after c.args.rule.limit c.args.rule.hold R c.loop-turn.turn)) (length_in (table_of c.loop-turn.pool c.loop-turn.rows)) c.loop-turn.invariant.filed)

pub take_out_or_hold-requires-clause-within : goal.take_out_or_hold-requires-clause-within
take_out_or_hold-requires-clause-within c =
    let R : Repository = repository_of c.args.pool.now c.args.book.now in
    run_here R c.args.rule.limit c.args.rule.hold c.loop-turn.turn c.args.pool.now c.loop-turn.pool c.loop-turn.rows c.loop-turn.uses c.loop-turn.waiting c.loop-turn.held.items c.loop-turn.invariant

pub returns-in_err-stays-clause-passed : goal.returns-in_err-stays-clause-passed
returns-in_err-stays-clause-passed c =
    let R : Repository = repository_of c.args.pool.now c.args.book.now in
    let size : length (repository_of c.args.pool.now c.args.book.now).clauses ≡ length c.args.book.now.rows = lists.length-map c.args.book.now.rows (row_at c.args.pool.now) in
    let p = err_from_is_err_and c.from_residual-in_err-stays.result c.from_residual-in_err-stays.ensures.1 in
    rw (p.1, p.2)
    (on_limit
    (λ w. (c.args.rule.hold ≡ false)
    × (passed_by (length_in (table_without c.in-Some.next (table_of c.loop-turn.pool c.loop-turn.rows))) (numbers (length c.loop-turn.rows) 0) c.args.rule.limit (c.loop-turn.turn + 1) ≡ Some w))
    (λ w. passes c.args.rule.limit c.args.rule.hold (repository_of c.args.pool.now c.args.book.now) ≡ Some w)
    (λ w h. run_passed R c.args.rule.limit c.args.rule.hold c.loop-turn.turn c.args.pool.now c.loop-turn.pool c.loop-turn.rows c.loop-turn.uses c.loop-turn.waiting c.loop-turn.held.items c.loop-turn.invariant c.in-Some.next
    (c.in-Some.ensures.first (may_go R (remaining_after c.args.rule.limit c.args.rule.hold R c.loop-turn.turn)) (length_in (table_of c.loop-turn.pool c.loop-turn.rows)) c.loop-turn.invariant.filed)
    w (omega arith) h)
    _ c.in_err-stays.ensures.passed)

pub loop-turn-preserved : goal.loop-turn-preserved
loop-turn-preserved c =
    let R : Repository = repository_of c.args.pool.now c.args.book.now in
    run_more R c.args.rule.limit c.args.rule.hold c.loop-turn.turn c.args.pool.now c.loop-turn.pool c.loop-turn.rows c.loop-turn.uses c.loop-turn.waiting c.loop-turn.held.items c.loop-turn.invariant c.in-Some.next
    (c.in-Some.ensures.first (may_go R (remaining_after c.args.rule.limit c.args.rule.hold R c.loop-turn.turn)) (length_in (table_of c.loop-turn.pool c.loop-turn.rows)) c.loop-turn.invariant.filed)
    c.in_ok-stays.stays c.take_out_or_hold.new.pool c.take_out_or_hold.new.rows c.take_out_or_hold.new.uses c.take_out_or_hold.new.waiting c.with_flag-held.result.items
    c.in_ok-stays.ensures.held c.in_ok-stays.ensures.rows c.take_out_or_hold.ensures.ready c.take_out_or_hold.ensures.kept c.in_ok-stays.ensures.within
    (c.in_ok-stays.ensures.filed (without (may_go R (remaining_after c.args.rule.limit c.args.rule.hold R c.loop-turn.turn)) c.in-Some.next)
    (c.in-Some.ensures.taken (may_go R (remaining_after c.args.rule.limit c.args.rule.hold R c.loop-turn.turn)) (length_in (table_of c.loop-turn.pool c.loop-turn.rows)) c.loop-turn.invariant.filed))
    c.with_flag-held.ensures

pub returns-clause-flat : goal.returns-clause-flat
returns-clause-flat c =
    let R : Repository = repository_of c.args.pool.now c.args.book.now in
    let size : length (repository_of c.args.pool.now c.args.book.now).clauses ≡ length c.args.book.now.rows = lists.length-map c.args.book.now.rows (row_at c.args.pool.now) in
    let end : HasEnded (repository_of c.args.pool.now c.args.book.now) c.args.rule.limit c.args.rule.hold c.loop-turn.pool c.loop-turn.rows c.loop-turn.held.items = run_full R c.args.rule.limit c.args.rule.hold c.loop-turn.turn c.args.pool.now c.loop-turn.pool c.loop-turn.rows c.loop-turn.uses c.loop-turn.waiting c.loop-turn.held.items c.loop-turn.invariant (omega arith) in
    end.same

pub returns-clause-held : goal.returns-clause-held
returns-clause-held c =
    let R : Repository = repository_of c.args.pool.now c.args.book.now in
    let size : length (repository_of c.args.pool.now c.args.book.now).clauses ≡ length c.args.book.now.rows = lists.length-map c.args.book.now.rows (row_at c.args.pool.now) in
    let end : HasEnded (repository_of c.args.pool.now c.args.book.now) c.args.rule.limit c.args.rule.hold c.loop-turn.pool c.loop-turn.rows c.loop-turn.held.items = run_full R c.args.rule.limit c.args.rule.hold c.loop-turn.turn c.args.pool.now c.loop-turn.pool c.loop-turn.rows c.loop-turn.uses c.loop-turn.waiting c.loop-turn.held.items c.loop-turn.invariant (omega arith) in
    end.held

pub returns-clause-within : goal.returns-clause-within
returns-clause-within c =
    let R : Repository = repository_of c.args.pool.now c.args.book.now in
    let size : length (repository_of c.args.pool.now c.args.book.now).clauses ≡ length c.args.book.now.rows = lists.length-map c.args.book.now.rows (row_at c.args.pool.now) in
    let end : HasEnded (repository_of c.args.pool.now c.args.book.now) c.args.rule.limit c.args.rule.hold c.loop-turn.pool c.loop-turn.rows c.loop-turn.held.items = run_full R c.args.rule.limit c.args.rule.hold c.loop-turn.turn c.args.pool.now c.loop-turn.pool c.loop-turn.rows c.loop-turn.uses c.loop-turn.waiting c.loop-turn.held.items c.loop-turn.invariant (omega arith) in
    end.within

pub returns-clause-few : goal.returns-clause-few
returns-clause-few c =
    let size : length (repository_of c.args.pool.now c.args.book.now).clauses ≡ length c.args.book.now.rows = lists.length-map c.args.book.now.rows (row_at c.args.pool.now) in
    c.loop-turn.invariant.told.count ∙ size

pub with_flag-held-requires : goal.with_flag-held-requires
with_flag-held-requires c =
    let R : Repository = repository_of c.args.pool.now c.args.book.now in
    let here : length c.loop-turn.rows ≡ length (repository_of c.args.pool.now c.args.book.now).clauses = run_size R c.args.rule.limit c.args.rule.hold c.loop-turn.turn c.args.pool.now c.loop-turn.pool c.loop-turn.rows c.loop-turn.uses c.loop-turn.waiting c.loop-turn.held.items c.loop-turn.invariant in
    let few : length c.loop-turn.held.items ≡ length (repository_of c.args.pool.now c.args.book.now).clauses = c.loop-turn.invariant.told.count in
    let l : c.in-Some.next < length c.loop-turn.rows = first_there R c.args.rule.limit c.args.rule.hold c.loop-turn.turn c.args.pool.now c.loop-turn.pool c.loop-turn.rows c.loop-turn.uses c.loop-turn.waiting c.loop-turn.held.items c.loop-turn.invariant c.in-Some.next
    (c.in-Some.ensures.first (may_go R (remaining_after c.args.rule.limit c.args.rule.hold R c.loop-turn.turn)) (length_in (table_of c.loop-turn.pool c.loop-turn.rows)) c.loop-turn.invariant.filed) in
    omega arith

pub returns-in_err-stays-clause-kept : goal.returns-in_err-stays-clause-kept
returns-in_err-stays-clause-kept c = kept_along c.args.pool.now c.loop-turn.pool c.take_out_or_hold.new.pool c.loop-turn.invariant.kept c.take_out_or_hold.ensures.kept
