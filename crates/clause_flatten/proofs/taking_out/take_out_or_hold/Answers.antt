use Rattle.std.proofs.Common.{◌≡◌, ◌∙◌, ℕ, List, Some, false, length, sym}
use Rattle.std.proofs.lemmas.List as lists
use Rattle.std.proofs.lemmas.Result.{err_from_is_err_and}
use Rattle.clause_pool.specs.Interned.{clauses_at}
use Rattle.clause_flatten.specs.{Ready.{table_of}, Substitution.{length_in, table_without}}
use Rattle.row_book.specs.{Numbers.{numbers}, Flattening.{passed_by}}
use Rattle.clause_flatten.proofs.{Running.{on_limit}, Runs.{eliminated_count, holds_none}}
use Rattle.clause_flatten.proofs.taking_out.take_out_or_hold.Goals as goal

pub returns-in_err-take_out-clause-passed : goal.returns-in_err-take_out-clause-passed
returns-in_err-take_out-clause-passed c =
    let new : List (List (List ℕ)) = table_without c.args.step.next (table_of c.args.pool.now c.args.rows.now) in
    let size : length c.args.rows.now ≡ length (table_without c.args.step.next (table_of c.args.pool.now c.args.rows.now)) =
    sym (eliminated_count c.args.step.next (table_of c.args.pool.now c.args.rows.now) ∙ lists.length-map c.args.rows.now (clauses_at c.args.pool.now)) in
    let p = err_from_is_err_and c.from_residual-in_err-take_out.result c.from_residual-in_err-take_out.ensures.1 in
    rw (p.1, p.2)
    (on_limit
    (λ w. passed_by (length_in (table_without c.args.step.next (table_of c.args.pool.now c.args.rows.now))) (numbers (length c.args.rows.now) 0) c.args.step.limit c.args.step.gone ≡ Some w)
    (λ w. (c.args.step.hold ≡ false)
    × (passed_by (length_in (table_without c.args.step.next (table_of c.args.pool.now c.args.rows.now))) (numbers (length c.args.rows.now) 0) c.args.step.limit c.args.step.gone ≡ Some w))
    (λ w h. (holds_none c.args.step.hold new c.args.step.limit c.args.step.gone (length c.args.rows.now) w size (sym c.if-stays.false ∙ c.in_ok-stays.ensures) h, h))
    _ c.in_err-take_out.ensures.passed)
