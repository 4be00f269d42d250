use Rattle.std.proofs.Common.{◌<◌, ℕ, List, arith, ap, sym, ◌∙◌, length}
use Rattle.std.specs.Option.{option_map}
use Rattle.clause_flatten.specs.{Ready.{table_of}, Substitution.{table_without, length_in}}
use Rattle.row_book.specs.Numbers.{numbers}
use Rattle.clause_flatten.proofs.{Runs.{none_over, passed_some}, UserRows.{filed_after, over_all}, WorkedRows.{none_left, users_below}}
use Rattle.clause_flatten.proofs.taking_out.take_out.Goals as goal

pub first_over-requires-clause-users : goal.first_over-requires-clause-users
first_over-requires-clause-users c = c.as_slice.ensures.value ∙ c.in_ok-users.ensures c.requires.ready.table

pub returns-in-Some-clause-passed : goal.returns-in-Some-clause-passed
returns-in-Some-clause-passed c =
    let new : List (List (List ℕ)) = table_without c.args.step.next (table_of c.args.pool.now c.args.rows.now) in
    passed_some new c.args.step.limit c.args.step.gone c.in-Some.over.package c.in-Some.over.count (numbers (length c.args.rows.now) 0)
    (over_all c.args.pool.now c.args.rows.now c.args.step.next c.requires.there c.as_slice.result.now
    (c.as_slice.ensures.value ∙ c.in_ok-users.ensures c.requires.ready.table)
    c.requires.ready.fit c.requires.ready.tidy c.args.step.limit c.requires.within
    ∙ sym c.in_ok-over.ensures.first ∙ ap (option_map (λ o. o.package)) c.in-Some.is)
    (c.in_ok-over.ensures.count c.in-Some.over c.in-Some.is)

pub file_users-requires : goal.file_users-requires
file_users-requires c q i =
    let l : q < length c.args.rows.now =
    users_below c.args.pool.now c.args.rows.now c.args.step.next c.as_slice-3.result.now
    (c.as_slice-3.ensures.value ∙ c.in_ok-users.ensures c.requires.ready.table) q i in
    omega arith

pub returns-clause-within : goal.returns-clause-within
returns-clause-within c =
    none_over (table_without c.args.step.next (table_of c.args.pool.now c.args.rows.now)) c.args.step.limit (length c.args.rows.now)
    (over_all c.args.pool.now c.args.rows.now c.args.step.next c.requires.there c.as_slice.result.now
    (c.as_slice.ensures.value ∙ c.in_ok-users.ensures c.requires.ready.table)
    c.requires.ready.fit c.requires.ready.tidy c.args.step.limit c.requires.within
    ∙ sym c.in_ok-over.ensures.first ∙ ap (option_map (λ o. o.package)) c.in_default.is)

pub returns-clause-filed : goal.returns-clause-filed
returns-clause-filed c may d =
    filed_after c.args.pool.now c.args.rows.now c.args.step.next c.requires.there c.as_slice-3.result.now
    (c.as_slice-3.ensures.value ∙ c.in_ok-users.ensures c.requires.ready.table)
    c.requires.ready.fit c.requires.ready.tidy c.file_users.new.waiting may (table_of c.change_rows.new.pool c.change_rows.new.rows) c.in_ok-change_rows.ensures.ok
    (c.file_users.ensures c.change_rows.new.pool may (length_in (table_of c.args.pool.now c.args.rows.now)) d)

pub change_rows-requires-clause-users : goal.change_rows-requires-clause-users
change_rows-requires-clause-users c = c.as_slice-2.ensures.value ∙ c.in_ok-users.ensures c.requires.ready.table

pub returns-clause-ready : goal.returns-clause-ready
returns-clause-ready c = record {
  fit = c.change_rows.ensures.ready.fit;
  tidy = c.change_rows.ensures.ready.tidy;
  table =
      c.forget.ensures c.change_rows.new.pool c.change_rows.new.rows
      (none_left c.args.pool.now c.change_rows.new.pool c.args.rows.now c.change_rows.new.rows c.args.step.next c.requires.there c.requires.ready.tidy c.in_ok-change_rows.ensures.ok)
      c.change_rows.ensures.ready.table;
}
