use Rattle.std.proofs.Common.{◌∙◌, ap, map, true}
use Rattle.row_book.specs.declared.health.Unhealthy.TheVariants.{Unhit}
use Rattle.status_check.proofs.Judging.{fault_state, flags_long, healthy_state}
use Rattle.status_check.proofs.state.own_state.Goals as goal

pub is_healthy-requires-clause-flags : goal.is_healthy-requires-clause-flags
is_healthy-requires-clause-flags c =
    flags_long c.book.new.pool c.in_ok-book.book c.args.suite.now.home c.args.suite.now.packages c.deref.result.now c.in_ok-book.ensures.repository (c.deref.ensures.value ∙ c.in_ok-all.ensures ∙ ap (map (λ facts. true)) c.as_slice.ensures)

pub returns-in-Ok : goal.returns-in-Ok
returns-in-Ok c =
    healthy_state c.book.new.pool c.in_ok-book.book c.args.suite.now.home c.args.suite.now.packages c.deref.result.now c.in_ok-book.ensures.repository (c.deref.ensures.value ∙ c.in_ok-all.ensures ∙ ap (map (λ facts. true)) c.as_slice.ensures)
    c.in-Ok.ensures.healthy

pub returns-in-Err-Unhit : goal.returns-in-Err-Unhit
returns-in-Err-Unhit c =
    let fault = rw c.in-Err-Unhit.field-0-is at c.in-Err-Unhit.ensures.refused in (
      c.in-Err-Unhit.field-0-1,
      fault_state c.book.new.pool c.in_ok-book.book c.args.suite.now.home c.args.suite.now.packages c.deref.result.now (Unhit c.in-Err-Unhit.package c.in-Err-Unhit.field-0-1) c.in_ok-book.ensures.repository (c.deref.ensures.value ∙ c.in_ok-all.ensures ∙ ap (map (λ facts. true)) c.as_slice.ensures) fault,
    )
