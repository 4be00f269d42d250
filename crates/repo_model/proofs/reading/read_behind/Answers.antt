use Rattle.std.proofs.{Common.{length, ap, arith}, lemmas.Result.{err_from_is_err_and}}
use Rattle.repo_model.proofs.{LineCounts.{line_onward}, Short.{values_short}, Steps.{few_more, read_first, shape_refused, stanza_refused, read_more, read_all}}
use Rattle.repo_model.proofs.reading.read_behind.Goals as goal

pub loop-building-init : goal.loop-building-init
loop-building-init c = record {
  place = c.requires.place;
  counted = omega arith;
  few = c.requires.few;
  built = c.requires.built;
  read = λ text front. read_first text c.args.part.now _ _ _ front.closed front.suite front.counted;
}

pub returns-in_err-read_next-clause-refused : goal.returns-in_err-read_next-clause-refused
returns-in_err-read_next-clause-refused c =
    let p = err_from_is_err_and c.from_residual.result c.from_residual.ensures.1 in
    rw (p.1, p.2) (λ text front.
    shape_refused _ _ (length c.as_slice-before.result.now) (c.loop-building.invariant.read text front) (ap length c.as_slice-before.ensures) c.in_err-read_next.ensures.refused)

pub add-requires-clause-short : goal.add-requires-clause-short
add-requires-clause-short c =
    let on = rw c.in-Stanza.is at c.in_ok-read_next.ensures.next in
    values_short c.args.part.now c.loop-building.at c.in-Stanza.stanza _ c.requires.short on.next

pub returns-in_err-add-in-Stanza-clause-refused : goal.returns-in_err-add-in-Stanza-clause-refused
returns-in_err-add-in-Stanza-clause-refused c =
    let p = err_from_is_err_and c.from_residual-in_err-add-in-Stanza.result c.from_residual-in_err-add-in-Stanza.ensures.1 in
    let on = rw c.in-Stanza.is at c.in_ok-read_next.ensures.next in
    rw (p.1, p.2) (λ text front.
    stanza_refused _ _ _ _ (length c.as_slice-before.result.now) c.in-Stanza.stanza c.in-Stanza.after (c.loop-building.invariant.read text front) (ap length c.as_slice-before.ensures) on
    c.in_err-add-in-Stanza.ensures.fault)

pub loop-building-preserved : goal.loop-building-preserved
loop-building-preserved c =
    let on = rw c.in-Stanza.is at c.in_ok-read_next.ensures.next in
    let added = c.in_ok-add-in-Stanza.ensures in
    let counted = ap length c.as_slice-before.ensures in
    record {
      place = on.behind.place;
      counted = omega (arith, c.loop-building.invariant.counted, on.behind.counted);
      few = few_more _ _ _ (length c.as_slice-before.result.now) counted on.room added.packages;
      built = added.built;
      read = λ text front. read_more _ _ (length c.as_slice-before.result.now) c.in-Stanza.stanza c.in-Stanza.after _ _ (c.loop-building.invariant.read text front) counted on
          added.fault.0 added.packages added.home;
    }

pub returns-in-End-clause-suite : goal.returns-in-End-clause-suite
returns-in-End-clause-suite c =
    let none = rw c.in-End.is at c.in_ok-read_next.ensures.next in λ text front. read_all _ _ _ (c.loop-building.invariant.read text front) none

pub returns-in-End-clause-counted : goal.returns-in-End-clause-counted
returns-in-End-clause-counted c = line_onward c.args.part.now c.loop-building.at.offset c.args.line _ _ c.loop-building.invariant.counted c.line_behind-line.ensures
