use Rattle.std.proofs.{Common.{sym, ◌∙◌}, lemmas.Result.{err_from_is_err_and}}
use Rattle.stanza_reader.specs.{Places.{lines_at}, Stanzas.{first_group}}
use Rattle.stanza_reader.proofs.GroupLemmas.{lines_refused, shape_of, lone_refused, repeat_refused, accepted, number_at}
use Rattle.stanza_reader.proofs.groups.read_group.Goals as goal

pub returns-then-is_continuation-clause-fault : goal.returns-then-is_continuation-clause-fault
returns-then-is_continuation-clause-fault c = lone_refused _ _ _ c.next_line.ensures.lines c.requires.full (sym c.is_continuation.ensures ∙ c.if-is_continuation.true)

pub returns-in_err-found-clause-fault : goal.returns-in_err-found-clause-fault
returns-in_err-found-clause-fault c =
    let p = err_from_is_err_and c.from_residual.result c.from_residual.ensures.1 in
    let same = shape_of _ _ _ c.next_line.ensures.lines (sym c.is_continuation.ensures ∙ c.if-is_continuation.false) in
    rw (p.1, p.2) (lines_refused (first_group (lines_at c.args.bytes.now c.args.at)) _ same c.in_err-found.ensures.fault)

pub returns-in-Some-clause-fault : goal.returns-in-Some-clause-fault
returns-in-Some-clause-fault c =
    let same = shape_of _ _ _ c.next_line.ensures.lines (sym c.is_continuation.ensures ∙ c.if-is_continuation.false) in
    repeat_refused _ c.in-Some.fault (sym (same ∙ c.in_ok-found.ensures.shape)) (sym c.in-Some.is ∙ c.in_ok-found.ensures.repeat)

pub returns-clause-stanza : goal.returns-clause-stanza
returns-clause-stanza c =
    let same = shape_of _ _ _ c.next_line.ensures.lines (sym c.is_continuation.ensures ∙ c.if-is_continuation.false) in
    accepted _ c.args.at.line c.in_ok-found.found.fields (sym (same ∙ c.in_ok-found.ensures.shape)) (sym c.in_default.is ∙ c.in_ok-found.ensures.repeat)
    (number_at c.args.bytes.now c.args.at c.requires.more c.requires.full) (c.in_ok-found.ensures.fields c.in_default.is)
