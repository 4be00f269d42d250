use Rattle.std.proofs.Common.{◌≡◌, ◌≤◌, ◌∙◌, ◌++◌, ap, eqb-true, subst, sym, length}
use Rattle.std.specs.Prelude.{if◌then◌else◌}
use Rattle.stanza_reader.specs.Blanking.{emptied, HasPicked}
use Rattle.stanza_reader.proofs.{BlankLemmas.{stanzas_picked}, LeftLemmas.{blanked_short, left_first, left_last, left_more, IsLeft}}
use Rattle.stanza_reader.proofs.blanking.blank_lines.Goals as goal

pub loop-flags-init : goal.loop-flags-init
loop-flags-init c = subst (λ made. IsLeft c.args.keep.now c.args.bytes.now made c.args.keep.now c.args.bytes.now) (sym c.in_ok-made.ensures.items) (left_first c.args.keep.now c.args.bytes.now)

pub loop-flags-preserved : goal.loop-flags-preserved
loop-flags-preserved c =
    left_more c.args.keep.now c.args.bytes.now c.loop-flags.made.items c.push_line.new.made.items c.loop-flags.flags.now c.flags_behind-flags.result.now c.loop-flags.rest.now c.first_line.result.0.now c.first_line.result.1.now
    c.first_line.ensures.lines (c.in_ok-push_line.ensures ∙ ap (λ w. c.loop-flags.made.items ++ (if w then c.first_line.result.0.now else emptied c.first_line.result.0.now)) c.stays.ensures)
    c.flags_behind-flags.ensures c.loop-flags.invariant

pub returns-clause-text : goal.returns-clause-text
returns-clause-text c = left_last c.args.keep.now c.args.bytes.now c.loop-flags.made.items c.loop-flags.flags.now c.loop-flags.rest.now (eqb-true (length c.loop-flags.rest.now) 0 (sym c.is_empty.ensures ∙ c.loop-flags-test.false)) c.loop-flags.invariant

pub returns-clause-stanzas : goal.returns-clause-stanzas
returns-clause-stanzas c =
    subst (HasPicked c.args.bytes.now c.args.keep.now) (sym (left_last c.args.keep.now c.args.bytes.now c.loop-flags.made.items c.loop-flags.flags.now c.loop-flags.rest.now (eqb-true (length c.loop-flags.rest.now) 0 (sym c.is_empty.ensures ∙ c.loop-flags-test.false)) c.loop-flags.invariant))
    (stanzas_picked c.args.bytes.now c.args.keep.now)

pub returns-clause-short : goal.returns-clause-short
returns-clause-short c =
    subst (λ made. length made ≤ length c.args.bytes.now) (sym (left_last c.args.keep.now c.args.bytes.now c.loop-flags.made.items c.loop-flags.flags.now c.loop-flags.rest.now (eqb-true (length c.loop-flags.rest.now) 0 (sym c.is_empty.ensures ∙ c.loop-flags-test.false)) c.loop-flags.invariant))
    (blanked_short c.args.keep.now c.args.bytes.now)
