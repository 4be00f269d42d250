use Rattle.std.proofs.Common.{◌∙◌, ap}
use Rattle.suite_compare.{specs.Bad.{entered_verdict}, proofs.Saved.{entered_told}}
use Rattle.suite_compare.proofs.verdicts.verdict_beside.Goals as goal

pub bads_at-requires : goal.bads_at-requires
bads_at-requires c = c.is_told.ensures.kind c.if-is_told.true

pub returns-then-is_told : goal.returns-then-is_told
returns-then-is_told c =
    entered_told c.args.judge.now c.args.lists.now c.args.first c.args.second c.entered.result c.requires.first c.requires.second c.requires.lists (c.is_told.ensures.kind c.if-is_told.true) c.requires.first_alone c.requires.second_alone
    (rw (c.classes_of-one.ensures.is, c.classes_of-other.ensures.is) at (c.is_told.ensures.single c.if-is_told.true)) (c.entered.ensures ∙ ap (λ z. entered_verdict z c.args.first) c.bads_at.ensures)
