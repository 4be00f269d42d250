use Rattle.std.proofs.Common.{◌∙◌, ap₂, sym}
use Rattle.repo_model.specs.declared.suite.Suite.{Suite}
use Rattle.suite_compare.specs.declared.old_side.OldSide.{OldSide}
use Rattle.migrate_plan.specs.Differing.{differing}
use Rattle.migrate_plan.proofs.making.lines_by_side.Goals as goal

pub lines_by_mixes-lines-requires-clause-names : goal.lines_by_mixes-lines-requires-clause-names
lines_by_mixes-lines-requires-clause-names c =
    c.requires.names ∙ ap₂ (λ (old : OldSide) (new : Suite). differing old.view.now.suite.packages new.packages) (sym c.in_ok-both.ensures.side) (sym c.in_ok-both.ensures.suite)

pub returns : goal.returns
returns c = rw (c.in_ok-both.ensures.side, c.in_ok-both.ensures.suite) at c.lines_by_mixes-lines.ensures
