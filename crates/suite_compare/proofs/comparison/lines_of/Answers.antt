use Rattle.std.proofs.Common.{◌∙◌, ◌++◌, ap}
use Rattle.suite_compare.specs.Comparing.{told_pairs}
use Rattle.suite_compare.proofs.comparison.lines_of.Goals as goal

pub bad_lists-requires : goal.bad_lists-requires
bad_lists-requires c = c.deref.ensures.value ∙ c.args.sides.now.side.told

pub put_pair_lines-requires : goal.put_pair_lines-requires
put_pair_lines-requires c = rw c.deref-2.ensures.value c.in_ok-bad.ensures

pub returns : goal.returns
returns c = λ v w are. c.in_ok-put_pair_lines.ensures v w are ∙ ap (λ z. z ++ told_pairs v w c.args.sides.now.common.names.items) (c.in_ok-lines.ensures v w are)
