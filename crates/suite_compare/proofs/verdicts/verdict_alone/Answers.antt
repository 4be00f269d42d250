use Rattle.std.proofs.Common.{◌∙◌, ◌∷◌, [], ap, length}
use Rattle.suite_compare.{specs.Kinds.{kernel_in, kernel_verdict}, proofs.Judged.{one_fits}}
use Rattle.suite_compare.proofs.verdicts.verdict_alone.Goals as goal

pub verdict_on-requires : goal.verdict_on-requires
verdict_on-requires c = rw (c.in_ok-goals.ensures, c.classes_of.ensures.is) (one_fits (length c.args.judge.now.kernel.book.now.rows) c.args.judge.now.kinds.items c.args.kind c.requires c.args.judge.now.fit)

pub returns : goal.returns
returns c = c.in_ok-verdict.ensures ∙ ap (kernel_verdict (kernel_in c.args.judge.now) c.args.judge.now.budget) (c.in_ok-goals.ensures ∙ ap (λ z. z ∷ []) c.classes_of.ensures.is)
