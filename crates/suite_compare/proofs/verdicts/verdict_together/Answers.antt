use Rattle.std.proofs.Common.{◌∙◌, ◌∷◌, [], ap, ap₂, length}
use Rattle.suite_compare.{specs.Kinds.{kernel_in, kernel_verdict}, proofs.Judged.{pair_fits}, proofs.Saved.{rivals_told}}
use Rattle.suite_compare.proofs.verdicts.verdict_together.Goals as goal

pub returns-then-are_rivals : goal.returns-then-are_rivals
returns-then-are_rivals c =
    rivals_told c.args.judge.now c.args.first c.args.second c.requires.first c.requires.second (rw (c.classes_of-one.ensures.is, c.classes_of-other.ensures.is) at (c.are_rivals.ensures c.if-are_rivals.true))

pub verdict_on-requires : goal.verdict_on-requires
verdict_on-requires c =
    rw (c.in_ok-goals.ensures, c.classes_of-one.ensures.is, c.classes_of-other.ensures.is) (pair_fits (length c.args.judge.now.kernel.book.now.rows) c.args.judge.now.kinds.items c.args.first c.args.second c.requires.first c.requires.second c.args.judge.now.fit)

pub returns : goal.returns
returns c = c.in_ok-verdict.ensures ∙ ap (kernel_verdict (kernel_in c.args.judge.now) c.args.judge.now.budget) (c.in_ok-goals.ensures ∙ ap₂ (λ a b. a ∷ (b ∷ [])) c.classes_of-one.ensures.is c.classes_of-other.ensures.is)
