use Rattle.std.proofs.Common.{sym, ap, subst, ◌∙◌}
use Rattle.row_book.{specs.Flags.{flag}, specs.Sets.{HitsAll}, specs.Rounds.{kernel, kernel_steps}}
use Rattle.suite_compare.proofs.install.install.Goals as goal

pub lift-requires-clause-kernel : goal.lift-requires-clause-kernel
lift-requires-clause-kernel c =
    let view = c.args.view.now in
    let so = view.of_suite in
    record {
      limit = view.limit;
      hold = view.kernel.hold;
      is = so.kernel_is.book.repository ∙ sym (ap (kernel view.limit view.kernel.hold) so.book_is.repository);
      steps = so.kernel_is.steps ∙ sym (ap (kernel_steps view.limit view.kernel.hold) so.book_is.repository);
    }

pub trim-requires-clause-hits : goal.trim-requires-clause-hits
trim-requires-clause-hits c = subst (λ set. HitsAll set c.args.wanted.now) (sym (ap flag c.as_slice.ensures ∙ c.in_ok-lifted.ensures.is)) c.requires.hits
