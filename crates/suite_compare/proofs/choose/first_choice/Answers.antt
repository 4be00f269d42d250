use Rattle.suite_compare.proofs.choose.first_choice.Goals as goal

pub returns-clause-chosen : goal.returns-clause-chosen
returns-clause-chosen c = rw (c.of.ensures, c.in_ok-made.ensures.items, c.as_slice.ensures.items) (λ n i. c.is_first_choice.ensures c.if-not-is_first_choice.false)
