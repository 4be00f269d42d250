use Rattle.suite_compare.proofs.comparison.first_line_by.Goals as goal

pub returns-clause-first : goal.returns-clause-first
returns-clause-first c = λ home stanzas is borne.
    let side = c.in_ok-made.ensures home stanzas is borne in
    rw side.names_are at (c.first_beside-first.ensures.first _ _ side.are)
