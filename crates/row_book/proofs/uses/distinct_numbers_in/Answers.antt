use Rattle.std.proofs.Common.{◌∙◌, sym}
use Rattle.row_book.proofs.Distinct.{distinct_ascends, distinct_from, distinct_has}
use Rattle.listed.proofs.Lists.{In_has, has_In}
use Rattle.row_book.proofs.uses.distinct_numbers_in.Goals as goal

pub returns-clause-held : goal.returns-clause-held
returns-clause-held c = λ n i.
    sym (c.in_ok-found.ensures.members n) ∙ In_has (distinct_from c.in_ok-found.found.items c.dedup.new.self.items c.dedup.ensures.filtered n i)

pub returns-clause-all : goal.returns-clause-all
returns-clause-all c = λ n t.
    distinct_has c.in_ok-found.found.items c.dedup.new.self.items c.dedup.ensures.filtered n (has_In c.in_ok-found.found.items n (c.in_ok-found.ensures.members n ∙ t))

pub returns-clause-ascending : goal.returns-clause-ascending
returns-clause-ascending c = distinct_ascends c.in_ok-found.found.items c.dedup.new.self.items c.dedup.ensures.filtered c.in_ok-found.ensures.sorted
