use Rattle.std.proofs.Common.{◌<◌, ◌∙◌, ap, subst, sym}
use Rattle.row_book.specs.Parts.{clause_in}
use Rattle.listed.specs.Lists.{Ascending, In}
use Rattle.suite_part.proofs.{Backs.{back_more, clause_ascends}, Lefts.{known_id}}
use Rattle.suite_part.proofs.back.clause_back.Goals as goal

pub returns-in-Some-clause-is : goal.returns-in-Some-clause-is
returns-in-Some-clause-is c =
    c.requires.seen.each c.args.id c.in-Some.new
    (known_id c.args.seen.now.items c.place.result c.args.id c.index.result.now c.in-Some.new c.place.ensures (subst (λ z. c.args.id < z) (sym c.requires.seen.size) c.requires.id) c.index.ensures c.in-Some.is)

pub numbers_of-requires : goal.numbers_of-requires
numbers_of-requires c = λ k i. c.requires.within k (subst (λ z. In k z) c.slice.ensures.lent i)

pub intern-requires : goal.intern-requires
intern-requires c =
    subst Ascending (sym (c.as_slice.ensures.value ∙ c.in_ok-clause.ensures))
    (clause_ascends c.args.numbers.now c.slice.result.now c.requires.ascending c.slice.ensures.ascending (λ k i. c.requires.within k (subst (λ z. In k z) c.slice.ensures.lent i)))

pub returns-clause-seen : goal.returns-clause-seen
returns-clause-seen c =
    back_more c.args.from.now c.args.numbers.now c.args.pool.now c.intern.new.self c.args.seen.now.items c.place-2.result c.args.id c.in_ok-made.made c.intern.ensures.kept c.place-2.ensures
    (subst (λ z. c.args.id < z) (sym c.requires.seen.size) c.requires.id)
    (record {
      within = c.in_ok-made.ensures.ok.within;
      is = c.in_ok-made.ensures.ok.holds ∙ c.as_slice.ensures.value ∙ c.in_ok-clause.ensures ∙ ap (clause_in c.args.numbers.now) c.slice.ensures.lent;
    })
    c.requires.seen
