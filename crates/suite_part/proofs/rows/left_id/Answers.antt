use Rattle.std.proofs.Common.{◌≡◌, ◌<◌, ◌∙◌, ap, eqb-true, length, subst, sym}
use Rattle.row_book.proofs.Placed.{chosen_ascending}
use Rattle.listed.specs.Lists.{Ascending}
use Rattle.clause_pool.specs.Interned.{clause_at}
use Rattle.row_book.specs.Parts.{chosen_in}
use Rattle.suite_part.proofs.Lefts.{known_id, left_more, whole_clause}
use Rattle.suite_part.proofs.rows.left_id.Goals as goal

pub returns-in-Some-clause-is : goal.returns-in-Some-clause-is
returns-in-Some-clause-is c =
    c.requires.known.each c.args.id c.in-Some.new
    (known_id c.args.left.now.known.items c.place.result c.args.id c.index.result.now c.in-Some.new c.place.ensures (subst (λ z. c.args.id < z) (sym c.requires.known.size) c.requires.id) c.index.ensures c.in-Some.is)

pub intern-requires : goal.intern-requires
intern-requires c =
    subst Ascending (sym (c.as_slice.ensures.value ∙ c.in_ok-put_among.ensures)) (chosen_ascending c.args.chosen.now.flags.items c.slice-clause.result.now c.slice-clause.ensures.ascending)

pub returns-clause-known : goal.returns-clause-known
returns-clause-known c =
    let flags = c.args.chosen.now.flags.items in
    let clause = clause_at c.args.from.now c.args.id in
    let left : c.as_slice.result.now ≡ chosen_in flags clause = c.as_slice.ensures.value ∙ c.in_ok-put_among.ensures ∙ ap (chosen_in flags) c.slice-clause.ensures.lent in
    let again : c.as_slice-2.result.now ≡ chosen_in flags clause = c.as_slice-2.ensures.value ∙ c.in_ok-put_among.ensures ∙ ap (chosen_in flags) c.slice-clause.ensures.lent in
    left_more c.args.from.now flags c.args.pool.now c.intern.new.self c.args.left.now.known.items c.args.left.now.whole.items c.place-2.result c.place-3.result c.args.id c.in_ok-made.made _
    c.intern.ensures.kept c.place-2.ensures c.place-3.ensures c.requires.id (record { within = c.in_ok-made.ensures.ok.within; is = c.in_ok-made.ensures.ok.holds ∙ left })
    (λ same. whole_clause flags clause (sym (ap length again) ∙ eqb-true (length c.as_slice-2.result.now) (length c.slice-clause.result.now) same ∙ ap length c.slice-clause.ensures.lent))
    c.requires.known
