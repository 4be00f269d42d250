use Rattle.std.proofs.Common.{◌≡◌, ◌<◌, ◌+◌, ◌∙◌, [], ap, ap₂, arith, get_or, length, not, subst, sym}
use Rattle.listed.specs.Lists.{Ascending, In}
use Rattle.listed.proofs.Lists.{filter_cases, In_at}
use Rattle.clause_families.specs.Counting.{first_at, is_apart, rest_of, slice_count}
use Rattle.clause_families.proofs.CountedRows.{slice_split}
use Rattle.clause_families.proofs.counting.count_slice.Goals as goal

pub count_made-requires-clause-ascending : goal.count_made-requires-clause-ascending
count_made-requires-clause-ascending c = subst Ascending (sym (c.clause_in-clause.ensures ∙ ap (λ z. get_or z c.args.place []) c.as_slice.ensures.value)) (c.requires.parts.first.rising (first_at c.args.parts.now c.args.place) (In_at c.args.parts.now.first.clauses.items c.args.place [] c.requires.place))

pub count_made-requires-clause-apart : goal.count_made-requires-clause-apart
count_made-requires-clause-apart c i = c.requires.apart (first_at c.args.parts.now c.args.place) (In_at c.args.parts.now.first.clauses.items c.args.place [] c.requires.place) (subst (λ z. In c.args.spent z) (c.clause_in-clause.ensures ∙ ap (λ z. get_or z c.args.place []) c.as_slice.ensures.value) i)

pub count_made-requires-2-clause-ascending : goal.count_made-requires-2-clause-ascending
count_made-requires-2-clause-ascending c = subst Ascending (sym (c.clause_in-clause.ensures ∙ ap (λ z. get_or z c.args.place []) c.as_slice.ensures.value)) (c.requires.parts.first.rising (first_at c.args.parts.now c.args.place) (In_at c.args.parts.now.first.clauses.items c.args.place [] c.requires.place))

pub count_made-requires-2-clause-apart : goal.count_made-requires-2-clause-apart
count_made-requires-2-clause-apart c i = c.requires.apart (first_at c.args.parts.now c.args.place) (In_at c.args.parts.now.first.clauses.items c.args.place [] c.requires.place) (subst (λ z. In c.args.spent z) (c.clause_in-clause.ensures ∙ ap (λ z. get_or z c.args.place []) c.as_slice.ensures.value) i)

pub count_made-requires-2-clause-rising : goal.count_made-requires-2-clause-rising
count_made-requires-2-clause-rising c d i =
    c.requires.parts.second.rising d
    (filter_cases (λ clause. not (is_apart c.requires.parts.split.near clause)) c.args.parts.now.second.clauses.items d (subst (λ z. In d z) (c.as_slice-3.ensures.value ∙ c.requires.parts.split.others) i)).0

pub overflow_add-result : goal.overflow_add-result
overflow_add-result c =
    let fits : length c.as_slice-4.result.now + c.in_ok-made.made < 18446744073709551616 = subst (λ n. n < 18446744073709551616) (sym (ap₂ (λ x y. x + y) (ap length c.as_slice-4.ensures.value) (c.in_ok-made.ensures (rest_of c.args.parts.now c.args.place) c.requires.later
    ∙ ap₂ (λ x y. slice_count c.args.parts.now.kept.clauses.items c.args.parts.now.first.clauses.items c.args.parts.now.second.clauses.items (rest_of c.args.parts.now c.args.place) x y) (c.clause_in-clause.ensures ∙ ap (λ z. get_or z c.args.place []) c.as_slice.ensures.value) c.as_slice-3.ensures.value)
    ∙ sym (slice_split c.args.parts.now c.requires.parts c.args.place c.requires.place c.requires.minimal_first c.requires.minimal_second c.requires.beside
    (ap₂ (λ x y. is_apart x y) (sym c.as_slice-2.ensures.value) (sym (c.clause_in-clause.ensures ∙ ap (λ z. get_or z c.args.place []) c.as_slice.ensures.value)) ∙ sym c.is_apart.ensures ∙ c.if-not-is_apart.false)))) c.requires.few in
    omega arith

pub returns : goal.returns
returns c =
    ap₂ (λ x y. x + y) (ap length c.as_slice-4.ensures.value) (c.in_ok-made.ensures (rest_of c.args.parts.now c.args.place) c.requires.later
    ∙ ap₂ (λ x y. slice_count c.args.parts.now.kept.clauses.items c.args.parts.now.first.clauses.items c.args.parts.now.second.clauses.items (rest_of c.args.parts.now c.args.place) x y) (c.clause_in-clause.ensures ∙ ap (λ z. get_or z c.args.place []) c.as_slice.ensures.value) c.as_slice-3.ensures.value)
    ∙ sym (slice_split c.args.parts.now c.requires.parts c.args.place c.requires.place c.requires.minimal_first c.requires.minimal_second c.requires.beside
    (ap₂ (λ x y. is_apart x y) (sym c.as_slice-2.ensures.value) (sym (c.clause_in-clause.ensures ∙ ap (λ z. get_or z c.args.place []) c.as_slice.ensures.value)) ∙ sym c.is_apart.ensures ∙ c.if-not-is_apart.false))
