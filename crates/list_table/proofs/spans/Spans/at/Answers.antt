use Rattle.std.proofs.{Common.{◌≡◌, ◌<◌, ◌≤◌, [], length, get_or, subst, sym, ◌∙◌, ap, arith}, lemmas.List.{length-map, get_or_read}}
use Rattle.list_table.specs.Parts.{part}
use Rattle.list_table.proofs.Parts.{Within_at, part_at}
use Rattle.list_table.proofs.spans.Spans.at.Goals as goal
use Rattle.list_table.proofs.spans.Spans.at.Given as given
use Rattle.list_table.proofs.spans.Spans.at.Goals.{After-index}

within : (g : given.Over) (c : After-index g) → c.args.place < length c.self.inside.ends.items
within g c =
    let n : length c.args.self.now ≡ length c.self.inside.ends.items = sym (ap length c.self.view_is) ∙ length-map c.self.inside.ends.items (part c.self.inside.items.items) in
    omega arith

read : (g : given.Over) (c : After-index g) → c.index.result.now ≡ get_or c.self.inside.ends.items c.args.place (0, 0)
read g c = get_or_read c.self.inside.ends.items c.args.place c.index.result.now (within g c) c.index.ensures (0, 0)

pub part_of-requires-clause-start : goal.part_of-requires-clause-start
part_of-requires-clause-start g c =
    subst (λ p. p.0 ≤ p.1) (sym (read g (goal.at.part_of-requires-clause-start g c).After-index)) (Within_at _ c.self.inside.ends.items c.args.place (0, 0) c.self.invariant (within g (goal.at.part_of-requires-clause-start g c).After-index)).0

pub part_of-requires-clause-end : goal.part_of-requires-clause-end
part_of-requires-clause-end g c =
    subst (λ p. p.1 ≤ length c.deref.result.now) (sym (read g (goal.at.part_of-requires-clause-end g c).After-index))
    (let w : (get_or c.self.inside.ends.items c.args.place (0, 0)).1 ≤ length c.self.inside.items.items =
    (Within_at _ c.self.inside.ends.items c.args.place (0, 0) c.self.invariant (within g (goal.at.part_of-requires-clause-end g c).After-index)).1 in
    let n : length c.deref.result.now ≡ length c.self.inside.items.items = ap length c.deref.ensures.value in omega arith)

pub returns : goal.returns
returns g c =
    c.part_of.ensures
    ∙ ap (λ i. part i c.index.result.now) c.deref.ensures.value
    ∙ ap (part c.self.inside.items.items) (read g (goal.at.returns g c).After-index)
    ∙ sym (part_at c.self.inside.items.items c.self.inside.ends.items c.args.place (0, 0) (within g (goal.at.returns g c).After-index))
    ∙ ap (λ l. get_or l c.args.place []) c.self.view_is
