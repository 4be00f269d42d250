use Rattle.std.proofs.Common.{◌∙◌, ap, not, sym, ◌&&◌}
use Rattle.row_book.specs.Facing.{against_in}
use Rattle.conflict_reduce.proofs.Left.{left_test}
use Rattle.conflict_reduce.proofs.facing.OtherConflicts.are_left.Goals as goal

pub returns-then-are_against : goal.returns-then-are_against
returns-then-are_against c =
    ap not c.are_against-then-are_against.ensures
    ∙ ap (λ s. s && not (against_in c.args.self.now.gone.now c.args.m c.args.n)) (sym c.if-are_against.true ∙ c.are_against.ensures)
    ∙ sym (left_test c.args.self.now.table.now c.args.self.now.gone.now c.args.m c.args.n)

pub returns-else-are_against : goal.returns-else-are_against
returns-else-are_against c =
    c.if-are_against.false
    ∙ ap (λ s. s && not (against_in c.args.self.now.gone.now c.args.m c.args.n)) (sym c.if-are_against.false ∙ c.are_against.ensures)
    ∙ sym (left_test c.args.self.now.table.now c.args.self.now.gone.now c.args.m c.args.n)
