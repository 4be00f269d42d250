use Rattle.std.proofs.Common.{◌^◌, sym, ◌∙◌, subst, arith}
use Rattle.clause_flatten.specs.LeastTree.{IsFirstLeast}
use Rattle.clause_flatten.proofs.Turns.{none_waits, first_turn}
use Rattle.clause_flatten.proofs.waiting.Waiting.take_first.Goals as goal

pub returns-then-turn-clause-none : goal.returns-then-turn-clause-none
returns-then-turn-clause-none c =
    none_waits c.self.inside.nodes.items c.args.self.now (2 ^ c.self.inside.depth) c.first_least-number.result (sym c.self.view_is) c.self.invariant.0
    (subst (λ xs. IsFirstLeast xs (2 ^ c.self.inside.depth) c.first_least-number.result) c.as_slice.ensures.value c.first_least-number.ensures)
    (sym c.turn.ensures ∙ c.if-turn.true)

pub returns-clause-first : goal.returns-clause-first
returns-clause-first c =
    first_turn c.self.inside.nodes.items c.args.self.now (2 ^ c.self.inside.depth) c.first_least-number.result (sym c.self.view_is) c.self.invariant.0
    (subst (λ xs. IsFirstLeast xs (2 ^ c.self.inside.depth) c.first_least-number.result) c.as_slice.ensures.value c.first_least-number.ensures)
    (λ e. c.if-turn.false (c.turn.ensures ∙ e))
    (omega arith)
