use Rattle.std.proofs.Common.{◌∷◌, [], ◌++◌, ◌∙◌, ap}
use Rattle.row_book.proofs.Needed.{needs_push}
use Rattle.row_book.proofs.needs.Needs.push.Goals as goal

pub invariant_of-self-2 : goal.invariant_of-self-2
invariant_of-self-2 c =
    needs_push c.self.inside.clauses.items c.push.new.self.items c.args.clause.now (c.in_ok-push.ensures.items ∙ ap (λ x. c.self.inside.clauses.items ++ x ∷ []) (c.of.ensures ∙ c.in_ok-copy.ensures.items))
    c.self.invariant c.requires.ascending c.requires.filled
