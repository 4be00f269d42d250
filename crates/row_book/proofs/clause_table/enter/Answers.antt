use Rattle.std.proofs.Common.{◌∷◌, [], subst}
use Rattle.row_book.specs.{Holders.{GainsOnly}, Uses.{lists_in}}
use Rattle.row_book.proofs.Holders.{lists_entered}
use Rattle.row_book.proofs.clause_table.enter.Goals as goal

pub returns-clause-lists : goal.returns-clause-lists
returns-clause-lists c =
    lists_entered c.args.pool.now c.args.id c.args.number (lists_in c.args.users.now) (lists_in c.push_to.new.lists) (lists_in c.args.clauses.now) (lists_in c.list_unused.new.clauses)
    c.requires.id c.list_unused.ensures.stays c.list_unused.ensures.came c.in_ok-list_unused.ensures.there
    (subst (λ z. GainsOnly (z ∷ []) c.args.number (lists_in c.args.users.now) (lists_in c.push_to.new.lists)) c.in_ok-place.ensures c.push_to.ensures.came)
