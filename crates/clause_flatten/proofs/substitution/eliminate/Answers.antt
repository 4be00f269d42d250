use Rattle.std.proofs.Common.{◌<◌, ◌∙◌, ap, length, subst, sym}
use Rattle.row_book.proofs.Users.{length_uses}
use Rattle.clause_flatten.proofs.Replacing.{users_are}
use Rattle.clause_flatten.proofs.substitution.eliminate.Goals as goal

pub packages-requires : goal.packages-requires
packages-requires c = subst (λ z. c.args.gone < z) (sym (ap length c.requires.table ∙ length_uses c.args.pool.now c.args.rows.now)) c.requires.gone

pub eliminate_for-requires-clause-users : goal.eliminate_for-requires-clause-users
eliminate_for-requires-clause-users c =
    users_are c.args.pool.now c.args.rows.now c.args.gone c.args.uses.now c.packages.result.now c.in_ok-users.users.items c.as_slice.result.now
    c.requires.gone c.requires.table c.packages.ensures c.in_ok-users.ensures.items c.as_slice.ensures.value
