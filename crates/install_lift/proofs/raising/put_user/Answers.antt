use Rattle.std.proofs.Common.{OnOk, sym, subst}
use Rattle.row_book.specs.Flags.{flag}
use Rattle.listed.proofs.Lists.{In_at}
use Rattle.install_lift.specs.Raising.{PutsUser}
use Rattle.install_lift.proofs.Lowering.{clauses_are}
use Rattle.install_lift.proofs.raising.put_user.Goals as goal

pub row-requires-2 : goal.row-requires-2
row-requires-2 c = c.requires.sound.rows.of_pool c.row.result (rw c.row.ensures (In_at c.args.book.now.rows c.args.number 0 c.requires.number))

pub returns : goal.returns
returns c =
    subst (λ cs. OnOk c.put_to_row.result (PutsUser (flag c.args.more.now) cs c.args.number c.args.table.now c.put_to_row.new.table))
    (sym (clauses_are c.args.pool.now c.args.book.now c.args.number c.row.result c.row-2.result.now c.requires.number c.row.ensures c.row-2.ensures.lent)) c.put_to_row.ensures
