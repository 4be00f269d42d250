use Rattle.std.proofs.{Common.{◌∙◌, arith}, lemmas.List.{length-map}}
use Rattle.row_book.specs.Holders.{holders_in}
use Rattle.row_book.proofs.Holders.{all_told}
use Rattle.row_book.proofs.clause_table.enter_rows.Goals as goal

pub returns : goal.returns
returns c =
    all_told c.args.pool.now c.args.rows.now c.loop-number.number (holders_in c.loop-number.users c.loop-number.clauses) (omega arith)
    (length-map c.loop-number.clauses (λ v. v.items) ∙ c.loop-number.auto.clauses ∙ c.requires.size) c.loop-number.invariant.users c.loop-number.invariant.lists
