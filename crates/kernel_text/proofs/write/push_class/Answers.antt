use Rattle.std.proofs.{Common.{sym, subst, ap, ◌∙◌, arith}, lemmas.Result.{on_ok_weaker}}
use Rattle.clause_pool.specs.Interned.{clauses_at, row_at}
use Rattle.row_book.specs.Book.{repository_of}
use Rattle.listed.specs.Lists.{In}
use Rattle.row_book.proofs.Books.{clauses_row}
use Rattle.repo_model.proofs.Elements.{at_place}
use Rattle.kernel_text.proofs.Written.{block_parts, list_is}
use Rattle.kernel_text.proofs.write.push_class.Goals as goal

-- the list of the class, as it is lent
pub push_member_lines-requires : goal.push_member_lines-requires
push_member_lines-requires c i j =
    c.requires.members c.args.number i
    (subst (In i) (c.as_slice.ensures ∙ list_is c.args.by_class.now c.args.number c.index-by_class-number.result (omega (arith, c.requires.inside, c.requires.size)) c.index-by_class-number.is) j)

pub row-requires-2 : goal.row-requires-2
row-requires-2 c = c.requires.sound.rows.of_pool c.row.result (subst (λ id. In id c.args.book.now.rows) (sym c.row.ensures) (at_place c.args.book.now.rows c.args.number 0 c.requires.inside))

-- the five parts of the block
pub returns : goal.returns
returns c =
    on_ok_weaker c.push_against_lines.result (λ pushed.
    block_parts (repository_of c.args.pool.now c.args.book.now) c.args.packages.now c.args.by_class.now c.args.held c.args.number c.args.out.now.items c.push_class_line.new.out.items c.push_member_lines.new.out.items
    c.push_held_line.new.out.items
    c.push_needs_lines.new.out.items c.push_against_lines.new.out.items c.as_slice.result.now (clauses_at c.args.pool.now c.row-2.result.now) c.against.result.now
    (c.as_slice.ensures ∙ list_is c.args.by_class.now c.args.number c.index-by_class-number.result (omega (arith, c.requires.inside, c.requires.size)) c.index-by_class-number.is)
    (ap (clauses_at c.args.pool.now) c.row-2.ensures.lent ∙ ap (row_at c.args.pool.now) c.row.ensures ∙ sym (clauses_row c.args.pool.now c.args.book.now c.args.number c.requires.inside))
    c.against.ensures c.in_ok-push_class_line.ensures c.in_ok-push_member_lines.ensures c.in_ok-push_held_line.ensures c.in_ok-push_needs_lines.ensures pushed) c.push_against_lines.ensures
