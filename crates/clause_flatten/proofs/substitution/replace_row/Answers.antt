use Rattle.std.proofs.Common.{◌<◌, length, ap, sym, ◌∙◌, subst}
use Rattle.clause_pool.specs.Interned.{row_at}
use Rattle.listed.proofs.Lists.{item_in}
use Rattle.row_book.proofs.Users.{length_uses}
use Rattle.clause_families.proofs.Families.{item_zero}
use Rattle.clause_flatten.proofs.Replacing.{id_other, uses_kept}
use Rattle.clause_flatten.proofs.substitution.replace_row.Goals as goal

pub returns-in_err-new-clause-table : goal.returns-in_err-new-clause-table
returns-in_err-new-clause-table c = c.requires.table ∙ uses_kept c.args.pool.now c.new_row.new.pool c.args.rows.now c.requires.fit.is_pool c.new_row.ensures.kept c.requires.fit

pub replace-requires-clause-old : goal.replace-requires-clause-old
replace-requires-clause-old c =
    (c.new_row.ensures.kept.rows c.index-rows-user.result (c.requires.fit.of_pool c.index-rows-user.result (item_in c.args.rows.now c.args.user c.index-rows-user.result c.requires.user c.index-rows-user.is))).0

pub replace-requires-clause-numbers : goal.replace-requires-clause-numbers
replace-requires-clause-numbers c d i n j =
    subst (λ z. n < z) (sym (ap length c.requires.table ∙ length_uses c.args.pool.now c.args.rows.now)) (c.in_ok-new.ensures.numbers d i n j)

pub returns-in_err-replace-clause-table : goal.returns-in_err-replace-clause-table
returns-in_err-replace-clause-table c = c.in_err-replace.ensures.err ∙ c.requires.table ∙ uses_kept c.args.pool.now c.new_row.new.pool c.args.rows.now c.requires.fit.is_pool c.new_row.ensures.kept c.requires.fit

pub returns-clause-stay : goal.returns-clause-stay
returns-clause-stay c p l ne =
    ap (row_at c.new_row.new.pool) (id_other c.new_row.new.pool c.args.rows.now c.args.user c.in_ok-new.new c.requires.user p ne) ∙ c.new_row.ensures.stay p l

pub returns-clause-fit : goal.returns-clause-fit
returns-clause-fit c = c.in_ok-new.ensures.fits

pub returns-clause-tidy : goal.returns-clause-tidy
returns-clause-tidy c = c.in_ok-new.ensures.tidies

pub returns-clause-table : goal.returns-clause-table
returns-clause-table c =
    c.in_ok-replace.ensures.ok c.args.rows.now c.requires.user (item_zero c.args.rows.now c.args.user c.index-rows-user.result c.requires.user c.index-rows-user.is)
    (c.requires.table ∙ uses_kept c.args.pool.now c.new_row.new.pool c.args.rows.now c.requires.fit.is_pool c.new_row.ensures.kept c.requires.fit)
