use Rattle.std.proofs.Common.{◌∙◌, ap, ap₂, arith, filter, ltb, subst, sym}
use Rattle.clause_pool.specs.Interned.{clauses_at, row_at}
use Rattle.listed.specs.Lists.{In}
use Rattle.repo_model.proofs.Elements.{at_place}
use Rattle.row_book.proofs.Books.{clauses_row}
use Rattle.row_book.specs.Book.{repository_of}
use Rattle.serde_json.proofs.Views.{view-Object}
use Rattle.serde_json.specs.View.{members_view}
use Rattle.kernel_text.specs.{JsonData.{class_data}, KernelText.{greater_conflicts}}
use Rattle.kernel_text.proofs.{JsonTexts.{class_made}, Written.{list_is}}
use Rattle.kernel_text.proofs.write_json.class_value.Goals as goal

-- the list of the class, as it is lent
pub put_members-requires-clause-members : goal.put_members-requires-clause-members
put_members-requires-clause-members c i j =
    c.requires.members c.args.number i
    (subst (In i) (c.as_slice.ensures ∙ list_is c.args.by_class.now c.args.number c.index-by_class-number.result (omega (arith, c.requires.inside, c.requires.size)) c.index-by_class-number.is) j)

pub row-requires-2 : goal.row-requires-2
row-requires-2 c = c.requires.sound.rows.of_pool c.row.result (subst (λ id. In id c.args.book.now.rows) (sym c.row.ensures) (at_place c.args.book.now.rows c.args.number 0 c.requires.inside))

pub returns : goal.returns
returns c =
    let clauses = clauses_at c.args.pool.now c.row-2.result.now in
    view-Object c.put_needs.new.class
    ∙ class_made (filter (λ m. ltb c.args.number m) c.against.result.now) c.args.mark c.args.packages.now c.as_slice.result.now clauses _ _ _ _ _
    (ap members_view c.new-class.ensures.empty) c.in_ok-put_against.ensures c.in_ok-put_mark.ensures c.in_ok-put_members.ensures c.in_ok-put_needs.ensures
    ∙ ap (λ ks. class_data (filter (λ m. ltb c.args.number m) ks) c.args.mark c.args.packages.now c.as_slice.result.now clauses) c.against.ensures
    ∙ ap₂ (λ ms cs. class_data (greater_conflicts (repository_of c.args.pool.now c.args.book.now) c.args.number) c.args.mark c.args.packages.now ms cs)
    (c.as_slice.ensures ∙ list_is c.args.by_class.now c.args.number c.index-by_class-number.result (omega (arith, c.requires.inside, c.requires.size)) c.index-by_class-number.is)
    (ap (clauses_at c.args.pool.now) c.row-2.ensures.lent ∙ ap (row_at c.args.pool.now) c.row.ensures ∙ sym (clauses_row c.args.pool.now c.args.book.now c.args.number c.requires.inside))
