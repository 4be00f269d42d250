use Rattle.std.proofs.Common.{◌≡◌, ◌↔◌, List, ℕ, sym, ◌∙◌, ap, ap₂, filter, length, map, subst}
use Rattle.clause_pool.specs.Interned.{row_at}
use Rattle.clause_pool.proofs.Interned.{kept_along}
use Rattle.row_book.specs.{Book.{repository_of}, Numbers.{numbers}, Flags.{flag}, Holders.{ListsFit}, Repository.{Coinst, Repository}}
use Rattle.row_book.proofs.{BookRepositories.{sound_repository}, Repositories.{between}, Users.{lent_whole}}
use Rattle.clause_flatten.specs.{Ready.{table_of, ListsTidy}, TidyRows.{tidied_table}}
use Rattle.clause_flatten.proofs.Flat.{flat_keeps_lem}
use Rattle.clause_flatten.proofs.flattening.flatten.Goals as goal
use Rattle.clause_flatten.proofs.flattening.flatten.Goals.{After-as_slice-2}

-- the rows that were lent come back whole
whole : (c : After-as_slice-2) → c.as_slice-2.result.now ≡ c.eliminate_all.new.rows
whole c =
    c.as_slice-2.ensures.value
    ∙ lent_whole c.in_ok-lists.lists.len c.eliminate_all.new.rows c.in_ok-lists.lists.items (c.eliminate_all.auto.rows ∙ ap length c.as_mut_slice.ensures.value) c.in_ok-lists.lists.ok.0

pub eliminate_all-requires-clause-first : goal.eliminate_all-requires-clause-first
eliminate_all-requires-clause-first c =
    ap (table_of c.args.pool.now) c.as_mut_slice.ensures.value
    ∙ c.in_ok-lists.ensures.tidied
    ∙ ap (λ xs. tidied_table (map (row_at c.args.pool.now) xs)) c.as_slice.ensures

pub eliminate_all-requires-clause-fit : goal.eliminate_all-requires-clause-fit
eliminate_all-requires-clause-fit c = subst (ListsFit c.args.pool.now) (sym c.as_mut_slice.ensures.value) c.in_ok-lists.ensures.fit

pub eliminate_all-requires-clause-tidy : goal.eliminate_all-requires-clause-tidy
eliminate_all-requires-clause-tidy c = subst (ListsTidy c.args.pool.now) (sym c.as_mut_slice.ensures.value) c.in_ok-lists.ensures.tidy

pub eliminate_all-requires-clause-count : goal.eliminate_all-requires-clause-count
eliminate_all-requires-clause-count c = ap length c.as_mut_slice.ensures.value ∙ c.in_ok-lists.ensures.count ∙ ap length c.as_slice.ensures

pub put_together-requires-clause-fit : goal.put_together-requires-clause-fit
put_together-requires-clause-fit c = subst (ListsFit c.eliminate_all.new.pool) (sym (whole (goal.at.put_together-requires-clause-fit c).After-as_slice-2)) c.in_ok-flags.ensures.fit

pub put_together-requires-clause-count : goal.put_together-requires-clause-count
put_together-requires-clause-count c =
    ap length (whole (goal.at.put_together-requires-clause-count c).After-as_slice-2) ∙ c.eliminate_all.auto.rows ∙ ap length c.as_mut_slice.ensures.value ∙ c.in_ok-lists.ensures.count ∙ ap length c.as_slice.ensures

pub put_together-requires-clause-few : goal.put_together-requires-clause-few
put_together-requires-clause-few c = ap length c.as_slice-3.ensures.value ∙ c.in_ok-flags.ensures.few

pub returns-in_err-made-clause-kept : goal.returns-in_err-made-clause-kept
returns-in_err-made-clause-kept c = kept_along c.args.pool.now c.eliminate_all.new.pool c.put_together.new.pool c.eliminate_all.ensures.kept c.put_together.ensures.kept

pub returns-clause-flat : goal.returns-clause-flat
returns-clause-flat c =
    let made : List (List (List ℕ)) → List (List ℕ) → Repository = λ xs ys. record { clauses = xs; conflicts = ys } in
    ap₂ made (c.in_ok-made.ensures.rows ∙ ap (table_of c.eliminate_all.new.pool) (whole (goal.at.returns-clause-flat c).After-as_slice-2)) c.in_ok-made.ensures.conflicts
    ∙ c.in_ok-flags.ensures.flat

pub returns-clause-keeps : goal.returns-clause-keeps
returns-clause-keeps c = λ S.
    subst (λ F. Coinst (repository_of c.args.pool.now c.args.book.now) S ↔ Coinst F S) (sym (returns-clause-flat c))
    (flat_keeps_lem c.args.limit c.args.hold (repository_of c.args.pool.now c.args.book.now)
    (between (repository_of c.args.pool.now c.args.book.now)
    (sound_repository c.args.pool.now c.args.book.now c.requires.sound.rows.is_pool c.requires.sound)) S)

pub returns-clause-held : goal.returns-clause-held
returns-clause-held c =
    c.in_ok-made.ensures.held
    ∙ ap (λ xs. filter (flag xs) (numbers (length xs) 0)) c.as_slice-3.ensures.value
    ∙ c.in_ok-flags.ensures.held

pub returns-clause-kept : goal.returns-clause-kept
returns-clause-kept c = kept_along c.args.pool.now c.eliminate_all.new.pool c.put_together.new.pool c.eliminate_all.ensures.kept c.put_together.ensures.kept
