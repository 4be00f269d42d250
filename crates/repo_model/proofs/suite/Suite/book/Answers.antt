use Rattle.std.proofs.Common.{◌≡◌, ◌∙◌, ℕ, List, ap, ap₂, arith, length, subst, sym}
use Rattle.clause_pool.specs.Compacting.{RowsOf}
use Rattle.row_book.specs.{Book.{lists_of_pairs, NumbersFit, PairsFit}, declared.pair.Pair.{Pair}}
use Rattle.repo_model.specs.Repository.{suite_repository}
use Rattle.repo_model.proofs.Booked.{booked, numbers_fit, row_count}
use Rattle.repo_model.proofs.suite.Suite.book.Goals as goal

pub build-requires-clause-rows : goal.build-requires-clause-rows
build-requires-clause-rows c = subst (RowsOf c.intern_rows.new.pool) (sym c.deref.ensures.value) c.in_ok-rows.ensures.rows.within

pub build-requires-clause-numbers : goal.build-requires-clause-numbers
build-requires-clause-numbers c =
    subst (NumbersFit c.intern_rows.new.pool) (sym c.deref.ensures.value)
    (numbers_fit c.args.self.now.home c.as_slice-packages.result.now c.args.pool.now c.intern_rows.new.pool c.in_ok-rows.rows.items c.in_ok-rows.ensures.rows)

pub build-requires-clause-pairs : goal.build-requires-clause-pairs
build-requires-clause-pairs c =
    let count = row_count c.args.self.now.home c.as_slice-packages.result.now c.args.pool.now c.intern_rows.new.pool c.in_ok-rows.rows.items c.in_ok-rows.ensures.rows in
    subst (λ pairs. PairsFit pairs (length c.deref.result.now)) (sym c.deref-2.ensures.value)
    (subst (PairsFit c.in_ok-pairs.pairs.items) (sym (ap length c.deref.ensures.value ∙ count)) c.in_ok-pairs.ensures.fit)

pub build-requires-clause-few : goal.build-requires-clause-few
build-requires-clause-few c =
    let count = row_count c.args.self.now.home c.as_slice-packages.result.now c.args.pool.now c.intern_rows.new.pool c.in_ok-rows.rows.items c.in_ok-rows.ensures.rows in
    let rows : length c.deref.result.now ≡ length c.as_slice-packages.result.now = ap length c.deref.ensures.value ∙ count in
    let packages : length c.as_slice-packages.result.now ≡ length c.args.self.now.packages = ap length c.as_slice-packages.ensures in
    omega arith

pub returns-clause-repository : goal.returns-clause-repository
returns-clause-repository c =
    let home = c.args.self.now.home in
    let packages = c.as_slice-packages.result.now in
    let rows = c.deref.ensures.value in
    booked home packages c.args.pool.now c.intern_rows.new.pool c.in_ok-rows.rows.items c.in_ok-rows.ensures.rows c.in_ok-book.book c.in_ok-pairs.pairs.items (c.in_ok-book.ensures.rows ∙ rows)
    (c.in_ok-book.ensures.conflicts ∙ ap₂ (λ (ps : List Pair) (rs : List ℕ). lists_of_pairs ps (length rs)) c.deref-2.ensures.value rows) c.in_ok-pairs.ensures.conflicts
    ∙ ap (suite_repository home) c.as_slice-packages.ensures
