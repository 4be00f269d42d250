use Rattle.std.proofs.Common.{◌≡◌, ◌∙◌, Bool, ap, false, sym, true}
use Rattle.std.specs.List.{list_all}
use Rattle.clause_pool.specs.Interned.{clause_at}
use Rattle.row_book.specs.{Book.{listed_for}, Repository.{clauses_of}}
use Rattle.clause_prune.specs.{PrunedPackages.{left_with}, Tests.{harmless_in, hit_anyway_in}}
use Rattle.clause_prune.proofs.Passing.{both_tests, first_fails, idle_is}
use Rattle.clause_prune.proofs.pruned_package.PrunedPackage.is_idle.Goals as goal

pub returns-then-all_harmless : goal.returns-then-all_harmless
returns-then-all_harmless c =
    let d = clause_at c.args.self.now.pool.now c.args.clause in
    let H = harmless_in c.args.self.now.pool.now c.args.self.now.table.now c.args.self.now.number c.args.left.now d in
    let M = hit_anyway_in c.args.self.now.pool.now c.args.self.now.number c.args.left.now d in
    let harm : Bool = list_all H (listed_for c.args.self.now.table.now c.args.member) in
    let hit : Bool = list_all M (clauses_of (left_with c.args.self.now c.args.left.now) c.args.member) in
    let e : harm ≡ true = sym (c.all_harmless.ensures ∙ ap (list_all H) c.conflicts_of.ensures) ∙ c.if-all_harmless.true in
    let f : c.all_hit_anyway.result ≡ hit = c.all_hit_anyway.ensures ∙ ap (list_all M) c.clauses_of.ensures.is in
    both_tests c.all_hit_anyway.result hit harm e f
    ∙ sym (idle_is c.args.self.now.pool.now c.args.self.now.rows.now c.args.self.now.number c.args.left.now c.args.self.now.table.now c.requires.fits.inside d c.args.member c.requires.member (c.requires.fits.conflicts c.args.member))

pub returns-else-all_harmless : goal.returns-else-all_harmless
returns-else-all_harmless c =
    let d = clause_at c.args.self.now.pool.now c.args.clause in
    let H = harmless_in c.args.self.now.pool.now c.args.self.now.table.now c.args.self.now.number c.args.left.now d in
    let M = hit_anyway_in c.args.self.now.pool.now c.args.self.now.number c.args.left.now d in
    let harm : Bool = list_all H (listed_for c.args.self.now.table.now c.args.member) in
    let hit : Bool = list_all M (clauses_of (left_with c.args.self.now c.args.left.now) c.args.member) in
    let e : harm ≡ false = sym (c.all_harmless.ensures ∙ ap (list_all H) c.conflicts_of.ensures) ∙ c.if-all_harmless.false in
    c.if-all_harmless.false ∙ first_fails hit harm e
    ∙ sym (idle_is c.args.self.now.pool.now c.args.self.now.rows.now c.args.self.now.number c.args.left.now c.args.self.now.table.now c.requires.fits.inside d c.args.member c.requires.member (c.requires.fits.conflicts c.args.member))
