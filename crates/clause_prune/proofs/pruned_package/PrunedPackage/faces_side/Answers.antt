use Rattle.std.proofs.Common.{◌≡◌, ◌∷◌, ◌||◌, ◌∙◌, [], List, ℕ, ap, sym, subst}
use Rattle.std.specs.List.{list_any}
use Rattle.clause_pool.specs.Interned.{clauses_at}
use Rattle.listed.specs.Lists.{Ascending, is_inside, has}
use Rattle.row_book.specs.Facing.{against_in, all_against, common_to}
use Rattle.row_book.proofs.Facing.{common_ascending, faces_within}
use Rattle.clause_prune.proofs.pruned_package.PrunedPackage.faces_side.Goals as goal

pub has_side_within-faces-requires-clause-numbers : goal.has_side_within-faces-requires-clause-numbers
has_side_within-faces-requires-clause-numbers c =
    subst Ascending (sym (c.as_slice.ensures.value ∙ c.in_ok-common-in-Some.ensures))
    (common_ascending c.args.self.now.table.now c.in-Some.first.now c.in-Some.others.now (c.requires.fits.ascending c.in-Some.first.now))

-- what the list conflicts with as a whole lies within the conflicts that its members have in common
pub returns-in_ok-common-in-Some : goal.returns-in_ok-common-in-Some
returns-in_ok-common-in-Some c =
    let p : ℕ = c.args.self.now.number in
    let cs : List (List ℕ) = clauses_at c.args.self.now.pool.now c.args.row.now in
    let same : c.as_slice.result.now ≡ common_to c.args.self.now.table.now c.in-Some.first.now c.in-Some.others.now = c.as_slice.ensures.value ∙ c.in_ok-common-in-Some.ensures in
    c.has_side_within-faces.ensures
    ∙ ap (λ ns. has ns p || list_any (λ e. is_inside e ns) cs) same
    ∙ sym (faces_within c.args.self.now.table.now cs p c.in-Some.first.now c.in-Some.others.now)
    ∙ ap (λ l. list_any (all_against (against_in c.args.self.now.table.now) l) ((p ∷ []) ∷ cs)) (sym c.in-Some.ensures.cases.0)
