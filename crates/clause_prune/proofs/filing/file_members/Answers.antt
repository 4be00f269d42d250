use Rattle.std.proofs.Common.{◌≡◌, ℕ, List, subst, sym, true}
use Rattle.clause_pool.specs.Interned.{clauses_at}
use Rattle.listed.specs.Lists.{In, has}
use Rattle.row_book.specs.Uses.{some_holds}
use Rattle.listed.proofs.Lists.{In_has, any_cases, any_from, has_In}
use Rattle.clause_prune.specs.{Filing.{entries_in, filed_in}, PrunedPackages.{bare_with}}
use Rattle.clause_prune.proofs.Files.{filed_for_none, server_asked}
use Rattle.clause_prune.proofs.filing.file_members.Goals as goal

-- the numbers that the clauses hold are packages
pub file_each-requires-clause-members : goal.file_each-requires-clause-members
file_each-requires-clause-members c = λ n i.
    let t : some_holds (clauses_at c.args.pruned.now.pool.now c.args.ids.now) n ≡ true = c.in_ok-members.ensures.held n (subst (λ z. In n z) c.as_slice.ensures.value i) in
    let w : (d : List ℕ) × In d (clauses_at c.args.pruned.now.pool.now c.args.ids.now) × (has d n ≡ true) = any_cases (λ d. has d n) (clauses_at c.args.pruned.now.pool.now c.args.ids.now) t in
    c.requires.members w.0 w.1 n (has_In w.0 n w.2)

-- and each member was filed for its clauses
pub returns-clause-asks : goal.returns-clause-asks
returns-clause-asks c = λ d i x j n k h.
    let member : (e : List ℕ) → In e (clauses_at c.args.pruned.now.pool.now c.args.ids.now) → (m : ℕ) → In m e → In m c.as_slice.result.now =
    (λ e a m b. subst (λ z. In m z) (sym c.as_slice.ensures.value) (c.in_ok-members.ensures.all m (any_from (λ y. has y m) (clauses_at c.args.pruned.now.pool.now c.args.ids.now) e a (In_has b)))) in
    server_asked c.args.pruned.now.pool.now (bare_with c.args.pruned.now c.args.ids.now) c.as_slice.result.now (filed_in c.file_each.new.always.items c.file_each.new.lists) d n
    (c.in_ok-file_each.ensures.filed n (member x j n k)) (member d i) h

pub returns-clause-sound : goal.returns-clause-sound
returns-clause-sound c =
    c.in_ok-file_each.ensures.sound (filed_for_none c.args.pruned.now.pool.now c.args.pruned.now.rows.now c.args.pruned.now.number c.args.always.now.items (entries_in c.args.lists.now) c.requires.none c.requires.empty)
