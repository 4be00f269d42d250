use Rattle.std.proofs.Common.{◌≡◌, ◌<◌, ◌≤◌, ◌+◌, ◌∷◌, ◌++◌, ◌∙◌, [], ℕ, ap, ap₂, append-nil, arith, drop, drop-cons, length, map, refl, subst, suc, sym}
use Rattle.std.proofs.lemmas.List.{drop_all}
use Rattle.clause_pool.specs.Interned.{clause_at, clauses_at}
use Rattle.row_book.specs.{Pruning.{prune_clauses}, Rounds.{IdleStep}, Trail.{trail_meaning}}
use Rattle.listed.proofs.Lists.{In_map, item_in}
use Rattle.clause_prune.specs.PrunedPackages.{left_with}
use Rattle.clause_prune.proofs.{Files.{asks_left}, Left.{Pruning, pruning_more}}
use Rattle.clause_prune.proofs.pruned_package.PrunedPackage.prune_each.Goals as goal

pub loop-id-init : goal.loop-id-init
loop-id-init c =
    subst (λ z. Pruning c.args.self.now.pool.now c.args.self.now.rows.now c.args.self.now.number c.args.ids.now z c.args.self.now.table.now (trail_meaning c.args.self.now.pool.now c.args.idle.now) (trail_meaning c.args.self.now.pool.now c.args.idle.now) c.args.ids.now)
    (sym c.in_ok-left.ensures) (record { clauses = refl; part = λ x i. i; order = λ o. o; idle = refl })

pub prune_one-requires-clause-clause : goal.prune_one-requires-clause-clause
prune_one-requires-clause-clause c = c.requires.ids c.id-item.result (item_in c.args.ids.now c.loop-id.id-index c.id-item.result (omega arith) c.id-item.is)

pub prune_one-requires-clause-left : goal.prune_one-requires-clause-left
prune_one-requires-clause-left c = λ id i. c.requires.ids id (c.loop-id.invariant.part id i)

pub prune_one-requires-clause-order : goal.prune_one-requires-clause-order
prune_one-requires-clause-order c = c.loop-id.invariant.order c.requires.order

pub prune_one-requires-clause-own : goal.prune_one-requires-clause-own
prune_one-requires-clause-own c =
    c.requires.members (clause_at c.args.self.now.pool.now c.id-item.result) (In_map (clause_at c.args.self.now.pool.now) c.args.ids.now c.id-item.result (item_in c.args.ids.now c.loop-id.id-index c.id-item.result (omega arith) c.id-item.is))

-- whoever serves in what is left did so before, and is asked
pub prune_one-requires-clause-asks : goal.prune_one-requires-clause-asks
prune_one-requires-clause-asks c =
    asks_left c.args.self.now.pool.now c.args.self.now.rows.now c.args.self.now.number c.args.ids.now c.loop-id.left c.in_ok-filed.filed (clause_at c.args.self.now.pool.now c.id-item.result) c.requires.fits.inside c.loop-id.invariant.part
    (c.in_ok-filed.ensures.asks (clause_at c.args.self.now.pool.now c.id-item.result)
    (In_map (clause_at c.args.self.now.pool.now) c.args.ids.now c.id-item.result (item_in c.args.ids.now c.loop-id.id-index c.id-item.result (omega arith) c.id-item.is)))

pub loop-id-preserved : goal.loop-id-preserved
loop-id-preserved c =
    let i : ℕ = c.loop-id.id-index in
    let id : ℕ = c.id-item.result in
    let l : i < length c.args.ids.now = omega arith in
    let d : drop i c.args.ids.now ≡ id ∷ drop (i + 1) c.args.ids.now =
    drop-cons c.args.ids.now i id l ∙ ap₂ (λ (x : ℕ) (k : ℕ). x ∷ drop k c.args.ids.now) (sym c.id-item.is) (let z : suc i ≡ i + 1 = omega arith in z) in
    pruning_more c.args.self.now.pool.now c.args.self.now.rows.now c.args.self.now.number c.args.ids.now c.loop-id.left c.prune_one.new.left c.args.self.now.table.now (trail_meaning c.args.self.now.pool.now c.args.idle.now) (trail_meaning c.args.self.now.pool.now c.loop-id.idle) (trail_meaning c.args.self.now.pool.now c.prune_one.new.idle)
    id (drop (i + 1) c.args.ids.now)
    (subst (λ z. Pruning c.args.self.now.pool.now c.args.self.now.rows.now c.args.self.now.number c.args.ids.now c.loop-id.left c.args.self.now.table.now (trail_meaning c.args.self.now.pool.now c.args.idle.now) (trail_meaning c.args.self.now.pool.now c.loop-id.idle) z) d c.loop-id.invariant)
    c.in_ok-prune_one.ensures.left c.in_ok-prune_one.ensures.part (λ _. c.in_ok-prune_one.ensures.order) c.in_ok-prune_one.ensures.idle

pub returns-clause-left : goal.returns-clause-left
returns-clause-left c =
    let e : drop c.loop-id.id-index c.args.ids.now ≡ [] = drop_all c.loop-id.id-index c.args.ids.now (let z : length c.args.ids.now ≤ c.loop-id.id-index = omega arith in z) in
    ap (λ z. (prune_clauses (left_with c.args.self.now c.loop-id.left) c.args.self.now.number (clauses_at c.args.self.now.pool.now z)).left) (sym e) ∙ c.loop-id.invariant.clauses

pub returns-clause-part : goal.returns-clause-part
returns-clause-part c = c.loop-id.invariant.part

pub returns-clause-order : goal.returns-clause-order
returns-clause-order c = c.loop-id.invariant.order c.requires.order

pub returns-clause-idle : goal.returns-clause-idle
returns-clause-idle c =
    let e : drop c.loop-id.id-index c.args.ids.now ≡ [] = drop_all c.loop-id.id-index c.args.ids.now (let z : length c.args.ids.now ≤ c.loop-id.id-index = omega arith in z) in
    sym (append-nil (trail_meaning c.args.self.now.pool.now c.loop-id.idle))
    ∙ ap (λ z. trail_meaning c.args.self.now.pool.now c.loop-id.idle ++ map IdleStep (prune_clauses (left_with c.args.self.now c.loop-id.left) c.args.self.now.number (clauses_at c.args.self.now.pool.now z)).steps) (sym e)
    ∙ c.loop-id.invariant.idle
