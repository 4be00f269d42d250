use Rattle.std.proofs.{Common.{◌≡◌, ◌∷◌, [], ℕ, subst, sym, arith}, lemmas.List.{take_all}}
use Rattle.std.specs.Bool.{OnFalse}
use Rattle.clause_pool.specs.Interned.{clause_at}
use Rattle.listed.specs.Lists.{In}
use Rattle.listed.proofs.Lists.{In_map_cases, In_none, item_in}
use Rattle.clause_prune.specs.Filing.{Filed, IsFiled, Takes, entries_in, filed_in}
use Rattle.clause_prune.proofs.Files.{filed_always, filed_still, more_items, takes_always, takes_more, takes_none}
use Rattle.clause_prune.proofs.filing.file_row.Goals as goal

pub file_clause-requires-clause-clause : goal.file_clause-requires-clause-clause
file_clause-requires-clause-clause c = c.requires.row c.id-item.result (item_in c.args.row.now c.loop-id.id-index c.id-item.result (omega arith) c.id-item.is)

pub loop-id-init : goal.loop-id-init
loop-id-init c = record { filed = λ id i. absurd (In_none i); takes = takes_none c.args.pruned.now.number c.args.member c.args.row.now (filed_in c.args.always.now.items c.args.lists.now) }

pub loop-id-preserved : goal.loop-id-preserved
loop-id-preserved c =
    let k = c.loop-id.id-index in
    let first : Filed = filed_in c.args.always.now.items c.args.lists.now in
    let mid : Filed = filed_in c.loop-id.always.items c.loop-id.lists in
    let new : Filed = filed_in c.file_clause.new.always.items c.file_clause.new.lists in
    let apart : c.args.member ≡ c.args.pruned.now.number → ⊥ = subst (λ b. OnFalse b (c.args.member ≡ c.args.pruned.now.number → ⊥)) c.if-is_always_asked.false c.is_always_asked.ensures.other in
    let t : Takes c.args.pruned.now.number c.args.member (c.id-item.result ∷ []) mid new = c.in_ok-file_clause.ensures.takes c.args.pruned.now.number apart in
    record {
      filed = more_items (λ id. IsFiled c.args.pruned.now.pool.now c.args.members.now new (clause_at c.args.pruned.now.pool.now id) c.args.member) c.args.row.now k c.id-item.result c.loop-id-test.true c.id-item.is
          (λ id i. filed_still c.args.pruned.now.pool.now c.args.members.now c.args.pruned.now.number c.args.member (c.id-item.result ∷ []) mid new t (clause_at c.args.pruned.now.pool.now id) c.args.member (c.loop-id.invariant.filed id i))
          c.in_ok-file_clause.ensures.filed;
      takes = takes_more c.args.pruned.now.number c.args.member c.args.row.now c.id-item.result first mid new
          (item_in c.args.row.now k c.id-item.result c.loop-id-test.true c.id-item.is) c.loop-id.invariant.takes t;
    }

pub returns-clause-filed : goal.returns-clause-filed
returns-clause-filed c = λ e i.
    let now : Filed = filed_in c.loop-id.always.items c.loop-id.lists in
    let w : (id : ℕ) × In id c.args.row.now × (e ≡ clause_at c.args.pruned.now.pool.now id) = In_map_cases (clause_at c.args.pruned.now.pool.now) c.args.row.now e i in
    subst (λ z. IsFiled c.args.pruned.now.pool.now c.args.members.now now z c.args.member) (sym w.2)
    (c.loop-id.invariant.filed w.0 (subst (λ xs. In w.0 xs) (sym (take_all c.loop-id.id-index c.args.row.now c.loop-id-test.false)) w.1))

pub returns-then-is_always_asked-clause-filed : goal.returns-then-is_always_asked-clause-filed
returns-then-is_always_asked-clause-filed c = λ e i. filed_always c.args.always.now.items c.push.new.self.items (entries_in c.args.lists.now) c.args.member c.in_ok-push.ensures.items c.args.pruned.now.pool.now c.args.members.now e

pub returns-then-is_always_asked-clause-takes : goal.returns-then-is_always_asked-clause-takes
returns-then-is_always_asked-clause-takes c = takes_always c.args.always.now.items c.push.new.self.items (entries_in c.args.lists.now) c.args.member c.in_ok-push.ensures.items c.args.pruned.now.number c.args.row.now
