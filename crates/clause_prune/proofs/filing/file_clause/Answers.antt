use Rattle.std.proofs.Common.{◌∙◌, ◌∷◌, [], refl, sym}
use Rattle.clause_pool.specs.Interned.{clause_at}
use Rattle.clause_prune.specs.{Filing.{entries_in}, declared.filing.Entry.{Entry}}
use Rattle.clause_prune.proofs.Files.{filed_always, filed_under, on_ok_map, takes_always, takes_entry}
use Rattle.clause_prune.proofs.filing.file_clause.Goals as goal

pub returns-in_ok-push-in-None-clause-filed : goal.returns-in_ok-push-in-None-clause-filed
returns-in_ok-push-in-None-clause-filed c =
    filed_always c.args.always.now.items c.push.new.self.items (entries_in c.args.lists.now) c.args.member c.in_ok-push-in-None.ensures.items c.args.pool.now c.args.members.now (clause_at c.args.pool.now c.args.clause)

pub returns-in_ok-push-in-None-clause-takes : goal.returns-in_ok-push-in-None-clause-takes
returns-in_ok-push-in-None-clause-takes c = λ number apart.
    takes_always c.args.always.now.items c.push.new.self.items (entries_in c.args.lists.now) c.args.member c.in_ok-push-in-None.ensures.items number (c.args.clause ∷ [])

pub returns-in-Some-clause-filed : goal.returns-in-Some-clause-filed
returns-in-Some-clause-filed c =
    let e : Entry = record { holder = c.args.member; clause = c.args.clause } in
    on_ok_map c.file_under.result
    (filed_under c.args.pool.now c.args.members.now c.args.always.now.items (entries_in c.file_under.new.lists) (clause_at c.args.pool.now c.args.clause) c.in-Some.first.now c.in-Some.field-0-1.now e c.args.member
    (sym c.slice.ensures.lent ∙ c.in-Some.ensures.cases.0) refl refl)
    c.file_under.ensures.filed

pub returns-in-Some-clause-takes : goal.returns-in-Some-clause-takes
returns-in-Some-clause-takes c =
    let e : Entry = record { holder = c.args.member; clause = c.args.clause } in
    on_ok_map c.file_under.result
    (λ g number apart. takes_entry number c.args.member c.args.clause c.args.always.now.items e (entries_in c.args.lists.now) (entries_in c.file_under.new.lists) refl refl apart g)
    c.file_under.ensures.gains
