use Rattle.std.proofs.{Common.{◌≡◌, ◌<◌, ◌∙◌, [], inl, refl, sym, subst, ap, get_or, Some, None}, lemmas.List.{set-get_or}, lemmas.Option.{same_Some}}
use Rattle.std.specs.List.{slice_set}
use Rattle.clause_pool.proofs.{Lists.{In_at}, Carried.{known_id, known_more}}
use Rattle.clause_pool.proofs.compacting.carry_once.Goals as goal

pub returns-in-Some-clause-ok : goal.returns-in-Some-clause-ok
returns-in-Some-clause-ok c =
    c.requires.known c.args.row c.in-Some.id
    (known_id c.args.known.now.items c.place.result c.args.row c.index.result.now c.in-Some.id c.place.ensures (subst (λ z. c.args.row < z) (sym c.requires.size) c.requires.row) c.index.ensures c.in-Some.is)

pub returns-in-Some-clause-rows : goal.returns-in-Some-clause-rows
returns-in-Some-clause-rows c =
    let here = c.requires.known c.args.row c.in-Some.id
    (known_id c.args.known.now.items c.place.result c.args.row c.index.result.now c.in-Some.id c.place.ensures (subst (λ z. c.args.row < z) (sym c.requires.size) c.requires.row) c.index.ensures c.in-Some.is) in
    inl (In_at c.args.into.now.rows c.in-Some.id [] here.within, refl)

pub returns-clause-known : goal.returns-clause-known
returns-clause-known c =
    known_more c.args.from.now c.args.into.now c.carry_row.new.self c.args.known.now.items c.place-2.result c.args.row c.in_ok-carried.carried c.requires.pool
    c.in_ok-carried.ensures.kept c.place-2.ensures (subst (λ z. c.args.row < z) (sym c.requires.size) c.requires.row) c.in_ok-carried.ensures.ok c.requires.known

pub returns-in-Some-clause-put : goal.returns-in-Some-clause-put
returns-in-Some-clause-put c =
    let read : get_or c.args.known.now.items c.args.row None ≡ Some c.in-Some.id =
    known_id c.args.known.now.items c.place.result c.args.row c.index.result.now c.in-Some.id c.place.ensures (subst (λ z. c.args.row < z) (sym c.requires.size) c.requires.row) c.index.ensures c.in-Some.is in
    sym (ap (slice_set c.args.known.now.items c.args.row) (sym read) ∙ set-get_or c.args.known.now.items c.args.row None)

pub returns-in-Some-clause-same : goal.returns-in-Some-clause-same
returns-in-Some-clause-same c = λ other e.
    let read : get_or c.args.known.now.items c.args.row None ≡ Some c.in-Some.id =
    known_id c.args.known.now.items c.place.result c.args.row c.index.result.now c.in-Some.id c.place.ensures (subst (λ z. c.args.row < z) (sym c.requires.size) c.requires.row) c.index.ensures c.in-Some.is in
    same_Some other c.in-Some.id (sym e ∙ read)
