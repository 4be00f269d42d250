use Rattle.std.proofs.{Common.{◌≡◌, ◌<◌, get_or, length, sym, subst}, lemmas.Option.{get_or_from_slice_get}}
use Rattle.listed.specs.Lists.{In}
use Rattle.listed.proofs.Lists.{In_at}
use Rattle.clause_flatten.proofs.tidy_rows.begins_empty.Goals as goal

pub slice-requires : goal.slice-requires
slice-requires c =
    let some : 0 < length c.args.row.now = c.in-Some.ensures.item.3.0 in
    let first : get_or c.args.row.now 0 0 ≡ c.in-Some.id.now = get_or_from_slice_get c.args.row.now 0 c.in-Some.id.now 0 (sym c.in-Some.ensures.value) in
    c.requires c.in-Some.id.now (subst (λ z. In z c.args.row.now) first (In_at c.args.row.now 0 0 some))
