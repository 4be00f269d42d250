use Rattle.std.proofs.{Common.{◌≡◌, ◌∙◌, ℕ, List, ap, filter, length, map, subst, sym}, lemmas.Result.{IfOk-weaker}}
use Rattle.listed.specs.Lists.{Ascending, In}
use Rattle.listed.proofs.Lists.{In_map_cases}
use Rattle.clause_pool.specs.Clauses.{in_row_order}
use Rattle.clause_pool.proofs.Order.{ordered_parts}
use Rattle.clause_families.specs.{Counting.{is_new, slice_count}, Unions.{clause_without, union_of}}
use Rattle.clause_families.proofs.{CountedRows.{cut_none}, Unions.{joined_ascending}}
use Rattle.clause_families.proofs.counting.count_made.Goals as goal

pub count_new-requires-clause-rising : goal.count_new-requires-clause-rising
count_new-requires-clause-rising c d i =
    let f : List ℕ → List ℕ = union_of (clause_without c.args.spent c.args.clause.now) in
    let w : (b : List ℕ) × In b c.args.others.now × (d ≡ union_of (clause_without c.args.spent c.args.clause.now) b) =
    In_map_cases (union_of (clause_without c.args.spent c.args.clause.now)) c.args.others.now d
    (ordered_parts (map (union_of (clause_without c.args.spent c.args.clause.now)) c.args.others.now) d (subst (λ z. In d z) (c.as_slice.ensures.value ∙ c.in_ok-unions.ensures) i)) in
    subst Ascending (sym w.2) (joined_ascending (clause_without c.args.spent c.args.clause.now) w.0 (c.requires.rising w.0 w.1))

pub returns : goal.returns
returns c rest t =
    IfOk-weaker c.count_new.result (λ count. count ≡ length (filter (is_new c.args.parts.now.kept.clauses.items c.args.parts.now.first.clauses.items c.args.parts.now.second.clauses.items rest) c.as_slice.result.now))
    (λ count. count ≡ slice_count c.args.parts.now.kept.clauses.items c.args.parts.now.first.clauses.items c.args.parts.now.second.clauses.items rest c.args.clause.now c.args.others.now)
    (λ count e. e ∙ ap (λ z. length (filter (is_new c.args.parts.now.kept.clauses.items c.args.parts.now.first.clauses.items c.args.parts.now.second.clauses.items rest) z))
    (c.as_slice.ensures.value ∙ c.in_ok-unions.ensures ∙ ap (λ z. in_row_order (map (union_of z) c.args.others.now)) (cut_none c.args.spent c.args.clause.now c.requires.apart)))
    (c.count_new.ensures rest t)
