use Rattle.std.proofs.{Common.{◌≡◌, ◌≤◌, ◌+◌, ◌*◌, ◌++◌, ◌∙◌, ℕ, List, arith, ap, ap₂, cond, length, sym, None, Some}, lemmas.Bool.{le-ltb}}
use Rattle.clause_pool.specs.{Interned.{clauses_at}, Clauses.{apart_from, in_row_order, minimal_of}}
use Rattle.clause_families.specs.{Families.{all_unions}, Unions.{substituted}}
use Rattle.clause_flatten.specs.Holding.{most_clauses, over_limit}
use Rattle.clause_flatten.proofs.Counts.{most_few, row_count}
use Rattle.clause_families.proofs.{Families.{clauses_length}, Rewritten.{unions_minimal, useful_of_pool, useful_there}}
use Rattle.clause_flatten.proofs.holding.row_over.Goals as goal

pub returns-then-coarse-from : goal.returns-then-coarse-from
returns-then-coarse-from c =
    let own : List (List ℕ) = clauses_at c.args.pool.now c.args.row.now in
    let theirs : List (List ℕ) = clauses_at c.args.pool.now c.args.others.now in
    let count : ℕ = length (in_row_order (substituted c.args.user c.args.spent own theirs)) in
    let size : length own ≡ length c.args.row.now = clauses_length c.args.pool.now c.args.row.now in
    let their_size : length theirs ≡ length c.args.others.now = clauses_length c.args.pool.now c.args.others.now in
    let fits : count ≤ most_clauses c.args.spent own (length theirs) = row_count c.args.user c.args.spent own theirs in
    let few : most_clauses c.args.spent own (length theirs) ≤ length own + length own * length theirs = most_few c.args.spent own (length theirs) in
    let bound : c.coarse_bound-coarse.result ≡ length own + length own * length theirs =
    c.coarse_bound-coarse.ensures ∙ sym (ap₂ (λ m n. m + m * n) size their_size) in
    sym (ap (λ b. cond b (Some count) None) (le-ltb c.args.limit count (omega arith)))

pub returns-then-most-from : goal.returns-then-most-from
returns-then-most-from c =
    let size : length (clauses_at c.args.pool.now c.args.others.now) ≡ length c.args.others.now = clauses_length c.args.pool.now c.args.others.now in
    let most : c.most_clauses-most.result ≡ most_clauses c.args.spent (clauses_at c.args.pool.now c.args.row.now) (length (clauses_at c.args.pool.now c.args.others.now)) =
    c.most_clauses-most.ensures ∙ ap (most_clauses c.args.spent (clauses_at c.args.pool.now c.args.row.now)) (sym size) in
    let fits : length (in_row_order (substituted c.args.user c.args.spent (clauses_at c.args.pool.now c.args.row.now) (clauses_at c.args.pool.now c.args.others.now)))
    ≤ most_clauses c.args.spent (clauses_at c.args.pool.now c.args.row.now) (length (clauses_at c.args.pool.now c.args.others.now)) =
    row_count c.args.user c.args.spent (clauses_at c.args.pool.now c.args.row.now) (clauses_at c.args.pool.now c.args.others.now) in
    sym (ap (λ b. cond b (Some (length (in_row_order (substituted c.args.user c.args.spent (clauses_at c.args.pool.now c.args.row.now) (clauses_at c.args.pool.now c.args.others.now))))) None)
    (le-ltb c.args.limit (length (in_row_order (substituted c.args.user c.args.spent (clauses_at c.args.pool.now c.args.row.now) (clauses_at c.args.pool.now c.args.others.now)))) (omega arith)))

pub count_with_unions-requires-clause-useful : goal.count_with_unions-requires-clause-useful
count_with_unions-requires-clause-useful c =
    useful_of_pool c.args.pool.now c.args.user c.args.spent c.args.row.now c.args.others.now c.in_ok-useful.useful.items c.as_slice.result.now c.requires.pool c.requires.row c.requires.others c.requires.apart
    c.as_slice.ensures.value c.in_ok-useful.ensures

pub count_with_unions-requires-clause-minimal_useful : goal.count_with_unions-requires-clause-minimal_useful
count_with_unions-requires-clause-minimal_useful c d e i j =
    c.requires.minimal_others d e
    (useful_there c.args.pool.now c.args.user c.args.spent c.args.row.now c.args.others.now c.in_ok-useful.useful.items c.as_slice.result.now c.requires.pool c.requires.row c.requires.others c.requires.apart
    c.as_slice.ensures.value c.in_ok-useful.ensures d i)
    (useful_there c.args.pool.now c.args.user c.args.spent c.args.row.now c.args.others.now c.in_ok-useful.useful.items c.as_slice.result.now c.requires.pool c.requires.row c.requires.others c.requires.apart
    c.as_slice.ensures.value c.in_ok-useful.ensures e j)

pub count_with_unions-requires-clause-few : goal.count_with_unions-requires-clause-few
count_with_unions-requires-clause-few c =
    let size : length (clauses_at c.args.pool.now c.args.others.now) ≡ length c.args.others.now = clauses_length c.args.pool.now c.args.others.now in
    let most : c.most_clauses-most.result ≡ most_clauses c.args.spent (clauses_at c.args.pool.now c.args.row.now) (length (clauses_at c.args.pool.now c.args.others.now)) =
    c.most_clauses-most.ensures ∙ ap (most_clauses c.args.spent (clauses_at c.args.pool.now c.args.row.now)) (sym size) in
    let fits : length (in_row_order (substituted c.args.user c.args.spent (clauses_at c.args.pool.now c.args.row.now) (clauses_at c.args.pool.now c.args.others.now)))
    ≤ most_clauses c.args.spent (clauses_at c.args.pool.now c.args.row.now) (length (clauses_at c.args.pool.now c.args.others.now)) =
    row_count c.args.user c.args.spent (clauses_at c.args.pool.now c.args.row.now) (clauses_at c.args.pool.now c.args.others.now) in
    let is : length (minimal_of (in_row_order (apart_from c.args.spent (clauses_at c.args.pool.now c.args.row.now)
    ++ all_unions c.args.spent (clauses_at c.args.pool.now c.args.row.now) (clauses_at c.args.pool.now c.as_slice.result.now))))
    ≡ length (in_row_order (substituted c.args.user c.args.spent (clauses_at c.args.pool.now c.args.row.now) (clauses_at c.args.pool.now c.args.others.now))) =
    ap length (unions_minimal c.args.pool.now c.args.user c.args.spent c.args.row.now c.args.others.now c.in_ok-useful.useful.items c.as_slice.result.now c.requires.pool c.requires.row c.requires.others c.requires.apart
    c.as_slice.ensures.value c.in_ok-useful.ensures) in
    omega arith

pub returns : goal.returns
returns c =
    c.more_than.ensures
    ∙ ap (over_limit c.args.limit) (c.in_ok-count.ensures
    ∙ ap length (unions_minimal c.args.pool.now c.args.user c.args.spent c.args.row.now c.args.others.now c.in_ok-useful.useful.items c.as_slice.result.now c.requires.pool c.requires.row c.requires.others c.requires.apart
    c.as_slice.ensures.value c.in_ok-useful.ensures))
