use Rattle.std.proofs.{Common.{◌≡◌, ◌≢◌, ◌⊎◌, ◌∙◌, arith, false, get_or, inl, inr, subst, sym}, lemmas.Bool.{cases_eq}, lemmas.List.{get_or_default}}
use Rattle.std.proofs.lemmas.Option.{same_Some}
use Rattle.listed.proofs.Lists.{In_at}
use Rattle.listed.specs.Lists.{In}
use Rattle.clause_flatten.specs.{declared.holding.Over.{Over}, Ready.{table_of}, Substitution.{length_in, table_without}, TakingOut.{is_over}}
use Rattle.clause_flatten.proofs.{Counts.{none_over_limit, some_over_limit}, Runs.{find_at, find_nowhere}, WorkedRows.{not_own, users_below}}
use Rattle.clause_flatten.proofs.holding.first_over.Goals as goal

pub count_over-requires-clause-user : goal.count_over-requires-clause-user
count_over-requires-clause-user c =
    users_below c.args.pool.now c.args.rows.now c.args.gone c.args.users.now c.requires.users _ (In_at c.args.users.now c.loop-user.user-index 0 (omega arith))

pub count_over-requires-clause-other : goal.count_over-requires-clause-other
count_over-requires-clause-other c e =
    not_own c.args.pool.now c.args.rows.now c.args.gone c.args.users.now c.requires.users c.requires.tidy
    (subst (λ z. In z c.args.users.now) e (In_at c.args.users.now c.loop-user.user-index 0 (omega arith)))

pub returns-in-Some-clause-first : goal.returns-in-Some-clause-first
returns-in-Some-clause-first c =
    sym (find_at (is_over (table_without c.args.gone (table_of c.args.pool.now c.args.rows.now)) c.args.limit) c.args.users.now c.loop-user.user-index
    (get_or c.args.users.now c.loop-user.user-index 0) (omega arith)
    (get_or_default c.args.users.now c.loop-user.user-index 0 _ (omega arith))
    c.loop-user.invariant (some_over_limit c.args.limit _ c.in-Some.count (sym c.in-Some.is ∙ c.in_ok-over.ensures)).0)

pub returns-in-Some-clause-count : goal.returns-in-Some-clause-count
returns-in-Some-clause-count c over is =
    subst (λ (o : Over). o.count ≡ length_in (table_without c.args.gone (table_of c.args.pool.now c.args.rows.now)) o.package) (same_Some _ over is)
    (some_over_limit c.args.limit _ c.in-Some.count (sym c.in-Some.is ∙ c.in_ok-over.ensures)).1

pub loop-user-preserved : goal.loop-user-preserved
loop-user-preserved c k l =
    pick (cases_eq k c.loop-user.user-index)
  where
    pick : (k ≡ c.loop-user.user-index) ⊎ (k ≢ c.loop-user.user-index) → is_over (table_without c.args.gone (table_of c.args.pool.now c.args.rows.now)) c.args.limit (get_or c.args.users.now k 0) ≡ false
    pick (inl e) = rw e (none_over_limit c.args.limit _ (sym c.in_default.is ∙ c.in_ok-over.ensures))
    pick (inr d) = c.loop-user.invariant k (omega arith)

pub returns-clause-first : goal.returns-clause-first
returns-clause-first c =
    sym (find_nowhere (is_over (table_without c.args.gone (table_of c.args.pool.now c.args.rows.now)) c.args.limit) c.args.users.now (λ k l. c.loop-user.invariant k (omega arith)))
