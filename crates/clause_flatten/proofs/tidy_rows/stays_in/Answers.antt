use Rattle.std.proofs.Common.{◌≡◌, ◌∙◌, ◌&&◌, false, not, true, ap, length, subst, sym, Some}
use Rattle.clause_pool.specs.{Interned.{clause_at, clauses_at}, Within.{some_within}}
use Rattle.listed.specs.Lists.{Ascending, has}
use Rattle.clause_families.specs.Inclusion.{has_shorter}
use Rattle.clause_flatten.proofs.Tidied.{shorter_is_other, shorter_than_one}
use Rattle.clause_flatten.proofs.tidy_rows.stays_in.Goals as goal

pub returns-then-holds_ascending : goal.returns-then-holds_ascending
returns-then-holds_ascending c =
    let held : has (clause_at c.args.pool.now c.args.id) c.args.number ≡ true =
    sym (c.holds_ascending.ensures ∙ ap (λ z. has z c.args.number) c.slice-clause.ensures.lent) ∙ c.if-holds_ascending.true in
    sym (ap (λ b. not b && not (has_shorter (clauses_at c.args.pool.now c.args.row.now) (clause_at c.args.pool.now c.args.id))) held)

pub returns-then-clause-eq1 : goal.returns-then-clause-eq1
returns-then-clause-eq1 c =
    let cs = clauses_at c.args.pool.now c.args.row.now in
    let d = clause_at c.args.pool.now c.args.id in
    let lent : c.slice-clause.result.now ≡ clause_at c.args.pool.now c.args.id = c.slice-clause.ensures.lent in
    let one : length (clause_at c.args.pool.now c.args.id) ≡ 1 = ap length (sym lent) ∙ c.if-clause-eq1.true in
    let apart : has (clause_at c.args.pool.now c.args.id) c.args.number ≡ false = sym (c.holds_ascending.ensures ∙ ap (λ z. has z c.args.number) lent) ∙ c.if-holds_ascending.false in
    ap not (c.begins_empty.ensures ∙ sym (shorter_than_one cs c.requires.in_order d one))
    ∙ sym (ap (λ b. not b && not (has_shorter (clauses_at c.args.pool.now c.args.row.now) (clause_at c.args.pool.now c.args.id))) apart)

pub has_within-requires-clause-numbers : goal.has_within-requires-clause-numbers
has_within-requires-clause-numbers c = c.slice-clause.ensures.ascending

pub returns : goal.returns
returns c =
    let cs = clauses_at c.args.pool.now c.args.row.now in
    let d = clause_at c.args.pool.now c.args.id in
    let lent : c.slice-clause.result.now ≡ clause_at c.args.pool.now c.args.id = c.slice-clause.ensures.lent in
    let apart : has (clause_at c.args.pool.now c.args.id) c.args.number ≡ false = sym (c.holds_ascending.ensures ∙ ap (λ z. has z c.args.number) lent) ∙ c.if-holds_ascending.false in
    ap not (c.has_within.ensures ∙ ap (λ z. some_within (Some (clause_at c.args.pool.now c.args.id)) z (clauses_at c.args.pool.now c.args.row.now)) lent
    ∙ shorter_is_other cs c.requires.rising d (subst Ascending lent c.slice-clause.ensures.ascending))
    ∙ sym (ap (λ b. not b && not (has_shorter (clauses_at c.args.pool.now c.args.row.now) (clause_at c.args.pool.now c.args.id))) apart)
