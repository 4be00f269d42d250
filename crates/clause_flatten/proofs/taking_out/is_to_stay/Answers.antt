use Rattle.std.proofs.{Common.{◌≡◌, ◌&&◌, ◌∙◌, ap, not, sym, true}, lemmas.Bool.{both_ways, not_from_false, true_from_ne_false}, lemmas.Result.{IfOk-weaker}}
use Rattle.clause_flatten.specs.{Ready.{table_of}, Substitution.{table_passes, table_without}}
use Rattle.clause_flatten.proofs.taking_out.is_to_stay.Goals as goal

pub returns : goal.returns
returns c =
    let hold : c.args.step.hold ≡ true =
    true_from_ne_false c.args.step.hold (λ f. both_ways (not c.args.step.hold) c.if-not-step.false (not_from_false c.args.step.hold f)) in
    IfOk-weaker c.would_pass.result
    (λ passes. passes ≡ table_passes c.args.step.limit (table_without c.args.step.next (table_of c.args.pool.now c.args.rows.now)))
    (λ stays. stays ≡ (c.args.step.hold && table_passes c.args.step.limit (table_without c.args.step.next (table_of c.args.pool.now c.args.rows.now))))
    (λ stays e. e ∙ ap (λ b. b && table_passes c.args.step.limit (table_without c.args.step.next (table_of c.args.pool.now c.args.rows.now))) (sym hold))
    c.would_pass.ensures
