use Rattle.std.proofs.{Common.{arith, get_or, subst}, lemmas.List.{take_all}}
use Rattle.clause_flatten.specs.{Ready.{table_of}, TakingOut.{counted_anew}, Waiting.{Filed, recounted}}
use Rattle.listed.proofs.Lists.{In_at}
use Rattle.clause_flatten.proofs.Runs.{file_more}
use Rattle.clause_flatten.proofs.taking_out.file_users.Goals as goal

pub clauses_in-requires : goal.clauses_in-requires
clauses_in-requires c = c.requires _ (In_at c.args.users.now c.loop-user.user-index 0 (omega arith))

pub loop-user-preserved : goal.loop-user-preserved
loop-user-preserved c pool may count d =
    file_more c.loop-user.waiting c.file_again.new.self may count (table_of pool c.args.rows.now) c.args.users.now c.loop-user.user-index
    (omega arith)
    (c.loop-user.invariant pool may count d)
    (λ other counts f.
    subst (λ n. Filed c.file_again.new.self other (recounted counts (get_or c.args.users.now c.loop-user.user-index 0) n)) (c.clauses_in.ensures.count pool)
    (c.file_again.ensures other counts f))

pub returns : goal.returns
returns c pool may count d =
    subst (λ users. Filed c.loop-user.waiting may (counted_anew count (table_of pool c.args.rows.now) users)) (take_all c.loop-user.user-index c.args.users.now c.loop-user-test.false)
    (c.loop-user.invariant pool may count d)
