use Rattle.std.proofs.{Common.{ℕ, List, get_or, subst, sym, arith}, lemmas.List.{get_or_default}}
use Rattle.listed.specs.Lists.{In}
use Rattle.row_book.specs.Repository.{clauses_of}
use Rattle.listed.proofs.Lists.{In_at}
use Rattle.clause_prune.specs.{Filing.{Filed, IsFiled, Takes, filed_in}, PrunedPackages.{bare_with}}
use Rattle.clause_prune.proofs.Files.{filed_for_still, filed_still, more_items}
use Rattle.clause_prune.proofs.filing.file_each.Goals as goal

pub clauses_of-row-requires-clause-other : goal.clauses_of-row-requires-clause-other
clauses_of-row-requires-clause-other c = c.requires.members _ (In_at c.args.members.now c.loop-member.member-index 0 (omega arith))

pub loop-member-preserved : goal.loop-member-preserved
loop-member-preserved c =
    let k = c.loop-member.member-index in
    let x = get_or c.args.members.now k 0 in
    let mid : Filed = filed_in c.loop-member.always.items c.loop-member.lists in
    let new : Filed = filed_in c.file_row.new.always.items c.file_row.new.lists in
    let t : Takes c.args.pruned.now.number x c.clauses_of-row.result.now mid new = c.in_ok-file_row.ensures.takes in
    record {
      filed = more_items (λ n. (e : List ℕ) → In e (clauses_of (bare_with c.args.pruned.now c.args.left.now) n) → IsFiled c.args.pruned.now.pool.now c.args.members.now new e n)
          c.args.members.now k x c.loop-member-test.true (get_or_default c.args.members.now k 0 x c.loop-member-test.true)
          (λ n i e j. filed_still c.args.pruned.now.pool.now c.args.members.now c.args.pruned.now.number x c.clauses_of-row.result.now mid new t e n (c.loop-member.invariant.filed n i e j))
          (λ e j. c.in_ok-file_row.ensures.filed e (subst (λ cs. In e cs) (sym c.clauses_of-row.ensures.is) j));
      sound = λ s. filed_for_still c.args.pruned.now.pool.now c.args.pruned.now.rows.now c.args.pruned.now.number x c.args.left.now c.clauses_of-row.result.now mid new
          (c.requires.members x (In_at c.args.members.now k 0 c.loop-member-test.true)) c.clauses_of-row.ensures.of_pool c.clauses_of-row.ensures.is t (c.loop-member.invariant.sound s);
    }
