use Rattle.std.proofs.Common.{◌≡◌, ◌≤◌, ◌&&◌, ◌+◌, true, false, eqb, ltb, sym, ◌∙◌, ap, arith, length, subst}
use Rattle.clause_flatten.specs.{Ready.{table_of}, Substitution.{length_in}, TakingOut.{is_free}, Waiting.{Filed}}
use Rattle.clause_flatten.proofs.Free.{waiting_more, waiting_none, waiting_same}
use Rattle.clause_flatten.proofs.flattening.waiting_in.Goals as goal
use Rattle.clause_flatten.proofs.flattening.waiting_in.Goals.{then-is_empty, else-is_empty}

pub loop-number-init : goal.loop-number-init
loop-number-init c = record {
  room = omega (arith, c.in_ok-waiting.ensures.room);
  filed = λ pool.
      waiting_none c.in_ok-waiting.waiting c.args.book.now.conflicts (length_in (table_of pool c.args.rows.now))
      (c.in_ok-waiting.ensures.none (length_in (table_of pool c.args.rows.now)));
}

pub put-requires-clause-room : goal.put-requires-clause-room
put-requires-clause-room c = omega (arith, c.loop-number.invariant.room)

pub loop-number-preserved : goal.loop-number-preserved
loop-number-preserved c =
    elim c.if-is_empty.branch [
      | then-is_empty w ↦
          let free : is_free c.args.book.now.conflicts c.loop-number.number ≡ true =
          ap (λ xs. eqb (length xs) 0) (sym c.against.ensures) ∙ sym c.is_empty.ensures ∙ w.if-is_empty.true in
          record {
            room = subst (λ x. length c.args.book.now.rows ≤ length x) (sym w.waiting-is) (subst (λ n. length c.args.book.now.rows ≤ n) (sym w.put.ensures.room) c.loop-number.invariant.room);
            filed = λ pool.
                subst (λ x. Filed x (λ q. ltb q (c.loop-number.number + 1) && is_free c.args.book.now.conflicts q) (length_in (table_of pool c.args.rows.now))) (sym w.waiting-is)
                (waiting_more w.put.new.self c.args.book.now.conflicts (length_in (table_of pool c.args.rows.now)) c.loop-number.number free
                (w.put.ensures.filed (λ q. ltb q c.loop-number.number && is_free c.args.book.now.conflicts q) (length_in (table_of pool c.args.rows.now))
                (c.loop-number.invariant.filed pool) (sym (w.clauses_in.ensures.count pool))));
          }
      | else-is_empty w ↦
          let free : is_free c.args.book.now.conflicts c.loop-number.number ≡ false =
          ap (λ xs. eqb (length xs) 0) (sym c.against.ensures) ∙ sym c.is_empty.ensures ∙ w.if-is_empty.false in
          record {
            room = subst (λ x. length c.args.book.now.rows ≤ length x) (sym w.waiting-is) c.loop-number.invariant.room;
            filed = λ pool.
                subst (λ x. Filed x (λ q. ltb q (c.loop-number.number + 1) && is_free c.args.book.now.conflicts q) (length_in (table_of pool c.args.rows.now))) (sym w.waiting-is)
                (waiting_same c.loop-number.waiting c.args.book.now.conflicts (length_in (table_of pool c.args.rows.now)) c.loop-number.number free (c.loop-number.invariant.filed pool));
          }
    ]

pub returns : goal.returns
returns c pool =
    let all : c.loop-number.number ≡ length c.args.book.now.rows = omega arith in
    subst (λ n. Filed c.loop-number.waiting (λ q. ltb q n && is_free c.args.book.now.conflicts q) (length_in (table_of pool c.args.rows.now))) all (c.loop-number.invariant.filed pool)
