use Rattle.std.proofs.Common.{◌≡◌, ◌<◌, length, map, take, sym, subst, arith}
use Rattle.clause_pool.specs.Interned.{IsIdOf}
use Rattle.clause_pool.proofs.Interned.{kept_along}
use Rattle.listed.specs.Lists.{Ascending}
use Rattle.listed.proofs.Lists.{item_in}
use Rattle.kernel_text.specs.{Booking.{HasIdsByClass}, Reader.{entry_of}}
use Rattle.kernel_text.proofs.{Gained.{clause_gained}, IdTables.{entries_more, id_more}}
use Rattle.kernel_text.proofs.build_book.intern_clauses.Goals as goal

pub intern-requires : goal.intern-requires
intern-requires c =
    subst Ascending (sym c.as_slice.ensures) (c.requires.ascending c.clause-item.result (item_in c.args.clauses.now c.loop-clause.clause-index c.clause-item.result (omega arith) c.clause-item.is))

pub enter-requires : goal.enter-requires
enter-requires c =
    let inside : c.clause-item.result.class < c.args.classes = c.requires.inside c.clause-item.result (item_in c.args.clauses.now c.loop-clause.clause-index c.clause-item.result (omega arith) c.clause-item.is) in
    let count : length c.loop-clause.table.items ≡ c.args.classes = c.loop-clause.invariant.ids.count in
    omega arith

pub returns-in_err-enter-clause-kept : goal.returns-in_err-enter-clause-kept
returns-in_err-enter-clause-kept c = kept_along c.args.pool.now c.loop-clause.pool c.intern.new.self c.loop-clause.invariant.kept c.intern.ensures.kept

pub loop-clause-preserved : goal.loop-clause-preserved
loop-clause-preserved c =
    let item = c.clause-item.result in
    let before = map entry_of (take c.loop-clause.clause-index c.args.clauses.now) in
    let inside : item.class < c.args.classes = c.requires.inside item (item_in c.args.clauses.now c.loop-clause.clause-index item (omega arith) c.clause-item.is) in
    record {
      ids = subst (λ entries. HasIdsByClass c.intern.new.self entries c.args.classes c.enter.new.table.items) (sym (entries_more c.args.clauses.now c.loop-clause.clause-index item (omega arith) c.clause-item.is))
          (id_more c.loop-clause.pool c.intern.new.self before (entry_of item) c.args.classes c.loop-clause.table.items c.enter.new.table.items c.in_ok-id.id c.loop-clause.invariant.ids c.intern.ensures.kept
          (subst (λ clause. IsIdOf c.intern.new.self.clauses clause c.in_ok-id.id) c.as_slice.ensures c.in_ok-id.ensures.ok) inside c.in_ok-enter.ensures);
      kept = kept_along c.args.pool.now c.loop-clause.pool c.intern.new.self c.loop-clause.invariant.kept c.intern.ensures.kept;
      gains = clause_gained c.args.pool.now c.loop-clause.pool c.intern.new.self c.as_slice.result.now c.loop-clause.table.items c.enter.new.table.items item.class c.in_ok-id.id c.loop-clause.invariant.gains
          c.in_ok-id.ensures.gains c.intern.ensures.rows c.in_ok-id.ensures.ok (let count : length c.loop-clause.table.items ≡ c.args.classes = c.loop-clause.invariant.ids.count in omega arith) c.in_ok-enter.ensures;
    }
