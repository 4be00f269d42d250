use Rattle.std.proofs.Common.{◌+◌, sym, subst, arith}
use Rattle.list_table.proofs.Index.{Moves, Moves_one, Moves_empty}
use Rattle.list_table.proofs.hash_index.moved_to.Goals as goal
use Rattle.list_table.proofs.hash_index.moved_to.Goals.{then-entry-ne0, else-entry-ne0}

pub loop-place-preserved : goal.loop-place-preserved
loop-place-preserved c =
    elim c.if-entry-ne0.branch [
      | then-entry-ne0 w ↦
          subst (λ v. Moves c.args.from.now v.items c.args.size (c.loop-place.place-index + 1)) (sym w.places-is)
          (Moves_one c.args.from.now c.loop-place.places.items c.args.size c.loop-place.place-index c.loop-place.invariant c.loop-place-test.true (omega (arith, w.if-entry-ne0.true))
          w.put_in.new.places.items w.put_in.ensures.put)
      | else-entry-ne0 w ↦
          subst (λ v. Moves c.args.from.now v.items c.args.size (c.loop-place.place-index + 1)) (sym w.places-is)
          (Moves_empty c.args.from.now c.loop-place.places.items c.args.size c.loop-place.place-index c.loop-place.invariant c.loop-place-test.true w.if-entry-ne0.false)
    ]
