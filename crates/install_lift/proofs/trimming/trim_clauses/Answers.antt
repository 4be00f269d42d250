use Rattle.std.proofs.{Common.{◌∙◌, ◌<◌, length, arith, refl, set, sym, Some, None, true}, lemmas.List.{length-replicate, length-set}}
use Rattle.clause_pool.specs.Interned.{clause_at}
use Rattle.row_book.specs.{Book.{repository_of}, Flags.{flag}}
use Rattle.listed.proofs.Lists.{In_at}
use Rattle.install_lift.specs.Waiting.{is_waiting, waiting_count}
use Rattle.install_lift.proofs.Steps.{row_first, size_of, chosen_hits, opened, open_at, open_none, trimming_more, trimming_end, chosen_below, goals_more}
use Rattle.install_lift.proofs.Steps.{fewer_down}
use Rattle.install_lift.proofs.Waits.{hit_before_any, hit_before_put, in_book, met_below, met_all, met_one, met_put, within_less, within_put, met_outside}
use Rattle.install_lift.proofs.Waits.{less_to_do}
use Rattle.install_lift.proofs.trimming.trim_clauses.Goals as goal

pub loop-number-init : goal.loop-number-init
loop-number-init c = record {
  long = c.requires.long;
  trimming = c.requires.trimming;
  hit = c.requires.hit;
  part = λ q h. sym (c.requires.waits q) ∙ h;
  long_places = rw c.requires.places (length-replicate (length c.args.book.now.rows) 0);
  before = hit_before_any c.args.pool.now c.args.book.now (flag c.args.set.now) c.args.places.now (length c.args.book.now.rows) c.requires.places;
  met = met_outside (repository_of c.args.pool.now c.args.book.now) (flag c.args.set.now) (is_waiting c.args.waiting.now) c.requires.waits;
}

pub row-requires : goal.row-requires
row-requires c =
    in_book c.args.pool.now c.args.book.now (flag c.args.chosen.now) (flag c.loop-number.set) (is_waiting c.loop-number.waiting) c.in-Some.number c.requires.healthy c.loop-number.invariant.trimming.part c.loop-number.invariant.part c.in-Some.ensures.least

pub row-ids-requires : goal.row-ids-requires
row-ids-requires c =
    let lt = in_book c.args.pool.now c.args.book.now (flag c.args.chosen.now) (flag c.loop-number.set) (is_waiting c.loop-number.waiting) c.in-Some.number c.requires.healthy c.loop-number.invariant.trimming.part c.loop-number.invariant.part c.in-Some.ensures.least in
    c.requires.sound.rows.of_pool c.row.result (rw c.row.ensures (In_at c.args.book.now.rows c.in-Some.number 0 lt))

pub put_first-n-requires-clause-hit : goal.put_first-n-requires-clause-hit
put_first-n-requires-clause-hit c =
    let lt = in_book c.args.pool.now c.args.book.now (flag c.args.chosen.now) (flag c.loop-number.set) (is_waiting c.loop-number.waiting) c.in-Some.number c.requires.healthy c.loop-number.invariant.trimming.part c.loop-number.invariant.part c.in-Some.ensures.least in
    let cl = clause_at c.args.pool.now c.in-Some-first_unhit.found.id in
    let first = row_first c.args.pool.now c.args.book.now (flag c.loop-number.set) c.in-Some.number c.row.result c.row-ids.result.now (Some cl) lt c.row.ensures c.row-ids.ensures.lent c.in-Some-first_unhit.ensures.some in
    rw c.slice.ensures.lent (chosen_hits (repository_of c.args.pool.now c.args.book.now) (flag c.args.chosen.now) (flag c.loop-number.set) c.in-Some.number cl c.requires.healthy c.loop-number.invariant.trimming.part
    (c.loop-number.invariant.part c.in-Some.number c.in-Some.ensures.least.waits) first)

pub loop-number-preserved-in_default-first_unhit : goal.loop-number-preserved-in_default-first_unhit
loop-number-preserved-in_default-first_unhit c =
    let R = repository_of c.args.pool.now c.args.book.now in
    let lt = in_book c.args.pool.now c.args.book.now (flag c.args.chosen.now) (flag c.loop-number.set) (is_waiting c.loop-number.waiting) c.in-Some.number c.requires.healthy c.loop-number.invariant.trimming.part c.loop-number.invariant.part c.in-Some.ensures.least in
    let none = row_first c.args.pool.now c.args.book.now (flag c.loop-number.set) c.in-Some.number c.row.result c.row-ids.result.now None lt c.row.ensures c.row-ids.ensures.lent c.in_default-first_unhit.ensures.none in
    record {
      long = c.loop-number.invariant.long;
      trimming = c.loop-number.invariant.trimming;
      hit = c.loop-number.invariant.hit;
      part = within_less (flag c.loop-number.set) (is_waiting c.loop-number.waiting) (is_waiting c.take_first.new.self) c.in-Some.number c.loop-number.invariant.part c.in-Some.ensures.taken;
      long_places = c.loop-number.invariant.long_places;
      before = c.loop-number.invariant.before;
      met = met_one R (flag c.loop-number.set) (is_waiting c.loop-number.waiting) (is_waiting c.take_first.new.self) c.in-Some.number c.loop-number.invariant.met c.in-Some.ensures.taken none;
    }

pub loop-number-smaller : goal.loop-number-smaller
loop-number-smaller c =
    let lt = in_book c.args.pool.now c.args.book.now (flag c.args.chosen.now) (flag c.loop-number.set) (is_waiting c.loop-number.waiting) c.in-Some.number c.requires.healthy c.loop-number.invariant.trimming.part c.loop-number.invariant.part c.in-Some.ensures.least in
    let cl = clause_at c.args.pool.now c.in-Some-first_unhit.found.id in
    let first = row_first c.args.pool.now c.args.book.now (flag c.loop-number.set) c.in-Some.number c.row.result c.row-ids.result.now (Some cl) lt c.row.ensures c.row-ids.ensures.lent c.in-Some-first_unhit.ensures.some in
    let least = rw c.slice.ensures.lent at c.put_first-n.ensures.first in
    let below = chosen_below c.args.chosen.now c.loop-number.set cl c.put_first-n.result c.loop-number.invariant.long least in
    let fewer = fewer_down c.loop-number.set c.put_first-n.new.set cl (flag c.args.chosen.now) c.put_first-n.result below c.put_first-n.ensures.put least (opened (repository_of c.args.pool.now c.args.book.now) (flag c.loop-number.set) c.in-Some.number cl first) in
    less_to_do _ _ (waiting_count c.loop-number.waiting) (waiting_count c.take_first.new.self) (waiting_count c.put.new.self) (waiting_count c.put-in-Some.new.self) fewer c.in-Some.ensures.count c.in_ok-put.ensures.count c.in_ok-put-2.ensures.count

pub loop-number-preserved : goal.loop-number-preserved
loop-number-preserved c =
    let R = repository_of c.args.pool.now c.args.book.now in
    let lt = in_book c.args.pool.now c.args.book.now (flag c.args.chosen.now) (flag c.loop-number.set) (is_waiting c.loop-number.waiting) c.in-Some.number c.requires.healthy c.loop-number.invariant.trimming.part c.loop-number.invariant.part c.in-Some.ensures.least in
    let cl = clause_at c.args.pool.now c.in-Some-first_unhit.found.id in
    let first = row_first c.args.pool.now c.args.book.now (flag c.loop-number.set) c.in-Some.number c.row.result c.row-ids.result.now (Some cl) lt c.row.ensures c.row-ids.ensures.lent c.in-Some-first_unhit.ensures.some in
    let least = rw c.slice.ensures.lent at c.put_first-n.ensures.first in
    let below = chosen_below c.args.chosen.now c.loop-number.set cl c.put_first-n.result c.loop-number.invariant.long least in
    let in_R : c.in-Some.number < length R.clauses = rw size_of lt in
    let up = c.loop-number.invariant.part c.in-Some.number c.in-Some.ensures.least.waits in
    let met = met_below R (flag c.loop-number.set) (is_waiting c.loop-number.waiting) c.in-Some.number c.loop-number.invariant.met c.in-Some.ensures.least in
    let need = open_at R c.args.goals.now (flag c.loop-number.set) c.in-Some.number cl in_R c.loop-number.invariant.hit met up first in
    record {
      long = rw c.put_first-n.ensures.put (length-set c.loop-number.set c.put_first-n.result true ∙ c.loop-number.invariant.long);
      trimming = trimming_more R c.args.goals.now (flag c.args.chosen.now) c.loop-number.set c.put_first-n.new.set cl c.put_first-n.result below c.put_first-n.ensures.put need least c.loop-number.invariant.trimming;
      hit = goals_more c.loop-number.set c.put_first-n.new.set c.put_first-n.result c.args.goals.now below c.put_first-n.ensures.put c.loop-number.invariant.hit;
      part = within_put c.loop-number.set c.put_first-n.new.set (is_waiting c.loop-number.waiting) (is_waiting c.take_first.new.self) (is_waiting c.put.new.self) (is_waiting c.put-in-Some.new.self) c.in-Some.number c.put_first-n.result
          below c.put_first-n.ensures.put c.loop-number.invariant.part c.in-Some.ensures.least.waits c.in-Some.ensures.taken c.in_ok-put.ensures.put c.in_ok-put-2.ensures.put;
      long_places = length-set c.loop-number.places c.in-Some.number c.in-Some-first_unhit.found.place ∙ c.loop-number.invariant.long_places;
      before = hit_before_put c.args.pool.now c.args.book.now c.loop-number.set c.put_first-n.new.set c.loop-number.places (set c.loop-number.places c.in-Some.number c.in-Some-first_unhit.found.place) c.row-ids.result.now c.in-Some.number c.put_first-n.result
          c.in-Some-first_unhit.found.place c.row.result below c.put_first-n.ensures.put (rw c.loop-number.invariant.long_places lt) refl c.row.ensures c.row-ids.ensures.lent c.in-Some-first_unhit.ensures.before c.loop-number.invariant.before;
      met = met_put R c.loop-number.set c.put_first-n.new.set (is_waiting c.loop-number.waiting) (is_waiting c.take_first.new.self) (is_waiting c.put.new.self) (is_waiting c.put-in-Some.new.self) c.in-Some.number c.put_first-n.result
          below c.put_first-n.ensures.put c.loop-number.invariant.met c.in-Some.ensures.taken c.in_ok-put.ensures.put c.in_ok-put-2.ensures.put;
    }

pub returns : goal.returns
returns c =
    let R = repository_of c.args.pool.now c.args.book.now in
    trimming_end R c.args.goals.now (flag c.args.chosen.now) (flag c.loop-number.set)
    (open_none R c.args.goals.now (flag c.loop-number.set) (length R.clauses) (omega arith) c.loop-number.invariant.hit
    (met_all R (flag c.loop-number.set) (is_waiting c.loop-number.waiting) (length R.clauses) c.loop-number.invariant.met c.in_default.ensures.none)) c.loop-number.invariant.trimming
