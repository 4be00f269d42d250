use Rattle.std.proofs.{Common.{◌≡◌, ◌<◌, ◌+◌, ◌∙◌, ap, arith, length, refl, subst, sym}, lemmas.List.{get_or_read}}
use Rattle.row_book.specs.Parts.{clauses_in, numbers_up}
use Rattle.row_book.proofs.Numbered.{up_ascends, up_last}
use Rattle.clause_pool.specs.Interned.{clauses_at, row_at, Kept}
use Rattle.clause_pool.proofs.Interned.{kept_along, kept_same}
use Rattle.listed.specs.Lists.{Ascending, In}
use Rattle.suite_part.specs.{BaseRows.{AreBaseRows}, Renewed.{IsRenewed}, Back.{AreBack}}
use Rattle.suite_part.proofs.{Backs.{none_back}, Renewing.{new_listed, renewed_all, renewed_back, renewed_more, renewed_none, renewed_old, RenewedTo}}
use Rattle.suite_part.proofs.renewed.renewed_rows.Goals as goal
use Rattle.suite_part.proofs.renewed.renewed_rows.Goals.{After-as_slice, in-Some+in_ok-id-in-Some, in-None}

pub loop-number-init : goal.loop-number-init
loop-number-init c = record {
  rows = renewed_none c.args.pool.now c.args.from.now c.args.made.now c.args.apart.now.flags.items c.args.changed.now c.args.rows.now c.in_ok-more.more.items c.in_ok-more.ensures.items;
  seen = none_back c.args.from.now (numbers_up c.args.apart.now.flags.items) c.args.pool.now c.in_ok-seen.seen.items (c.in_ok-seen.ensures.size ∙ c.clause_count.ensures.count) c.in_ok-seen.ensures.none;
}

-- the numbers of the part
numbers_are : (c : After-as_slice) → c.as_slice.result.now ≡ numbers_up c.args.apart.now.flags.items
numbers_are c = c.as_slice.ensures ∙ c.in_ok-numbers.ensures ∙ ap numbers_up c.deref.ensures.value

pub row-there-requires : goal.row-there-requires
row-there-requires c =
    c.requires.made.of_pool c.in-Some.new
    (new_listed c.args.pool.now c.args.from.now c.args.made.now c.args.apart.now.flags.items c.args.changed.now c.args.rows.now c.loop-number.number c.in-Some.new c.requires.made (c.in-Some.ensures.some c.in-Some.new refl))

pub row_back-requires-clause-within : goal.row_back-requires-clause-within
row_back-requires-clause-within c = λ d i n j.
    let apart = c.args.apart.now.flags.items in
    let count : length c.as_slice.result.now ≡ length c.args.made.now = ap length (numbers_are (goal.at.row_back-requires-clause-within c).After-as_slice) ∙ up_last apart ∙ sym c.requires.made.count in
    subst (λ z. n < z) (sym count)
    (c.requires.made.numbers c.in-Some.new (new_listed c.args.pool.now c.args.from.now c.args.made.now apart c.args.changed.now c.args.rows.now c.loop-number.number c.in-Some.new c.requires.made (c.in-Some.ensures.some c.in-Some.new refl)) d (subst (λ z. In d z) (ap (clauses_at c.args.from.now) c.row-there.ensures.lent) i) n j)

pub row_back-requires-clause-ascending : goal.row_back-requires-clause-ascending
row_back-requires-clause-ascending c = subst Ascending (sym (numbers_are (goal.at.row_back-requires-clause-ascending c).After-as_slice)) (up_ascends c.args.apart.now.flags.items)

pub row_back-requires-clause-seen : goal.row_back-requires-clause-seen
row_back-requires-clause-seen c =
    subst (λ z. AreBack c.args.from.now z c.loop-number.pool c.loop-number.seen.items) (sym (numbers_are (goal.at.row_back-requires-clause-seen c).After-as_slice)) c.loop-number.invariant.seen

pub returns-in_err-id-in-Some-clause-kept : goal.returns-in_err-id-in-Some-clause-kept
returns-in_err-id-in-Some-clause-kept c = kept_along c.args.pool.now c.loop-number.pool c.row_back.new.pool c.loop-number.invariant.rows.kept c.row_back.ensures.kept

pub returns-in_err-push-clause-kept : goal.returns-in_err-push-clause-kept
returns-in_err-push-clause-kept c =
    elim c.match-new_row.branch [
      | in-Some+in_ok-id-in-Some w ↦
          subst (Kept c.args.pool.now) (sym w.pool-is) (kept_along c.args.pool.now c.loop-number.pool w.row_back.new.pool c.loop-number.invariant.rows.kept w.row_back.ensures.kept)
      | in-None w ↦ subst (Kept c.args.pool.now) (sym w.pool-is) c.loop-number.invariant.rows.kept
    ]

pub loop-number-preserved : goal.loop-number-preserved
loop-number-preserved c =
    let start = c.args.pool.now in
    let from = c.args.from.now in
    let made = c.args.made.now in
    let apart = c.args.apart.now.flags.items in
    let changed = c.args.changed.now in
    let rows = c.args.rows.now in
    let old = c.loop-number.pool in
    let n = c.loop-number.number in
    let id = c.match-new_row.id in
    let numbers = numbers_up apart in
    let base : AreBaseRows start rows (length rows) = subst (AreBaseRows start rows) (sym c.requires.rows.size) c.requires.rows in
    elim c.match-new_row.branch [
      | in-Some+in_ok-id-in-Some w ↦
          let new = w.row_back.new.pool in
          let is = w.in-Some.ensures.some w.in-Some.new refl in
          let are : w.as_slice.result.now ≡ numbers = w.as_slice.ensures ∙ c.in_ok-numbers.ensures ∙ ap numbers_up c.deref.ensures.value in
          let same : row_at new id ≡ clauses_in numbers (row_at from w.in-Some.new) =
          ap (row_at new) w.id-is ∙ w.in_ok-id-in-Some.ensures.row ∙ ap (λ z. clauses_in z (clauses_at from w.row-there.result.now)) are ∙ ap (clauses_in numbers) (ap (clauses_at from) w.row-there.ensures.lent) in
          let one : IsRenewed from made apart changed new rows n id =
          renewed_back start from made apart changed rows new n w.in-Some.new id w.in_ok-id-in-Some.ensures.sound c.requires.rows.size c.requires.made is
          (subst (λ z. z < length new.rows) (sym w.id-is) w.in_ok-id-in-Some.ensures.of_pool) same in
          record {
            rows = subst (λ p. RenewedTo start from made apart changed rows p c.push.new.self.items (n + 1)) (sym w.pool-is)
                (renewed_more start from made apart changed rows old new c.loop-number.more.items c.push.new.self.items n id w.row_back.ensures.kept c.in_ok-push.ensures.items one c.loop-number.invariant.rows);
            seen = subst (λ p. AreBack from numbers p c.match-new_row.seen.items) (sym w.pool-is)
                (subst (λ v. AreBack from numbers new v) (sym (ap (λ v. v.items) w.seen-is)) (subst (λ z. AreBack from z new w.row_back.new.seen.items) are w.in_ok-id-in-Some.ensures.seen));
          }
      | in-None w ↦
          let one : IsRenewed from made apart changed old rows n id =
          renewed_old start from made apart changed rows old n id base c.loop-number.invariant.rows.kept c.loop-number-test.true (w.id-is ∙ get_or_read rows n c.index-rows-number.result c.loop-number-test.true c.index-rows-number.is 0)
          (λ new is. w.in-None.ensures.none is.there is.changed_is) in
          record {
            rows = subst (λ p. RenewedTo start from made apart changed rows p c.push.new.self.items (n + 1)) (sym w.pool-is)
                (renewed_more start from made apart changed rows old old c.loop-number.more.items c.push.new.self.items n id (kept_same old) c.in_ok-push.ensures.items one c.loop-number.invariant.rows);
            seen = subst (λ p. AreBack from numbers p c.match-new_row.seen.items) (sym w.pool-is)
                (subst (λ v. AreBack from numbers old v) (sym (ap (λ v. v.items) w.seen-is)) c.loop-number.invariant.seen);
          }
    ]

pub returns-clause-rows : goal.returns-clause-rows
returns-clause-rows c =
    renewed_all c.args.pool.now c.args.from.now c.args.made.now c.args.apart.now.flags.items c.args.changed.now c.args.rows.now c.loop-number.pool c.loop-number.more.items c.loop-number.number
    (omega arith) c.loop-number.invariant.rows
