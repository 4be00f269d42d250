use Rattle.std.proofs.{Common.{◌≡◌, ◌<◌, ◌∙◌, [], ◌∷◌, ap, arith, inl, inr, length, refl, subst, sym, true}, lemmas.Grind.{common_steps}}
use Rattle.listed.{specs.Lists.{In}, proofs.Lists.{In_at, In_cases, In_none}}
use Rattle.row_book.proofs.Users.{lent_whole}
use Rattle.row_book.specs.Uses.{row_id}
use Rattle.clause_pool.specs.Interned.{clauses_at, row_at}
use Rattle.suite_part.specs.{Bases.{Flags}, Small.{members_in}}
use Rattle.suite_part.proofs.Needs.{needs_all, needs_first, needs_members, needs_other, waiting_below}
use Rattle.suite_part.proofs.small.needed_in.Goals as goal
use Rattle.suite_part.proofs.small.needed_in.Goals.{then-are_both+in_ok-put_changed, else-are_both}
use Rattle.std.proofs.lemmas.List.{nil_from_length}

pub put_changed-requires : goal.put_changed-requires
put_changed-requires c = λ n i.
    let below : c.loop-number.number < length c.args.book.now.rows = subst (λ z. c.loop-number.number < z) c.size-number-end.ensures c.loop-number-test.true in
    let long : length c.deref_mut.result.now ≡ length c.args.book.now.rows = ap length c.deref_mut.ensures.value ∙ c.loop-number.invariant.long in
    elim (In_cases i) [ inl e ↦ subst (λ z. z < length c.deref_mut.result.now) (sym e) (subst (λ z. c.loop-number.number < z) (sym long) below) | inr j ↦ absurd (In_none j) ]

pub loop-number-preserved : goal.loop-number-preserved
loop-number-preserved c =
    let from = c.args.from.now in
    let book = c.args.book.now in
    let chosen = c.args.flags.now in
    let changed = c.args.changed.now in
    let number = c.loop-number.number in
    elim c.if-are_both.branch [
      | then-are_both+in_ok-put_changed w ↦
          let flags : Flags (number ∷ []) c.loop-number.needed.items c.loop-number.work.items w.put_changed.new.changed w.put_changed.new.work.items =
          subst (λ z. Flags (number ∷ []) z c.loop-number.work.items w.put_changed.new.changed w.put_changed.new.work.items) w.deref_mut.ensures.value w.in_ok-put_changed.ensures.flags in
          let whole : c.if-are_both.needed.items ≡ w.put_changed.new.changed =
          ap (λ v. v.items) w.needed-is ∙ lent_whole c.loop-number.needed.len w.put_changed.new.changed c.loop-number.needed.items flags.size c.loop-number.needed.ok.0 in
          let work : c.if-are_both.work.items ≡ w.put_changed.new.work.items = ap (λ v. v.items) w.work-is in
          rw (whole, work)
          (needs_first from book chosen changed number c.loop-number.needed.items w.put_changed.new.changed c.loop-number.work.items w.put_changed.new.work.items (sym c.are_both.ensures ∙ w.if-are_both.true) flags c.loop-number.invariant)
      | else-are_both w ↦
          let same : c.if-are_both.needed.items ≡ c.loop-number.needed.items = ap (λ v. v.items) w.needed-is in
          let work : c.if-are_both.work.items ≡ c.loop-number.work.items = ap (λ v. v.items) w.work-is in
          rw (same, work)
          (needs_other from book chosen changed number c.loop-number.needed.items c.loop-number.work.items (sym c.are_both.ensures ∙ w.if-are_both.false) c.loop-number.invariant)
    ]

pub row-requires : goal.row-requires
row-requires c =
    waiting_below c.args.from.now c.args.book.now c.args.flags.now c.args.changed.now (length c.args.book.now.rows) c.in-Some.number c.loop-number-2.needed.items c.loop-number-2.work.items c.pop.new.self.items
    c.in-Some.ensures.items c.loop-number-2.invariant

pub row-requires-in-Some : goal.row-requires-in-Some
row-requires-in-Some c =
    let book = c.args.book.now in
    let below : c.in-Some.number < length book.rows =
    waiting_below c.args.from.now book c.args.flags.now c.args.changed.now (length book.rows) c.in-Some.number c.loop-number-2.needed.items c.loop-number-2.work.items c.pop.new.self.items
    c.in-Some.ensures.items c.loop-number-2.invariant in
    subst (λ z. z < length c.args.from.now.rows) (sym c.row.ensures) (c.requires.book.rows.of_pool (row_id book.rows c.in-Some.number) (In_at book.rows c.in-Some.number 0 below))

pub need_members-requires-clause-numbers : goal.need_members-requires-clause-numbers
need_members-requires-clause-numbers c = λ d i n j.
    let from = c.args.from.now in
    let book = c.args.book.now in
    let p = c.in-Some.number in
    let below : p < length book.rows =
    waiting_below from book c.args.flags.now c.args.changed.now (length book.rows) p c.loop-number-2.needed.items c.loop-number-2.work.items c.pop.new.self.items c.in-Some.ensures.items c.loop-number-2.invariant in
    let lent : clauses_at from c.row-in-Some.result.now ≡ row_at from (row_id book.rows p) = ap (clauses_at from) c.row-in-Some.ensures.lent ∙ ap (row_at from) c.row.ensures in
    subst (λ z. n < z) (sym (ap length c.deref_mut-in-Some.ensures.value ∙ c.loop-number-2.invariant.long))
    (c.requires.book.rows.numbers (row_id book.rows p) (In_at book.rows p 0 below) d (subst (λ z. In d z) lent i) n j)

pub loop-number-2-preserved : goal.loop-number-2-preserved
loop-number-2-preserved c =
    let from = c.args.from.now in
    let book = c.args.book.now in
    let p = c.in-Some.number in
    let chosen = c.args.flags.now in
    let rest = c.pop.new.self.items in
    let new = c.need_members.new.needed in
    let more = c.need_members.new.work.items in
    let cs = clauses_at from c.row-in-Some.result.now in
    let lent : cs ≡ row_at from (row_id book.rows p) = ap (clauses_at from) c.row-in-Some.ensures.lent ∙ ap (row_at from) c.row.ensures in
    let told : Flags (members_in chosen cs) c.loop-number-2.needed.items rest new more =
    subst (λ z. Flags (members_in chosen cs) z rest new more) c.deref_mut-in-Some.ensures.value c.in_ok-need_members.ensures.flags in
    let flags : Flags (members_in chosen (row_at from (row_id book.rows p))) c.loop-number-2.needed.items rest new more = subst (λ z. Flags (members_in chosen z) c.loop-number-2.needed.items rest new more) lent told in
    rw (lent_whole c.loop-number-2.needed.len new c.loop-number-2.needed.items flags.size c.loop-number-2.needed.ok.0)
    (needs_members from book chosen c.args.changed.now (length book.rows) p c.loop-number-2.needed.items new c.loop-number-2.work.items rest more c.in-Some.ensures.items flags
    c.loop-number-2.invariant)

pub returns : goal.returns
returns c =
    let none : c.loop-number-2.work.items ≡ [] = grind (arith, common_steps, nil_from_length) in
    needs_all c.args.from.now c.args.book.now c.args.flags.now c.args.changed.now (length c.args.book.now.rows) c.loop-number-2.needed.items c.loop-number-2.work.items refl c.requires.flags none c.loop-number-2.invariant
