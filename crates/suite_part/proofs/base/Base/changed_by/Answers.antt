use Rattle.std.proofs.{Common.{◌≡◌, ◌<◌, ◌∙◌, [], ◌∷◌, ap, arith, inl, inr, length, refl, subst, sym}, lemmas.Grind.{common_steps}}
use Rattle.listed.proofs.Lists.{In_cases, In_none}
use Rattle.row_book.specs.Book.{listed_for}
use Rattle.row_book.proofs.Users.{lent_whole}
use Rattle.suite_part.specs.Bases.{Flags}
use Rattle.suite_part.proofs.Bases.{popped_below, spread_changed, spread_first, spread_same, spread_users}
use Rattle.suite_part.proofs.base.Base.changed_by.Goals as goal
use Rattle.suite_part.proofs.base.Base.changed_by.Goals.{then-differs+in_ok-put_changed, else-differs}
use Rattle.std.proofs.lemmas.List.{nil_from_length}

pub put_changed-requires : goal.put_changed-requires
put_changed-requires c = λ n i.
    let below : c.loop-number.number < length c.args.book.now.rows = subst (λ z. c.loop-number.number < z) c.size-number-end.ensures c.loop-number-test.true in
    let long : length c.deref_mut.result.now ≡ length c.args.book.now.rows = ap length c.deref_mut.ensures.value ∙ c.loop-number.invariant.long in
    elim (In_cases i) [ inl e ↦ subst (λ z. z < length c.deref_mut.result.now) (sym e) (subst (λ z. c.loop-number.number < z) (sym long) below) | inr j ↦ absurd (In_none j) ]

pub loop-number-preserved : goal.loop-number-preserved
loop-number-preserved c =
    let users = c.args.self.now.users in
    let conflicts = c.args.book.now.conflicts in
    let chosen = c.args.flags.now in
    let size = length c.args.book.now.rows in
    elim c.if-differs.branch [
      | then-differs+in_ok-put_changed w ↦
          let flags : Flags (c.loop-number.number ∷ []) c.loop-number.changed.items c.loop-number.work.items w.put_changed.new.changed w.put_changed.new.work.items =
          subst (λ z. Flags (c.loop-number.number ∷ []) z c.loop-number.work.items w.put_changed.new.changed w.put_changed.new.work.items) w.deref_mut.ensures.value w.in_ok-put_changed.ensures.flags in
          let whole : c.if-differs.changed.items ≡ w.put_changed.new.changed =
          ap (λ v. v.items) w.changed-is ∙ lent_whole c.loop-number.changed.len w.put_changed.new.changed c.loop-number.changed.items flags.size c.loop-number.changed.ok.0 in
          let work : c.if-differs.work.items ≡ w.put_changed.new.work.items = ap (λ v. v.items) w.work-is in
          rw (whole, work)
          (spread_first users conflicts c.args.self.now.flags.items chosen size c.loop-number.number c.loop-number.changed.items w.put_changed.new.changed c.loop-number.work.items w.put_changed.new.work.items flags c.loop-number.invariant)
      | else-differs w ↦
          let same : c.if-differs.changed.items ≡ c.loop-number.changed.items = ap (λ v. v.items) w.changed-is in
          let work : c.if-differs.work.items ≡ c.loop-number.work.items = ap (λ v. v.items) w.work-is in
          rw (same, work)
          (spread_same users conflicts c.args.self.now.flags.items chosen size c.loop-number.number c.loop-number.changed.items c.loop-number.work.items w.if-differs.ensures c.loop-number.invariant)
    ]

pub packages-requires : goal.packages-requires
packages-requires c =
    let below : c.in-Some.number < length c.args.book.now.rows =
    popped_below c.args.self.now.users c.args.book.now.conflicts c.args.self.now.flags.items c.args.flags.now (length c.args.book.now.rows) (length c.args.book.now.rows) c.in-Some.number c.loop-number-2.changed.items
    c.loop-number-2.work.items c.pop.new.self.items c.in-Some.ensures.items c.loop-number-2.invariant in
    subst (λ z. c.in-Some.number < z) (sym c.requires.fits.users) below

pub loop-number-2-preserved : goal.loop-number-2-preserved
loop-number-2-preserved c =
    let list = listed_for c.args.self.now.users c.in-Some.number in
    let new = c.put_changed-in-Some.new.changed in
    let more = c.put_changed-in-Some.new.work.items in
    let told : Flags list c.deref_mut-in-Some.result.now c.pop.new.self.items new more =
    subst (λ z. Flags z c.deref_mut-in-Some.result.now c.pop.new.self.items new more) c.packages.ensures c.in_ok-put_changed-2.ensures.flags in
    let flags : Flags list c.loop-number-2.changed.items c.pop.new.self.items new more = subst (λ z. Flags list z c.pop.new.self.items new more) c.deref_mut-in-Some.ensures.value told in
    rw (lent_whole c.loop-number-2.changed.len new c.loop-number-2.changed.items flags.size c.loop-number-2.changed.ok.0)
    (spread_users c.args.self.now.users c.args.book.now.conflicts c.args.self.now.flags.items c.args.flags.now (length c.args.book.now.rows) (length c.args.book.now.rows) c.in-Some.number c.loop-number-2.changed.items new
    c.loop-number-2.work.items c.pop.new.self.items more c.in-Some.ensures.items flags c.loop-number-2.invariant)

pub returns-clause-size : goal.returns-clause-size
returns-clause-size c = c.loop-number-2.invariant.long

pub returns-clause-changed : goal.returns-clause-changed
returns-clause-changed c = λ from sound are.
    let none : c.loop-number-2.work.items ≡ [] = grind (arith, common_steps, nil_from_length) in
    spread_changed from c.args.book.now c.args.self.now.users c.args.self.now.flags.items c.args.flags.now c.loop-number-2.changed.items c.loop-number-2.work.items (length c.args.book.now.rows) refl none sound are
    c.loop-number-2.invariant
