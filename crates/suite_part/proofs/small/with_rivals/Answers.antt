use Rattle.std.proofs.Common.{◌≡◌, ◌<◌, ◌∙◌, ◌⊎◌, ap, arith, length, subst, sym, true}
use Rattle.std.specs.List.{list_any}
use Rattle.listed.specs.Lists.{In}
use Rattle.row_book.proofs.{PartSound.{conflict_in_book}, Users.{lent_whole}}
use Rattle.row_book.specs.Flags.{flag}
use Rattle.suite_part.proofs.Rivals.{rivals_all, rivals_less, rivals_more, rivals_none}
use Rattle.suite_part.proofs.small.with_rivals.Goals as goal
use Rattle.suite_part.proofs.small.with_rivals.Goals.{then-needed-number, else-needed-number}

pub loop-number-init : goal.loop-number-init
loop-number-init c = rivals_none c.args.book.now.conflicts c.args.flags.now c.args.needed.now c.in_ok-apart.apart.items c.in_ok-apart.ensures.items c.requires.mix

pub put_rival-requires-clause-size : goal.put_rival-requires-clause-size
put_rival-requires-clause-size c = c.requires.flags ∙ sym (ap length c.deref_mut.ensures.value ∙ c.loop-number.invariant.size ∙ c.requires.count)

pub put_rival-requires-clause-numbers : goal.put_rival-requires-clause-numbers
put_rival-requires-clause-numbers c = λ n i.
    subst (λ z. n < z) (sym (ap length c.deref_mut.ensures.value ∙ c.loop-number.invariant.size ∙ c.requires.count))
    (conflict_in_book c.args.book.now c.requires.conflicts c.loop-number.number n (subst (λ z. In n z) c.against.ensures i))

pub loop-number-preserved : goal.loop-number-preserved
loop-number-preserved c =
    let conflicts = c.args.book.now.conflicts in
    let flags = c.args.flags.now in
    let needed = c.args.needed.now in
    let number = c.loop-number.number in
    elim c.if-needed-number.branch [
      | then-needed-number w ↦
          let old = c.loop-number.apart in
          let new = w.put_rival.new.apart in
          let size : length new ≡ length old.items = w.put_rival.ensures.size ∙ ap length w.deref_mut.ensures.value in
          let whole : c.if-needed-number.apart.items ≡ new = ap (λ v. v.items) w.apart-is ∙ lent_whole old.len new old.items size old.ok.0 in
          rw whole
          (rivals_more conflicts flags needed old.items new number size
          (λ m u. w.put_rival.ensures.stays m (subst (λ z. flag z m ≡ true) (sym w.deref_mut.ensures.value) u))
          (λ m u. subst (λ z. (flag z m ≡ true) ⊎ (flag flags m ≡ true)) w.deref_mut.ensures.value (w.put_rival.ensures.mix m u))
          (λ m i u. subst (λ z. list_any (flag new) z ≡ true) w.against.ensures (w.put_rival.ensures.one m (subst (λ z. In m z) (sym w.against.ensures) i) u)) c.loop-number.invariant)
      | else-needed-number w ↦
          let same : c.if-needed-number.apart.items ≡ c.loop-number.apart.items = ap (λ v. v.items) w.apart-is in
          rw same (rivals_less conflicts flags needed c.loop-number.apart.items number w.if-needed-number.false c.loop-number.invariant)
    ]

pub returns : goal.returns
returns c =
    let count = c.requires.count in
    let size = c.size-number-end.ensures in
    rivals_all c.args.book.now.conflicts c.args.flags.now c.args.needed.now c.loop-number.apart.items c.loop-number.number (omega arith) c.loop-number.invariant
