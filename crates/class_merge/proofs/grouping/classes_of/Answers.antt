use Rattle.std.proofs.Common.{◌≡◌, ◌<◌, ◌∙◌, arith, length, subst}
use Rattle.class_merge.specs.Grouping.{key_of, IsPlaceAmong}
use Rattle.class_merge.proofs.Groups.{flags_size, group_all, group_more}
use Rattle.class_merge.proofs.grouping.classes_of.Goals as goal

pub loop-number-preserved : goal.loop-number-preserved
loop-number-preserved c =
    let n = c.loop-number.number in
    let l : n < length c.args.masked.now.rows.now = subst (λ z. n < z) (flags_size c.args.masked.now c.requires) c.loop-number-test.true in
    let place : IsPlaceAmong c.loop-number.seen c.place_among.new.seen c.loop-number.firsts.items c.place_among.new.firsts.items n (key_of c.args.masked.now n) c.in_ok-class.class =
    subst (λ z. IsPlaceAmong c.loop-number.seen c.place_among.new.seen c.loop-number.firsts.items c.place_among.new.firsts.items n z c.in_ok-class.class) (c.as_slice.ensures.value ∙ c.in_ok-put_key.ensures) c.in_ok-class.ensures in
    group_more c.args.masked.now c.requires c.loop-number.seen c.loop-number.firsts.items c.loop-number.class_of.items c.push-in-loop-number.new.self.items n c.in_ok-class.class c.loop-number.invariant
    c.in_ok-push-2.ensures.items c.place_among.new.seen c.place_among.new.firsts.items l c.if-not-masked-number.false place

pub returns : goal.returns
returns c =
    let e : c.loop-number.number ≡ length c.args.masked.now.flags.now = omega arith in
    group_all c.args.masked.now c.requires c.loop-number.seen _ c.loop-number.number e c.loop-number.invariant
