use Rattle.std.proofs.Common.{◌∙◌, ap, arith}
use Rattle.suite_compare.proofs.Groups.{map_pushed}
use Rattle.status_check.specs.Installed.{is_foreign, is_own}
use Rattle.status_check.proofs.Counting.{counted_few, counted_more}
use Rattle.status_check.proofs.installed.sort_stanzas.Goals as goal

pub counted-foreign-requires : goal.counted-foreign-requires
counted-foreign-requires c =
    omega (arith, c.loop-stanza-test.true, counted_few (is_foreign c.args.home.now) c.args.stanzas.now c.loop-stanza.stanza-index c.loop-stanza.foreign c.loop-stanza-test.true c.loop-stanza.invariant.foreign)

pub loop-stanza-preserved : goal.loop-stanza-preserved
loop-stanza-preserved c = record {
  own = map_pushed (is_own c.args.home.now) c.args.stanzas.now c.loop-stanza.stanza-index c.stanza-item.result c.loop-stanza.own.items c.push.new.self.items c.standing_of-standing.result.own c.loop-stanza-test.true
      c.in_ok-push.ensures.items (c.standing_of-standing.ensures.own ∙ ap (is_own c.args.home.now) c.stanza-item.is) c.loop-stanza.invariant.own;
  foreign = counted_more (is_foreign c.args.home.now) c.args.stanzas.now c.loop-stanza.stanza-index c.loop-stanza.foreign c.loop-stanza-test.true c.loop-stanza.invariant.foreign c.stanza-item.result c.standing_of-standing.result.foreign
      c.counted-foreign.result c.stanza-item.is c.standing_of-standing.ensures.foreign c.counted-foreign.ensures;
}
