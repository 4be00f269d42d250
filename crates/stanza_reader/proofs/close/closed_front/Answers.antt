use Rattle.std.proofs.Common.{arith}
use Rattle.stanza_reader.proofs.{CloseLemmas.{front_closed, none_closed}, PlaceLemmas.{feed_at, place_first}}
use Rattle.stanza_reader.proofs.close.closed_front.Goals as goal

-- the blank line behind the first group ends with a line feed
pub returns-then-end-bytes-clause-front : goal.returns-then-end-bytes-clause-front
returns-then-end-bytes-clause-front c =
    let bytes = c.args.bytes.now in
    let skipped = c.skip_blank-start.ensures in
    let passed = c.skip_group-after.ensures in
    let is = c.line_end-end.ensures.place in
    let more = c.if-end-bytes.true in
    front_closed bytes c.skip_blank-start.result c.skip_group-after.result c.line_end-end.result skipped.lines (skipped.full (omega (arith, passed.onward, is, more))) passed.lines
    (omega (arith, is, more)) is more (feed_at bytes c.skip_group-after.result c.line_end-end.result is more)

-- no line feed is left there
pub returns-else-end-bytes-clause-none : goal.returns-else-end-bytes-clause-none
returns-else-end-bytes-clause-none c none n =
    let passed = c.skip_group-after.ensures in
    none_closed c.args.bytes.now c.skip_blank-start.result c.skip_group-after.result c.line_end-end.result c.skip_blank-start.ensures.lines passed.lines passed.place.within c.line_end-end.ensures.place c.if-end-bytes.false n

pub skip_blank-start-requires : goal.skip_blank-start-requires
skip_blank-start-requires c = place_first c.args.bytes.now (omega arith)
