use Rattle.std.proofs.Common.{◌≡◌, ◌+◌, ◌∙◌, true, take, sym, arith}
use Rattle.repo_model.specs.Backward.{closes}
use Rattle.repo_model.proofs.{Closing.{closes_closed}, Opening.{feed_closes, none_at, none_before, none_longer, open_behind, open_still}}
use Rattle.repo_model.proofs.blank.closed_length.Goals as goal

pub loop-end-init : goal.loop-end-init
loop-end-init c = record { within = omega arith; none = none_longer c.args.text.now _ (omega arith) }

pub loop-end-preserved : goal.loop-end-preserved
loop-end-preserved c =
    let within = c.loop-end.invariant.within in
    let feed = c.in-Some.ensures.some in
    record {
      within = omega (arith, within, feed.high);
      none = none_at c.args.text.now c.args.from c.in-Some.feed c.loop-end.end within feed (sym c.is_last_blank.ensures ∙ c.if-is_last_blank.false) c.loop-end.invariant.none;
    }

pub returns-in_default-clause-unclosed : goal.returns-in_default-clause-unclosed
returns-in_default-clause-unclosed c =
    open_still c.args.text.now c.args.from c.args.from (omega arith) c.requires
    (none_before c.args.text.now c.args.from c.loop-end.end c.loop-end.invariant.within c.in_default.ensures.none c.loop-end.invariant.none)

pub returns-then-is_last_blank-clause-within : goal.returns-then-is_last_blank-clause-within
returns-then-is_last_blank-clause-within c =
    let within = c.loop-end.invariant.within in
    let feed = c.in-Some.ensures.some in
    omega (arith, within, feed.high)

pub returns-then-is_last_blank-clause-closed : goal.returns-then-is_last_blank-clause-closed
returns-then-is_last_blank-clause-closed c =
    let shut : closes (take (c.in-Some.feed + 1) c.args.text.now) ≡ true =
    feed_closes c.args.text.now c.args.from c.in-Some.feed c.loop-end.end c.loop-end.invariant.within c.in-Some.ensures.some (sym c.is_last_blank.ensures ∙ c.if-is_last_blank.true) in
    closes_closed (take (c.in-Some.feed + 1) c.args.text.now) shut

pub returns-then-is_last_blank-clause-unclosed : goal.returns-then-is_last_blank-clause-unclosed
returns-then-is_last_blank-clause-unclosed c =
    let within = c.loop-end.invariant.within in
    let feed = c.in-Some.ensures.some in
    let shut : closes (take (c.in-Some.feed + 1) c.args.text.now) ≡ true =
    feed_closes c.args.text.now c.args.from c.in-Some.feed c.loop-end.end within feed (sym c.is_last_blank.ensures ∙ c.if-is_last_blank.true) in
    open_behind c.args.text.now (c.in-Some.feed + 1) (omega (arith, within, feed.high)) (closes_closed (take (c.in-Some.feed + 1) c.args.text.now) shut)
    (none_before c.args.text.now (c.in-Some.feed + 1) c.loop-end.end within feed.last c.loop-end.invariant.none)

pub returns-clause-unclosed : goal.returns-clause-unclosed
returns-clause-unclosed c = open_still c.args.text.now c.args.from c.loop-end.end (omega arith) c.requires c.loop-end.invariant.none
