use Rattle.std.proofs.{Common.{length, drop, sym, ap, ◌∙◌, arith, rules}, Math.Seq.{drop-length}, lemmas.List.Sums.{prefix_len_is}}
use Rattle.listed.specs.Texts.{is_white_byte, trim_start}
use Rattle.listed.proofs.Lists.{to_end}
use Rattle.listed.proofs.white.trim_front.Goals as goal

pub returns-then-not-is_white_byte : goal.returns-then-not-is_white_byte
unfolding trim_start
returns-then-not-is_white_byte c =
    to_end c.loop-start.start c.args.text.now
    ∙ ap (λ n. drop n c.args.text.now) (sym (prefix_len_is is_white_byte c.args.text.now c.loop-start.start 0 (omega arith) c.loop-start.invariant (λ _. search rules)))

pub returns : goal.returns
unfolding trim_start
returns c =
    sym (drop-length c.args.text.now)
    ∙ ap (λ n. drop n c.args.text.now)
    (sym (prefix_len_is is_white_byte c.args.text.now (length c.args.text.now) 0 (omega arith) (λ k h. c.loop-start.invariant k (omega arith)) (λ h. absurd (omega arith))))
