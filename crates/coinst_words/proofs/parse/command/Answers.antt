use Rattle.std.proofs.{Common.{[]}, lemmas.Result.{IfOk-weaker}}
use Rattle.coinst_words.specs.Program.{flag_rule, valued_rule}
use Rattle.coinst_words.proofs.Commands.{added_next, finished, flags_all, taken_all}
use Rattle.coinst_words.proofs.parse.command.Goals as goal

pub loop-option-init : goal.loop-option-init
loop-option-init c = record { app = c.new-command.ensures.app; globals = c.new-command.ensures.local }

pub loop-option-preserved : goal.loop-option-preserved
loop-option-preserved c =
    added_next flag_rule _ [] c.args.flags.now c.loop-option.option-index _ _ c.flag.result _ c.loop-option-test.true c.in_ok-command.ensures c.flag.ensures.rule c.flag.ensures.local c.loop-option.invariant

pub loop-option-2-init : goal.loop-option-2-init
loop-option-2-init c = flags_all _ c.args.flags.now c.loop-option.option-index _ c.loop-option-test.false c.loop-option.invariant

pub loop-option-2-preserved : goal.loop-option-2-preserved
loop-option-2-preserved c =
    added_next valued_rule _ _ c.args.with_value.now c.loop-option-2.option-index _ _ c.valued.result _ c.loop-option-2-test.true c.in_ok-command-2.ensures c.valued.ensures.rule c.valued.ensures.local c.loop-option-2.invariant

pub returns : goal.returns
returns c = IfOk-weaker c.arg-2.result _ _ (λ r adds. finished _ _ _ _ c.ordinary.result r adds c.ordinary.ensures.rule c.ordinary.ensures.local (taken_all _ c.args.flags.now c.args.with_value.now c.loop-option-2.option-index _ c.loop-option-2-test.false c.loop-option-2.invariant)) c.arg-2.ensures
