use Rattle.std.proofs.Common.{ap, subst}
use Rattle.std.specs.Option.{option_copied}
use Rattle.kernel_text.proofs.NumberWords.{NumbersSoFar, one_number, no_number, fewer_left}
use Rattle.kernel_text.proofs.read_line.read_numbers.Goals as goal

-- one more word is one more number
pub loop-left-preserved : goal.loop-left-preserved
loop-left-preserved c =
    one_number (option_copied c.args.words) c.loop-left.numbers c.push.new.self c.in-Some.text.now c.cut_at_space.result.0.now (option_copied c.cut_at_space.result.1) c.in-Some-read_number.number
    (subst (NumbersSoFar (option_copied c.args.words) c.loop-left.numbers) (ap option_copied c.in-Some.is) c.loop-left.invariant) c.cut_at_space.ensures c.in-Some-read_number.ensures c.in_ok-push.ensures.ok

pub loop-left-smaller : goal.loop-left-smaller
loop-left-smaller c = fewer_left c.in-Some.text.now c.cut_at_space.result.0.now (option_copied c.cut_at_space.result.1) (option_copied c.loop-left.left) (ap option_copied c.in-Some.is) c.cut_at_space.ensures

pub returns-in_default-read_number : goal.returns-in_default-read_number
returns-in_default-read_number c =
    no_number (option_copied c.args.words) c.loop-left.numbers c.in-Some.text.now c.cut_at_space.result.0.now (option_copied c.cut_at_space.result.1)
    (subst (NumbersSoFar (option_copied c.args.words) c.loop-left.numbers) (ap option_copied c.in-Some.is) c.loop-left.invariant) c.cut_at_space.ensures c.in_default-read_number.ensures
