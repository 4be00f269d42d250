use Rattle.std.proofs.Common.{◌≡◌, ◌++◌}
use Rattle.sample_suite.specs.SampleText.{sample_text}
use Rattle.sample_suite.proofs.Drawn.{text_left}
use Rattle.sample_suite.proofs.text.sample_text.Given as goal

abbrev pub invariant-loop-number : goal.invariant-loop-number
invariant-loop-number l = sample_text l.seed l.count ≡ l.text.items ++ text_left l.count l.number l.draws.state
