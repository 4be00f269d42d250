use Rattle.std.proofs.Common.{◌≡◌, ◌++◌, take}
use Rattle.std.specs.List.{flat_map}
use Rattle.repo_model.specs.Stanzas.{stanza_at}
use Rattle.coinst_run.specs.QueryText.{install_line}
use Rattle.coinst_run.proofs.query_text.push_installs.Given as goal

abbrev pub invariant-loop-number : goal.invariant-loop-number
invariant-loop-number l = l.out.items ≡ l.fn.out.items ++ flat_map (λ n. install_line (stanza_at l.packages n)) (take l.number-index l.numbers)
