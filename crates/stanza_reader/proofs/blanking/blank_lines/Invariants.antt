use Rattle.std.proofs.Common.{length}
use Rattle.stanza_reader.proofs.LeftLemmas.{IsLeft}
use Rattle.stanza_reader.proofs.blanking.blank_lines.Given as goal

abbrev pub invariant-loop-flags : goal.invariant-loop-flags
invariant-loop-flags l = IsLeft l.keep l.bytes l.made.items l.flags l.rest

abbrev pub decreases-loop-flags : goal.decreases-loop-flags
decreases-loop-flags l = length l.rest
