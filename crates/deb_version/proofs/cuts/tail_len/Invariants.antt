use Rattle.std.proofs.Common.{◌≡◌, ◌+◌, ◌≤◌, length, take}
use Rattle.std.specs.{Prelude.{not}, List.{suffix_len}}
use Rattle.deb_version.specs.Grammar.{is_hyphen}
use Rattle.deb_version.proofs.cuts.tail_len.Given as goal

abbrev pub invariant-loop-start : goal.invariant-loop-start
invariant-loop-start l = record {
  within : l.start ≤ length l.text;
  passed : l.start + suffix_len (λ c. not (is_hyphen c)) l.text ≡ length l.text + suffix_len (λ c. not (is_hyphen c)) (take l.start l.text);
}

abbrev pub decreases-loop-start : goal.decreases-loop-start
decreases-loop-start l = l.start
