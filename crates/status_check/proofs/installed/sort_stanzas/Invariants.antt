use Rattle.std.proofs.Common.{◌≡◌, map, take}
use Rattle.std.specs.Prelude.{count_by}
use Rattle.status_check.specs.Installed.{is_foreign, is_own}
use Rattle.status_check.proofs.installed.sort_stanzas.Given as goal

abbrev pub invariant-loop-stanza : goal.invariant-loop-stanza
invariant-loop-stanza l = record {
  own : l.own.items ≡ map (is_own l.home) (take l.stanza-index l.stanzas);
  foreign : l.foreign ≡ count_by (is_foreign l.home) (take l.stanza-index l.stanzas);
}
