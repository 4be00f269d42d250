use Rattle.std.proofs.Common.{◌≡◌, drop}
use Rattle.stanza_reader.specs.{Note.{names_in}, Stanzas.{has_name}}
use Rattle.stanza_reader.proofs.note.has_name.Given as goal

abbrev pub invariant-loop-one : goal.invariant-loop-one
invariant-loop-one l = has_name (names_in (drop l.one-index l.few)) l.name ≡ has_name (names_in l.few) l.name
