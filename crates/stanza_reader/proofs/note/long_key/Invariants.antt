use Rattle.std.proofs.Common.{◌≡◌, drop}
use Rattle.stanza_reader.specs.{Fields.{lowered}, Note.{key_from, long_key}}
use Rattle.stanza_reader.proofs.note.long_key.Given as goal

abbrev pub invariant-loop-byte : goal.invariant-loop-byte
invariant-loop-byte l = key_from l.key (lowered (drop l.byte-index l.name)) ≡ long_key (lowered l.name)
