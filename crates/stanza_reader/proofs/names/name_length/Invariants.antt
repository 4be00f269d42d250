use Rattle.std.proofs.Common.{◌≡◌, true, take}
use Rattle.std.specs.List.{list_all}
use Rattle.stanza_reader.specs.Fields.{is_field_name_byte}
use Rattle.stanza_reader.proofs.names.name_length.Given as goal

abbrev pub invariant-loop-place : goal.invariant-loop-place
invariant-loop-place l = list_all is_field_name_byte (take l.place l.line) ≡ true
