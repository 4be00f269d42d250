use Rattle.relation_fields.proofs.Readings.{alternatives_read, atoms_read, provides_read}
use Rattle.relation_fields.proofs.grammar.readings_are_spellings.Goals as goal

pub returns : goal.returns
returns c = record { atoms = atoms_read; alternatives = alternatives_read; provides = provides_read }
