use Rattle.relation_fields.specs.{Grammar.{alternatives_of}, Spelling.{SpellsAlternatives}}
use Rattle.relation_fields.proofs.{Readings.{alternatives_read}, Faults.{spelled_from, refused_from}}
use Rattle.relation_fields.proofs.fields.parse_needs.Goals as goal

pub returns-clause-spelled : goal.returns-clause-spelled
returns-clause-spelled c = spelled_from alternatives_of SpellsAlternatives alternatives_read c.args.value.now c.read_elements.result c.read_elements.ensures.said c.read_elements.ensures.accepted

pub returns-clause-fault : goal.returns-clause-fault
returns-clause-fault c = refused_from alternatives_of SpellsAlternatives alternatives_read c.args.value.now c.read_elements.result c.read_elements.ensures.shape
