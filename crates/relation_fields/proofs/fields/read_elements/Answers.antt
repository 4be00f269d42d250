use Rattle.std.proofs.{Common.{arith}, lemmas.Grind.{common_steps}}
use Rattle.relation_fields.proofs.Pieces.{length-pieces}
use Rattle.relation_fields.proofs.fields.read_elements.Goals as goal

pub overflow_add-element : goal.overflow_add-element
overflow_add-element g c = grind (arith, common_steps, length-pieces 44 c.args.value.now)
