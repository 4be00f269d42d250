use Rattle.std.proofs.{Common.{arith}, lemmas.Grind.{common_steps}}
use Rattle.relation_fields.proofs.Pieces.{pieces-found, pieces-none}
use Rattle.relation_fields.proofs.texts.cut.Goals as goal

pub returns-in-Some : goal.returns-in-Some
returns-in-Some c = grind (arith, common_steps, pieces-found c.args.byte c.args.text.now c.in-Some.place)

pub returns-in-None : goal.returns-in-None
returns-in-None c = search (arith, pieces-none c.args.byte c.args.text.now)
