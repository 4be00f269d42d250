use Rattle.std.proofs.lemmas.Bool.{both_ways}
use Rattle.kernel_text.proofs.{LineWords.{no_head, other_format}, Spelling.{format_low}}
use Rattle.kernel_text.proofs.read_line.read_head.Goals as goal

-- there is no number, or it is that of no format
pub returns-in_default : goal.returns-in_default
returns-in_default c word e = no_head word c.args.rest.now e (λ f same known. c.in_default.ensures f same (format_low f known))

pub returns-else-is_format : goal.returns-else-is_format
returns-else-is_format c word e =
    other_format word c.args.rest.now c.in-Some.format e c.in-Some.ensures (λ known. both_ways c.is_format.result c.if-is_format.false (c.is_format.ensures.1 known))
