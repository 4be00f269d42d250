use Rattle.kernel_text.proofs.Cuts.{end_found, end_missed}
use Rattle.kernel_text.proofs.line_end.line_end.Goals as goal

pub returns-in-Some-clause-cut : goal.returns-in-Some-clause-cut
returns-in-Some-clause-cut c = end_found c.args.bytes.now c.args.from c.in-Some.length c.in-Some.ensures

pub returns-in-None-clause-cut : goal.returns-in-None-clause-cut
returns-in-None-clause-cut c = end_missed c.args.bytes.now c.args.from c.requires.inside c.in-None.ensures
