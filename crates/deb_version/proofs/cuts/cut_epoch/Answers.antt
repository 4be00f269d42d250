use Rattle.std.proofs.Common.{◌∙◌, ◌+◌, sym}
use Rattle.listed.proofs.Lists.{to_end}
use Rattle.deb_version.proofs.Cutting.{epoch_found, rest_found, epoch_missing, rest_whole}
use Rattle.deb_version.proofs.cuts.cut_epoch.Goals as goal

pub returns-in-Some-clause-epoch : goal.returns-in-Some-clause-epoch
returns-in-Some-clause-epoch c = epoch_found c.args.text.now c.in-Some.place c.in-Some.ensures

pub returns-in-Some-clause-rest : goal.returns-in-Some-clause-rest
returns-in-Some-clause-rest c = to_end (c.in-Some.place + 1) c.args.text.now ∙ rest_found c.args.text.now c.in-Some.place c.in-Some.ensures

pub returns-in-None-clause-epoch : goal.returns-in-None-clause-epoch
returns-in-None-clause-epoch c = epoch_missing c.args.text.now (sym c.in-None.ensures)

pub returns-in-None-clause-rest : goal.returns-in-None-clause-rest
returns-in-None-clause-rest c = rest_whole c.args.text.now (sym c.in-None.ensures)
