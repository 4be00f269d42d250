use Rattle.std.proofs.Common.{sym}
use Rattle.virtual_provides.proofs.Meeting.{asked_for}
use Rattle.virtual_provides.proofs.names.NameTable.candidates.Goals as goal

pub returns-in-Some : goal.returns-in-Some
returns-in-Some c =
    asked_for _ c.candidates.result c.args.self.now.register c.args.atom.now c.as_slice-name.result.now c.in-Some.version.now c.as_slice-name.ensures (sym c.in-Some.ensures) c.candidates.ensures
