use Rattle.repo_model.proofs.Lines.{lines_ignored}
use Rattle.repo_model.proofs.laws.lines_are_ignored.Goals as goal

pub returns : goal.returns
returns c = λ home stanzas others same. lines_ignored home stanzas others same
