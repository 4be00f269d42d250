use Rattle.std.proofs.Common.{[], sym}
use Rattle.repo_model.proofs.Standing.{front_of_nothing}
use Rattle.repo_model.proofs.progress.Progress.new.Goals as goal

pub returns-clause-stands : goal.returns-clause-stands
returns-clause-stands c = record { front = []; whole = sym c.new-2.ensures.items; read = front_of_nothing c.new.result c.new.ensures.packages c.new.ensures.home }
