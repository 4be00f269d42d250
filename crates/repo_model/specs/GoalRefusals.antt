-- When a word is no goal.
use Rattle.std.specs.Prelude.{⊤}
use Rattle.deb_version.specs.declared.versions.VersionError.{VersionError}
use Rattle.deb_version.specs.declared.versions.VersionError.TheVariants.{Shape as BadVersion}
use Rattle.deb_version.specs.declared.versions.VersionError.TheVariants.{Memory as NoMemory}
use Rattle.repo_model.specs.declared.goals.GoalError.{GoalError}
use Rattle.repo_model.specs.declared.goals.GoalError.TheVariants.{Shape, Memory}

-- the fact, if a word was refused for its shape
abbrev pub OnShape : Type 0 → GoalError → Type 0
OnShape P Shape = P
OnShape P Memory = ⊤

-- what is wrong with a goal whose version was refused
abbrev pub of_version : VersionError → GoalError
of_version BadVersion = Shape
of_version NoMemory = Memory
