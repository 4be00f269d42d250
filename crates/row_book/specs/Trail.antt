-- What a step of a trail means, with the pool that its books are of.
use Rattle.std.specs.Prelude.{List, map}
use Rattle.clause_pool.specs.Interned.{Interned}
use Rattle.listed.specs.Lists.{In}
use Rattle.row_book.specs.Book.{repository_of, Sound}
use Rattle.row_book.specs.Rounds.{RoundStep, FlatStep, IdleStep, MergeStep}
use Rattle.row_book.specs.declared.trail.Step.{Step}
use Rattle.row_book.specs.declared.trail.Step.TheVariants.{Flat, Idle, Merge}

abbrev pub step_meaning : Interned → Step → RoundStep
step_meaning pool (Flat before) = FlatStep (repository_of pool before)
step_meaning pool (Idle «package» clause added) =
    IdleStep (record { «package» = «package»; clause = clause; added = added })
step_meaning pool (Merge class_of) = MergeStep class_of

abbrev pub trail_meaning : Interned → List Step → List RoundStep
trail_meaning pool steps = map (step_meaning pool) steps

-- the books of a step are sound
abbrev pub SoundStep : Interned → Step → Type 0
SoundStep pool (Flat before) = Sound pool before
SoundStep pool (Idle «package» clause added) = Unit {0}
SoundStep pool (Merge class_of) = Unit {0}

abbrev pub SoundSteps : Interned → List Step → Type 0
SoundSteps pool steps = (step : Step) → In step steps → SoundStep pool step
