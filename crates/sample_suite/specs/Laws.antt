-- A law of samples.
use Rattle.std.specs.Prelude.{◌≡◌, ℕ, None}
use Rattle.repo_model.specs.FirstFault.{first_fault}
use Rattle.sample_suite.specs.{Drawing.{IsCount}, SampleText.{sample_text}}

-- the index of a sample suite has no fault
abbrev pub SamplesAreAccepted : Type 0
SamplesAreAccepted = (seed count : ℕ) → IsCount count → first_fault (sample_text seed count) ≡ None
