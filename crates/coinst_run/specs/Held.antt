-- for the bodies of this crate alone
-- What is kept of the text of an index after it was read.
use Rattle.std.specs.Prelude.{◌≡◌, ℕ, List, length}
use Rattle.byte_flow.specs.Models.{ShelfModel}
use Rattle.repo_model.specs.Feeding.{IsSuiteOf}
use Rattle.coinst_run.specs.{Follows.{WasRead}, declared.stages.MeasuredIndex.{MeasuredIndex}}

-- an index without a fault, with its packages and the length of its text
pub record IsHeldOf (text : List ℕ) (index : MeasuredIndex) : Type 0 where
  pub suite_is : IsSuiteOf text index.suite.packages index.suite.home.name
  pub length_is : index.length ≡ length text

-- the file at a path was read, and this is what is held of it
pub record WasMeasured {S : Type 0} (M : ShelfModel S) (old : S) (path : List ℕ)
    (index : MeasuredIndex) (new : S) : Type 0 where
  pub text : List ℕ
  pub whole : WasRead M old path text new
  pub held : IsHeldOf text index
