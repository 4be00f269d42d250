-- for the bodies of this crate alone
-- An index that was read into a feed.
use Rattle.std.specs.Prelude.{◌≡◌, ℕ, List, length}
use Rattle.byte_flow.specs.Models.{ShelfModel}
use Rattle.repo_model.specs.{Feed.{taken_of, FeedStandsFor}, declared.feed.SuiteFeed.{SuiteFeed}}
use Rattle.coinst_run.specs.Follows.{WasRead}

-- The file at the path was read whole. The feed stands for its text, and has taken as many bytes as
-- that has.
pub record WasFed {S : Type 0} (M : ShelfModel S) (old : S) (path : List ℕ) (feed : SuiteFeed)
    (new : S) : Type 0 where
  pub text : List ℕ
  pub whole : WasRead M old path text new
  pub stands : FeedStandsFor feed text
  pub taken : taken_of feed ≡ length text
