-- A feed, by what it holds.
use Rattle.std.specs.Prelude.{ℕ, Bool, List}
use Rattle.repo_model.specs.{Feeding.{is_spent, StandsFor}, declared.feed.SuiteFeed.{SuiteFeed}}

-- how many bytes the feed has taken
abbrev pub taken_of : SuiteFeed → ℕ
taken_of feed = feed.taken

-- the text is what the feed has taken
abbrev pub FeedStandsFor : SuiteFeed → List ℕ → Type 0
FeedStandsFor feed text = StandsFor feed.reading text

-- whether a piece was refused, since memory ran out
abbrev pub was_refused : SuiteFeed → Bool
was_refused feed = is_spent feed.reading
