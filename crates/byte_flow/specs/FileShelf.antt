-- for the bodies of this crate alone
-- What a shelf over real files says of the unread bytes of its open file.
use Rattle.std.specs.Prelude.{ℕ, List, [], Option, Some, None}

-- what an open file says of its unread rest; no bytes if no file is open
abbrev pub rest_of_open : {File : Type 0} → (File → Option (List ℕ)) → Option File → Option (List ℕ)
rest_of_open remaining None = Some []
rest_of_open remaining (Some file) = remaining file
