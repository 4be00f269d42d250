-- What was read and written, as noted by the shelf over real files and the sink over a real stream.
use Rattle.std.specs.Prelude.{ℕ, List, [], ◌∷◌, ◌++◌, Option, Some, None, Bool, if◌then◌else◌}

-- a path at which a file was opened, and all that its reads handed over
abbrev pub OpenedFile : Type 0
OpenedFile = List ℕ × List ℕ

-- the files after a read of the newest one handed over more bytes
abbrev pub with_more : List ℕ → List OpenedFile → List OpenedFile
with_more bytes [] = []
with_more bytes (r ∷ readings) = (r.0, r.1 ++ bytes) ∷ readings

-- the files after a start of a path: one that succeeded adds a file
abbrev pub after_start : List ℕ → Bool → List OpenedFile → List OpenedFile
after_start path succeeded readings = if succeeded then (path, []) ∷ readings else readings

-- the files after a read: one that succeeded adds its bytes
abbrev pub after_read : Option (List ℕ) → List OpenedFile → List OpenedFile
after_read None readings = readings
after_read (Some bytes) readings = with_more bytes readings

-- the files after more were read, the first of them first
abbrev pub noted : List OpenedFile → List OpenedFile → List OpenedFile
noted [] before = before
noted (r ∷ readings) before = noted readings (r ∷ before)
