-- How much an index may have.
use Rattle.std.specs.Prelude.{ℕ}

-- the most packages of an index
abbrev pub most_packages : ℕ
most_packages = 200000

-- the most bytes of a text that is read: 1 GiB
abbrev pub most_bytes : ℕ
most_bytes = 1073741824
