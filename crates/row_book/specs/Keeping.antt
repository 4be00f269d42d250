-- What a reduction keeps: whether sets of packages can be installed together.
use Rattle.std.specs.Prelude.{◌↔◌}
use Rattle.row_book.specs.{Sets.{NumSet}, Repository.{Repository, Coinst, Healthy}}
use Rattle.row_book.specs.Sound.{OfPackages}

-- every set is healthy in both or in neither
abbrev pub KeepsHealthySets : Repository → Repository → Type 0
KeepsHealthySets R F = (I : NumSet) → (Healthy R I ↔ Healthy F I)

-- every set is co-installable in both or in neither
abbrev pub KeepsSets : Repository → Repository → Type 0
KeepsSets R F = (S : NumSet) → (Coinst R S ↔ Coinst F S)

-- a set of packages is co-installable exactly if its image is
abbrev pub KeepsImages : Repository → Repository → (NumSet → NumSet) → Type 0
KeepsImages R F image = (S : NumSet) → OfPackages R S → (Coinst R S ↔ Coinst F (image S))
