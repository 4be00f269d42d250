-- What is known of the rounds after the first, and what follows from it.
use Rattle.std.specs.Prelude.{◌≡◌, ℕ, Bool, true, false, List, length, map, None}
use Rattle.class_merge.specs.{Classes.{class_in}, Masks.{masked_repository}}
use Rattle.class_merge.specs.declared.masked.MaskedRows.{MaskedRows}
use Rattle.row_book.specs.{Book.{repository_of, Sound}, Flags.{flag}}
use Rattle.row_book.specs.{Flattening.{flat, packages, passes}, Parts.{part, place_in}}
use Rattle.row_book.specs.{Repository.{Repository}, Rounds.{kernel, kernel_class, limit_at}}
use Rattle.row_book.specs.Sound.{SoundRepository}
use Rattle.kernel_rounds.specs.declared.known.{Classified.{Classified}, KnownRounds.{KnownRounds}}

-- the repository that a first round has left
abbrev pub known_first : KnownRounds → Repository
known_first known = repository_of known.pool known.first

-- a repository, its kernel without hold, and the class of each of its packages in that; no round
-- passes the limit
pub record AreKnownRounds (known : KnownRounds) : Type 0 where
  pub first : Sound known.pool known.first
  pub sound : Sound known.pool known.kernel
  pub is : repository_of known.pool known.kernel ≡ kernel known.limit false (known_first known)
  pub class_of : known.class_of
      ≡ map (kernel_class known.limit false (known_first known)) (packages (known_first known))
  pub within : limit_at known.limit false (known_first known) ≡ None

-- what is known is of this repository, at this limit
pub record AreRoundsOf (known : KnownRounds) (limit : ℕ) (R : Repository) : Type 0 where
  pub limit_is : known.limit ≡ limit
  pub is : known_first known ≡ R

-- the packages of a mask have the rows of a repository that is flattened without hold and passes no
-- limit
pub record IsFlatPart (limit : ℕ) (P : Repository) (masked : MaskedRows) : Type 0 where
  pub sound : SoundRepository P
  pub within : passes limit false P ≡ None
  pub is : part masked.flags.now (masked_repository masked) ≡ flat limit false P

-- the kernel without hold, and the class in it of each package of a mask; no round passes the limit
pub record IsClassifiedPart (limit : ℕ) (P : Repository) (flags : List Bool)
    (made : Classified) : Type 0 where
  pub is : repository_of made.rounds.pool made.rounds.kernel ≡ kernel limit false P
  pub size : length made.class_of ≡ length flags
  pub class_of : (p : ℕ) → flag flags p ≡ true →
      class_in made.class_of p ≡ kernel_class limit false P (place_in flags p)
  pub within : limit_at limit false P ≡ None
