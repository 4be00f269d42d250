-- for the bodies of this crate alone
-- One stanza after another, up to 200,000 of them.
use Rattle.std.specs.Prelude.{◌≡◌, ◌<◌, ℕ, nat_le, if◌then◌else◌, List, [], ◌∷◌, Option, Some, None}
use Rattle.std.specs.Prelude.{Result, Ok, Err}
use Rattle.stanza_reader.specs.{Reading.{readings_at, IsBehind}, declared.place.Place.{Place}}
use Rattle.stanza_reader.specs.declared.reading.Next.{Next}
use Rattle.stanza_reader.specs.declared.reading.Next.TheVariants.{End, Stanza as Found}
use Rattle.stanza_reader.specs.declared.stanza.RawStanza.{RawStanza}
use Rattle.stanza_reader.specs.declared.fault.StanzaFault.{StanzaFault}
use Rattle.repo_model.specs.declared.fault.IndexFault.{IndexFault}
use Rattle.repo_model.specs.declared.fault.IndexFault.TheVariants.{Stanza, TooMany}
use Rattle.repo_model.specs.Limits.{most_packages}

abbrev pub lines_fault : Result RawStanza StanzaFault → Option IndexFault
lines_fault (Ok stanza) = None
lines_fault (Err fault) = Some (Stanza fault)

-- a stanza after a number of others is one too many, or else its lines have a fault
abbrev pub shape_fault : ℕ → Result RawStanza StanzaFault → Option IndexFault
shape_fault before reading =
    if nat_le most_packages before then Some TooMany else lines_fault reading

-- a stanza is next, and what is read after it follows
pub record GoesOn (bytes : List ℕ) (at : Place) (before : ℕ) (stanza : RawStanza)
    (after : Place) : Type 0 where
  pub room : before < most_packages
  pub next : readings_at bytes at ≡ Ok stanza ∷ readings_at bytes after
  pub behind : IsBehind bytes at after

-- nothing is left, or a stanza is next
abbrev pub Goes : List ℕ → Place → ℕ → Next → Type 0
Goes bytes at before End = readings_at bytes at ≡ []
Goes bytes at before (Found stanza after) = GoesOn bytes at before stanza after
