-- Which stanzas of an index can be installed together, judged on the stanzas alone: Debian Policy
-- 7.2 to 7.4. The home is the common architecture of the index.
use Rattle.std.specs.Prelude.{◌≡◌, ◌≢◌, ℕ, ◌<◌, true, false, List, [], length, slice_index_or}
use Rattle.std.specs.Str.{bytes_eq}
use Rattle.relation_fields.specs.{Meeting.{meets}, declared.packages.Home.{Home}}
use Rattle.relation_fields.specs.declared.packages.PackageFacts.{PackageFacts}
use Rattle.relation_fields.specs.declared.relations.Atom.{Atom}
use Rattle.row_book.specs.Sets.{NumSet, Is, Within}
use Rattle.listed.specs.Lists.{In}

-- no package: it has no name and no relations
abbrev pub no_stanza : PackageFacts
no_stanza = record {
  line = 0;
  name = [];
  version = [];
  is_arch_dependent = false;
  needs = [];
  against = [];
  provides = [];
}

-- the stanza with that number, counted from 0
abbrev pub stanza_at : List PackageFacts → ℕ → PackageFacts
stanza_at stanzas n = slice_index_or stanzas n no_stanza

-- some alternative of the element is met by a member
pub record Met (home : Home) (stanzas : List PackageFacts) (I : NumSet)
    (element : List Atom) : Type 0 where
  pub alternative : Atom
  pub inside : In alternative element
  pub by : ℕ
  pub member : Is I by
  pub meeting : meets alternative (stanza_at stanzas by) home ≡ true

-- A healthy set of stanzas. Each element of each member's dependencies has an alternative that some
-- member meets, the member itself included. No member meets a `Conflicts` or `Breaks` atom of
-- another member. No two members have the same name, since dpkg keeps one package of a name.
pub record HealthyStanzas (home : Home) (stanzas : List PackageFacts) (I : NumSet) : Type 0 where
  pub numbers : (n : ℕ) → Is I n → n < length stanzas
  pub needs : (n : ℕ) → Is I n → (element : List Atom) → In element (stanza_at stanzas n).needs →
      Met home stanzas I element
  pub conflicts : (m n : ℕ) → Is I m → Is I n → m ≢ n →
      (atom : Atom) → In atom (stanza_at stanzas m).against →
      meets atom (stanza_at stanzas n) home ≡ false
  pub names : (m n : ℕ) → Is I m → Is I n → m ≢ n →
      bytes_eq (stanza_at stanzas m).name (stanza_at stanzas n).name ≡ false

-- a set of stanzas is co-installable if some healthy set contains it
pub record CoinstStanzas (home : Home) (stanzas : List PackageFacts) (S : NumSet) : Type 0 where
  pub whole : NumSet
  pub healthy : HealthyStanzas home stanzas whole
  pub contains : Within S whole
