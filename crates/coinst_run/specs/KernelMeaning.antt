-- What the text that `kernel` prints means for its index.
use Rattle.std.specs.Prelude.{◌≡◌, ℕ, ◌<◌, Bool, ◌↔◌, List, length, None}
use Rattle.claims.specs.Classes.{classes_of, IsItsClass}
use Rattle.suite_compare.specs.Refusals.{home_in, packages_in}
use Rattle.coinst_run.specs.IndexKernel.{index_kernel, members_for}
use Rattle.kernel_text.specs.{KernelReads.{HasOneReading, KernelReads}, KernelText.{format_of}}
use Rattle.kernel_text.specs.declared.member.Member.{Member}
use Rattle.repo_model.specs.{FirstFault.{first_fault}, Repository.{suite_repository}}
use Rattle.repo_model.specs.Stanzas.{stanza_at, CoinstStanzas}
use Rattle.row_book.specs.{Repository.{Repository, Coinst}, Rounds.{kernel, kernel_held}}
use Rattle.row_book.specs.Sets.{NumSet, Is}

-- The text is an index without a fault. The printed bytes read, by the grammar of the formats, for
-- exactly one format, repository, list of members and list of held classes. These are the kernel of
-- the index at this clause limit, in format 2 with hold and in format 1 without. Each stanza is in
-- one class. A set of stanzas is co-installable, judged on the stanzas alone, exactly if its
-- classes are co-installable in the repository that the bytes read as.
pub record KernelMeans (text : List ℕ) (limit : ℕ) (hold : Bool) (printed : List ℕ) : Type 0 where
  pub accepted : first_fault text ≡ None
  pub repository : Repository
  pub members : List Member
  pub held : List ℕ
  pub reads : KernelReads printed (format_of hold) repository members held
  pub once : HasOneReading printed
  pub kernel : repository ≡ kernel limit hold (suite_repository (home_in text) (packages_in text))
  pub people : members
      ≡ members_for (packages_in text) (index_kernel limit hold (home_in text) (packages_in text))
  pub stay : held ≡ kernel_held limit hold (suite_repository (home_in text) (packages_in text))
  pub stands : (i : ℕ) → i < length (packages_in text) →
      (k : ℕ) × IsItsClass (length repository.clauses) members (stanza_at (packages_in text) i) k
  pub keeps : (S : NumSet) → ((n : ℕ) → Is S n → n < length (packages_in text)) →
      (CoinstStanzas (home_in text) (packages_in text) S
      ↔ Coinst repository (classes_of (packages_in text) members S))
