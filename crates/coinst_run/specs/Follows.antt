-- What the work of a command does to a shelf.
use Rattle.std.specs.Prelude.{◌≡◌, ◌<◌, ◌≤◌, false, ◌⊎◌, ℕ, Bool, List, length, Option, Some, None}
use Rattle.byte_flow.specs.{Flow.{FileIs, FileIsLonger, LacksFile, Rose}, Models.{ShelfModel}}
use Rattle.byte_flow.specs.Transfer.{BreaksOff, HandsOver, PassesLimit, StopsWithin}
use Rattle.coinst_words.specs.declared.job.Job.{Job}
use Rattle.coinst_run.specs.{Answer.{Answer}, Course.{Course, answers, reads}}
use Rattle.coinst_run.specs.{Index.{Index, reads_index}, IndexKernel.{ClassedKernel, index_kernel}}
use Rattle.coinst_run.specs.{Kernel.{reads_kernel}, Meaning.{course_of}}
use Rattle.coinst_run.specs.Outcome.{Outcome, answered, unread, not_a_command, file_limit, too_long}

-- The file at the path was read whole, by the calls of one reading and no others, and this is the
-- text that they handed over.
pub record WasRead {S : Type 0} (M : ShelfModel S) (old : S) (path text : List ℕ)
    (new : S) : Type 0 where
  pub calls : HandsOver M old path file_limit text new
  pub told : FileIs (M.contents old) path text
  pub bytes : M.moved new ≡ length text
  pub same : M.contents new ≡ M.contents old
  pub later : M.faults old ≤ M.faults new
  pub stays_quiet : M.is_quiet old → M.is_quiet new

-- A call of its reading failed, the last.
pub record WasUnread {S : Type 0} (M : ShelfModel S) (old : S) (path : List ℕ)
    (new : S) : Type 0 where
  pub calls : M.start_gives old path false new ⊎ BreaksOff M old path file_limit new
  pub rose : Rose (M.faults old) (M.faults new)
  pub lacks : M.is_quiet old → LacksFile (M.contents old) path

-- Its reading gave more bytes than a file may have, and was given up.
pub record WasTooLong {S : Type 0} (M : ShelfModel S) (old : S) (path : List ℕ)
    (new : S) : Type 0 where
  pub calls : PassesLimit M old path file_limit new
  pub told : FileIsLonger (M.contents old) path file_limit
  pub past : file_limit < M.moved new

-- Its reading was given up, however far it was.
abbrev pub WasGivenUp : {S : Type 0} → ShelfModel S → S → List ℕ → S → Type 0
WasGivenUp M old path new =
    (M.start_gives old path false new ⊎ BreaksOff M old path file_limit new)
    ⊎ (PassesLimit M old path file_limit new ⊎ StopsWithin M old path file_limit new)

-- A shelf and how the course of a command ended on it; no ending if no memory was found. Each file
-- was read whole before the course went on by its text, and no other call was made.
pub data Follows {S : Type 0} (M : ShelfModel S) : Course → S → Option Outcome → S → Type 0 where
  at_its_end : (answer : Answer) (s : S) → Follows M (answers answer) s (Some (answered answer)) s
  behind_a_text : (path text : List ℕ) (next : List ℕ → Course) (s t u : S)
      (ending : Option Outcome) → WasRead M s path text t →
      Follows M (next text) t ending u → Follows M (reads path next) s ending u
  at_an_unread_file : (path : List ℕ) (next : List ℕ → Course) (s t : S) → WasUnread M s path t →
      Follows M (reads path next) s (Some (unread path)) t
  at_a_long_file : (path : List ℕ) (next : List ℕ → Course) (s t : S) → WasTooLong M s path t →
      Follows M (reads path next) s (Some (answered (too_long path))) t
  without_memory : (course : Course) (s : S) → Follows M course s None s
  without_memory_for_a_file : (path : List ℕ) (next : List ℕ → Course) (s t : S) →
      WasGivenUp M s path t →
      Follows M (reads path next) s None t

-- what the work for words does to a shelf: if they give no job nothing is done, though want of
-- memory may come before that is found
pub data FollowsJob {S : Type 0} (M : ShelfModel S) : Option Job → S →
    Option Outcome → S → Type 0 where
  of_no_job : (s : S) → FollowsJob M None s (Some not_a_command) s
  without_memory_for_words : (s : S) → FollowsJob M None s None s
  of_a_job : (job : Job) (s t : S) (ending : Option Outcome) →
      Follows M (course_of job) s ending t →
      FollowsJob M (Some job) s ending t

-- The course leads to the rest of it, and from one shelf to another: however the rest ends, the
-- course ends so.
abbrev pub LeadsToRest : {S : Type 0} → ShelfModel S → Course → S → Course → S → Type 0
LeadsToRest {S} M course old rest mid =
    (ending : Option Outcome) (new : S) → Follows M rest mid ending new →
    Follows M course old ending new

-- The index at the path was read, and the course goes on by it.
abbrev pub ReachesIndex : {S : Type 0} → ShelfModel S → S → List ℕ → Index → S → Type 0
ReachesIndex {S} M old path index mid =
    (next : Index → Course) → LeadsToRest M (reads_index path next) old (next index) mid

-- The index at the path was read and its kernel made, and the course goes on by both.
abbrev pub ReachesKernel : {S : Type 0} → ShelfModel S → S → List ℕ → ℕ → Bool → Index → S → Type 0
ReachesKernel {S} M old path limit hold index mid =
    (next : Index → ClassedKernel → Course) →
    LeadsToRest M (reads_kernel path limit hold next) old
    (next index (index_kernel limit hold index.home index.packages)) mid
