-- What follows from the course of a command on a shelf, by the way it went.
use Rattle.std.proofs.Common.{◌≡◌, ℕ, ◌<◌, ◌≤◌, Bool, List, length, cond, Option, Some, None, Result, Ok, Err, inl, inr, refl, sym, ap, subst, ◌∙◌, arith}
use Rattle.std.proofs.Common.{lt-ltb, le-ltb}
use Rattle.std.specs.Prelude.{IfOk, IfSome, IsNone, IsSomeAnd, OnOk}
use Rattle.byte_flow.specs.{Flow.{FileIs, FileIsLonger, Files, LacksFile, Rose}, Models.{ShelfModel}, Transfer.{GivesUp, OnFailed, OnTooLong}}
use Rattle.byte_flow.specs.{declared.transfer.ReadError.{ReadError}, declared.transfer.ReadError.TheVariants.{Failed, TooLong, Memory}}
use Rattle.coinst_run.specs.{Answer.{Answer, CourseStage}, Course.{Course, answers, reads, then_on}, Ending.{IsReadEnding, Settles, StopsAt}}
use Rattle.coinst_run.specs.Follows.{Follows, LeadsToRest, ReachesIndex, ReachesKernel, WasRead, WasTooLong, WasUnread, at_its_end, behind_a_text}
use Rattle.coinst_run.specs.{Follows.{at_an_unread_file, at_a_long_file, without_memory, without_memory_for_a_file}, Index.{Index, checked_index, reads_index}}
use Rattle.coinst_run.specs.{IndexKernel.{ClassedKernel, index_kernel}, Kernel.{kernel_of, reads_kernel}}
use Rattle.coinst_run.specs.Outcome.{Outcome, answered, unread, not_a_command, file_limit, outcome_over, over_file, too_long}
use Rattle.coinst_run.proofs.Ends.{EndsAs}
use Rattle.coinst_run.proofs.Ends as ends

-- a text that was read is the file's, and no longer than the limit
pub over_text : (files : Files) (path text : List ℕ) (next : List ℕ → Outcome) → files path ≡ Some text → length text ≤ file_limit → over_file path (files path) next ≡ next text
over_text files path text next is within =
    ap (λ file. over_file path file next) is ∙ ap (λ b. cond b (answered (too_long path)) (next text)) (le-ltb file_limit (length text) within)

over_long : (path : List ℕ) (file : Option (List ℕ)) (next : List ℕ → Outcome) → IsSomeAnd file (λ bytes. file_limit < length bytes) → over_file path file next ≡ answered (too_long path)
over_long path None next h = absurd h
over_long path (Some text) next h = ap (λ b. cond b (answered (too_long path)) (next text)) (lt-ltb file_limit (length text) h)

over_none : (path : List ℕ) (file : Option (List ℕ)) (next : List ℕ → Outcome) → IsNone file → over_file path file next ≡ unread path
over_none path None next h = refl
over_none path (Some text) next h = absurd cc

lacking : (contents : Option Files) (files : Files) (path : List ℕ) → contents ≡ Some files → LacksFile contents path → IsNone (files path)
lacking None files path is h = absurd h
lacking (Some told) files path is h = let same : told ≡ files = cc in subst (λ (f : Files). IsNone (f path)) same h

told_text : (contents : Option Files) (files : Files) (path text : List ℕ) → contents ≡ Some files → FileIs contents path text → files path ≡ Some text
told_text None files path text is h = absurd cc
told_text (Some told) files path text is h = let same : told ≡ files = cc in subst (λ (f : Files). f path ≡ Some text) same h

told_longer : (contents : Option Files) (files : Files) (path : List ℕ) → contents ≡ Some files → FileIsLonger contents path file_limit → IsSomeAnd (files path) (λ bytes. file_limit < length bytes)
told_longer None files path is h = absurd cc
told_longer (Some told) files path is h = let same : told ≡ files = cc in subst (λ (f : Files). IsSomeAnd (f path) (λ bytes. file_limit < length bytes)) same h

-- a part that ends a command, with what would go on
pub stopped : {A : Type 0} (stage : CourseStage A) (next : A → Course) (ending : Option Outcome) → StopsAt stage ending → Settles (then_on stage next) ending
stopped stage next None h = tt
stopped stage next (Some (answered answer)) h = ap (λ x. then_on x next) h
stopped stage next (Some (unread path)) h = absurd h
stopped stage next (Some not_a_command) h = absurd h

-- a part, or a course, that is refused, or no memory to say so
pub stops_at : {A : Type 0} (stage : CourseStage A) (answer : Answer) (ending : Option Outcome) → stage ≡ Err answer → IfSome ending (λ o. o ≡ answered answer) → StopsAt stage ending
stops_at stage answer None is h = tt
stops_at stage answer (Some o) is h = subst (λ x. StopsAt stage (Some x)) (sym h) is

pub settles_at : (course : Course) (answer : Answer) (ending : Option Outcome) → course ≡ answers answer → IfSome ending (λ o. o ≡ answered answer) → Settles course ending
settles_at course answer None is h = tt
settles_at course answer (Some o) is h = subst (λ x. Settles course (Some x)) (sym h) is

-- a part that gave a value, and how what is done with it ends
pub settled_on : {A : Type 0} (stage : CourseStage A) (x : A) (next : A → Course) (ending : Option Outcome) → stage ≡ Ok x → Settles (next x) ending → Settles (then_on stage next) ending
settled_on stage x next ending e h = subst (λ z. Settles (then_on z next) ending) (sym e) h

module _ {S : Type 0} {M : ShelfModel S} where
  -- where the files are told the course ends as over them
  pub ends_as : (files : Files) {course : Course} {s u : S} {ending : Option Outcome} → Follows M course s ending u → M.contents s ≡ Some files →
      EndsAs (M.is_quiet s) (outcome_over files course) ending
  ends_as files (at_its_end answer s) is = ends.as_told
  ends_as files (behind_a_text path text next s t u ending w f) is =
      quieter ending w.stays_quiet
      (subst (λ o. EndsAs (M.is_quiet t) o ending)
      (sym (over_text files path text (λ x. outcome_over files (next x)) (told_text (M.contents s) files path text is w.told) w.calls.within))
      (ends_as files f (w.same ∙ is)))
    where
      quieter : {P Q : Type 0} {o : Outcome} (ending : Option Outcome) → (P → Q) → EndsAs Q o ending → EndsAs P o ending
      quieter ending f ends.as_told = ends.as_told
      quieter ending f (ends.at_an_unread_file path h) = ends.at_an_unread_file path (λ p. h (f p))
      quieter ending f ends.without_memory = ends.without_memory
  ends_as files (at_an_unread_file path next s t w) is =
      ends.at_an_unread_file path (λ q. over_none path (files path) (λ x. outcome_over files (next x)) (lacking (M.contents s) files path is (w.lacks q)))
  ends_as files (at_a_long_file path next s t w) is =
      subst (λ o. EndsAs (M.is_quiet s) o (Some (answered (too_long path))))
      (sym (over_long path (files path) (λ x. outcome_over files (next x)) (told_longer (M.contents s) files path is w.told))) ends.as_told
  ends_as files (without_memory course s) is = ends.without_memory
  ends_as files (without_memory_for_a_file path next s t w) is = ends.without_memory

  -- a file is unread only where the count of faults rose
  pub unread_rose : {course : Course} {s u : S} {ending : Option Outcome} {path : List ℕ} → Follows M course s ending u → ending ≡ Some (unread path) →
      Rose (M.faults s) (M.faults u)
  unread_rose (at_its_end answer s) e = absurd cc
  unread_rose (behind_a_text path text next s t u ending w f) e = let k : Rose (M.faults t) (M.faults u) = unread_rose f e in let l : M.faults s ≤ M.faults t = w.later in omega arith
  unread_rose (at_an_unread_file path next s t w) e = w.rose
  unread_rose (at_a_long_file path next s t w) e = absurd cc
  unread_rose (without_memory course s) e = absurd cc
  unread_rose (without_memory_for_a_file path next s t w) e = absurd cc

  -- the words are refused by no course
  pub no_words : {course : Course} {s u : S} {ending : Option Outcome} → Follows M course s ending u → ending ≡ Some not_a_command → ⊥
  no_words (at_its_end answer s) e = cc
  no_words (behind_a_text path text next s t u ending w f) e = no_words f e
  no_words (at_an_unread_file path next s t w) e = cc
  no_words (at_a_long_file path next s t w) e = cc
  no_words (without_memory course s) e = cc
  no_words (without_memory_for_a_file path next s t w) e = cc

  -- a file that could not be read, or no memory to say so
  stops_unread : (path : List ℕ) (next : List ℕ → Course) (s t : S) (ending : Option Outcome) → WasUnread M s path t → IfSome ending (λ o. o ≡ unread path) →
      Follows M (reads path next) s ending t
  stops_unread path next s t None w h = without_memory_for_a_file path next s t (inl w.calls)
  stops_unread path next s t (Some o) w h = subst (λ x. Follows M (reads path next) s (Some x) t) (sym h) (at_an_unread_file path next s t w)

  -- a file that is too long, or no memory to say so
  stops_long : (path : List ℕ) (next : List ℕ → Course) (s t : S) (ending : Option Outcome) → WasTooLong M s path t → IfSome ending (λ o. o ≡ answered (too_long path)) →
      Follows M (reads path next) s ending t
  stops_long path next s t None w h = without_memory_for_a_file path next s t (inr (inl w.calls))
  stops_long path next s t (Some o) w h = subst (λ x. Follows M (reads path next) s (Some x) t) (sym h) (at_a_long_file path next s t w)

  -- a file that was not read whole
  pub stops_reading : (path : List ℕ) (next : List ℕ → Course) (s t : S) (error : ReadError) (ending : Option Outcome) → GivesUp M s path file_limit t error →
      OnFailed (Rose (M.faults s) (M.faults t)) error → (M.is_quiet s → OnFailed (LacksFile (M.contents s) path) error) → OnTooLong (FileIsLonger (M.contents s) path file_limit) error → OnTooLong (file_limit < M.moved t) error →
      IfSome ending (IsReadEnding path error) → Follows M (reads path next) s ending t
  stops_reading path next s t Failed ending calls rose lacks longer past h = stops_unread path next s t ending (record { calls = calls; rose = rose; lacks = lacks }) h
  stops_reading path next s t TooLong ending calls rose lacks longer past h = stops_long path next s t ending (record { calls = calls; told = longer; past = past }) h
  stops_reading path next s t Memory None calls rose lacks longer past h = without_memory_for_a_file path next s t (inr (inr calls))
  stops_reading path next s t Memory (Some o) calls rose lacks longer past h = absurd h

  -- a course that reads no more
  pub settled_follows : (course : Course) (ending : Option Outcome) (s : S) → Settles course ending → Follows M course s ending s
  settled_follows course None s h = without_memory course s
  settled_follows course (Some (answered answer)) s h = subst (λ c. Follows M c s (Some (answered answer)) s) (sym h) (at_its_end answer s)
  settled_follows course (Some (unread path)) s h = absurd h
  settled_follows course (Some not_a_command) s h = absurd h

  -- an index that was read, and one that was refused
  pub index_reached : (path text : List ℕ) (index : Index) (s t : S) → WasRead M s path text t → checked_index path text ≡ Ok index →
      ReachesIndex M s path index t
  index_reached path text index s t w is next ending u f =
      behind_a_text path text (λ x. then_on (checked_index path x) next) s t u ending w
      (subst (λ c. Follows M c t ending u) (sym (ap (λ stage. then_on stage next) is)) f)

  pub index_refused : (path text : List ℕ) (next : Index → Course) (ending : Option Outcome) (s t : S) → WasRead M s path text t →
      StopsAt (checked_index path text) ending → Follows M (reads_index path next) s ending t
  index_refused path text next ending s t w h =
      behind_a_text path text (λ x. then_on (checked_index path x) next) s t t ending w
      (settled_follows (then_on (checked_index path text) next) ending t (stopped (checked_index path text) next ending h))

  -- a text that was read, and the course goes on
  pub text_passed : (path text : List ℕ) (next : List ℕ → Course) (s t : S) → WasRead M s path text t → LeadsToRest M (reads path next) s (next text) t
  text_passed path text next s t w ending u f = behind_a_text path text next s t u ending w f

  -- a part that gave a value, and the course goes on
  pub stage_passed : {A : Type 0} (stage : CourseStage A) (x : A) (next : A → Course) (s : S) → stage ≡ Ok x → LeadsToRest M (then_on stage next) s (next x) s
  stage_passed stage x next s e ending u f = subst (λ z. Follows M (then_on z next) s ending u) (sym e) f

  -- an index and its kernel, and an index of which there is none
  pub kernel_reached : (path : List ℕ) (limit : ℕ) (hold : Bool) (found index : Index) (s t : S) → ReachesIndex M s path found t →
      kernel_of path limit hold found ≡ Ok (index_kernel limit hold found.home found.packages) → index ≡ found → ReachesKernel M s path limit hold index t
  kernel_reached path limit hold found index s t reaches made same =
      subst (λ i. ReachesKernel M s path limit hold i t) (sym same) (λ next ending u f.
      reaches (λ i. then_on (kernel_of path limit hold i) (next i)) ending u
      (stage_passed (kernel_of path limit hold found) (index_kernel limit hold found.home found.packages) (next found) t made ending u f))

  pub kernel_refused : (path : List ℕ) (limit : ℕ) (hold : Bool) (found : Index) (next : Index → ClassedKernel → Course) (ending : Option Outcome) (s t : S) →
      ReachesIndex M s path found t → StopsAt (kernel_of path limit hold found) ending → Follows M (reads_kernel path limit hold next) s ending t
  kernel_refused path limit hold found next ending s t reaches h =
      reaches (λ i. then_on (kernel_of path limit hold i) (next i)) ending t
      (settled_follows (then_on (kernel_of path limit hold found) (next found)) ending t (stopped (kernel_of path limit hold found) (next found) ending h))

-- what a part promises of its value in two clauses
pub if_ok_both : {T E : Type 0} (result : Result T E) {A : Type 0} {P Q : T → Type 0} → ((x : T) → A → P x → Q x) → OnOk result A → IfOk result P → IfOk result Q
if_ok_both (Ok x) f a p = f x a p
if_ok_both (Err e) f a p = tt
