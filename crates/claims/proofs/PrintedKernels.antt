-- The text that is printed of the kernel of an index.
use Rattle.std.proofs.Common.{◌≡◌, ℕ, ◌<◌, Bool, true, List, [], ◌∷◌, length, map, slice_index_or, refl, sym, ap, subst, ◌∙◌, arith, zero-add}
use Rattle.std.specs.Prelude.{◌↔◌}
use Rattle.relation_fields.specs.{declared.packages.Home.{Home}, declared.packages.PackageFacts.{PackageFacts}}
use Rattle.repo_model.specs.{Repository.{packages_of, suite_repository}, Stanzas.{CoinstStanzas, stanza_at}}
use Rattle.repo_model.proofs.Accepted.{Accepted}
use Rattle.repo_model.proofs.Accepted as accepting
use Rattle.repo_model.proofs.{Healthy.{coinst_same}, Packages.{length_clauses}, SoundSuite.{suite_sound}}
use Rattle.row_book.specs.{Flattening.{packages}, Repository.{Repository, Coinst}, Rounds.{kernel, kernel_class, kernel_held, kernel_image, round_count}}
use Rattle.row_book.specs.Sets.{Is, NumSet}
use Rattle.row_book.proofs.Numbers.{at_numbers, numbers_ranged}
use Rattle.kernel_rounds.specs.Laws.{HasImage}
use Rattle.kernel_rounds.proofs.{Reached.{image_is_of_classes_lem, kernel_is_lem, kernel_keeps_lem}, Classes.{class_within}}
use Rattle.kernel_text.specs.{KernelReads.{KernelReads}, KernelText.{format_of, kernel_text}, Laws.{IsKernelOf}, Members.{kernel_members}}
use Rattle.kernel_text.specs.declared.member.Member.{Member}
use Rattle.listed.{proofs.Bools.{same_bool}, specs.Lists.{In}}
use Rattle.row_book.specs.Numbers.{numbers}
use Rattle.kernel_text.proofs.{Classified.{kernels_are_writable}, ReadIsWritten.{read_is_written}, Extracted.{kernel_fits}}
use Rattle.claims.specs.{Classes.{classes_of, IsItsClass, IsOneOf}, Kernel.{SettlesTo}, Laws.{KernelTextsAreThere, PrintedKernelsAreFaithful, kernel_printed}}
use Rattle.claims.proofs.{Index.{indexes_are_read}, Kernel.{kernels_are_kernels}, Members.{class_from, class_parts, people_are, stands_once}}
use Rattle.claims.proofs.KernelSentence.{kernels_mean_this}
use Rattle.suite_compare.specs.Refusals.{home_in, packages_in}

-- the packages of the repository of an index are its stanzas
packages_are : (home : Home) (stanzas : List PackageFacts) → packages (suite_repository home stanzas) ≡ packages_of stanzas
packages_are home stanzas = ap (λ n. numbers n 0) (length_clauses home stanzas) ∙ sym (numbers_ranged (length stanzas) 0)

-- the kernel of an accepted index at a limit, with hold or without, with its members
module _ (limit : ℕ) (hold : Bool) (home : Home) (stanzas : List PackageFacts) (accepted : Accepted stanzas) where
  abbrev classes : List ℕ
  classes = map (kernel_class limit hold (suite_repository home stanzas)) (packages (suite_repository home stanzas))

  abbrev size : ℕ
  size = length (kernel limit hold (suite_repository home stanzas)).clauses

  abbrev held : List ℕ
  held = kernel_held limit hold (suite_repository home stanzas)

  abbrev K : Repository
  K = kernel limit hold (suite_repository home stanzas)

  pub fits : IsKernelOf (format_of hold) K stanzas classes held
  fits = kernel_fits limit hold (suite_repository home stanzas) stanzas (suite_sound home stanzas) (length_clauses home stanzas) accepted

  pub class_is : (i : ℕ) → i < length stanzas → slice_index_or classes i 0 ≡ kernel_class limit hold (suite_repository home stanzas) i
  class_is i l =
      let k : i < length (suite_repository home stanzas).clauses = omega (arith, length_clauses home stanzas) in
      at_numbers (kernel_class limit hold (suite_repository home stanzas)) 0 (length (suite_repository home stanzas).clauses) 0 i k ∙ ap (kernel_class limit hold (suite_repository home stanzas)) (zero-add i)

  within : (i : ℕ) → i < length stanzas → slice_index_or classes i 0 < size
  within i l =
      let k : i < length (suite_repository home stanzas).clauses = omega (arith, length_clauses home stanzas) in
      subst (λ n. n < size) (sym (class_is i l)) (class_within limit hold (round_count limit hold (suite_repository home stanzas)) (suite_repository home stanzas) (suite_sound home stanzas) i k)

  pub stands : (i : ℕ) → i < length stanzas → (k : ℕ) × IsItsClass size (kernel_members stanzas classes size) (stanza_at stanzas i) k
  stands i l = stands_once stanzas classes fits.each size accepted.single within i l

  pub reads : KernelReads (kernel_text (format_of hold) K (kernel_members stanzas classes size) held) (format_of hold) K (kernel_members stanzas classes size) held
  reads =
      (read_is_written (kernel_text (format_of hold) K (kernel_members stanzas classes size) held) (format_of hold) K (kernel_members stanzas classes size) held).1
      (kernels_are_writable (format_of hold) K stanzas classes held fits, refl)

  -- each member is a stanza
  pub people : (m : Member) → In m (kernel_members stanzas classes size) → IsOneOf stanzas m
  people = people_are stanzas classes fits.each size

  -- the packages of the repository are the stanzas
  pub classes_are : classes ≡ map (kernel_class limit hold (suite_repository home stanzas)) (packages_of stanzas)
  classes_are = ap (map (kernel_class limit hold (suite_repository home stanzas))) (packages_are home stanzas)

  -- the classes of a set are its image
  module _ (S : NumSet) (small : (n : ℕ) → Is S n → n < length stanzas) where
    few : (n : ℕ) → S n ≡ true → n < length (suite_repository home stanzas).clauses
    few n h = let l : n < length stanzas = small n h in omega (arith, length_clauses home stanzas)

    image_to : (n : ℕ) → Is (classes_of stanzas (kernel_members stanzas classes size) S) n → Is (kernel_image limit hold (suite_repository home stanzas) S) n
    image_to n h =
        let w : (i : ℕ) × (i < length stanzas) × Is S i × (slice_index_or classes i 0 ≡ n) = class_parts stanzas classes fits.each size accepted.single S n h in
        (image_is_of_classes_lem limit hold (suite_repository home stanzas) (suite_sound home stanzas) S few n).1 (record { by = w.0; within = few w.0 w.2; inside = w.2; class = sym (class_is w.0 w.1) ∙ w.3 })

    image_from : (n : ℕ) → Is (kernel_image limit hold (suite_repository home stanzas) S) n → Is (classes_of stanzas (kernel_members stanzas classes size) S) n
    image_from n h =
        let w : HasImage limit hold (suite_repository home stanzas) S n = (image_is_of_classes_lem limit hold (suite_repository home stanzas) (suite_sound home stanzas) S few n).0 h in
        let l : w.by < length stanzas = small w.by w.inside in
        subst (λ z. Is (classes_of stanzas (kernel_members stanzas classes size) S) z) (class_is w.by l ∙ w.class) (class_from stanzas classes fits.each size accepted.single within S w.by l w.inside)

    pub comes : SettlesTo limit hold (suite_repository home stanzas) (S ∷ []) K (classes_of stanzas (kernel_members stanzas classes size) S ∷ [])
    comes =
        let image : NumSet = kernel_image limit hold (suite_repository home stanzas) S in
        let own : NumSet = classes_of stanzas (kernel_members stanzas classes size) S in
        let each : (n : ℕ) → image n ≡ own n = λ n. same_bool (image n) (own n) (image_from n) (image_to n) in
        let same : image ≡ own = λ i n. each n i in
        subst (λ (set : NumSet). SettlesTo limit hold (suite_repository home stanzas) (S ∷ []) K (set ∷ [])) same (kernels_are_kernels limit hold (suite_repository home stanzas) (S ∷ []) (suite_sound home stanzas))

  -- a set of stanzas is co-installable exactly when its classes are
  pub keeps : (S : NumSet) → ((n : ℕ) → Is S n → n < length stanzas) →
      (CoinstStanzas home stanzas S ↔ Coinst K (classes_of stanzas (kernel_members stanzas classes size) S))
  keeps S small =
      let few : (n : ℕ) → S n ≡ true → n < length (suite_repository home stanzas).clauses = λ n h. (let l : n < length stanzas = small n h in omega (arith, length_clauses home stanzas)) in (
        (λ c.
            let k : Coinst K (kernel_image limit hold (suite_repository home stanzas) S) = (kernel_keeps_lem limit hold (suite_repository home stanzas) (suite_sound home stanzas) S few).0 ((coinst_same home stanzas S).0 c) in
            record {
              whole = k.whole;
              healthy = k.healthy;
              contains = λ n h.
                  let w : (i : ℕ) × (i < length stanzas) × Is S i × (slice_index_or classes i 0 ≡ n) = class_parts stanzas classes fits.each size accepted.single S n h in
                  k.contains n ((image_is_of_classes_lem limit hold (suite_repository home stanzas) (suite_sound home stanzas) S few n).1
                  (record { by = w.0; within = few w.0 w.2; inside = w.2; class = sym (class_is w.0 w.1) ∙ w.3 }));
            }),
        (λ c.
            let k : Coinst K (kernel_image limit hold (suite_repository home stanzas) S) = record {
              whole = c.whole;
              healthy = c.healthy;
              contains = λ n h.
                  let w : HasImage limit hold (suite_repository home stanzas) S n = (image_is_of_classes_lem limit hold (suite_repository home stanzas) (suite_sound home stanzas) S few n).0 h in
                  let l : w.by < length stanzas = small w.by w.inside in
                  c.contains n (subst (λ z. Is (classes_of stanzas (kernel_members stanzas classes size) S) z) (class_is w.by l ∙ w.class) (class_from stanzas classes fits.each size accepted.single within S w.by l w.inside));
            } in
            (coinst_same home stanzas S).1 ((kernel_keeps_lem limit hold (suite_repository home stanzas) (suite_sound home stanzas) S few).1 k)),
      )

pub printed_kernels_are_faithful : PrintedKernelsAreFaithful
printed_kernels_are_faithful text limit hold fine =
    let home : Home = home_in text in
    let stanzas : List PackageFacts = packages_in text in
    let f : Accepted stanzas = accepting.accepted text fine in
    kernels_mean_this text (kernel_printed limit hold home stanzas) (format_of hold) (K limit hold home stanzas f) (kernel_members stanzas (classes limit hold home stanzas f) (size limit hold home stanzas f))
    (held limit hold home stanzas f) fine (reads limit hold home stanzas f) (people limit hold home stanzas f) (stands limit hold home stanzas f) (keeps limit hold home stanzas f)

pub kernel_texts_are_there : KernelTextsAreThere
kernel_texts_are_there index fine =
    let home : Home = home_in index.text in
    let stanzas : List PackageFacts = packages_in index.text in
    let f : Accepted stanzas = accepting.accepted index.text fine in
    let limit : ℕ = index.limit in
    let hold : Bool = index.hold in
    record {
      index = indexes_are_read index.text fine;
      repository = K limit hold home stanzas f;
      members = kernel_members stanzas (classes limit hold home stanzas f) (size limit hold home stanzas f);
      class = kernel_class limit hold (suite_repository home stanzas);
      reads = reads limit hold home stanzas f;
      members_in_order = ap (λ (cs : List ℕ). kernel_members stanzas cs (size limit hold home stanzas f)) (classes_are limit hold home stanzas f);
      rounds_lead_here = comes limit hold home stanzas f;
      settled = (kernel_is_lem limit hold (suite_repository home stanzas) (suite_sound home stanzas)).settled;
    }
