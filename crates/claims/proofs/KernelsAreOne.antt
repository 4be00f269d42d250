-- An index has one kernel text.
use Rattle.suite_compare.specs.Indexes.{SearchedIndex}
use Rattle.std.proofs.Common.{◌≡◌, ℕ, ◌+◌, ◌<◌, ◌≤◌, true, ◌&&◌, List, length, map, eqb, eq-eqb, eqb-true, slice_index_or, refl, sym, ap, subst, ◌∙◌, arith}
use Rattle.std.proofs.lemmas.{Bool.{and_parts}, List.FromFn.{get_or-map-range_with_len}}
use Rattle.coinst_words.specs.Usage.{Text}
use Rattle.kernel_rounds.proofs.Reached.{image_is_of_classes_lem}
use Rattle.kernel_text.specs.{KernelText.{format_of, kernel_text}, Members.{kernel_members}}
use Rattle.listed.specs.Lists.{In}
use Rattle.listed.proofs.Lists.{any_cases}
use Rattle.repo_model.specs.{Repository.{packages_of, suite_repository}, Stanzas.{stanza_at}}
use Rattle.repo_model.proofs.{Accepted.{AreSingle}, Elements.{range_cases}, Packages.{length_clauses}, SoundSuite.{suite_sound}}
use Rattle.row_book.specs.{Flattening.{held_of}, Repository.{Repository}, Rounds.{kernel, kernel_class, kernel_image}, Sets.{Is, NumSet}}
use Rattle.row_book.proofs.Numbers.{map_same}
use Rattle.claims.specs.{Classes.{classes_of, is_in_class}, Laws.{KernelTextsAreOne}, Settled.{IsKernelText}}
use Rattle.claims.proofs.{Acceptance.{single_list}, KernelTexts.{each_classed, image_is, repository_is}, Members.{only_class}}

abbrev alone : ℕ → NumSet
alone i n = eqb n i

module _ (s : SearchedIndex) (text : Text) (k : IsKernelText s text) where
  abbrev R : Repository
  R = suite_repository s.home s.stanzas

  abbrev of_kernel : ℕ → ℕ
  of_kernel = kernel_class s.limit s.hold R

  abbrev classes : List ℕ
  classes = map k.class (packages_of s.stanzas)

  abbrev size : ℕ
  size = length k.repository.clauses

  single : AreSingle s.stanzas
  single = single_list s.stanzas k.index.single

  -- the class of a package is that of the kernel
  class_is : (i : ℕ) → i < length s.stanzas → k.class i ≡ of_kernel i
  class_is i l =
      let only : (n : ℕ) → Is (alone i) n → n < length s.stanzas = λ n h. subst (λ m. m < length s.stanzas) (sym (eqb-true n i h)) l in
      let low : (n : ℕ) → Is (alone i) n → n < length R.clauses = λ n h. (let m : n < length s.stanzas = only n h in omega (arith, m, length_clauses s.home s.stanzas)) in
      let up : Is (kernel_image s.limit s.hold R (alone i)) (of_kernel i) =
      (image_is_of_classes_lem s.limit s.hold R (suite_sound s.home s.stanzas) (alone i) low (of_kernel i)).1
      (record { by = i; within = low i (eq-eqb i i refl); inside = eq-eqb i i refl; class = refl }) in
      let here : classes_of s.stanzas k.members (alone i) (of_kernel i) ≡ true = image_is s text k (alone i) only (of_kernel i) ∙ up in
      let w : (j : ℕ) × In j (packages_of s.stanzas) × ((alone i j && is_in_class k.members (stanza_at s.stanzas j) (of_kernel i)) ≡ true) =
      any_cases (λ j. alone i j && is_in_class k.members (stanza_at s.stanzas j) (of_kernel i)) (packages_of s.stanzas) here in
      let p = and_parts (alone i w.0) (is_in_class k.members (stanza_at s.stanzas w.0) (of_kernel i)) w.2 in
      let inside : is_in_class k.members (stanza_at s.stanzas i) (of_kernel i) ≡ true = subst (λ j. is_in_class k.members (stanza_at s.stanzas j) (of_kernel i) ≡ true) (eqb-true w.0 i p.0) p.1 in
      let is : of_kernel i ≡ slice_index_or classes i 0 =
      only_class s.stanzas classes (each_classed k.class s.stanzas) size single i (of_kernel i) l (subst (λ ms. is_in_class ms (stanza_at s.stanzas i) (of_kernel i) ≡ true) k.members_in_order inside) in
      sym (is ∙ get_or-map-range_with_len k.class 0 (length s.stanzas) i i 0 l (omega arith))

  classes_are : classes ≡ map of_kernel (packages_of s.stanzas)
  classes_are = map_same k.class of_kernel (packages_of s.stanzas) (λ n i. (let p : (0 ≤ n) × (n < 0 + length s.stanzas) = range_cases (length s.stanzas) 0 n i in class_is n (omega (arith, p.1))))

  abbrev text_of : Repository → List ℕ → Text
  text_of r cs = kernel_text (format_of s.hold) r (kernel_members s.stanzas cs (length r.clauses)) (held_of s.limit s.hold r)

  pub text_is : text ≡ text_of (kernel s.limit s.hold R) (map of_kernel (packages_of s.stanzas))
  text_is =
      k.reads.lines ∙ ap (λ ms. kernel_text (format_of s.hold) k.repository ms (held_of s.limit s.hold k.repository)) k.members_in_order
      ∙ ap (text_of k.repository) classes_are ∙ ap (λ r. text_of r (map of_kernel (packages_of s.stanzas))) (repository_is s text k)

pub kernel_texts_are_one : KernelTextsAreOne
kernel_texts_are_one index first second a b = text_is index first a ∙ sym (text_is index second b)
