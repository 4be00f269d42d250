-- The text of an index's kernel is read as that kernel, and goals name in it the classes of the packages that they name in the
-- index.
use Rattle.std.proofs.Common.{◌≡◌, ℕ, zero, suc, ◌+◌, ◌<◌, ◌≤◌, Bool, true, false, not, ◌&&◌, eqb, eq-eqb, eqb-true, List, [], ◌∷◌, length, get_or, inl, inr}
use Rattle.std.proofs.{Common.{refl, sym, ap, ◌∙◌, arith}, lemmas.Bool.{and_from, and_parts, both_ways, false_from_ne_true}}
use Rattle.std.specs.List.{list_any}
use Rattle.listed.proofs.{Bools.{same_bool}, Lists.{In_flat, In_cases, In_none, any_cases, any_from, filter_cases, filter_from, filter_same}}
use Rattle.relation_fields.specs.declared.packages.PackageFacts.{PackageFacts}
use Rattle.repo_model.specs.{declared.goals.Goal.{Goal}, Goals.{packages_named}}
use Rattle.repo_model.specs.Goals as index
use Rattle.repo_model.specs.{Repository.{packages_of}, Stanzas.{stanza_at}}
use Rattle.repo_model.proofs.Elements.{at_place, range_cases, range_from}
use Rattle.row_book.specs.{Numbers.{numbers}, Repository.{Repository}}
use Rattle.listed.specs.Lists.{In, here, there}
use Rattle.row_book.proofs.Numbers.{numbers_from}
use Rattle.kernel_text.specs.{declared.member.Member.{Member}, Images.{image_of, is_named_by, is_unknown, names_in_class}, KernelText.{kernel_text, members_of}}
use Rattle.kernel_text.specs.{Laws.{IsKernelOf, IsReadBack, classes_named}, Members.{file_members, kernel_members, member_in}}
use Rattle.kernel_text.proofs.{Classified.{kernels_are_writable, member_from}, ReadIsWritten.{read_is_written}}

-- the member at a place of the file
record IsFileMember (packages : List PackageFacts) (class_of : List ℕ) (m : Member) : Type 0 where
  place : ℕ
  inside : place < length packages
  is : m ≡ member_in (get_or class_of place 0) (stanza_at packages place)

file_place : (packages : List PackageFacts) (class_of : List ℕ) (m : Member) → In m (file_members packages class_of) → IsFileMember packages class_of m
file_place [] class_of m i = absurd (In_none i)
file_place (facts ∷ packages) [] m i = absurd (In_none i)
file_place (facts ∷ packages) (c ∷ class_of) m i = elim (In_cases i) [
  | inl e ↦ record { place = 0; inside = omega arith; is = e }
  | inr j ↦
      let w : IsFileMember packages class_of m = file_place packages class_of m j in
      record { place = suc w.place; inside = (let l : w.place < length packages = w.inside in omega arith); is = w.is }
]

at_file : (packages : List PackageFacts) (class_of : List ℕ) (i : ℕ) → length class_of ≡ length packages → i < length packages → In (member_in (get_or class_of i 0) (stanza_at packages i)) (file_members packages class_of)
at_file [] class_of i e l = absurd (omega arith)
at_file (facts ∷ packages) [] i e l = absurd (omega (arith, e))
at_file (facts ∷ packages) (c ∷ class_of) zero e l = here
at_file (facts ∷ packages) (c ∷ class_of) (suc i) e l = there (at_file packages class_of i (omega (arith, e)) (omega arith))

empty_or : (xs : List ℕ) → (length xs ≡ 0 → ⊥) → (n : ℕ) × In n xs
empty_or [] h = absurd (h refl)
empty_or (x ∷ xs) h = (x, here)

module _ (format : ℕ) (R : Repository) (packages : List PackageFacts) (class_of held : List ℕ) (kernel : IsKernelOf format R packages class_of held) where
  abbrev size : ℕ
  size = length R.clauses

  abbrev K : List Member
  K = kernel_members packages class_of size

  member_place : (m : Member) → In m K → IsFileMember packages class_of m
  unfolding kernel_members
  member_place m i = file_place packages class_of m (member_from (file_members packages class_of) size 0 m i).inside

  class_inside : (i : ℕ) → i < length packages → get_or class_of i 0 < size
  class_inside i l =
      let each : length class_of ≡ length packages = kernel.each in
      kernel.inside (get_or class_of i 0) (at_place class_of i 0 (omega arith))

  place_member : (i : ℕ) → i < length packages → In (member_in (get_or class_of i 0) (stanza_at packages i)) K
  unfolding kernel_members
  place_member i l =
      let m : Member = member_in (get_or class_of i 0) (stanza_at packages i) in
      let inside : get_or class_of i 0 < size = class_inside i l in
      In_flat (members_of (file_members packages class_of)) (numbers size 0) (get_or class_of i 0) m (numbers_from size 0 (get_or class_of i 0) (omega arith) (omega arith))
      (filter_from (λ (o : Member). eqb o.class (get_or class_of i 0)) (file_members packages class_of) m (at_file packages class_of i kernel.each l) (eq-eqb (get_or class_of i 0) (get_or class_of i 0) refl))

  -- a goal names a member as it names its package
  named_place : (goal : Goal) (i : ℕ) → i < length packages → index.is_named_by goal (stanza_at packages i) ≡ true → In i (packages_named packages goal)
  named_place goal i l h = filter_from (λ n. index.is_named_by goal (stanza_at packages n)) (packages_of packages) i (range_from (length packages) 0 i (omega arith) (omega arith)) h

  place_named : (goal : Goal) (i : ℕ) → In i (packages_named packages goal) → (i < length packages) × (index.is_named_by goal (stanza_at packages i) ≡ true)
  place_named goal i j =
      let w = filter_cases (λ n. index.is_named_by goal (stanza_at packages n)) (packages_of packages) i j in
      let b : (0 ≤ i) × (i < 0 + length packages) = range_cases (length packages) 0 i w.0 in
      (omega arith, w.1)

  -- in a class
  class_same : (goal : Goal) (n : ℕ) → names_in_class K goal n ≡ list_any (λ i. eqb n (get_or class_of i 0)) (packages_named packages goal)
  class_same goal n = same_bool (names_in_class K goal n) (list_any (λ i. eqb n (get_or class_of i 0)) (packages_named packages goal)) there_too back
    where
      there_too : names_in_class K goal n ≡ true → list_any (λ i. eqb n (get_or class_of i 0)) (packages_named packages goal) ≡ true
      there_too h =
          let w : (m : Member) × In m K × ((eqb n m.class && is_named_by goal m) ≡ true) = any_cases (λ (m : Member). eqb n m.class && is_named_by goal m) K h in
          let p : IsFileMember packages class_of w.0 = member_place w.0 w.1 in
          let both : (eqb n w.0.class ≡ true) × (is_named_by goal w.0 ≡ true) = and_parts (eqb n w.0.class) (is_named_by goal w.0) w.2 in
          any_from (λ i. eqb n (get_or class_of i 0)) (packages_named packages goal) p.place
          (named_place goal p.place p.inside (sym (ap (is_named_by goal) p.is) ∙ both.1)) (sym (ap (λ (m : Member). eqb n m.class) p.is) ∙ both.0)

      back : list_any (λ i. eqb n (get_or class_of i 0)) (packages_named packages goal) ≡ true → names_in_class K goal n ≡ true
      back h =
          let w : (i : ℕ) × In i (packages_named packages goal) × (eqb n (get_or class_of i 0) ≡ true) = any_cases (λ i. eqb n (get_or class_of i 0)) (packages_named packages goal) h in
          let p : (w.0 < length packages) × (index.is_named_by goal (stanza_at packages w.0) ≡ true) = place_named goal w.0 w.1 in
          let m : Member = member_in (get_or class_of w.0 0) (stanza_at packages w.0) in
          any_from (λ (o : Member). eqb n o.class && is_named_by goal o) K m (place_member w.0 p.0) (and_from (eqb n m.class) (is_named_by goal m) w.2 p.1)

  images : (goal : Goal) → image_of K size goal ≡ classes_named packages class_of size goal
  unfolding image_of
  images goal = filter_same (names_in_class K goal) (λ n. list_any (λ i. eqb n (get_or class_of i 0)) (packages_named packages goal)) (numbers size 0) (λ n i. class_same goal n)

  -- at all
  unknown : (goal : Goal) → is_unknown K goal ≡ eqb (length (packages_named packages goal)) 0
  unknown goal = same_bool (is_unknown K goal) (eqb (length (packages_named packages goal)) 0) none_there none_here
    where
      some_there : list_any (is_named_by goal) K ≡ true → (i : ℕ) × In i (packages_named packages goal)
      some_there h =
          let w : (m : Member) × In m K × (is_named_by goal m ≡ true) = any_cases (is_named_by goal) K h in
          let p : IsFileMember packages class_of w.0 = member_place w.0 w.1 in
          (p.place, named_place goal p.place p.inside (sym (ap (is_named_by goal) p.is) ∙ w.2))

      some_here : (i : ℕ) → In i (packages_named packages goal) → list_any (is_named_by goal) K ≡ true
      some_here i j =
          let p : (i < length packages) × (index.is_named_by goal (stanza_at packages i) ≡ true) = place_named goal i j in
          any_from (is_named_by goal) K (member_in (get_or class_of i 0) (stanza_at packages i)) (place_member i p.0) p.1

      none_there : is_unknown K goal ≡ true → eqb (length (packages_named packages goal)) 0 ≡ true
      none_there h = by (eqb (length (packages_named packages goal)) 0) refl
        where
          by : (b : Bool) → eqb (length (packages_named packages goal)) 0 ≡ b → eqb (length (packages_named packages goal)) 0 ≡ true
          by true e = e
          by false e =
              let w : (n : ℕ) × In n (packages_named packages goal) =
              empty_or (packages_named packages goal) (λ z. both_ways (eqb (length (packages_named packages goal)) 0) e (eq-eqb (length (packages_named packages goal)) 0 z)) in
              absurd (both_ways (is_unknown K goal) (ap not (some_here w.0 w.1)) h)

      none_here : eqb (length (packages_named packages goal)) 0 ≡ true → is_unknown K goal ≡ true
      none_here h = ap not (false_from_ne_true (list_any (is_named_by goal) K) (λ some.
          let w : (i : ℕ) × In i (packages_named packages goal) = some_there some in
          no_item (packages_named packages goal) w.0 w.1 h))
        where
          no_item : (xs : List ℕ) (i : ℕ) → In i xs → eqb (length xs) 0 ≡ true → ⊥
          no_item [] i j e = In_none j
          no_item (x ∷ xs) i j e = let l : suc (length xs) ≡ 0 = eqb-true (suc (length xs)) 0 e in omega (arith, l)

  pub read_back : IsReadBack format R packages class_of held
  read_back = record {
    reads = (read_is_written (kernel_text format R K held) format R K held).1 (kernels_are_writable format R packages class_of held kernel, refl);
    images = images;
    unknown = unknown;
  }
