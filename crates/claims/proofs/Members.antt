-- The members of the classes of an index: each stanza alone in its class.
use Rattle.std.proofs.Common.{◌≡◌, ℕ, zero, suc, ◌+◌, ◌<◌, ◌≤◌, Bool, true, ◌&&◌, List, [], ◌∷◌, length, eqb, slice_index_or, inl, inr, refl, sym, ◌∙◌, ap}
use Rattle.std.proofs.{Common.{subst, arith, eq-eqb, eqb-true}, lemmas.Bool.{and_parts, and_from, both_ways}, lemmas.Slice.Eq.{bytes_eq-Decides}}
use Rattle.std.specs.{Ordering.{is_eq}, Str.{bytes_eq}}
use Rattle.listed.proofs.Lists.{same_bytes, In_flat_cases, In_flat, In_cases, In_none, any_from, any_cases, filter_cases, filter_from}
use Rattle.kernel_text.specs.{KernelText.{members_of}, Members.{file_members, kernel_members, member_in}, declared.member.Member.{Member}}
use Rattle.repo_model.proofs.{Accepted.{AreSingle}, Elements.{at_place, range_from, range_cases}}
use Rattle.repo_model.specs.{Facts.{is_same_package}, Repository.{packages_of}, Stanzas.{stanza_at, no_stanza}}
use Rattle.claims.specs.Classes.{classes_of, is_in_class, IsItsClass, IsOneOf}
use Rattle.relation_fields.specs.declared.packages.PackageFacts.{PackageFacts}
use Rattle.deb_version.specs.Order.{version_order}
use Rattle.row_book.specs.{Numbers.{numbers}, Sets.{NumSet, Is}}
use Rattle.listed.specs.Lists.{In, here, there}
use Rattle.row_book.proofs.Numbers.{numbers_from}
use Rattle.deb_version.proofs.TotalOrder.{version_total_up_to_ties}

pub text_same : (a b : List ℕ) → a ≡ b → bytes_eq a b ≡ true
text_same a b e = (bytes_eq-Decides a b).1 e

-- a package with the name and the version of another is the same package
same_package : (s t : PackageFacts) → s.name ≡ t.name → s.version ≡ t.version → is_same_package s t ≡ true
same_package s t e f =
    and_from (bytes_eq s.name t.name) (is_eq (version_order s.version t.version)) (text_same s.name t.name e)
    (subst (λ v. is_eq (version_order s.version v) ≡ true) f (ap is_eq (version_total_up_to_ties.reflexive s.version)))

-- packages with one name and version are one, where none is the package of an earlier one
pub place_of_package : (stanzas : List PackageFacts) → AreSingle stanzas → (i j : ℕ) → i < length stanzas → j < length stanzas →
    (stanza_at stanzas i).name ≡ (stanza_at stanzas j).name → (stanza_at stanzas i).version ≡ (stanza_at stanzas j).version → i ≡ j
place_of_package [] d i j l m e f = absurd (omega arith)
place_of_package (s ∷ stanzas) d zero zero l m e f = refl
place_of_package (s ∷ stanzas) d zero (suc j) l m e f =
    absurd (both_ways (is_same_package (stanza_at stanzas j) s) (d.0 (stanza_at stanzas j) (at_place stanzas j no_stanza (omega arith))) (same_package (stanza_at stanzas j) s (sym e) (sym f)))
place_of_package (s ∷ stanzas) d (suc i) zero l m e f =
    absurd (both_ways (is_same_package (stanza_at stanzas i) s) (d.0 (stanza_at stanzas i) (at_place stanzas i no_stanza (omega arith))) (same_package (stanza_at stanzas i) s e f))
place_of_package (s ∷ stanzas) d (suc i) (suc j) l m e f = ap suc (place_of_package stanzas d.1 i j (omega arith) (omega arith) e f)

-- the members of the file, by their places
pub file_at : (stanzas : List PackageFacts) (class_of : List ℕ) → length class_of ≡ length stanzas → (m : Member) → In m (file_members stanzas class_of) →
    (j : ℕ) × (j < length stanzas) × (m ≡ member_in (slice_index_or class_of j 0) (stanza_at stanzas j))
file_at [] class_of e m i = absurd (In_none i)
file_at (s ∷ stanzas) [] e m i = absurd (omega (arith, e))
file_at (s ∷ stanzas) (c ∷ class_of) e m i =
    elim (In_cases i) [
      | inl same ↦ (0, (omega arith), same)
      | inr j ↦ let w : (j : ℕ) × (j < length stanzas) × (m ≡ member_in (slice_index_or class_of j 0) (stanza_at stanzas j)) = file_at stanzas class_of (omega (arith, e)) m j in (suc w.0, (omega (arith, w.1)), w.2)
    ]

file_from : (stanzas : List PackageFacts) (class_of : List ℕ) → length class_of ≡ length stanzas → (j : ℕ) → j < length stanzas →
    In (member_in (slice_index_or class_of j 0) (stanza_at stanzas j)) (file_members stanzas class_of)
file_from [] class_of e j l = absurd (omega arith)
file_from (s ∷ stanzas) [] e j l = absurd (omega (arith, e))
file_from (s ∷ stanzas) (c ∷ class_of) e zero l = here
file_from (s ∷ stanzas) (c ∷ class_of) e (suc j) l = there (file_from stanzas class_of (omega (arith, e)) j (omega arith))

-- the member line has the stanza's name and version
abbrev is_line_of : PackageFacts → Member → Bool
is_line_of s m = bytes_eq m.name s.name && bytes_eq m.version s.version

-- the stanzas of an index, each with a class
module _ (stanzas : List PackageFacts) (class_of : List ℕ) (each : length class_of ≡ length stanzas) (size : ℕ) where
  abbrev all : List Member
  all = kernel_members stanzas class_of size

  abbrev class_at : ℕ → ℕ
  class_at i = slice_index_or class_of i 0

  -- each member is a stanza
  pub people_are : (m : Member) → In m all → IsOneOf stanzas m
  unfolding kernel_members
  people_are m i =
      let block = In_flat_cases (members_of (file_members stanzas class_of)) (numbers size 0) m i in
      let filed = (filter_cases (λ (o : Member). eqb o.class block.0) (file_members stanzas class_of) m block.2).0 in
      let at = file_at stanzas class_of each m filed in
      (at.0, at.1, sym (ap (λ (o : Member). o.name) at.2), sym (ap (λ (o : Member). o.version) at.2))

  -- where none is the package of an earlier one
  module _ (single : AreSingle stanzas) where
    -- a stanza has a member line in its class alone
    pub only_class : (i n : ℕ) → i < length stanzas → is_in_class all (stanza_at stanzas i) n ≡ true → n ≡ class_at i
    unfolding kernel_members
    only_class i n l h =
        let s : PackageFacts = stanza_at stanzas i in
        let w : (m : Member) × In m (members_of all n) × (is_line_of s m ≡ true) = any_cases (is_line_of s) (members_of all n) h in
        let of_class : In w.0 all × (eqb w.0.class n ≡ true) = filter_cases (λ (o : Member). eqb o.class n) all w.0 w.1 in
        let block : (k : ℕ) × In k (numbers size 0) × In w.0 (members_of (file_members stanzas class_of) k) = In_flat_cases (members_of (file_members stanzas class_of)) (numbers size 0) w.0 of_class.0 in
        let filed : In w.0 (file_members stanzas class_of) = (filter_cases (λ (o : Member). eqb o.class block.0) (file_members stanzas class_of) w.0 block.2).0 in
        let at : (j : ℕ) × (j < length stanzas) × (w.0 ≡ member_in (class_at j) (stanza_at stanzas j)) = file_at stanzas class_of each w.0 filed in
        let p : (bytes_eq w.0.name s.name ≡ true) × (bytes_eq w.0.version s.version ≡ true) = and_parts (bytes_eq w.0.name s.name) (bytes_eq w.0.version s.version) w.2 in
        let same : at.0 ≡ i =
        place_of_package stanzas single at.0 i at.1 l (ap (λ (m : Member). m.name) (sym at.2) ∙ same_bytes w.0.name s.name p.0) (ap (λ (m : Member). m.version) (sym at.2) ∙ same_bytes w.0.version s.version p.1) in
        sym (eqb-true w.0.class n of_class.1) ∙ ap (λ (m : Member). m.class) at.2 ∙ ap class_at same

    -- a class of a set of stanzas is that of one of them
    pub class_parts : (S : NumSet) (n : ℕ) → Is (classes_of stanzas all S) n → (i : ℕ) × (i < length stanzas) × Is S i × (class_at i ≡ n)
    class_parts S n h =
        let w : (i : ℕ) × In i (packages_of stanzas) × ((S i && is_in_class all (stanza_at stanzas i) n) ≡ true) =
        any_cases (λ i. S i && is_in_class all (stanza_at stanzas i) n) (packages_of stanzas) h in
        let l : (0 ≤ w.0) × (w.0 < 0 + length stanzas) = range_cases (length stanzas) 0 w.0 w.1 in
        let k : w.0 < length stanzas = omega (arith, l.1) in
        let p : (S w.0 ≡ true) × (is_in_class all (stanza_at stanzas w.0) n ≡ true) = and_parts (S w.0) (is_in_class all (stanza_at stanzas w.0) n) w.2 in
        (w.0, k, p.0, sym (only_class w.0 n k p.1))

    -- and each class is one of so many
    module _ (inside : (i : ℕ) → i < length stanzas → slice_index_or class_of i 0 < size) where
      -- a stanza has a member line in its class
      own_class : (i : ℕ) → i < length stanzas → is_in_class all (stanza_at stanzas i) (class_at i) ≡ true
      unfolding kernel_members
      own_class i l =
          let s : PackageFacts = stanza_at stanzas i in
          let m : Member = member_in (class_at i) s in
          let of_class : In m (members_of (file_members stanzas class_of) (class_at i)) =
          filter_from (λ (o : Member). eqb o.class (class_at i)) (file_members stanzas class_of) m (file_from stanzas class_of each i l) (eq-eqb (class_at i) (class_at i) refl) in
          let listed : In m all = In_flat (members_of (file_members stanzas class_of)) (numbers size 0) (class_at i) m (numbers_from size 0 (class_at i) (omega arith) (let k : class_at i < size = inside i l in omega arith)) of_class in
          any_from (is_line_of s) (members_of all (class_at i)) m
          (filter_from (λ (o : Member). eqb o.class (class_at i)) all m listed (eq-eqb (class_at i) (class_at i) refl))
          (and_from (bytes_eq s.name s.name) (bytes_eq s.version s.version) (text_same s.name s.name refl) (text_same s.version s.version refl))

      -- each stanza stands once
      pub stands_once : (i : ℕ) → i < length stanzas → (k : ℕ) × IsItsClass size all (stanza_at stanzas i) k
      stands_once i l = (class_at i, (inside i l, (λ n. (only_class i n l, (λ e. subst (λ k. is_in_class all (stanza_at stanzas i) k ≡ true) (sym e) (own_class i l))))))

      pub class_from : (S : NumSet) (i : ℕ) → i < length stanzas → Is S i → Is (classes_of stanzas all S) (class_at i)
      class_from S i l h =
          any_from (λ j. S j && is_in_class all (stanza_at stanzas j) (class_at i)) (packages_of stanzas) i (range_from (length stanzas) 0 i (omega arith) (omega arith))
          (and_from (S i) (is_in_class all (stanza_at stanzas i) (class_at i)) h (own_class i l))
