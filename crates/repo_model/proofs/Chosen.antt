-- The numbers of the packages that pass a test, and the clause of an element by the packages that meet its alternatives.
use Rattle.std.proofs.Common.{◌≡◌, ℕ, suc, ◌+◌, ◌<◌, ◌↔◌, ◌++◌, Bool, true, false, cond, List, [], ◌∷◌, length, get_or, filter, inl, inr, refl, sym, ap, subst}
use Rattle.std.proofs.{Common.{◌∙◌, add-zero, zero-add, eqb, arith}, Math.Bool.{and-true, or-false}}
use Rattle.std.proofs.lemmas.List.Kept.{AllPairs-from_increasing, Contains-dedup_nat, Contains-from_dedup}
use Rattle.std.proofs.{lemmas.List.Sorted.{Contains-permutation, IsPermutation-sym}, lemmas.Map.Keys.{IsStrictlyIncreasing-dedup}}
use Rattle.std.specs.{List.{flat_map, range_with_len, Contains, AllPairs, dedup}, List.Sorted.{IsPermutation, IsSorted}, Ordering.{nat_cmp}, Str.{bytes_eq}}
use Rattle.listed.proofs.Lists.{contains_in, in_contains, In_flat_cases, In_flat, In_cases, In_none, In_append_cases, In_append_left, In_append_right, any_from}
use Rattle.listed.proofs.{Lists.{any_cases, filter_same}, Orders.{ascending_filter, ascending_same}}
use Rattle.relation_fields.specs.{Meeting.{meets}, declared.packages.Home.{Home}, declared.packages.PackageFacts.{PackageFacts}, declared.relations.Atom.{Atom}}
use Rattle.listed.specs.Lists.{Ascending, Inside, In, here, there}
use Rattle.package_register.specs.Numbers.{if_so, numbers_from, numbers_where}
use Rattle.package_register.proofs.Numbered.{numbers_from-cons}
use Rattle.repo_model.specs.{Goals.{any_version, is_named_by, packages_named}, Meeting.{meeting}, Repository.{clause_of, meets_any, packages_of}}
use Rattle.repo_model.specs.Stanzas.{no_stanza, stanza_at}
use Rattle.repo_model.proofs.{Elements.{at_place, place_of, range_ascending}, Packages.{chosen_cases, chosen_from, literal_cases, literal_from}}

-- the numbers of the items that pass are the numbers at which an item passes
module _ {X : Type 0} (test : X → Bool) (at : ℕ → X) where
  numbered : (n : ℕ) (items : List X) (d : X) → ((i : ℕ) → i < length items → at (n + i) ≡ get_or items i d) → numbers_from n test items ≡ filter (λ k. test (at k)) (range_with_len n (length items))
  numbered n [] d same = refl
  numbered n (x ∷ items) d same =
      let first : at n ≡ x = ap at (sym (add-zero n)) ∙ same 0 (omega arith) in
      let onward : (i : ℕ) → i < length items → at (n + 1 + i) ≡ get_or items i d = λ i l. let place : n + 1 + i ≡ n + suc i = omega arith in ap at place ∙ same (suc i) (omega arith) in
      numbers_from-cons test n x items ∙ by (test x) (numbered (n + 1) items d onward)
      ∙ ap (λ y. cond (test y) (n ∷ filter (λ k. test (at k)) (range_with_len (n + 1) (length items))) (filter (λ k. test (at k)) (range_with_len (n + 1) (length items)))) (sym first)
    where
      by : (b : Bool) → numbers_from (n + 1) test items ≡ filter (λ k. test (at k)) (range_with_len (n + 1) (length items)) →
          if_so b n ++ numbers_from (n + 1) test items ≡ cond b (n ∷ filter (λ k. test (at k)) (range_with_len (n + 1) (length items))) (filter (λ k. test (at k)) (range_with_len (n + 1) (length items)))
      by true rest = ap (λ ns. n ∷ ns) rest
      by false rest = rest

pub numbers_chosen : (test : PackageFacts → Bool) (packages : List PackageFacts) → numbers_where test packages ≡ filter (λ n. test (stanza_at packages n)) (packages_of packages)
numbers_chosen test packages = numbered test (stanza_at packages) 0 packages no_stanza (λ i l. ap (stanza_at packages) (zero-add i))

-- a package is among them where it passes
pub number_cases : (test : PackageFacts → Bool) (packages : List PackageFacts) (n : ℕ) → In n (numbers_where test packages) → (n < length packages) × (test (stanza_at packages n) ≡ true)
number_cases test packages n i = chosen_cases packages (λ n. test (stanza_at packages n)) n (subst (λ ns. In n ns) (numbers_chosen test packages) i)

pub number_from : (test : PackageFacts → Bool) (packages : List PackageFacts) (n : ℕ) → n < length packages → test (stanza_at packages n) ≡ true → In n (numbers_where test packages)
number_from test packages n l h = subst (λ ns. In n ns) (sym (numbers_chosen test packages)) (chosen_from packages (λ n. test (stanza_at packages n)) n l h)

-- the clause of an element of one alternative
pub clause_single : (home : Home) (packages : List PackageFacts) (atom : Atom) → meeting home packages atom ≡ clause_of home packages (atom ∷ [])
clause_single home packages atom =
    numbers_chosen (λ facts. meets atom facts home) packages
    ∙ filter_same (λ n. meets atom (stanza_at packages n) home) (λ n. meets_any home (atom ∷ []) (stanza_at packages n)) (packages_of packages) (λ n i. sym (or-false (meets atom (stanza_at packages n) home)))

pub clause_ascending : (home : Home) (packages : List PackageFacts) (element : List Atom) → Ascending (clause_of home packages element)
clause_ascending home packages element = ascending_filter (λ n. meets_any home element (stanza_at packages n)) (packages_of packages) (range_ascending (length packages) 0)

-- the packages that meet the alternatives, ascending and each once, are the clause
pub clause_gathered : (home : Home) (packages : List PackageFacts) (element : List Atom) (numbers all : List ℕ) → Ascending numbers → ((n : ℕ) → In n numbers ↔ In n all) →
    all ≡ flat_map (meeting home packages) element → numbers ≡ clause_of home packages element
clause_gathered home packages element numbers all a same gathered =
    let to : Inside numbers (clause_of home packages element) = λ n i.
    let w : (atom : Atom) × In atom element × In n (meeting home packages atom) =
    In_flat_cases (meeting home packages) element n (subst (λ ns. In n ns) gathered ((same n).0 i)) in
    let m : (n < length packages) × (meets w.0 (stanza_at packages n) home ≡ true) = number_cases (λ facts. meets w.0 facts home) packages n w.2 in
    literal_from home packages element n m.0 (any_from (λ atom. meets atom (stanza_at packages n) home) element w.0 w.1 m.1) in
    let back : Inside (clause_of home packages element) numbers = λ n i.
    let m : (n < length packages) × (meets_any home element (stanza_at packages n) ≡ true) = literal_cases home packages element n i in
    let w : (atom : Atom) × In atom element × (meets atom (stanza_at packages n) home ≡ true) = any_cases (λ atom. meets atom (stanza_at packages n) home) element m.1 in
    (same n).1 (subst (λ ns. In n ns) (sym gathered)
    (In_flat (meeting home packages) element w.0 n w.1 (number_from (λ facts. meets w.0 facts home) packages n m.0 w.2))) in
    ascending_same numbers (clause_of home packages element) a (clause_ascending home packages element) to back

-- the packages of a name are those that it names as a goal
pub named_is : (packages : List PackageFacts) (name : List ℕ) → numbers_where (λ facts. bytes_eq name facts.name) packages ≡ packages_named packages (any_version name)
named_is packages name =
    numbers_chosen (λ facts. bytes_eq name facts.name) packages
    ∙ filter_same (λ n. bytes_eq name (stanza_at packages n).name) (λ n. is_named_by (any_version name) (stanza_at packages n)) (packages_of packages) (λ n i. sym (and-true (bytes_eq name (stanza_at packages n).name)))
