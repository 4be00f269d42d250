-- The packages that are drawn fit what the index asks, and its text is short enough to be a file.
use Rattle.std.proofs.{Common.{◌≡◌, ◌<◌, ◌≤◌, ◌+◌, ◌*◌, ℕ, List, [], ◌∷◌, ◌++◌, length, codes, Option, Some, None, None, arith}, lemmas.Fmt.{length-decimal-le}}
use Rattle.std.proofs.lemmas.List.{length-append}
use Rattle.std.specs.List.{AllByRecursion}
use Rattle.repo_model.specs.{FirstFault.{first_fault}, Limits.{most_bytes, most_packages}}
use Rattle.sample_suite.specs.{declared.package.SamplePackage.{SamplePackage}, Drawing.{IsCount, sample_packages}}
use Rattle.sample_suite.specs.SampleText.{conflicts_lines, depends_lines, element_text, with_feeds, needs_text, package_name, sample_text, stanza_lines}
use Rattle.sample_suite.specs.SampleText.{stanza_text, stanzas_text}
use Rattle.sample_suite.proofs.{Accepting.{stanzas_accepted}, DrawnPackages.{IsElement, IsPackage, IsConflict, length-sample_packages, packages_drawn}}
use Rattle.sample_suite.proofs.{Names.{IsSmall}, SampleLines.{AreSmall, IsSmallConflict}, SampleStanzas.{IsFit}, Values.{AreFilled}}

module _ (count : ℕ) (low : count ≤ most_packages) where
  numbers_small : (numbers : List ℕ) → AllByRecursion (λ n. n < count) numbers → AllByRecursion IsSmall numbers
  numbers_small [] h = tt
  numbers_small (n ∷ numbers) h = (let l = h.0 in omega (arith, l, low), numbers_small numbers h.1)

  elements_small : (elements : List (List ℕ)) → AllByRecursion (IsElement count) elements → AreSmall elements
  elements_small [] h = tt
  elements_small (element ∷ more) h = (numbers_small element h.0.inside, elements_small more h.1)

  elements_filled : (elements : List (List ℕ)) → AllByRecursion (IsElement count) elements → AreFilled elements
  elements_filled [] h = tt
  elements_filled (element ∷ more) h = (h.0.some, elements_filled more h.1)

  conflict_small : (conflict : Option ℕ) → IsConflict count conflict → IsSmallConflict conflict
  conflict_small None h = tt
  conflict_small (Some conflict) h = omega (arith, h, low)

  fit_drawn : (all : List SamplePackage) → AllByRecursion (IsPackage count) all → AllByRecursion IsFit all
  fit_drawn [] h = tt
  fit_drawn (p ∷ more) h = (
    record { needs = elements_small p.needs h.0.elements; filled = elements_filled p.needs h.0.elements; conflict = conflict_small p.conflict h.0.conflict },
    fit_drawn more h.1,
  )

-- the index of a sample suite has no fault
pub sample_accepted : (seed count : ℕ) → IsCount count → first_fault (sample_text seed count) ≡ None
unfolding sample_text
sample_accepted seed count is =
    let some = is.0 in
    let most = is.1 in
    let long = length-sample_packages seed count in
    stanzas_accepted (sample_packages seed count) (omega (arith, most, long)) (fit_drawn count is.1 (sample_packages seed count) (packages_drawn seed count (omega (arith, some))))

-- ---- how long the text is

name_length : (n : ℕ) → n < most_packages → length (package_name n) ≤ 7
name_length n low = let h = length-decimal-le 6 n (omega arith) (omega (arith, low)) (omega (arith, low)) in omega (arith, h)

module _ (count : ℕ) (low : count ≤ most_packages) where
  short_name : (n : ℕ) → n < count → length (package_name n) ≤ 7
  short_name n l = name_length n (omega (arith, l, low))

  short_element : (alternatives : List ℕ) → IsElement count alternatives → length (element_text alternatives) ≤ 17
  short_element [] is = omega arith
  short_element (a ∷ []) is =
      let x = short_name a is.inside.0 in
      let j = length-append (package_name a) [] in omega (arith, x, j)
  short_element (a ∷ b ∷ []) is =
      let x = short_name a is.inside.0 in
      let y = short_name b is.inside.1.0 in
      let j = length-append (package_name a) ((codes " | " ++ package_name b) ++ []) in
      let k = length-append (codes " | " ++ package_name b) [] in
      omega (arith, x, y, j, k)
  short_element (a ∷ b ∷ c ∷ more) is = let few = is.few in absurd (omega (arith, few))

  short_needs : (elements : List (List ℕ)) → AllByRecursion (IsElement count) elements → length elements ≤ 2 → length (with_feeds (depends_lines elements)) ≤ 46
  short_needs [] all few = omega arith
  short_needs (d ∷ []) all few =
      let x = short_element d all.0 in
      let i = length-append (element_text d) [] in
      let j = length-append (codes "Depends: " ++ needs_text (d ∷ [])) (10 ∷ []) in
      let k = length-append ((codes "Depends: " ++ needs_text (d ∷ [])) ++ 10 ∷ []) [] in
      omega (arith, x, i, j, k)
  short_needs (d ∷ e ∷ []) all few =
      let x = short_element d all.0 in
      let y = short_element e all.1.0 in
      let h = length-append (codes ", " ++ element_text e) [] in
      let i = length-append (element_text d) ((codes ", " ++ element_text e) ++ []) in
      let j = length-append (codes "Depends: " ++ needs_text (d ∷ e ∷ [])) (10 ∷ []) in
      let k = length-append ((codes "Depends: " ++ needs_text (d ∷ e ∷ [])) ++ 10 ∷ []) [] in
      omega (arith, x, y, h, i, j, k)
  short_needs (d ∷ e ∷ f ∷ more) all few = absurd (omega (arith, few))

  short_conflict : (conflict : Option ℕ) → IsConflict count conflict → length (with_feeds (conflicts_lines conflict)) ≤ 19
  short_conflict None h = omega arith
  short_conflict (Some conflict) h =
      let x = short_name conflict h in
      let j = length-append (codes "Conflicts: " ++ package_name conflict) (10 ∷ []) in
      let k = length-append ((codes "Conflicts: " ++ package_name conflict) ++ 10 ∷ []) [] in
      omega (arith, x, j, k)

  lines_append : (xs ys : List (List ℕ)) → length (with_feeds (xs ++ ys)) ≡ length (with_feeds xs) + length (with_feeds ys)
  lines_append [] ys = omega arith
  lines_append (line ∷ xs) ys =
      let h = lines_append xs ys in
      let j = length-append (line ++ 10 ∷ []) (with_feeds (xs ++ ys)) in
      let k = length-append (line ++ 10 ∷ []) (with_feeds xs) in
      omega (arith, h, j, k)

  short_stanza : (n : ℕ) (p : SamplePackage) → n < count → IsPackage count p → length (stanza_text n p) ≤ 94
  short_stanza n p l is =
      let x = short_name n l in
      let y = short_needs p.needs is.elements is.few in
      let z = short_conflict p.conflict is.conflict in
      let both = lines_append (depends_lines p.needs) (conflicts_lines p.conflict) in
      let i = length-append (codes "Package: " ++ package_name n) (10 ∷ []) in
      let j = length-append ((codes "Package: " ++ package_name n) ++ 10 ∷ []) (with_feeds (codes "Version: 1" ∷ (depends_lines p.needs ++ conflicts_lines p.conflict))) in
      let k = length-append (codes "Version: 1" ++ 10 ∷ []) (with_feeds (depends_lines p.needs ++ conflicts_lines p.conflict)) in
      let m = length-append (with_feeds (stanza_lines n p)) (10 ∷ []) in
      omega (arith, x, y, z, both, i, j, k, m)

  short_stanzas : (n : ℕ) (all : List SamplePackage) → n + length all ≤ count → AllByRecursion (IsPackage count) all → length (stanzas_text n all) ≤ 94 * length all
  unfolding stanzas_text
  short_stanzas n [] room is = omega arith
  short_stanzas n (p ∷ more) room is =
      let x = short_stanza n p (omega (arith, room)) is.0 in
      let h = short_stanzas (n + 1) more (omega (arith, room)) is.1 in
      let j = length-append (stanza_text n p) (stanzas_text (n + 1) more) in
      omega (arith, x, h, j)

-- it is no longer than a file may be
pub sample_short : (seed count : ℕ) → IsCount count → length (sample_text seed count) ≤ most_bytes
unfolding sample_text
sample_short seed count is =
    let some = is.0 in
    let most = is.1 in
    let long = length-sample_packages seed count in
    let h = short_stanzas count is.1 0 (sample_packages seed count) (omega (arith, long)) (packages_drawn seed count (omega (arith, some))) in
    omega (arith, h, long, most)
