-- The packages that bear the names of an old side: which names these are, and the classes of the packages.
use Rattle.std.{proofs.Common.{◌≡◌, ℕ, ◌<◌, ◌+◌, zero, suc, Bool, true, false, not, eqb, cond, filter, List, [], ◌∷◌, ◌++◌, length, get_or, map, refl, ◌∙◌, ap, ap₂, subst, sym, arith}, specs.Str.{bytes_eq}, proofs.lemmas.Bool.{both_ways, ne_eqb}, proofs.lemmas.List.{append-nil, get_or-map, length-map}, proofs.lemmas.List.Elements.{filter-append}}
use Rattle.row_book.{specs.Needs.{AreNeeds, NeedsFit}, specs.Book.{listed_for}, specs.Numbers.{numbers}, specs.Repository.{Repository}, specs.declared.lent_book.LentBook.{LentBook}, specs.Flattening.{packages}, specs.Rounds.{kernel, kernel_class, kernel_image}, proofs.Numbers.{numbers_more, numbers_parts}}
use Rattle.listed.{specs.Lists.{Ascending, has, In}, proofs.Lists.{any_none, filled, filter_cases, filter_same, has_not, In_at, In_map_cases, In_none, In_place, none_in}}
use Rattle.relation_fields.{specs.declared.packages.Home.{Home}, specs.declared.packages.PackageFacts.{PackageFacts}}
use Rattle.repo_model.{specs.Goals.{any_version, packages_named}, specs.Repository.{suite_repository}, specs.Stanzas.{no_stanza, stanza_at}, proofs.Chosen.{named_is, number_cases}, proofs.Packages.{length_clauses}}
use Rattle.search_terms.proofs.Ranges.{rows_long}
use Rattle.suite_compare.{specs.Asking.{image_of}, specs.Bearers.{bearer_classes, bearers_of, filled_places, is_borne, AreClasses, FitsKernel}, specs.Groups.{AreEach}, specs.Names.{stands_in}, specs.Lent.{IsLentKernel}, proofs.Gathering.{image_filled, image_made, named_inside, table_of}, proofs.Named.{bearer_of, AreAmong}, proofs.SuiteKernels.{classes_ascending, classes_parts, suite_sound}}

same_items : (xs ys : List (List ℕ)) → length xs ≡ length ys → ((i : ℕ) → i < length xs → listed_for xs i ≡ listed_for ys i) → xs ≡ ys
same_items [] [] e f = refl
same_items [] (y ∷ ys) e f = absurd (let k : 0 ≡ suc (length ys) = e in omega arith)
same_items (x ∷ xs) [] e f = absurd (let k : suc (length xs) ≡ 0 = e in omega arith)
same_items (x ∷ xs) (y ∷ ys) e f =
    let k : suc (length xs) ≡ suc (length ys) = e in
    ap₂ (λ z zs. z ∷ zs) (f 0 (omega arith)) (same_items xs ys (omega arith) (λ i l. f (suc i) (omega arith)))

number_below : (n m : ℕ) → In m (numbers n 0) → m < n
number_below n m i = let l : m < 0 + n = (numbers_parts n 0 m i).1 in omega arith

-- a name stands in packages where some of them bear it
pub stands_where : (stanzas : List PackageFacts) (name : List ℕ) → stands_in stanzas name ≡ not (eqb (length (packages_named stanzas (any_version name))) 0)
stands_where stanzas name = by (stands_in stanzas name) refl
  where
    test : PackageFacts → Bool
    test facts = bytes_eq name facts.name

    chosen : List ℕ
    chosen = packages_named stanzas (any_version name)

    by : (b : Bool) → stands_in stanzas name ≡ b → stands_in stanzas name ≡ not (eqb (length chosen) 0)
    by true h =
        let w = bearer_of stanzas name h in
        let some : 0 < length chosen = filled chosen w.0 w.1 in
        h ∙ ap not (sym (ne_eqb (length chosen) 0 (λ e. absurd (omega (arith, some, e)))))
    by false h = h ∙ ap not (sym (none_in chosen (λ m. has_not chosen m (λ i.
        let w = number_cases test stanzas m (subst (λ z. In m z) (sym (named_is stanzas name)) i) in
        both_ways (test (stanza_at stanzas m)) (any_none test stanzas h (stanza_at stanzas m) (In_at stanzas m no_stanza w.0)) w.1))))

-- the items at the places that pass
kept_at : (p : List ℕ → Bool) (at : ℕ → List ℕ) (k : ℕ) (xs : List (List ℕ)) → ((i : ℕ) → i < length xs → at (k + i) ≡ get_or xs i []) → map at (filter (λ i. p (at i)) (numbers (length xs) k)) ≡ filter p xs
unfolding numbers
kept_at p at k [] e = refl
kept_at p at k (x ∷ xs) e = by (kept_at p at (suc k) xs (λ i l. ap at (omega arith) ∙ e (suc i) (omega arith))) (p (at k)) ∙ ap (λ z. cond (p z) (x ∷ filter p xs) (filter p xs)) first
  where
    first : at k ≡ x
    first = ap at (omega arith) ∙ e 0 (omega arith)

    kept : List ℕ
    kept = filter (λ i. p (at i)) (numbers (length xs) (suc k))

    by : map at kept ≡ filter p xs → (b : Bool) → map at (cond b (k ∷ kept) kept) ≡ cond b (x ∷ filter p xs) (filter p xs)
    by rest true = ap₂ (λ y ys. y ∷ ys) first rest
    by rest false = rest

-- there is a list for each name
pub bearers_count : (stanzas : List PackageFacts) (names named : List (List ℕ)) → named ≡ bearers_of stanzas names → length named ≡ length names
bearers_count stanzas names named is = ap length is ∙ length-map names (λ name. packages_named stanzas (any_version name))

-- the places are found one by one
filled_step : (named : List (List ℕ)) (n : ℕ) → filter (is_borne named) (numbers (n + 1) 0) ≡ filter (is_borne named) (numbers n 0) ++ cond (is_borne named n) (n ∷ []) []
filled_step named n = ap (filter (is_borne named)) (numbers_more n) ∙ filter-append (is_borne named) (numbers n 0) (n ∷ [])

pub filled_none : (named : List (List ℕ)) (places : List ℕ) → places ≡ [] → places ≡ filter (is_borne named) (numbers 0 0)
unfolding numbers
filled_none named places e = e

pub filled_skip : (named : List (List ℕ)) (n : ℕ) (list places : List ℕ) → list ≡ listed_for named n → eqb (length list) 0 ≡ true → places ≡ filter (is_borne named) (numbers n 0) → places ≡ filter (is_borne named) (numbers (n + 1) 0)
filled_skip named n list places is none so =
    so ∙ sym (filled_step named n ∙ ap (λ b. filter (is_borne named) (numbers n 0) ++ cond (not b) (n ∷ []) []) (ap (λ z. eqb (length z) 0) (sym is) ∙ none) ∙ append-nil (filter (is_borne named) (numbers n 0)))

pub filled_more : (named : List (List ℕ)) (n : ℕ) (list places new : List ℕ) → list ≡ listed_for named n → eqb (length list) 0 ≡ false → new ≡ places ++ n ∷ [] → places ≡ filter (is_borne named) (numbers n 0)
    → new ≡ filter (is_borne named) (numbers (n + 1) 0)
filled_more named n list places new is some made so =
    made ∙ ap (λ z. z ++ n ∷ []) so ∙ sym (filled_step named n ∙ ap (λ b. filter (is_borne named) (numbers n 0) ++ cond (not b) (n ∷ []) []) (ap (λ z. eqb (length z) 0) (sym is) ∙ some))

-- each of these places has an item
pub filled_at : (named : List (List ℕ)) (j : ℕ) → j < length (filled_places named) → (get_or (filled_places named) j 0 < length named) × (0 < length (listed_for named (get_or (filled_places named) j 0)))
filled_at named j l =
    let w = filter_cases (is_borne named) (numbers (length named) 0) (get_or (filled_places named) j 0) (In_at (filled_places named) j 0 l) in
    let within = number_below (length named) (get_or (filled_places named) j 0) w.0 in
    (within, some (length (listed_for named (get_or (filled_places named) j 0))) w.1)
  where
    some : (n : ℕ) → not (eqb n 0) ≡ true → 0 < n
    some zero e = absurd (both_ways false refl e)
    some (suc n) e = omega arith

pub places_within : (named : List (List ℕ)) (places : List ℕ) (n : ℕ) → places ≡ filled_places named → length named ≡ n → (j : ℕ) → j < length places → get_or places j 0 < n
places_within named places n is long j l =
    subst (λ z. get_or z j 0 < n) (sym is) (subst (λ z. get_or (filled_places named) j 0 < z) long (filled_at named j (subst (λ z. j < length z) is l)).0)

-- some of the names with their kinds stand among all
pub names_among : (names : List (List ℕ)) (of places : List ℕ) (made : List (List ℕ)) (kinds : List ℕ) → ((j : ℕ) → j < length places → get_or places j 0 < length names)
    → made ≡ map (listed_for names) places → kinds ≡ map (λ i. get_or of i 0) places → AreAmong names of made kinds
names_among names of places made kinds within is at j l =
    let m : j < length places = subst (λ z. j < z) (ap length is ∙ length-map places (listed_for names)) l in
    (get_or places j 0, within j m, ap (λ z. listed_for z j) is ∙ get_or-map (listed_for names) places j 0 [] m, ap (λ z. get_or z j 0) at ∙ get_or-map (λ i. get_or of i 0) places j 0 0 m)

-- the class of one package alone
pub one_class : (class_of chosen image : List ℕ) → length chosen ≡ 1 → image ≡ get_or class_of (get_or chosen 0 0) 0 ∷ [] → AreClasses class_of chosen image
one_class class_of [] image l e = absurd (let k : 0 ≡ 1 = l in omega arith)
one_class class_of (n ∷ []) image l e = subst (AreClasses class_of (n ∷ [])) (sym e) (record { ascending = ((λ y i. absurd (In_none i)), tt); same = λ k. ((λ i. i), (λ i. i)) })
one_class class_of (n ∷ (m ∷ ns)) image l e = absurd (let k : suc (suc (length ns)) ≡ 1 = l in omega arith)

-- the classes of the packages that bear names, in the kernel of some packages
module _ (limit : ℕ) (hold : Bool) (home : Home) (stanzas : List PackageFacts) where
  abbrev R : Repository
  R = suite_repository home stanzas

  abbrev chosen : List ℕ → List ℕ
  chosen name = packages_named stanzas (any_version name)

  abbrev image : List ℕ → List ℕ
  image name = image_of limit hold home stanzas (any_version name)

  chosen_within : (name : List ℕ) (n : ℕ) → In n (chosen name) → n < length R.clauses
  chosen_within name n i = subst (λ size. n < size) (sym (length_clauses home stanzas)) (named_inside stanzas (any_version name) n i)

  image_within : (name : List ℕ) (k : ℕ) → In k (image name) → k < length (kernel limit hold R).clauses
  image_within name k i =
      number_below (length (kernel limit hold R).clauses) k (filter_cases (kernel_image limit hold R (has (chosen name))) (packages (kernel limit hold R)) k i).0

  -- a name has a class exactly if a package bears it
  image_borne : (name : List ℕ) → not (eqb (length (image name)) 0) ≡ stands_in stanzas name
  image_borne name = by (stands_in stanzas name) refl
    where
      up_again : (b : Bool) → not b ≡ false → b ≡ true
      up_again true e = refl
      up_again false e = absurd (both_ways true e refl)

      nobody : stands_in stanzas name ≡ false → eqb (length (chosen name)) 0 ≡ true
      nobody h = up_again (eqb (length (chosen name)) 0) (sym (stands_where stanzas name) ∙ h)

      by : (b : Bool) → stands_in stanzas name ≡ b → not (eqb (length (image name)) 0) ≡ stands_in stanzas name
      by true h =
          let w = bearer_of stanzas name h in
          let some : 0 < length (image name) = image_filled limit hold home stanzas (chosen name) (λ n i. named_inside stanzas (any_version name) n i) (filled (chosen name) w.0 w.1) in
          ap not (ne_eqb (length (image name)) 0 (λ e. absurd (omega (arith, some, e)))) ∙ sym h
      by false h =
          ap not (none_in (image name) (λ k. has_not (image name) k (λ i.
          let w = classes_parts limit hold R (suite_sound home stanzas) (chosen name) (chosen_within name) k i in
          both_ways (eqb (length (chosen name)) 0) (ne_eqb (length (chosen name)) 0 (λ e. let some : 0 < length (chosen name) = filled (chosen name) w.0 w.1 in absurd (omega (arith, some, e))))
          (nobody h)))) ∙ sym h

  -- the names at the places that have a class are those that stand in the packages
  pub names_borne : (names classes : List (List ℕ)) → classes ≡ bearer_classes limit hold home stanzas names → map (listed_for names) (filled_places classes) ≡ filter (stands_in stanzas) names
  names_borne names classes is =
      ap (map (listed_for names))
      (filter_same (is_borne classes) (λ i. stands_in stanzas (listed_for names i)) (numbers (length classes) 0)
      (λ i j. let l : i < length classes = number_below (length classes) i j in same i (subst (λ z. i < z) long l)) ∙ ap (λ n. filter (λ i. stands_in stanzas (listed_for names i)) (numbers n 0)) long)
      ∙ kept_at (stands_in stanzas) (listed_for names) 0 names (λ i l. ap (listed_for names) (omega arith))
    where
      long : length classes ≡ length names
      long = ap length is ∙ length-map names image

      same : (i : ℕ) → i < length names → is_borne classes i ≡ stands_in stanzas (listed_for names i)
      same i l = ap (λ z. not (eqb (length (listed_for z i)) 0)) is ∙ ap (λ z. not (eqb (length z) 0)) (get_or-map image names i [] [] l) ∙ image_borne (listed_for names i)

  -- what is made of such classes at some places
  pub images_at : (names classes : List (List ℕ)) (places : List ℕ) → classes ≡ bearer_classes limit hold home stanzas names → ((i : ℕ) → i < length places → get_or places i 0 < length names)
      → map (listed_for classes) places ≡ bearer_classes limit hold home stanzas (map (listed_for names) places)
  images_at names classes places is within =
      same_items (map (listed_for classes) places) (map image (map (listed_for names) places)) (length-map places (listed_for classes) ∙ sym (length-map (map (listed_for names) places) image ∙ length-map places (listed_for names))) (λ i l.
      let m : i < length places = subst (λ z. i < z) (length-map places (listed_for classes)) l in
      get_or-map (listed_for classes) places i 0 [] m ∙ ap (λ z. listed_for z (get_or places i 0)) is ∙ get_or-map image names (get_or places i 0) [] [] (within i m)
      ∙ sym (get_or-map image (map (listed_for names) places) i [] [] (subst (λ z. i < z) (sym (length-map places (listed_for names))) m) ∙ ap image (get_or-map (listed_for names) places i 0 [] m)))

  -- they are made of a table of the classes
  pub images_are : (table : List ℕ) → table ≡ map (kernel_class limit hold R) (packages R) → (names made : List (List ℕ)) → AreEach (λ i classes. AreClasses table (chosen (listed_for names i)) classes) [] (length names) made
      → made ≡ bearer_classes limit hold home stanzas names
  images_are table told names made each = same_items made (map image names) (each.long ∙ sym (length-map names image)) (λ i l.
      let m : i < length names = subst (λ z. i < z) each.long l in
      let so : AreClasses table (chosen (listed_for names i)) (listed_for made i) = each.each i m in
      image_made limit hold R (suite_sound home stanzas) table (chosen (listed_for names i)) told (chosen_within (listed_for names i))
      (map (λ n. get_or table n 0) (chosen (listed_for names i))) (listed_for made i) refl so.ascending so.same
      ∙ sym (get_or-map image names i [] [] m))

  -- they fit to the kernel
  pub images_fit : (lent : LentBook) (names classes : List (List ℕ)) → IsLentKernel lent limit hold R → classes ≡ bearer_classes limit hold home stanzas names → NeedsFit (length lent.book.now.rows) classes
  images_fit lent names classes is are c i k j =
      let w : (name : List ℕ) × In name names × (c ≡ image name) = In_map_cases image names c (subst (λ z. In c z) are i) in
      subst (λ z. k < z) (sym (ap (λ R. length R.clauses) is) ∙ rows_long lent.pool.now lent.book.now.rows) (image_within w.0 k (subst (λ z. In k z) w.2 j))

  pub classes_fit : (lent : LentBook) (names classes : List (List ℕ)) → IsLentKernel lent limit hold R → classes ≡ bearer_classes limit hold home stanzas names → FitsKernel lent classes
  classes_fit lent names classes is are = record {
    ascending = λ c i. let w : (name : List ℕ) × In name names × (c ≡ image name) = In_map_cases image names c (subst (λ z. In c z) are i) in
        subst Ascending (sym w.2) (classes_ascending limit hold R (chosen w.0));
    within = images_fit lent names classes is are;
  }

  -- they are needs, if each name stands in the packages
  pub all_need : (names classes : List (List ℕ)) → classes ≡ bearer_classes limit hold home stanzas names → ((name : List ℕ) → In name names → stands_in stanzas name ≡ true) → AreNeeds classes
  all_need names classes are stand c i =
      let w : (name : List ℕ) × In name names × (c ≡ image name) = In_map_cases image names c (subst (λ z. In c z) are i) in
      let v = bearer_of stanzas w.0 (stand w.0 w.1) in
      record {
        ascending = subst Ascending (sym w.2) (classes_ascending limit hold R (chosen w.0));
        filled = subst (λ z. 0 < length z) (sym w.2) (image_filled limit hold home stanzas (chosen w.0) (λ n j. named_inside stanzas (any_version w.0) n j) (filled (chosen w.0) v.0 v.1));
      }

  -- each of the packages that bear names has a class
  pub bearers_known : (table : List ℕ) → table ≡ map (kernel_class limit hold R) (packages R) → (names named : List (List ℕ)) → named ≡ bearers_of stanzas names → (list : List ℕ) → In list named → (n : ℕ) → In n list → n < length table
  bearers_known table told names named borne list i n j =
      let w = In_map_cases (λ name. packages_named stanzas (any_version name)) names list (subst (λ z. In list z) borne i) in
      subst (λ z. n < z) (sym (table_of limit hold home stanzas table told)) (named_inside stanzas (any_version w.0) n (subst (λ z. In n z) w.2 j))

  -- the classes of lists of bearers are those of the names
  pub bearers_each : (table : List ℕ) → table ≡ map (kernel_class limit hold R) (packages R) → (names named made : List (List ℕ)) → named ≡ bearers_of stanzas names
      → AreEach (λ i classes. AreClasses table (listed_for named i) classes) [] (length named) made → made ≡ bearer_classes limit hold home stanzas names
  bearers_each table told names named made borne each =
      let long : length named ≡ length names = bearers_count stanzas names named borne in
      images_are table told names made (record {
        long = each.long ∙ long;
        each = λ i l. subst (λ z. AreClasses table z (listed_for made i)) (ap (λ z. listed_for z i) borne ∙ get_or-map (λ name. packages_named stanzas (any_version name)) names i [] [] l)
            (each.each i (subst (λ z. i < z) (sym long) l));
      })

-- lists that have an item, at their places
pub lists_need : (classes lists : List (List ℕ)) (places : List ℕ) → places ≡ filled_places classes → lists ≡ map (listed_for classes) places → ((c : List ℕ) → In c classes → Ascending c) → AreNeeds lists
lists_need classes lists places is are ascend c i =
    let w : (k : ℕ) × In k places × (c ≡ listed_for classes k) = In_map_cases (listed_for classes) places c (subst (λ z. In c z) are i) in
    let p = In_place places w.0 0 w.1 in
    let f = filled_at classes p.0 (subst (λ z. p.0 < length z) is p.1) in
    let e : get_or (filled_places classes) p.0 0 ≡ w.0 = ap (λ z. get_or z p.0 0) (sym is) ∙ p.2 in
    record {
      ascending = subst Ascending (sym w.2) (ascend (listed_for classes w.0) (In_at classes w.0 [] (subst (λ z. z < length classes) e f.0)));
      filled = subst (λ z. 0 < length z) (sym w.2) (subst (λ z. 0 < length (listed_for classes z)) e f.1);
    }

pub lists_fit : (size : ℕ) (classes lists : List (List ℕ)) (places : List ℕ) → places ≡ filled_places classes → lists ≡ map (listed_for classes) places → ((c : List ℕ) → In c classes → (k : ℕ) → In k c → k < size) → NeedsFit size lists
lists_fit size classes lists places is are within c i k j =
    let w : (k : ℕ) × In k places × (c ≡ listed_for classes k) = In_map_cases (listed_for classes) places c (subst (λ z. In c z) are i) in
    let p = In_place places w.0 0 w.1 in
    let f = filled_at classes p.0 (subst (λ z. p.0 < length z) is p.1) in
    let e : get_or (filled_places classes) p.0 0 ≡ w.0 = ap (λ z. get_or z p.0 0) (sym is) ∙ p.2 in
    within (listed_for classes w.0) (In_at classes w.0 [] (subst (λ z. z < length classes) e f.0)) k (subst (λ z. In k z) w.2 j)
