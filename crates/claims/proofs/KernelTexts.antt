-- What the text of the kernel of an index is, and which classes goals name in it.
use Rattle.suite_compare.specs.{Indexes.{SearchedIndex}, Asking.{image_of, images_of}}
use Rattle.std.proofs.Common.{◌≡◌, ℕ, ◌+◌, ◌<◌, ◌≤◌, Bool, true, false, ◌&&◌, eqb, eqb-true, eq-eqb, List, [], ◌∷◌, length, map, Some, filter, slice_index_or}
use Rattle.std.proofs.{Common.{refl, sym, ap, ap₂, subst, ◌∙◌, arith}, lemmas.{Bool.{and_from, and_parts}, List.FromFn.{length-map-range_with_len}}}
use Rattle.std.specs.{List.{AllZip}, Str.{bytes_eq}}
use Rattle.coinst_words.specs.Usage.{Text}
use Rattle.kernel_text.proofs.StoredReading.{one_reading}
use Rattle.kernel_text.specs.{KernelReads.{KernelReads}, KernelText.{format_of, members_of}, declared.member.Member.{Member}}
use Rattle.listed.specs.Lists.{In, has}
use Rattle.listed.proofs.Lists.{In_flat_cases, In_has, any_cases, any_from, filter_cases, filter_from, has_In, same_bytes}
use Rattle.listed.proofs.Orders.{ascending_filter, ascending_same}
use Rattle.relation_fields.specs.declared.packages.PackageFacts.{PackageFacts}
use Rattle.repo_model.specs.{declared.goals.Goal.{Goal}, Goals.{goal_of, is_named_by, packages_named}, Repository.{packages_of, suite_repository}}
use Rattle.repo_model.specs.Stanzas.{stanza_at}
use Rattle.repo_model.proofs.{Elements.{range_cases, range_from}, SoundSuite.{suite_sound}}
use Rattle.row_book.specs.{Flattening.{held_of, packages}, Numbers.{numbers}, Repository.{Repository}, Rounds.{kernel, kernel_image}, Sets.{Is, NumSet}}
use Rattle.row_book.proofs.Numbers.{numbers_ascending, numbers_from, numbers_parts}
use Rattle.search_terms.specs.{declared.literals.Literal.{Literal}, Form.{form}}
use Rattle.suite_compare.proofs.Deciding.{named_from}
use Rattle.claims.specs.{Certificates.{AreAsked, AreClassesFor}, Classes.{classes_of, is_in_class, IsOneOf}, Goals.{NamesPackage}, Settled.{IsKernelText}}
use Rattle.claims.proofs.{Goals.{AreGoals, names_from, names_to}, Kernel.{kernels_are_kernels, kernels_are_one}, Members.{people_are, text_same}}

first_same : (X Y : NumSet) → X ∷ [] ≡ Y ∷ [] → (n : ℕ) → X n ≡ Y n
first_same X Y e n = ap (λ (sets : List NumSet). slice_index_or sets 0 (λ m. false) n) e

-- a member is of one of the classes
pub member_below : (text : Text) (format : ℕ) (R : Repository) (members : List Member) (held : List ℕ) → KernelReads text format R members held → (m : Member) → In m members → m.class < length R.clauses
member_below text format R members held stands m i =
    let size : ℕ = length R.clauses in
    let w : (n : ℕ) × In n (numbers size 0) × In m (members_of members n) = In_flat_cases (members_of members) (numbers size 0) m (subst (λ ms. In m ms) stands.writable.by_class i) in
    let same : m.class ≡ w.0 = eqb-true m.class w.0 (filter_cases (λ (o : Member). eqb o.class w.0) members m w.2).1 in
    let p : (0 ≤ w.0) × (w.0 < 0 + size) = numbers_parts size 0 w.0 w.1 in
    omega (arith, same, p.1)

-- each stanza has a class
pub each_classed : (class : ℕ → ℕ) (stanzas : List PackageFacts) → length (map class (packages_of stanzas)) ≡ length stanzas
each_classed class stanzas = length-map-range_with_len class 0 (length stanzas)

-- the line of a member
abbrev is_line_of : PackageFacts → Member → Bool
is_line_of s m = bytes_eq m.name s.name && bytes_eq m.version s.version

module _ (s : SearchedIndex) (text : Text) (k : IsKernelText s text) where
  abbrev R : Repository
  R = suite_repository s.home s.stanzas

  abbrev K : Repository
  K = kernel s.limit s.hold R

  -- its repository is the kernel, and its classes of a set are the image
  both_are : (S : NumSet) → ((n : ℕ) → Is S n → n < length s.stanzas) → (k.repository ≡ K) × (classes_of s.stanzas k.members S ∷ [] ≡ kernel_image s.limit s.hold R S ∷ [])
  both_are S inside =
      kernels_are_one s.limit s.hold R (S ∷ []) k.repository K (classes_of s.stanzas k.members S ∷ []) (kernel_image s.limit s.hold R S ∷ []) (k.rounds_lead_here S inside)
      (kernels_are_kernels s.limit s.hold R (S ∷ []) (suite_sound s.home s.stanzas))

  pub repository_is : k.repository ≡ K
  repository_is = (both_are (λ n. false) (λ n h. absurd (let no : ⊥ = cc in no))).0

  pub image_is : (S : NumSet) → ((n : ℕ) → Is S n → n < length s.stanzas) → (n : ℕ) → classes_of s.stanzas k.members S n ≡ kernel_image s.limit s.hold R S n
  image_is S inside = first_same (classes_of s.stanzas k.members S) (kernel_image s.limit s.hold R S) (both_are S inside).1

  -- its members are packages of the index
  pub people : (m : Member) → In m k.members → IsOneOf s.stanzas m
  people m i = people_are s.stanzas (map k.class (packages_of s.stanzas)) (each_classed k.class s.stanzas) (length k.repository.clauses) m (subst (λ ms. In m ms) k.members_in_order i)

  -- the classes that a goal names
  module _ (word : Text) (goal : Goal) (is : goal_of word ≡ Some goal) where
    abbrev wanted : NumSet
    wanted = has (packages_named s.stanzas goal)

    abbrev image : NumSet
    image = kernel_image s.limit s.hold R wanted

    wanted_parts : (n : ℕ) → wanted n ≡ true → (n < length s.stanzas) × (is_named_by goal (stanza_at s.stanzas n) ≡ true)
    wanted_parts n h =
        let w = filter_cases (λ m. is_named_by goal (stanza_at s.stanzas m)) (packages_of s.stanzas) n (has_In (packages_named s.stanzas goal) n h) in
        let p : (0 ≤ n) × (n < 0 + length s.stanzas) = range_cases (length s.stanzas) 0 n w.0 in
        (omega (arith, p.1), w.1)

    inside : (n : ℕ) → Is wanted n → n < length s.stanzas
    inside n h = (wanted_parts n h).0

    abbrev IsClassFor : ℕ → Type 0
    IsClassFor n = (m : Member) × In m k.members × (m.class ≡ n) × NamesPackage word m.name m.version

    class_to : (n : ℕ) → In n (filter image (packages K)) → IsClassFor n
    class_to n i =
        let up : image n ≡ true = (filter_cases image (packages K) n i).1 in
        let here : classes_of s.stanzas k.members wanted n ≡ true = image_is wanted inside n ∙ up in
        let w = any_cases (λ j. wanted j && is_in_class k.members (stanza_at s.stanzas j) n) (packages_of s.stanzas) here in
        let p = and_parts (wanted w.0) (is_in_class k.members (stanza_at s.stanzas w.0) n) w.2 in
        let it : PackageFacts = stanza_at s.stanzas w.0 in
        let m = any_cases (is_line_of it) (members_of k.members n) p.1 in
        let of_class = filter_cases (λ (o : Member). eqb o.class n) k.members m.0 m.1 in
        let line = and_parts (bytes_eq (m.0).name it.name) (bytes_eq (m.0).version it.version) m.2 in
        let told : NamesPackage word it.name it.version = names_from word it.name it.version goal is (wanted_parts w.0 p.0).1 in
        let name : NamesPackage word (m.0).name it.version = subst (λ t. NamesPackage word t it.version) (sym (same_bytes (m.0).name it.name line.0)) told in
        (m.0, of_class.0, eqb-true (m.0).class n of_class.1, subst (λ t. NamesPackage word (m.0).name t) (sym (same_bytes (m.0).version it.version line.1)) name)

    class_from : (n : ℕ) → IsClassFor n → In n (filter image (packages K))
    class_from n w =
        let m : Member = w.0 in
        let at = people m w.1 in
        let it : PackageFacts = stanza_at s.stanzas at.0 in
        let meant = names_to word m.name m.version goal (k.reads.writable.named m w.1).0 is w.3 in
        let named : is_named_by goal it ≡ true = rw (at.2, at.3) meant in
        let chosen : wanted at.0 ≡ true = In_has (named_from s.home s.stanzas goal at.0 at.1 named) in
        let line : is_line_of it m ≡ true = and_from (bytes_eq m.name it.name) (bytes_eq m.version it.version) (text_same m.name it.name (sym at.2)) (text_same m.version it.version (sym at.3)) in
        let in_class : is_in_class k.members it n ≡ true
        = any_from (is_line_of it) (members_of k.members n) m (filter_from (λ (o : Member). eqb o.class n) k.members m w.1 (eq-eqb m.class n w.2)) line in
        let here : classes_of s.stanzas k.members wanted n ≡ true =
        any_from (λ j. wanted j && is_in_class k.members (stanza_at s.stanzas j) n) (packages_of s.stanzas) at.0 (range_from (length s.stanzas) 0 at.0 (omega arith) (let l = at.1 in omega (arith, l)))
        (and_from (wanted at.0) (is_in_class k.members it n) chosen in_class) in
        let up : image n ≡ true = sym (image_is wanted inside n) ∙ here in
        let low : m.class < length k.repository.clauses = member_below text (format_of s.hold) k.repository k.members (held_of s.limit s.hold k.repository) k.reads m w.1 in
        let few : n < length K.clauses = subst (λ c. c < length K.clauses) w.2 (subst (λ (r : Repository). m.class < length r.clauses) repository_is low) in
        filter_from image (packages K) n (numbers_from (length K.clauses) 0 n (omega arith) (omega (arith, few))) up

    pub classes_are : AreClassesFor k.members word (image_of s.limit s.hold s.home s.stanzas goal)
    classes_are = (ascending_filter image (packages K) (numbers_ascending (length K.clauses) 0), (λ n. (class_to n, class_from n)))

  pub each_class : (words : List Text) (goals : List Goal) → AreGoals words goals → AllZip (AreClassesFor k.members) words (images_of s.limit s.hold s.home s.stanzas goals)
  each_class [] [] z = tt
  each_class [] (g ∷ gs) z = absurd z
  each_class (w ∷ ws) [] z = absurd z
  each_class (w ∷ ws) (g ∷ gs) z = (classes_are w g z.0, each_class ws gs z.1)

  -- what goals ask of the text is what the search of the index is asked for
  pub asks_this : (words : List Text) (goals : List Goal) → AreGoals words goals → AreAsked text words (form K (images_of s.limit s.hold s.home s.stanzas goals))
  asks_this words goals z = record {
    format = format_of s.hold;
    repository = k.repository;
    members = k.members;
    held = held_of s.limit s.hold k.repository;
    reads = k.reads;
    wanted = images_of s.limit s.hold s.home s.stanzas goals;
    each = each_class words goals z;
    says = ap (λ (r : Repository). form r (images_of s.limit s.hold s.home s.stanzas goals)) (sym repository_is);
  }

-- what goals ask of a text is one formula
classes_one : (members : List Member) (words : List Text) (xs ys : List (List ℕ)) → AllZip (AreClassesFor members) words xs → AllZip (AreClassesFor members) words ys → xs ≡ ys
classes_one members [] [] [] z w = refl
classes_one members [] [] (y ∷ ys) z w = absurd w
classes_one members [] (x ∷ xs) ys z w = absurd z
classes_one members (g ∷ gs) [] ys z w = absurd z
classes_one members (g ∷ gs) (x ∷ xs) [] z w = absurd w
classes_one members (g ∷ gs) (x ∷ xs) (y ∷ ys) z w =
    ap₂ (λ c cs. c ∷ cs) (ascending_same x y z.0.0 w.0.0 (λ k i. (w.0.1 k).1 ((z.0.1 k).0 i)) (λ k i. (z.0.1 k).1 ((w.0.1 k).0 i))) (classes_one members gs xs ys z.1 w.1)

pub asked_is_one : (text : Text) (words : List Text) (first second : List (List Literal)) → AreAsked text words first → AreAsked text words second → first ≡ second
asked_is_one text words first second a b =
    let once = one_reading text a.format b.format a.repository b.repository a.members b.members a.held b.held a.reads b.reads in
    let lists : a.wanted ≡ b.wanted = classes_one b.members words a.wanted b.wanted (subst (λ ms. AllZip (AreClassesFor ms) words a.wanted) once.2 a.each) b.each in
    a.says ∙ ap₂ (λ r w. form r w) once.1 lists ∙ sym b.says
