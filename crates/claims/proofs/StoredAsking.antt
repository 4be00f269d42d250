-- What goals ask of a stored kernel, and that it answers as the index of which it is the kernel.
use Rattle.suite_compare.specs.{Indexes.{SearchedIndex}, Asking.{images_of}, Laws.{CoinstImages}}
use Rattle.std.proofs.Common.{◌≡◌, ℕ, ◌<◌, true, Some, eqb, eqb-true, eq-eqb, List, [], ◌∷◌, length, refl, sym, subst, ◌∙◌, arith}
use Rattle.std.proofs.lemmas.Bool.{and_from, and_parts}
use Rattle.std.specs.List.{AllZip}
use Rattle.coinst_words.specs.Usage.{Text}
use Rattle.kernel_text.specs.{Images.{image_of, is_named_by, is_named_in, names_in_class}, KernelReads.{KernelContent, KernelReads}, KernelText.{format_of}}
use Rattle.kernel_text.specs.{declared.member.Member.{Member}, Serving.{CoinstStored, HasClassFor, ServesStored, images_in}}
use Rattle.kernel_text.proofs.StoredReading.{one_reading}
use Rattle.listed.specs.Lists.{In}
use Rattle.listed.proofs.{Lists.{In_map, In_map_cases, any_cases, any_from, filter_cases, filter_from}, Orders.{ascending_filter}}
use Rattle.repo_model.specs.{declared.goals.Goal.{Goal}, Goals.{goal_of, CoinstGoals}, Repository.{suite_repository}}
use Rattle.row_book.specs.{Flattening.{held_of}, Numbers.{numbers}, Repository.{Healthy}, Rounds.{kernel}, Sets.{Hit, HitsAll, Is, NumSet}}
use Rattle.row_book.proofs.Numbers.{numbers_ascending, numbers_from}
use Rattle.search_terms.specs.Form.{form}
use Rattle.suite_compare.specs.Asking as asking
use Rattle.suite_compare.proofs.Deciding.{kernel_decides}
use Rattle.claims.specs.{Certificates.{AreAsked, AreClassesFor, HasClassOfEach}, Goals.{NamesPackage}, Settled.{IsKernelText}}
use Rattle.claims.proofs.{Goals.{AreGoals, goal_for, names_from, names_to, word_for}, KernelTexts.{classes_are, member_below, repository_is}}

module _ (text : Text) (c : KernelContent) (stands : KernelReads text c.format c.repository c.members c.held) where
  abbrev size : ℕ
  size = length c.repository.clauses

  below : (m : Member) → In m c.members → m.class < size
  below m i = member_below text c.format c.repository c.members c.held stands m i

  module _ (word : Text) (goal : Goal) (is : goal_of word ≡ Some goal) where
    abbrev IsClassFor : ℕ → Type 0
    IsClassFor n = (m : Member) × In m c.members × (m.class ≡ n) × NamesPackage word m.name m.version

    class_to : (n : ℕ) → In n (image_of c.members size goal) → IsClassFor n
    unfolding image_of
    class_to n i =
        let up = (filter_cases (names_in_class c.members goal) (numbers size 0) n i).1 in
        let m = any_cases (is_named_in goal n) c.members up in
        let p = and_parts (eqb n (m.0).class) (is_named_by goal m.0) m.2 in
        (m.0, m.1, sym (eqb-true n (m.0).class p.0), names_from word (m.0).name (m.0).version goal is p.1)

    class_from : (n : ℕ) → IsClassFor n → In n (image_of c.members size goal)
    unfolding image_of
    class_from n w =
        let m : Member = w.0 in
        let named : is_named_by goal m ≡ true = names_to word m.name m.version goal (stands.writable.named m w.1).0 is w.3 in
        let low : m.class < size = below m w.1 in
        let few : n < size = subst (λ k. k < size) w.2 low in
        filter_from (names_in_class c.members goal) (numbers size 0) n (numbers_from size 0 n (omega arith) (omega (arith, few)))
        (any_from (is_named_in goal n) c.members m w.1 (and_from (eqb n m.class) (is_named_by goal m) (eq-eqb n m.class (sym w.2)) named))

    pub stored_classes : AreClassesFor c.members word (image_of c.members size goal)
    unfolding image_of
    stored_classes = (ascending_filter (names_in_class c.members goal) (numbers size 0) (numbers_ascending size 0), (λ n. (class_to n, class_from n)))

  stored_each : (words : List Text) (goals : List Goal) → AreGoals words goals → AllZip (AreClassesFor c.members) words (images_in c goals)
  stored_each [] [] z = tt
  stored_each [] (g ∷ gs) z = absurd z
  stored_each (w ∷ ws) [] z = absurd z
  stored_each (w ∷ ws) (g ∷ gs) z = (stored_classes w g z.0, stored_each ws gs z.1)

  pub stored_asks : (words : List Text) (goals : List Goal) → AreGoals words goals → AreAsked text words (form c.repository (images_in c goals))
  stored_asks words goals z = record { format = c.format; repository = c.repository; members = c.members; held = c.held; reads = stands; wanted = images_in c goals; each = stored_each words goals z; says = refl }

  -- sets of classes that serve goals have one for each word
  module _ (words : List Text) (goals : List Goal) (z : AreGoals words goals) where
    pub classes_from : (set : NumSet) → ServesStored c goals set → HasClassOfEach c.members set words
    classes_from set serves word i =
        let g = goal_for words goals z word i in
        let one : HasClassFor c.members set g.0 = serves.each g.0 g.1 in
        (one.by, one.listed, one.alive, names_from word one.by.name one.by.version g.0 g.2 one.named)

    pub classes_to : (set : NumSet) → Healthy c.repository set → HasClassOfEach c.members set words → ServesStored c goals set
    classes_to set healthy each = record {
      healthy = healthy;
      each = λ goal i.
          let w = word_for words goals z goal i in
          let one = each w.0 w.1 in
          record { by = one.0; listed = one.1; named = names_to w.0 (one.0).name (one.0).version goal (stands.writable.named one.0 one.1).0 w.2 one.3; alive = one.2 };
    }

    -- of the text of the kernel of an index
    module _ (s : SearchedIndex) (k : IsKernelText s text) where
      repository_same : c.repository ≡ kernel s.limit s.hold (suite_repository s.home s.stanzas)
      repository_same = (one_reading text c.format (format_of s.hold) c.repository k.repository c.members k.members c.held (held_of s.limit s.hold k.repository) stands k.reads).1 ∙ repository_is s text k

      members_same : c.members ≡ k.members
      members_same = (one_reading text c.format (format_of s.hold) c.repository k.repository c.members k.members c.held (held_of s.limit s.hold k.repository) stands k.reads).2

      -- classes that serve the goals there hit their classes in the kernel
      hits_from : (set : NumSet) → ServesStored c goals set → HitsAll set (images_of s.limit s.hold s.home s.stanzas goals)
      hits_from set serves d i =
          let g = In_map_cases (asking.image_of s.limit s.hold s.home s.stanzas) goals d i in
          let w = word_for words goals z g.0 g.1 in
          let one : HasClassFor c.members set g.0 = serves.each g.0 g.1 in
          let named : NamesPackage w.0 one.by.name one.by.version = names_from w.0 one.by.name one.by.version g.0 w.2 one.named in
          let at : In one.by.class (asking.image_of s.limit s.hold s.home s.stanzas g.0)
          = ((classes_are s text k w.0 g.0 w.2).1 one.by.class).1 (one.by, subst (λ ms. In one.by ms) members_same one.listed, refl, named) in
          record { by = one.by.class; inside = subst (λ e. In one.by.class e) (sym g.2) at; alive = one.alive }

      pub index_meets : (set : NumSet) → ServesStored c goals set → CoinstGoals s.home s.stanzas goals
      index_meets set serves = (kernel_decides s.limit s.hold s.home s.stanzas goals).1 (set, subst (λ r. Healthy r set) repository_same serves.healthy, hits_from set serves)

      pub stored_meets : CoinstGoals s.home s.stanzas goals → CoinstStored c goals
      stored_meets w =
          let i : CoinstImages s.limit s.hold s.home s.stanzas goals = (kernel_decides s.limit s.hold s.home s.stanzas goals).0 w in
          let healthy : Healthy c.repository i.0 = subst (λ r. Healthy r i.0) (sym repository_same) i.1 in
          record {
            whole = i.0;
            serves = record {
              healthy = healthy;
              each = λ goal j.
                  let v = word_for words goals z goal j in
                  let hit : Hit (Is i.0) (asking.image_of s.limit s.hold s.home s.stanzas goal) = i.2 (asking.image_of s.limit s.hold s.home s.stanzas goal) (In_map (asking.image_of s.limit s.hold s.home s.stanzas) goals goal j) in
                  let m = ((classes_are s text k v.0 goal v.2).1 hit.by).0 hit.inside in
                  record {
                    by = m.0;
                    listed = subst (λ ms. In m.0 ms) (sym members_same) m.1;
                    named = names_to v.0 (m.0).name (m.0).version goal (k.reads.writable.named m.0 m.1).0 v.2 m.3;
                    alive = subst (Is i.0) (sym m.2) hit.alive;
                  };
            };
          }
