-- Every mix of names that differ is an index without a fault.
use Rattle.std.proofs.Common.{◌≡◌, ℕ, ◌+◌, ◌≤◌, Bool, true, false, cond, List, [], ◌∷◌, ◌++◌, length, map, Option, Some, None, refl, sym, ap, ◌∙◌, subst, inl}
use Rattle.std.proofs.{Common.{inr, arith, length-append}, lemmas.Bool.{false≢true}, lemmas.List.{append-nil, length-map, map-append}}
use Rattle.std.proofs.lemmas.Slice.Eq.{bytes_eq-Decides}
use Rattle.std.specs.{Prelude.{not, ◌&&◌, filter, count_by, if◌then◌else◌}, Option.{option_or}, Ordering.{is_eq}, Str.{bytes_eq}}
use Rattle.repo_model.proofs.Steps.{stanzas_in-ok}
use Rattle.listed.proofs.Lists.{filter_short, filter_le, In_append_cases, In_map_cases, any_cases, any_from, filter_cases}
use Rattle.deb_version.specs.Order.{version_order}
use Rattle.stanza_reader.specs.{Blanking.{picked}, Close.{readings_from}, Lines.{is_line_feed}, Stanzas.{readings}, declared.stanza.RawStanza.{RawStanza}}
use Rattle.stanza_reader.proofs.{BlankLemmas.{map_picked, readings_picked}, PartLemmas.{reads_in_parts, readings-from}}
use Rattle.relation_fields.specs.declared.packages.PackageFacts.{PackageFacts}
use Rattle.listed.specs.Lists.{In, here, there}
use Rattle.repo_model.specs.{Facts.{facts_of, is_same_package}, FirstFault.{first_fault, home_of, own_fault, stanzas_in, stanzas_of}, Limits.{most_packages}}
use Rattle.suite_compare.specs.Refusals.{packages_in}
use Rattle.migrate_plan.specs.{Differing.{differing}, Mix.{is_left, is_taken, mix, only_names}, Promises.{MixesAreIndexes}, Refusals.{are_apart, plan_refusal}}
use Rattle.migrate_plan.proofs.Faultless.{Apart, AreOthers, IsAt, Sound, at_longer, faultless, fit_of, reads_fine, sound_of}
use Rattle.migrate_plan.proofs.{Joined.{two_feeds_close, two_feeds_read}, LaterFields.{architecture_later, name_later, own_later, version_later}}
use Rattle.migrate_plan.proofs.{Refusing.{is_free}, Shifted.{later_stanza, ok_of, readings_later}}

-- the stanzas whose names pass a test
abbrev pub named : (List ℕ → Bool) → List RawStanza → List RawStanza
named test stanzas = filter (λ stanza. test (facts_of stanza).name) stanzas

picked_named : (test : List ℕ → Bool) (stanzas : List RawStanza) → picked (map (λ facts. test facts.name) (map facts_of stanzas)) stanzas ≡ named test stanzas
picked_named test [] = refl
picked_named test (stanza ∷ more) = by (test (facts_of stanza).name) (picked_named test more)
  where
    by : (b : Bool) → picked (map (λ facts. test facts.name) (map facts_of more)) more ≡ named test more
        → (if b then stanza ∷ picked (map (λ facts. test facts.name) (map facts_of more)) more else picked (map (λ facts. test facts.name) (map facts_of more)) more) ≡ cond b (stanza ∷ named test more) (named test more)
    by true later = ap (λ others. stanza ∷ others) later
    by false later = later

-- what an index reads as where only the stanzas stay whose names pass a test
only_read : (test : List ℕ → Bool) (text : List ℕ) → first_fault text ≡ None → readings (only_names test text) ≡ map ok_of (named test (stanzas_of text))
only_read test text fine =
    let flags : List Bool = map (λ facts. test facts.name) (packages_in text) in
    readings_picked flags text ∙ ap (picked flags) (reads_fine text fine).are ∙ sym (map_picked ok_of flags (stanzas_of text)) ∙ ap (map ok_of) (picked_named test (stanzas_of text))

-- the front of a mix, with the two line feeds
abbrev pub front_of : List ℕ → List (List ℕ) → List ℕ
front_of old taken = only_names (is_left taken) old ++ (10 ∷ (10 ∷ []))

-- the stanzas of a mix: those of the old index whose names are not taken, and those of the new one whose names are, with
-- their lines counted on
unfoldable pub mixed : List ℕ → List ℕ → List (List ℕ) → List RawStanza
mixed old new taken = named (is_left taken) (stanzas_of old) ++ map (later_stanza (count_by is_line_feed (front_of old taken))) (named (is_taken taken) (stanzas_of new))

pub mix_reads : (old new : List ℕ) (taken : List (List ℕ)) → first_fault old ≡ None → first_fault new ≡ None → readings (mix old new taken) ≡ map ok_of (mixed old new taken)
unfolding mix mixed
mix_reads old new taken old_fine new_fine =
    let front : List ℕ = front_of old taken in
    let rest : List ℕ = only_names (is_taken taken) new in
    let more : ℕ = count_by is_line_feed front in
    let left : List RawStanza = named (is_left taken) (stanzas_of old) in
    let kept : List RawStanza = named (is_taken taken) (stanzas_of new) in
    let first : readings_from 1 front ≡ map ok_of left = two_feeds_read 1 (only_names (is_left taken) old) ∙ sym (readings-from (only_names (is_left taken) old)) ∙ only_read (is_left taken) old old_fine in
    let second : readings_from (1 + more) rest ≡ map ok_of (map (later_stanza more) kept) =
    readings_later more 1 rest kept (sym (readings-from rest) ∙ only_read (is_taken taken) new new_fine) in
    readings-from (front ++ rest) ∙ reads_in_parts 1 front rest (two_feeds_close (only_names (is_left taken) old))
    ∙ ap (λ all. all ++ readings_from (1 + more) rest) first ∙ ap (λ all. map ok_of left ++ all) second ∙ sym (map-append ok_of left (map (later_stanza more) kept))

apart_named : (test : List ℕ → Bool) (stanzas : List RawStanza) → Apart stanzas → Apart (named test stanzas)
apart_named test [] a = tt
apart_named test (stanza ∷ more) a = by (test (facts_of stanza).name) (apart_named test more a.1)
  where
    by : (b : Bool) → Apart (named test more) → Apart (cond b (stanza ∷ named test more) (named test more))
    by true later = ((λ t i. a.0 t (filter_cases (λ s. test (facts_of s).name) more t i).0), later)
    by false later = later

same_by : (one other : PackageFacts) (one' other' : PackageFacts) → one'.name ≡ one.name → one'.version ≡ one.version → other'.name ≡ other.name → other'.version ≡ other.version
    → is_same_package one' other' ≡ is_same_package one other
same_by one other one' other' n v m w =
    ap (λ z. bytes_eq z other'.name && is_eq (version_order one'.version other'.version)) n
    ∙ ap (λ z. bytes_eq one.name other'.name && is_eq (version_order z other'.version)) v
    ∙ ap (λ z. bytes_eq one.name z && is_eq (version_order one.version other'.version)) m
    ∙ ap (λ z. bytes_eq one.name other.name && is_eq (version_order one.version z)) w

others_later : (more : ℕ) (one other : RawStanza) → AreOthers one other → AreOthers (later_stanza more one) (later_stanza more other)
others_later more one other h =
    same_by (facts_of other) (facts_of one) (facts_of (later_stanza more other)) (facts_of (later_stanza more one))
    (name_later more other) (version_later more other) (name_later more one) (version_later more one) ∙ h

apart_later : (more : ℕ) (stanzas : List RawStanza) → Apart stanzas → Apart (map (later_stanza more) stanzas)
apart_later more [] a = tt
apart_later more (stanza ∷ rest) a = (
  (λ t i. let w = In_map_cases (later_stanza more) rest t i in subst (λ u. AreOthers (later_stanza more stanza) u) (sym w.2) (others_later more stanza w.0 (a.0 w.0 w.1))),
  apart_later more rest a.1,
)

apart_join : (xs ys : List RawStanza) → Apart xs → Apart ys → ((x y : RawStanza) → In x xs → In y ys → AreOthers x y) → Apart (xs ++ ys)
apart_join [] ys a b cross = b
apart_join (x ∷ xs) ys a b cross = (
  (λ t i. elim (In_append_cases xs ys t i) [ inl j ↦ a.0 t j | inr j ↦ cross x t here j ]),
  apart_join xs ys a.1 b (λ u v i j. cross u v (there i) j),
)

-- stanzas of which one name is taken and the other is left are not of the same package
left_and_taken : (taken : List (List ℕ)) (one other : PackageFacts) → is_left taken one.name ≡ true → is_taken taken other.name ≡ true → is_same_package other one ≡ false
left_and_taken taken one other left kept = by (bytes_eq other.name one.name) refl
  where
    by : (b : Bool) → bytes_eq other.name one.name ≡ b → (b && is_eq (version_order other.version one.version)) ≡ false
    by false is = refl
    by true is =
        let same : other.name ≡ one.name = (bytes_eq-Decides other.name one.name).0 is in
        let both : is_taken taken one.name ≡ true = subst (λ name. is_taken taken name ≡ true) same kept in
        let never : false ≡ true = ap not (sym both) ∙ left in
        absurd (false≢true never)

at_later : (more : ℕ) (home : Option (List ℕ)) (stanza : RawStanza) → IsAt home stanza → IsAt home (later_stanza more stanza)
at_later more home stanza h = elim h [ inl e ↦ inl (architecture_later more stanza ∙ e) | inr e ↦ inr (architecture_later more stanza ∙ e) ]

at_either : (one other : Option (List ℕ)) (stanza : RawStanza) → are_apart one other ≡ false → IsAt other stanza → IsAt (option_or one other) stanza
at_either None other stanza e h = h
at_either (Some one) None stanza e h = elim h [ inl none ↦ inl none | inr none ↦ inl none ]
at_either (Some one) (Some other) stanza e h = elim h [ inl none ↦ inl none | inr is ↦ inr (is ∙ ap Some (same (bytes_eq one other) refl e)) ]
  where
    same : (b : Bool) → bytes_eq one other ≡ b → not b ≡ false → other ≡ one
    same true is f = sym ((bytes_eq-Decides one other).0 is)
    same false is f = absurd (false≢true (sym f))

named_length : (test : List ℕ → Bool) (stanzas : List RawStanza) → length (filter (λ facts. test facts.name) (map facts_of stanzas)) ≡ length (named test stanzas)
named_length test [] = refl
named_length test (stanza ∷ more) = by (test (facts_of stanza).name) (named_length test more)
  where
    by : (b : Bool) → length (filter (λ facts. test facts.name) (map facts_of more)) ≡ length (named test more)
        → length (cond b (facts_of stanza ∷ filter (λ facts. test facts.name) (map facts_of more)) (filter (λ facts. test facts.name) (map facts_of more))) ≡ length (cond b (stanza ∷ named test more) (named test more))
    by true h = omega arith
    by false h = h

pub taken_within : (some all : List (List ℕ)) → ((name : List ℕ) → In name some → In name all) → (name : List ℕ) → is_taken some name ≡ true → is_taken all name ≡ true
taken_within some all inside name h = let w = any_cases (bytes_eq name) some h in any_from (bytes_eq name) all w.0 (inside w.0 w.1) w.2

module _ (old new : List ℕ) (taken : List (List ℕ)) (old_fine : first_fault old ≡ None) (new_fine : first_fault new ≡ None) where
  abbrev left : List RawStanza
  left = named (is_left taken) (stanzas_of old)

  abbrev kept : List RawStanza
  kept = named (is_taken taken) (stanzas_of new)

  abbrev home : Option (List ℕ)
  home = option_or (home_of (stanzas_of old)) (home_of (stanzas_of new))

  mixed_sound : are_apart (home_of (stanzas_of old)) (home_of (stanzas_of new)) ≡ false → Sound home (mixed old new taken)
  unfolding mixed
  mixed_sound homes =
      let more : ℕ = count_by is_line_feed (front_of old taken) in
      let olds = sound_of (stanzas_of old) (reads_fine old old_fine).fit in
      let news = sound_of (stanzas_of new) (reads_fine new new_fine).fit in
      record {
        own = λ t i. elim (In_append_cases left (map (later_stanza more) kept) t i) [
          | inl j ↦ olds.own t (filter_cases (λ s. is_left taken (facts_of s).name) (stanzas_of old) t j).0
          | inr j ↦ let w = In_map_cases (later_stanza more) kept t j in
              subst (λ u. own_fault u ≡ None) (sym w.2) (own_later more w.0 (news.own w.0 (filter_cases (λ s. is_taken taken (facts_of s).name) (stanzas_of new) w.0 w.1).0))
        ];
        apart = apart_join left (map (later_stanza more) kept) (apart_named (is_left taken) (stanzas_of old) olds.apart) (apart_later more kept (apart_named (is_taken taken) (stanzas_of new) news.apart))
            (λ x y i j.
            let w = In_map_cases (later_stanza more) kept y j in
            let stays : is_taken taken (facts_of w.0).name ≡ true = (filter_cases (λ s. is_taken taken (facts_of s).name) (stanzas_of new) w.0 w.1).1 in
            let same : is_taken taken (facts_of y).name ≡ true = ap (λ u. is_taken taken (facts_of u).name) w.2 ∙ ap (is_taken taken) (name_later more w.0) ∙ stays in
            left_and_taken taken (facts_of x) (facts_of y) (filter_cases (λ s. is_left taken (facts_of s).name) (stanzas_of old) x i).1 same);
        at = λ t i. elim (In_append_cases left (map (later_stanza more) kept) t i) [
          | inl j ↦ at_longer (home_of (stanzas_of old)) (home_of (stanzas_of new)) t (olds.at t (filter_cases (λ s. is_left taken (facts_of s).name) (stanzas_of old) t j).0)
          | inr j ↦ let w = In_map_cases (later_stanza more) kept t j in
              subst (IsAt home) (sym w.2) (at_later more home w.0
              (at_either (home_of (stanzas_of old)) (home_of (stanzas_of new)) w.0 homes (news.at w.0 (filter_cases (λ s. is_taken taken (facts_of s).name) (stanzas_of new) w.0 w.1).0)))
        ];
      }

  mixed_few : (all : List (List ℕ)) → ((name : List ℕ) → In name taken → In name all)
      → length (packages_in old) + length (filter (λ facts. is_taken all facts.name) (packages_in new)) ≤ most_packages → length (mixed old new taken) ≤ most_packages
  unfolding mixed
  mixed_few all inside few =
      let more : ℕ = count_by is_line_feed (front_of old taken) in
      let olds : length left ≤ length (stanzas_of old) = filter_short (λ s. is_left taken (facts_of s).name) (stanzas_of old) in
      let news : length kept ≤ length (named (is_taken all) (stanzas_of new)) =
      filter_le (λ s. is_taken taken (facts_of s).name) (λ s. is_taken all (facts_of s).name) (stanzas_of new) (λ s h. taken_within taken all inside (facts_of s).name h) in
      let size : length (mixed old new taken) ≡ length left + length (map (later_stanza more) kept) = length-append left (map (later_stanza more) kept) in
      let same : length (map (later_stanza more) kept) ≡ length kept = length-map kept (later_stanza more) in
      let counted : length (packages_in old) ≡ length (stanzas_of old) = length-map (stanzas_of old) facts_of in
      let named_all : length (filter (λ facts. is_taken all facts.name) (packages_in new)) ≡ length (named (is_taken all) (stanzas_of new)) = named_length (is_taken all) (stanzas_of new) in
      omega arith

pub mixes_are_indexes : (old new : List ℕ) → first_fault old ≡ None → first_fault new ≡ None → plan_refusal old new ≡ None → MixesAreIndexes old new
mixes_are_indexes old new old_fine new_fine free = λ taken inside.
    let f = is_free old new free in
    let all : List (List ℕ) = differing (packages_in old) (packages_in new) in
    faultless (mix old new taken) (mixed old new taken) (mix_reads old new taken old_fine new_fine)
    (fit_of (option_or (home_of (stanzas_of old)) (home_of (stanzas_of new))) (mixed old new taken)
    (mixed_few old new taken old_fine new_fine all inside f.packages) (mixed_sound old new taken old_fine new_fine f.homes))

-- the stanzas of a mix
pub mix_stanzas : (old new : List ℕ) (taken : List (List ℕ)) → first_fault old ≡ None → first_fault new ≡ None → stanzas_of (mix old new taken) ≡ mixed old new taken
unfolding stanzas_of
mix_stanzas old new taken old_fine new_fine = ap stanzas_in (mix_reads old new taken old_fine new_fine) ∙ stanzas_in-ok (mixed old new taken)

named_all : (stanzas : List RawStanza) → named (is_left []) stanzas ≡ stanzas
named_all [] = refl
named_all (stanza ∷ more) = ap (λ rest. stanza ∷ rest) (named_all more)

named_none : (stanzas : List RawStanza) → named (is_taken []) stanzas ≡ []
named_none [] = refl
named_none (stanza ∷ more) = named_none more

-- a mix without a name has the stanzas of the old index
pub mix_of_none : (old new : List ℕ) → first_fault old ≡ None → first_fault new ≡ None → stanzas_of (mix old new []) ≡ stanzas_of old
unfolding mixed
mix_of_none old new old_fine new_fine =
    let more : ℕ = count_by is_line_feed (front_of old []) in
    mix_stanzas old new [] old_fine new_fine
    ∙ ap (λ olds. olds ++ map (later_stanza more) (named (is_taken []) (stanzas_of new))) (named_all (stanzas_of old))
    ∙ ap (λ news. stanzas_of old ++ map (later_stanza more) news) (named_none (stanzas_of new)) ∙ append-nil (stanzas_of old)
