-- Names that differ, and mixes, as the code has them.
use Rattle.std.proofs.Common.{◌≡◌, Bool, true, not, List, [], ◌∷◌, ◌++◌, filter, map, None, refl, sym, ap, ap₂, subst, ◌∙◌, inl, inr}
use Rattle.std.proofs.lemmas.Bool.{and_from, and_parts, cases_Bool}
use Rattle.std.specs.{Cmp.Lexicographic.{pointwise}, List.{AllZip}, Str.{bytes_eq}}
use Rattle.clause_pool.specs.Lists.{InOrder}
use Rattle.clause_pool.proofs.Order.{order_filter, ordered_has, ordered_order}
use Rattle.coinst_words.specs.Usage.{Text}
use Rattle.suite_compare.specs.{Indexes.{SearchedIndex, searched}, Refusals.{home_in, packages_in}}
use Rattle.listed.specs.Lists.{In, here, there}
use Rattle.listed.proofs.Lists.{In_append_left, In_append_right, In_map, filter_cases, filter_from, same_bytes}
use Rattle.migrate_plan.specs.{Differing.{differing, differs, packages_of_name, says_same}, Laws.{SaysSame}, Mix.{is_left, is_taken, mix, only_names}}
use Rattle.migrate_plan.proofs.Deciding.{test_is_equality}
use Rattle.relation_fields.specs.{declared.packages.Home.{Home}, declared.packages.PackageFacts.{PackageFacts}}
use Rattle.repo_model.specs.{FirstFault.{first_fault}, Goals.{names_in}}
use Rattle.stanza_reader.specs.Blanking.{picked}
use Rattle.claims.specs.{Control.{stanza_groups}, Index.{IndexSays, Says, SaysTheSame}, Laws.{as_read}, Plans.{IsMix, group_name}}
use Rattle.claims.proofs.{Groups.{groups_join, groups_picked, name_of_group, picked_by}, Index.{indexes_are_read}}

-- the name of a package is one of their names
names_has : (packages : List PackageFacts) (name : Text) (it : PackageFacts) → In it packages → it.name ≡ name → In name (names_in packages)
names_has packages name it i e = ordered_has (map (λ (s : PackageFacts). s.name) packages) name (subst (λ n. In n (map (λ (s : PackageFacts). s.name) packages)) e (In_map (λ (s : PackageFacts). s.name) packages it i))

-- packages of one name that say the same
zip_to : (name : Text) (ps qs : List PackageFacts) → ((s : PackageFacts) → In s ps → s.name ≡ name) → ((s : PackageFacts) → In s qs → s.name ≡ name) → pointwise says_same ps qs ≡ true → AllZip SaysTheSame ps qs
zip_to name [] [] f g e = tt
zip_to name [] (q ∷ qs) f g e = absurd (let no : ⊥ = cc in no)
zip_to name (p ∷ ps) [] f g e = absurd (let no : ⊥ = cc in no)
zip_to name (p ∷ ps) (q ∷ qs) f g e =
    let both = and_parts (says_same p q) (pointwise says_same ps qs) e in
    let same : SaysSame p q = (test_is_equality p q).0 both.0 in
    ((f p here ∙ sym (g q here), same.version, same.needs, same.against, same.provides), zip_to name ps qs (λ s i. f s (there i)) (λ s i. g s (there i)) both.1)

zip_from : (ps qs : List PackageFacts) → AllZip SaysTheSame ps qs → pointwise says_same ps qs ≡ true
zip_from [] [] z = refl
zip_from [] (q ∷ qs) z = absurd z
zip_from (p ∷ ps) [] z = absurd z
zip_from (p ∷ ps) (q ∷ qs) z =
    and_from (says_same p q) (pointwise says_same ps qs) ((test_is_equality p q).1 record { version = z.0.1; needs = z.0.2; against = z.0.3; provides = z.0.4 }) (zip_from ps qs z.1)

module _ (old new : List PackageFacts) (name : Text) where
  abbrev olds : List PackageFacts
  olds = packages_of_name old name

  abbrev news : List PackageFacts
  news = packages_of_name new name

  own_name : (all : List PackageFacts) (s : PackageFacts) → In s (packages_of_name all name) → In s all × (s.name ≡ name)
  own_name all s i = let w = filter_cases (λ (facts : PackageFacts). bytes_eq name facts.name) all s i in (w.0, sym (same_bytes name s.name w.1))

  pub differs_to : In name (differing old new) → ¬ (AllZip SaysTheSame olds news)
  unfolding differing differs
  differs_to i z =
      let up : not (pointwise says_same olds news) ≡ true = (filter_cases (differs old new) (names_in (old ++ new)) name i).1 in
      let no : ⊥ = cc (up, zip_from olds news z) in no

  stands : (ps qs : List PackageFacts) → ((s : PackageFacts) → In s ps → In s (old ++ new) × (s.name ≡ name)) → ((s : PackageFacts) → In s qs → In s (old ++ new) × (s.name ≡ name)) → ¬ (AllZip SaysTheSame ps qs) → In name (names_in (old ++ new))
  stands [] [] f g apart = absurd (apart tt)
  stands (p ∷ ps) qs f g apart = let w = f p here in names_has (old ++ new) name p w.0 w.1
  stands [] (q ∷ qs) f g apart = let w = g q here in names_has (old ++ new) name q w.0 w.1

  pub differs_from : ¬ (AllZip SaysTheSame olds news) → In name (differing old new)
  unfolding differing differs
  differs_from apart =
      let all = stands olds news
      (λ s i. let w = own_name old s i in (In_append_left old new s w.0, w.1))
      (λ s i. let w = own_name new s i in (In_append_right old new s w.0, w.1)) apart in
      filter_from (differs old new) (names_in (old ++ new)) name all (elim (cases_Bool (pointwise says_same olds news)) [
        | inl t ↦ absurd (apart (zip_to name olds news (λ s i. (own_name old s i).1) (λ s i. (own_name new s i).1) t))
        | inr f ↦ rw f refl
      ])

pub differing_order : (old new : List PackageFacts) → InOrder (differing old new)
unfolding differing
differing_order old new = order_filter (differs old new) (names_in (old ++ new)) (ordered_order (map (λ (s : PackageFacts). s.name) (old ++ new)))

-- the groups of the packages that stay
flags_same : (home : Home) (test : Text → Bool) (all : List (List Text)) (stanzas : List PackageFacts) → AllZip (Says home) all stanzas → map (λ (facts : PackageFacts). test facts.name) stanzas ≡ map (λ g. test (group_name g)) all
flags_same home test [] [] z = refl
flags_same home test [] (s ∷ ss) z = absurd z
flags_same home test (g ∷ gs) [] z = absurd z
flags_same home test (g ∷ gs) (s ∷ ss) z = ap₂ (λ b bs. b ∷ bs) (ap test (sym (name_of_group home g s z.0))) (flags_same home test gs ss z.1)

only_groups : (test : Text → Bool) (text : Text) → first_fault text ≡ None → stanza_groups (only_names test text) ≡ filter (λ g. test (group_name g)) (stanza_groups text)
only_groups test text fine =
    let index : IndexSays text (home_in text) (packages_in text) = indexes_are_read text fine in
    groups_picked (map (λ facts. test facts.name) (packages_in text)) text
    ∙ ap (λ flags. picked flags (stanza_groups text)) (flags_same (home_in text) test (stanza_groups text) (packages_in text) index.each)
    ∙ picked_by (λ g. test (group_name g)) (stanza_groups text)

pub mix_is : (old new : SearchedIndex) (taken : List Text) → first_fault old.text ≡ None → first_fault new.text ≡ None → first_fault (mix old.text new.text taken) ≡ None
    → IsMix (as_read old) (as_read new) taken (searched (mix old.text new.text taken) old.budget old.limit old.hold)
unfolding mix
mix_is old new taken old_fine new_fine fine = record {
  groups = groups_join (only_names (is_left taken) old.text) (only_names (is_taken taken) new.text) ∙ ap₂ (λ xs ys. xs ++ ys) (only_groups (is_left taken) old.text old_fine) (only_groups (is_taken taken) new.text new_fine);
  index = indexes_are_read (mix old.text new.text taken) fine;
  searched = (refl, refl, refl);
}
