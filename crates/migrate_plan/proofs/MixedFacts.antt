-- The packages of a mix are those of both indexes, but for the numbers of their lines; and what they say is asked alike.
use Rattle.std.proofs.Common.{◌≡◌, ℕ, ◌+◌, ◌≤◌, Bool, true, false, cond, List, [], ◌∷◌, ◌++◌, length, map, Option, Some, None, refl, sym, ap, ap₂, subst, ◌∙◌}
use Rattle.std.proofs.{Common.{arith, length-append}, lemmas.List.{map-append}, Math.Path.{fun_ext}}
use Rattle.std.specs.{Prelude.{count_by, filter, is_some, ◌||◌, if◌then◌else◌}, List.{items_where_true}, Option.{option_or}, Str.{bytes_eq}}
use Rattle.stanza_reader.specs.Lines.{is_line_feed}
use Rattle.stanza_reader.specs.declared.stanza.FieldKind.TheVariants.{Breaks, Conflicts, Depends, Package, PreDepends, Provides, Version}
use Rattle.stanza_reader.specs.declared.stanza.RawStanza.{RawStanza}
use Rattle.relation_fields.specs.{Fields.{said_in}, Grammar.{alternatives_of, atom_of, provide_of}, declared.packages.Home.{Home}}
use Rattle.relation_fields.specs.declared.packages.PackageFacts.{PackageFacts}
use Rattle.row_book.specs.Rounds.{kernel, limit_at}
use Rattle.listed.specs.Lists.{In}
use Rattle.listed.proofs.Lists.{filter_le, filter_short}
use Rattle.repo_model.specs.{Facts.{architecture_of, facts_of}, Feeding.{IsSuiteOf}, Fields.{value_of}, FirstFault.{first_fault, home_of, stanzas_of}}
use Rattle.repo_model.specs.{Goals.{names_in}, Laws.{but_line, IgnoresLines}, Limits.{most_packages}, declared.goals.Goal.{Goal}, declared.suite.Suite.{Suite}}
use Rattle.repo_model.proofs.Lines.{lines_ignored}
use Rattle.suite_compare.specs.{Asking.{goal_classes, image_of, images_of, tree_of, verdict_in, verdict_of}, Names.{stands_in}, Refusals.{home_in, packages_in}}
use Rattle.suite_compare.specs.Report.{report}
use Rattle.migrate_plan.specs.{Mix.{is_left, is_taken, mix, mixed_packages}, Plan.{outcome_of, Settings}}
use Rattle.migrate_plan.specs.{Indexes.{AreTexts, Texts, has_arch_dependent, home_where}, Refusals.{packages_with}, Trying.{outcome_by}}
use Rattle.migrate_plan.proofs.{LaterFields.{architecture_later, value_later}, Mixed.{front_of, mix_stanzas, mixed, named, taken_within}, OwnHome.{home_named}}
use Rattle.migrate_plan.proofs.Shifted.{later_stanza}

-- a stanza whose lines are counted on says the same of its package
later_says : (more : ℕ) (stanza : RawStanza) → but_line (facts_of (later_stanza more stanza)) ≡ but_line (facts_of stanza)
unfolding facts_of
later_says more stanza =
    let both : (name version : List ℕ) → Bool → (pre needs conflicts breaks provides : List ℕ) → PackageFacts = λ name version bound pre needs conflicts breaks provides. record {
      line = 0;
      name = name;
      version = version;
      is_arch_dependent = bound;
      needs = said_in alternatives_of pre ++ said_in alternatives_of needs;
      against = said_in atom_of conflicts ++ said_in atom_of breaks;
      provides = said_in provide_of provides;
    } in
    let s : RawStanza = later_stanza more stanza in
    let b : Bool = is_some (architecture_of s) in
    let bound : Bool = is_some (architecture_of stanza) in
    ap (λ z. both z (value_of Version s) b (value_of PreDepends s) (value_of Depends s) (value_of Conflicts s) (value_of Breaks s) (value_of Provides s)) (value_later more Package stanza)
    ∙ ap (λ z. both (value_of Package stanza) z b (value_of PreDepends s) (value_of Depends s) (value_of Conflicts s) (value_of Breaks s) (value_of Provides s)) (value_later more Version stanza)
    ∙ ap (λ z. both (value_of Package stanza) (value_of Version stanza) (is_some z) (value_of PreDepends s) (value_of Depends s) (value_of Conflicts s) (value_of Breaks s) (value_of Provides s)) (architecture_later more stanza)
    ∙ ap (λ z. both (value_of Package stanza) (value_of Version stanza) bound z (value_of Depends s) (value_of Conflicts s) (value_of Breaks s) (value_of Provides s)) (value_later more PreDepends stanza)
    ∙ ap (λ z. both (value_of Package stanza) (value_of Version stanza) bound (value_of PreDepends stanza) z (value_of Conflicts s) (value_of Breaks s) (value_of Provides s)) (value_later more Depends stanza)
    ∙ ap (λ z. both (value_of Package stanza) (value_of Version stanza) bound (value_of PreDepends stanza) (value_of Depends stanza) z (value_of Breaks s) (value_of Provides s)) (value_later more Conflicts stanza)
    ∙ ap (λ z. both (value_of Package stanza) (value_of Version stanza) bound (value_of PreDepends stanza) (value_of Depends stanza) (value_of Conflicts stanza) z (value_of Provides s)) (value_later more Breaks stanza)
    ∙ ap (λ z. both (value_of Package stanza) (value_of Version stanza) bound (value_of PreDepends stanza) (value_of Depends stanza) (value_of Conflicts stanza) (value_of Breaks stanza) z) (value_later more Provides stanza)

all_later : (more : ℕ) (stanzas : List RawStanza) → map but_line (map facts_of (map (later_stanza more) stanzas)) ≡ map but_line (map facts_of stanzas)
all_later more [] = refl
all_later more (stanza ∷ stanzas) = ap₂ (λ s ss. s ∷ ss) (later_says more stanza) (all_later more stanzas)

-- items that pass a test are those whose flags are up, where each flag is the test's
pub flagged : {A : Type 0} (test : A → Bool) (items : List A) → items_where_true (map test items) items ≡ filter test items
flagged test [] = refl
flagged test (item ∷ more) = by (test item) (flagged test more)
  where
    by : (b : Bool) → items_where_true (map test more) more ≡ filter test more → items_where_true (b ∷ map test more) (item ∷ more) ≡ cond b (item ∷ filter test more) (filter test more)
    by true h = ap (λ rest. item ∷ rest) h
    by false h = h

facts_named : (test : List ℕ → Bool) (stanzas : List RawStanza) → map facts_of (named test stanzas) ≡ filter (λ facts. test facts.name) (map facts_of stanzas)
facts_named test [] = refl
facts_named test (stanza ∷ more) = by (test (facts_of stanza).name) (facts_named test more)
  where
    by : (b : Bool) → map facts_of (named test more) ≡ filter (λ facts. test facts.name) (map facts_of more)
        → map facts_of (cond b (stanza ∷ named test more) (named test more)) ≡ cond b (facts_of stanza ∷ filter (λ facts. test facts.name) (map facts_of more)) (filter (λ facts. test facts.name) (map facts_of more))
    by true h = ap (λ rest. facts_of stanza ∷ rest) h
    by false h = h

-- a mix has the packages of both, but for the numbers of their lines
mix_is_list : (old new : List ℕ) (taken : List (List ℕ)) → first_fault old ≡ None → first_fault new ≡ None → map but_line (packages_in (mix old new taken)) ≡ map but_line (mixed_packages (packages_in old) (packages_in new) taken)
unfolding mixed
mix_is_list old new taken old_fine new_fine =
    let more : ℕ = count_by is_line_feed (front_of old taken) in
    let left : List RawStanza = named (is_left taken) (stanzas_of old) in
    let kept : List RawStanza = named (is_taken taken) (stanzas_of new) in
    ap (λ stanzas. map but_line (map facts_of stanzas)) (mix_stanzas old new taken old_fine new_fine)
    ∙ ap (map but_line) (map-append facts_of left (map (later_stanza more) kept))
    ∙ map-append but_line (map facts_of left) (map facts_of (map (later_stanza more) kept))
    ∙ ap (λ z. map but_line (map facts_of left) ++ z) (all_later more kept)
    ∙ sym (map-append but_line (map facts_of left) (map facts_of kept))
    ∙ ap (map but_line) (ap₂ (λ xs ys. xs ++ ys) (facts_named (is_left taken) (stanzas_of old)) (facts_named (is_taken taken) (stanzas_of new)))

-- the common architecture of a mix is that of the stanzas of the first index, or else that of the others
home_join : (xs ys : List RawStanza) → home_of (xs ++ ys) ≡ option_or (home_of xs) (home_of ys)
unfolding home_of
home_join [] ys = refl
home_join (x ∷ xs) ys = ap (option_or (architecture_of x)) (home_join xs ys) ∙ by (architecture_of x) (home_of xs) (home_of ys)
  where
    by : (a b c : Option (List ℕ)) → option_or a (option_or b c) ≡ option_or (option_or a b) c
    by None b c = refl
    by (Some own) b c = refl

home_later : (more : ℕ) (stanzas : List RawStanza) → home_of (map (later_stanza more) stanzas) ≡ home_of stanzas
unfolding home_of
home_later more [] = refl
home_later more (stanza ∷ stanzas) = ap₂ option_or (architecture_later more stanza) (home_later more stanzas)

mix_home : (old new : List ℕ) (taken : List (List ℕ)) → first_fault old ≡ None → first_fault new ≡ None
    → home_of (stanzas_of (mix old new taken)) ≡ option_or (home_of (named (is_left taken) (stanzas_of old))) (home_of (named (is_taken taken) (stanzas_of new)))
unfolding mixed
mix_home old new taken old_fine new_fine =
    let more : ℕ = count_by is_line_feed (front_of old taken) in
    let left : List RawStanza = named (is_left taken) (stanzas_of old) in
    let kept : List RawStanza = named (is_taken taken) (stanzas_of new) in
    ap home_of (mix_stanzas old new taken old_fine new_fine) ∙ home_join left (map (later_stanza more) kept) ∙ ap (option_or (home_of left)) (home_later more kept)

-- the common architecture of the packages of some names in a suite
home_flagged : (test : List ℕ → Bool) (text : List ℕ) (suite : Suite) (flags : List Bool) → IsSuiteOf text suite.packages suite.home.name → flags ≡ map (λ facts. test facts.name) suite.packages
    → home_where flags suite ≡ home_of (named test (stanzas_of text))
home_flagged test text suite flags is chosen =
    let those : items_where_true flags suite.packages ≡ map facts_of (named test (stanzas_of text)) =
    ap (λ fs. items_where_true fs suite.packages) chosen ∙ flagged (λ facts. test facts.name) suite.packages ∙ ap (filter (λ facts. test facts.name)) is.facts ∙ sym (facts_named test (stanzas_of text)) in
    ap (λ packages. if has_arch_dependent packages then suite.home.name else None) those ∙ home_named test text suite.packages suite.home.name is

-- a mix by a flag for each package of both
module _ (olds news : List PackageFacts) (taken : List (List ℕ)) (left kept : List Bool) (lefts : left ≡ map (λ facts. is_left taken facts.name) olds) (keeps : kept ≡ map (λ facts. is_taken taken facts.name) news) where
  left_packages : items_where_true left olds ≡ filter (λ facts. is_left taken facts.name) olds
  left_packages = ap (λ flags. items_where_true flags olds) lefts ∙ flagged (λ facts. is_left taken facts.name) olds

  kept_packages : items_where_true kept news ≡ filter (λ facts. is_taken taken facts.name) news
  kept_packages = ap (λ flags. items_where_true flags news) keeps ∙ flagged (λ facts. is_taken taken facts.name) news

  pub few_flagged : length (mixed_packages olds news taken) ≤ most_packages → length (items_where_true left olds) + length (items_where_true kept news) ≤ most_packages
  few_flagged few =
      let one : length (items_where_true left olds) ≡ length (filter (λ facts. is_left taken facts.name) olds) = ap length left_packages in
      let two : length (items_where_true kept news) ≡ length (filter (λ facts. is_taken taken facts.name) news) = ap length kept_packages in
      let size : length (mixed_packages olds news taken) ≡ length (filter (λ facts. is_left taken facts.name) olds) + length (filter (λ facts. is_taken taken facts.name) news) =
      length-append (filter (λ facts. is_left taken facts.name) olds) (filter (λ facts. is_taken taken facts.name) news) in
      omega arith

  -- its packages are those of the mix of the two texts, but for the numbers of their lines
  pub packages_mixed : (old new : List ℕ) (old_home new_home : Option (List ℕ)) (packages : List PackageFacts) → IsSuiteOf old olds old_home → IsSuiteOf new news new_home → packages ≡ items_where_true left olds ++ items_where_true kept news
      → map but_line packages ≡ map but_line (packages_in (mix old new taken))
  packages_mixed old new old_home new_home packages old_is new_is are =
      ap (map but_line) (are ∙ ap₂ (λ xs ys. xs ++ ys) left_packages kept_packages ∙ ap₂ (λ xs ys. mixed_packages xs ys taken) old_is.facts new_is.facts) ∙ sym (mix_is_list old new taken old_is.fine new_is.fine)

-- its common architecture, by the two suites
module _ (texts : Texts) (old new : Suite) (are : AreTexts texts old new) (taken : List (List ℕ)) (left kept : List Bool)
    (lefts : left ≡ map (λ facts. is_left taken facts.name) old.packages) (keeps : kept ≡ map (λ facts. is_taken taken facts.name) new.packages) where
  old_home : home_where left old ≡ home_of (named (is_left taken) (stanzas_of texts.old))
  old_home = home_flagged (is_left taken) texts.old old left are.old_is lefts

  new_home : home_where kept new ≡ home_of (named (is_taken taken) (stanzas_of texts.new))
  new_home = home_flagged (is_taken taken) texts.new new kept are.new_is keeps

  pub home_mixed : (home : Home) → home.name ≡ option_or (home_where left old) (home_where kept new) → home ≡ home_in (mix texts.old texts.new taken)
  home_mixed home is = ap (λ name. record { name = name }) (is ∙ ap₂ option_or old_home new_home ∙ sym (mix_home texts.old texts.new taken are.old_is.fine are.new_is.fine))

-- the packages of a mix of names that differ are few, where all that mixes have are
pub few_mixed : (olds news : List PackageFacts) (taken all : List (List ℕ)) → packages_with olds news all ≤ most_packages → ((name : List ℕ) → In name taken → In name all) → length (mixed_packages olds news taken) ≤ most_packages
few_mixed olds news taken all few inside =
    let left : List PackageFacts = filter (λ facts. is_left taken facts.name) olds in
    let kept : List PackageFacts = filter (λ facts. is_taken taken facts.name) news in
    let one : length left ≤ length olds = filter_short (λ facts. is_left taken facts.name) olds in
    let two : length kept ≤ length (filter (λ facts. is_taken all facts.name) news) =
    filter_le (λ facts. is_taken taken facts.name) (λ facts. is_taken all facts.name) news (λ facts h. taken_within taken all inside facts.name h) in
    let size : length (mixed_packages olds news taken) ≡ length left + length kept = length-append left kept in
    let most : length olds + length (filter (λ facts. is_taken all facts.name) news) ≤ most_packages = few in
    omega arith

-- these, by a flag for each package of the new index
pub few_of_both : (olds news : List PackageFacts) (names : List (List ℕ)) (added : List Bool) → packages_with olds news names ≤ most_packages → added ≡ map (λ facts. is_taken names facts.name) news
    → length olds + length (items_where_true added news) ≤ most_packages
few_of_both olds news names added few adds =
    subst (λ ps. length olds + length ps ≤ most_packages) (sym (ap (λ flags. items_where_true flags news) adds ∙ flagged (λ facts. is_taken names facts.name) news)) few

-- packages that differ in the numbers of their lines alone are asked alike
stands_but : (packages : List PackageFacts) (name : List ℕ) → stands_in (map but_line packages) name ≡ stands_in packages name
stands_but [] name = refl
stands_but (facts ∷ packages) name = ap (λ b. bytes_eq name facts.name || b) (stands_but packages name)

module _ (limit : ℕ) (hold : Bool) (home : Home) (packages others : List PackageFacts) (same : map but_line packages ≡ map but_line others) where
  alike : IgnoresLines home packages others
  alike = lines_ignored home packages others same

  image_alike : (goal : Goal) → image_of limit hold home packages goal ≡ image_of limit hold home others goal
  image_alike goal = ap₂ (goal_classes limit hold) alike.repository (alike.goals goal)

  images_alike : (goals : List Goal) → images_of limit hold home packages goals ≡ images_of limit hold home others goals
  images_alike [] = refl
  images_alike (goal ∷ goals) = ap₂ (λ c cs. c ∷ cs) (image_alike goal) (images_alike goals)

  verdict_alike : (budget : ℕ) → verdict_in limit hold home packages budget ≡ verdict_in limit hold home others budget
  verdict_alike budget = fun_ext (λ goals. ap₂ (λ R images. verdict_of budget (tree_of (kernel limit hold R) images)) alike.repository (images_alike goals))

  stands_alike : stands_in packages ≡ stands_in others
  stands_alike = fun_ext (λ name. sym (stands_but packages name) ∙ ap (λ z. stands_in z name) same ∙ stands_but others name)

pub outcome_alike : (settings : Settings) (old_home : Home) (old : List PackageFacts) (home : Home) (packages others : List PackageFacts) (name : List ℕ) → map but_line packages ≡ map but_line others
    → outcome_by settings old_home old home packages name ≡ outcome_by settings old_home old home others name
outcome_alike settings old_home old home packages others name same =
    ap₂ (outcome_of name)
    (ap (limit_at settings.limit settings.hold) (alike settings.limit settings.hold home packages others same).repository)
    (ap₂ (λ verdicts test. report (verdict_in settings.limit settings.hold old_home old settings.budget) verdicts (filter test (names_in old)))
    (verdict_alike settings.limit settings.hold home packages others same settings.budget) (stands_alike settings.limit settings.hold home packages others same))
