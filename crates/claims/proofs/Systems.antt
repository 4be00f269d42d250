-- The own packages of a status file, by its groups of lines.
use Rattle.std.proofs.Common.{◌≡◌, ℕ, zero, suc, ◌+◌, ◌<◌, true, false, not, cond, ◌&&◌, ◌||◌, List, [], ◌∷◌, Option, Some, None, Result, Ok, Err, filter}
use Rattle.std.proofs.{Common.{length, map, slice_index_or, refl, sym, ap, ap₂, subst, ◌∙◌, arith, inl, inr}, lemmas.Bool.Decides.{nat_tests}}
use Rattle.std.proofs.lemmas.List.Sums.{sum_by-cons}
use Rattle.std.specs.{Prelude.{codes, count_by, nat_lt, unwrap_or}, List.{AllZip}, Option.{option_map, option_map_or, option_or}, Result.{result_err}}
use Rattle.std.specs.Str.{bytes_eq}
use Rattle.coinst_words.specs.Usage.{Text}
use Rattle.listed.specs.Lists.{In}
use Rattle.listed.proofs.Lists.{In_at, In_cases, In_none, any_cases, any_from}
use Rattle.relation_fields.specs.{declared.packages.Home.{Home}, declared.packages.PackageFacts.{PackageFacts}, declared.relations.Atom.{Atom}, Meeting.{meets}}
use Rattle.repo_model.specs.{Fields.{field_of}, FirstFault.{first_fault, stanzas_of}, Repository.{clause_of, suite_repository}}
use Rattle.repo_model.specs.{Stanzas.{Met, stanza_at, HealthyStanzas}, declared.fault.IndexFault.TheVariants.{Stanza}}
use Rattle.repo_model.proofs.Packages.{against_cases, against_from, clause_cases, clause_from, literal_cases, literal_from}
use Rattle.row_book.specs.{Health.{ClashFirst, UnhitFirst}, Repository.{Satisfied, clauses_of}, Sets.{Hit, Is}}
use Rattle.stanza_reader.specs.{Blanking.{picked}, Lines.{Line, lines, numbered}, Stanzas.{readings, stanza_of, stanzas, texts}}
use Rattle.stanza_reader.specs.Stanzas as reader
use Rattle.stanza_reader.specs.{declared.stanza.FieldKind.{FieldKind}, declared.stanza.FieldKind.TheVariants.{Architecture, Status}}
use Rattle.stanza_reader.specs.{declared.stanza.RawField.{RawField}, declared.stanza.RawStanza.{RawStanza}}
use Rattle.stanza_reader.proofs.BlankLemmas.{good_readings}
use Rattle.status_check.specs.Installed.{is_elsewhere, is_foreign, is_installed, is_own, says_installed, words}
use Rattle.status_check.specs.{Own.{foreign_count, file_fault, own_home, own_packages, own_stanzas_text, status_fault}, Report.{IsStateOf, all_of}}
use Rattle.status_check.specs.{declared.report.OwnState.{OwnState}, declared.report.OwnState.TheVariants.{Healthy, Unhit, Clash}}
use Rattle.status_check.proofs.OwnTexts.{all_stanzas}
use Rattle.repo_model.proofs.Healthy.{healthy_same}
use Rattle.claims.specs.{Control.{IsStanza, field_value, stanza_groups}, Index.{GroupsSay, IndexSays}, Goals.{all_stanzas as all_set}, Systems.{HasItsNeeds, IsOwnState, is_elsewhere_group, is_foreign_group, is_installed_group, is_own_group}}
use Rattle.claims.proofs.{Control.{IsRead, group_is_read, groups_are_theirs}, Groups.{groups_picked, picked_by}, Index.{indexes_are_read, zip_ok}}
use Rattle.claims.proofs.Values.{key, kept_value, value_is}

-- the values of fields
value_kept : (group : List Line) (s : RawStanza) (kind : FieldKind) → IsRead group s → field_value (key kind) (texts group) ≡ kept_value kind s.fields
value_kept group s kind r = sym (ap (kept_value kind) r.kept ∙ value_is kind group r.shape)

filled : (found : Option RawField) → unwrap_or (option_map (λ f. f.value) found) [] ≡ option_map_or (λ f. f.value) found []
filled None = refl
filled (Some field) = refl

installed_same : (group : List Line) (s : RawStanza) → IsRead group s → is_installed_group (texts group) ≡ is_installed s
installed_same group s r = ap (λ v. says_installed (words (unwrap_or v []))) (value_kept group s Status r) ∙ ap (λ v. says_installed (words v)) (filled (field_of Status s))

elsewhere_same : (home : Home) (group : List Line) (s : RawStanza) → IsRead group s → is_elsewhere_group home (texts group) ≡ is_elsewhere home s
elsewhere_same home group s r = ap (λ v. option_map_or (λ a. not (bytes_eq a (codes "all") || option_map_or (bytes_eq a) home.name false)) v false) (value_kept group s Architecture r) ∙ by (field_of Architecture s)
  where
    by : (found : Option RawField) → option_map_or (λ a. not (bytes_eq a (codes "all") || option_map_or (bytes_eq a) home.name false)) (option_map (λ f. f.value) found) false
        ≡ option_map_or (λ (field : RawField). not (bytes_eq field.value (codes "all") || option_map_or (bytes_eq field.value) home.name false)) found false
    by None = refl
    by (Some field) = refl

own_same : (home : Home) (group : List Line) (s : RawStanza) → IsRead group s → is_own home s ≡ is_own_group home (texts group)
own_same home group s r = ap₂ (λ a b. a && not b) (sym (installed_same group s r)) (sym (elsewhere_same home group s r))

foreign_same : (home : Home) (group : List Line) (s : RawStanza) → IsRead group s → is_foreign home s ≡ is_foreign_group home (texts group)
foreign_same home group s r = ap₂ (λ a b. a && b) (sym (installed_same group s r)) (sym (elsewhere_same home group s r))

-- groups that are read as stanzas
abbrev AreReadAs : List (List Line) → List RawStanza → Type 0
AreReadAs groups all = AllZip (λ g s. stanza_of g ≡ Ok s) groups all

own_flags : (home : Home) (groups : List (List Line)) (all : List RawStanza) → AreReadAs groups all → map (is_own home) all ≡ map (is_own_group home) (map texts groups)
own_flags home [] [] z = refl
own_flags home [] (s ∷ ss) z = absurd z
own_flags home (g ∷ gs) [] z = absurd z
own_flags home (g ∷ gs) (s ∷ ss) z = ap₂ (λ b bs. b ∷ bs) (own_same home g s (group_is_read g s z.0)) (own_flags home gs ss z.1)

foreign_counted : (home : Home) (groups : List (List Line)) (all : List RawStanza) → AreReadAs groups all → count_by (is_foreign home) all ≡ count_by (is_foreign_group home) (map texts groups)
foreign_counted home [] [] z = refl
foreign_counted home [] (s ∷ ss) z = absurd z
foreign_counted home (g ∷ gs) [] z = absurd z
foreign_counted home (g ∷ gs) (s ∷ ss) z =
    sum_by-cons (λ t. cond (is_foreign home t) 1 0) s ss
    ∙ ap₂ (λ b n. cond b 1 0 + n) (foreign_same home g s (group_is_read g s z.0)) (foreign_counted home gs ss z.1)
    ∙ sym (sum_by-cons (λ t. cond (is_foreign_group home t) 1 0) (texts g) (map texts gs))

are_stanzas : (groups : List (List Line)) (all : List RawStanza) → AreReadAs groups all → (group : List Text) → In group (map texts groups) → IsStanza group
are_stanzas [] all z group i = absurd (In_none i)
are_stanzas (g ∷ gs) [] z group i = absurd z
are_stanzas (g ∷ gs) (s ∷ ss) z group i = elim (In_cases i) [
  | inl same ↦ subst IsStanza (sym same) (group_is_read g s z.0).stanza
  | inr j ↦ are_stanzas gs ss z.1 group j
]

first_none : {A E F : Type 0} (f : E → F) (read : Result A E) → option_map f (result_err read) ≡ None → (x : A) × (read ≡ Ok x)
first_none f (Ok x) e = (x, refl)
first_none f (Err fault) e = absurd (let no : ⊥ = cc in no)

none_both : {A : Type 0} (first second : Option A) → option_or first second ≡ None → (first ≡ None) × (second ≡ None)
none_both None second e = (refl, e)
none_both (Some x) second e = absurd (let no : ⊥ = cc in no)

-- a status file without a fault
pub record Tells (home : Home) (file : Text) : Type 0 where
  pub groups : (group : List Text) → In group (stanza_groups file) → IsStanza group
  pub says : GroupsSay (filter (is_own_group home) (stanza_groups file)) (own_home home file) (own_packages home file)
  pub foreign : foreign_count home file ≡ count_by (is_foreign_group home) (stanza_groups file)
  pub fine : first_fault (own_stanzas_text home file) ≡ None

pub tells : (home : Home) (file : Text) → status_fault home file ≡ None → Tells home file
unfolding readings own_stanzas_text
tells home file e =
    let both = none_both (file_fault file) (first_fault (own_stanzas_text home file)) e in
    let all = first_none Stanza (stanzas file) both.0 in
    let gs : List (List Line) = reader.groups (numbered 1 (lines file)) in
    let pairs : AreReadAs gs all.0 = zip_ok gs all.0 (good_readings (readings file) all.0 all.1) in
    let theirs : map texts gs ≡ stanza_groups file = groups_are_theirs file in
    let known : stanzas_of file ≡ all.0 = all_stanzas file all.0 all.1 in
    let flags : map (is_own home) (stanzas_of file) ≡ map (is_own_group home) (stanza_groups file) = ap (map (is_own home)) known ∙ own_flags home gs all.0 pairs ∙ ap (map (is_own_group home)) theirs in
    let own : stanza_groups (own_stanzas_text home file) ≡ filter (is_own_group home) (stanza_groups file)
    = groups_picked (map (is_own home) (stanzas_of file)) file ∙ ap (λ fs. picked fs (stanza_groups file)) flags ∙ picked_by (is_own_group home) (stanza_groups file) in
    let index : IndexSays (own_stanzas_text home file) (own_home home file) (own_packages home file) = indexes_are_read (own_stanzas_text home file) both.1 in
    record {
      groups = λ group i. are_stanzas gs all.0 pairs group (subst (In group) (sym theirs) i);
      says = subst (λ groups. GroupsSay groups (own_home home file) (own_packages home file)) own index;
      foreign = ap (count_by (is_foreign home)) known ∙ foreign_counted home gs all.0 pairs ∙ ap (count_by (is_foreign_group home)) theirs;
      fine = both.1;
    }

-- the set of all packages
all_at : (packages : List PackageFacts) (n : ℕ) → slice_index_or (map (λ (s : PackageFacts). true) packages) n false ≡ nat_lt n (length packages)
all_at [] n = let no : nat_lt n 0 ≡ false = grind (arith, nat_tests) in sym no
all_at (s ∷ packages) zero = let yes : nat_lt 0 (length (s ∷ packages)) ≡ true = grind (arith, nat_tests) in sym yes
all_at (s ∷ packages) (suc n) = all_at packages n ∙ (let same : nat_lt n (length packages) ≡ nat_lt (suc n) (length (s ∷ packages)) = grind (arith, nat_tests) in same)

all_same : (packages : List PackageFacts) → all_of packages ≡ all_set packages
all_same packages = λ i n. all_at packages n i

-- the state of the own packages
inside : (all : List PackageFacts) (n : ℕ) → Is (all_of all) n → n < length all
inside all n h = let up : nat_lt n (length all) ≡ true = sym (all_at all n) ∙ h in grind (arith, nat_tests, up)

chosen : (all : List PackageFacts) (n : ℕ) → n < length all → Is (all_of all) n
chosen all n l = let up : nat_lt n (length all) ≡ true = grind (arith, nat_tests, l) in all_at all n ∙ up

module _ (home : Home) (own : List PackageFacts) where
  hit_of : (element : List Atom) (c : List ℕ) → c ≡ clause_of home own element → Met home own (all_of own) element → Hit (Is (all_of own)) c
  hit_of element c e m = record {
    by = m.by;
    inside = subst (In m.by) (sym e) (literal_from home own element m.by (inside own m.by m.member) (any_from (λ atom. meets atom (stanza_at own m.by) home) element m.alternative m.inside m.meeting));
    alive = m.member;
  }

  met_of : (element : List Atom) → Hit (Is (all_of own)) (clause_of home own element) → Met home own (all_of own) element
  met_of element hit =
      let at = literal_cases home own element hit.by hit.inside in
      let atom = any_cases (λ atom. meets atom (stanza_at own hit.by) home) element at.1 in
      record { alternative = atom.0; inside = atom.1; by = hit.by; member = hit.alive; meeting = atom.2 }

  has_needs : (n : ℕ) → n < length own → Satisfied (suite_repository home own) (Is (all_of own)) n → HasItsNeeds home own n
  has_needs n l all element i = subst (λ set. Met home own set element) (all_same own) (met_of element (all (clause_of home own element) (clause_from home own n element l i)))

  pub state_of_all : (state : OwnState) → IsStateOf (suite_repository home own) (all_of own) state → IsOwnState home own state
  state_of_all Healthy is = subst (HealthyStanzas home own) (all_same own) ((healthy_same home own (all_of own)).1 is)
  state_of_all (Unhit n) is =
      let w : UnhitFirst (suite_repository home own) (all_of own) n is.0 = is.1 in
      let c : List ℕ = slice_index_or (clauses_of (suite_repository home own) n) is.0 [] in
      let at : In c (clauses_of (suite_repository home own) n) = In_at (clauses_of (suite_repository home own) n) is.0 [] w.clause.within in
      let element = clause_cases home own n c at in
      let low : n < length own = inside own n w.chosen in (
        low,
        (λ m less. has_needs m (omega (arith, less, low)) (w.lesser m less (chosen own m (omega (arith, less, low))))),
        (λ all. w.clause.unhit (hit_of element.0 c element.2 (subst (λ set. Met home own set element.0) (sym (all_same own)) (all element.0 element.1)))),
      )
  state_of_all (Clash m n) is =
      let w : ClashFirst (suite_repository home own) (all_of own) m n = is in
      let c = against_cases home own m n w.clash.clash.conflict in (
        w.clash.clash.ordered,
        c.1,
        c.2,
        (λ k l. has_needs k l (w.satisfied k (chosen own k l))),
        (λ a b less l conflict.
            w.clash.least a b (record {
              ordered = less;
              first = chosen own a (omega (arith, less, l));
              second = chosen own b l;
              conflict = against_from home own a b (omega (arith, less, l)) l conflict;
            })),
      )
