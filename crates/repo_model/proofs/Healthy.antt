-- A set of stanzas is healthy exactly when it is healthy in the repository of the index.
use Rattle.std.proofs.{Common.{◌≡◌, ◌≢◌, ℕ, ◌<◌, true, ◌↔◌, List, length, ◌⊎◌, inl, inr, sym, subst, arith}, lemmas.Bool.{both_ways, false_from_ne_true}}
use Rattle.std.specs.Str.{bytes_eq}
use Rattle.repo_model.specs.{declared.plain.PlainRepository.{PlainRepository}, Repository.{meets_any, clause_of, stands_against, in_conflict, suite_repository}}
use Rattle.repo_model.specs.Stanzas.{Met, stanza_at, HealthyStanzas, CoinstStanzas}
use Rattle.relation_fields.specs.{Meeting.{meets}, declared.packages.Home.{Home}, declared.packages.PackageFacts.{PackageFacts}, declared.relations.Atom.{Atom}}
use Rattle.row_book.specs.{Repository.{Healthy, Coinst, against}, Sets.{NumSet, Is, Hit}}
use Rattle.listed.specs.Lists.{In}
use Rattle.listed.proofs.Lists.{any_from, any_cases}
use Rattle.repo_model.proofs.Packages.{length_clauses, literal_cases, literal_from, clause_cases, clause_from, against_cases, against_from, conflict_cases}
use Rattle.repo_model.proofs.Packages.{conflict_by_name, conflict_by_first}

-- a clause is hit exactly when its element is met
hit_from : (home : Home) (stanzas : List PackageFacts) (I : NumSet) (element : List Atom) → ((n : ℕ) → Is I n → n < length stanzas) →
    Met home stanzas I element → Hit (Is I) (clause_of home stanzas element)
hit_from home stanzas I element small m = record {
  by = m.by;
  inside = literal_from home stanzas element m.by (small m.by m.member)
      (any_from (λ atom. meets atom (stanza_at stanzas m.by) home) element m.alternative m.inside m.meeting);
  alive = m.member;
}

met_from : (home : Home) (stanzas : List PackageFacts) (I : NumSet) (element : List Atom) → Hit (Is I) (clause_of home stanzas element) → Met home stanzas I element
met_from home stanzas I element h =
    let w : (h.by < length stanzas) × (meets_any home element (stanza_at stanzas h.by) ≡ true) = literal_cases home stanzas element h.by h.inside in
    let a : (atom : Atom) × In atom element × (meets atom (stanza_at stanzas h.by) home ≡ true) = any_cases (λ atom. meets atom (stanza_at stanzas h.by) home) element w.1 in
    record { alternative = a.0; inside = a.1; by = h.by; member = h.alive; meeting = a.2 }

-- no member of a healthy set stands against another one
quiet : (home : Home) (stanzas : List PackageFacts) (I : NumSet) → HealthyStanzas home stanzas I → (m n : ℕ) → Is I m → Is I n → m ≢ n →
    stands_against home (stanza_at stanzas m) (stanza_at stanzas n) ≡ true → ⊥
quiet home stanzas I h m n y z ne t =
    let a : (atom : Atom) × In atom (stanza_at stanzas m).against × (meets atom (stanza_at stanzas n) home ≡ true) =
    any_cases (λ atom. meets atom (stanza_at stanzas n) home) (stanza_at stanzas m).against t in
    both_ways (meets a.0 (stanza_at stanzas n) home) (h.conflicts m n y z ne a.0 a.1) a.2

healthy_from : (home : Home) (stanzas : List PackageFacts) (I : NumSet) → HealthyStanzas home stanzas I → Healthy (suite_repository home stanzas) I
healthy_from home stanzas I h = record {
  packages = λ n y. let l : n < length stanzas = h.numbers n y in omega (arith, length_clauses home stanzas);
  abundance = λ n y c i.
      let w : (element : List Atom) × In element (stanza_at stanzas n).needs × (c ≡ clause_of home stanzas element) = clause_cases home stanzas n c i in
      subst (λ c. Hit (Is I) c) (sym w.2) (hit_from home stanzas I w.0 h.numbers (h.needs n y w.0 w.1));
  peace = λ m n y z. false_from_ne_true (against (suite_repository home stanzas) m n) (λ t.
      let w : (m < length stanzas) × (n < length stanzas) × (in_conflict home stanzas m n ≡ true) = against_cases home stanzas m n t in
      let k : (m ≢ n) × ((bytes_eq (stanza_at stanzas m).name (stanza_at stanzas n).name ≡ true) ⊎
      ((stands_against home (stanza_at stanzas m) (stanza_at stanzas n) ≡ true) ⊎ (stands_against home (stanza_at stanzas n) (stanza_at stanzas m) ≡ true))) =
      conflict_cases home stanzas m n w.2 in
      elim k.1 [
        | inl e ↦ both_ways (bytes_eq (stanza_at stanzas m).name (stanza_at stanzas n).name) (h.names m n y z k.0) e
        | inr o ↦ elim o [
          | inl f ↦ quiet home stanzas I h m n y z k.0 f
          | inr g ↦ quiet home stanzas I h n m z y (λ e. k.0 (sym e)) g
        ]
      ]);
}

stanzas_from : (home : Home) (stanzas : List PackageFacts) (I : NumSet) → Healthy (suite_repository home stanzas) I → HealthyStanzas home stanzas I
stanzas_from home stanzas I h =
    let small : (n : ℕ) → Is I n → n < length stanzas =
    λ n y. let l : n < length (suite_repository home stanzas).clauses = h.packages n y in omega (arith, length_clauses home stanzas) in
    record {
      numbers = small;
      needs = λ n y element i. met_from home stanzas I element (h.abundance n y (clause_of home stanzas element) (clause_from home stanzas n element (small n y) i));
      conflicts = λ m n y z ne atom i. false_from_ne_true (meets atom (stanza_at stanzas n) home) (λ t.
          both_ways (against (suite_repository home stanzas) m n) (h.peace m n y z)
          (against_from home stanzas m n (small m y) (small n z)
          (conflict_by_first home stanzas m n ne (any_from (λ atom. meets atom (stanza_at stanzas n) home) (stanza_at stanzas m).against atom i t))));
      names = λ m n y z ne. false_from_ne_true (bytes_eq (stanza_at stanzas m).name (stanza_at stanzas n).name) (λ t.
          both_ways (against (suite_repository home stanzas) m n) (h.peace m n y z)
          (against_from home stanzas m n (small m y) (small n z) (conflict_by_name home stanzas m n ne t)));
    }

pub healthy_same : (home : Home) (stanzas : List PackageFacts) (I : NumSet) → HealthyStanzas home stanzas I ↔ Healthy (suite_repository home stanzas) I
healthy_same home stanzas I = (healthy_from home stanzas I, stanzas_from home stanzas I)

pub coinst_same : (home : Home) (stanzas : List PackageFacts) (S : NumSet) → CoinstStanzas home stanzas S ↔ Coinst (suite_repository home stanzas) S
coinst_same home stanzas S = (
  (λ c. record { whole = c.whole; healthy = healthy_from home stanzas c.whole c.healthy; contains = c.contains }),
  (λ c. record { whole = c.whole; healthy = stanzas_from home stanzas c.whole c.healthy; contains = c.contains }),
)

-- the same of lists that are those of the repository
pub coinst_plain : (home : Home) (stanzas : List PackageFacts) (plain : PlainRepository) (S : NumSet) → plain.clauses ≡ (suite_repository home stanzas).clauses →
    plain.conflicts ≡ (suite_repository home stanzas).conflicts →
    (Coinst (record { clauses = plain.clauses; conflicts = plain.conflicts }) S ↔ CoinstStanzas home stanzas S)
coinst_plain home stanzas plain S clauses conflicts =
    subst (λ cs. Coinst (record { clauses = cs; conflicts = plain.conflicts }) S ↔ CoinstStanzas home stanzas S) (sym clauses)
    (subst (λ cs. Coinst (record { clauses = (suite_repository home stanzas).clauses; conflicts = cs }) S ↔ CoinstStanzas home stanzas S) (sym conflicts)
    ((coinst_same home stanzas S).1, (coinst_same home stanzas S).0))
