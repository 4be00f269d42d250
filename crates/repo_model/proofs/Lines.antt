-- Repositories, names and goals do not look at the numbers of lines.
use Rattle.std.proofs.Common.{◌≡◌, ℕ, zero, suc, Bool, not, ◌&&◌, ◌||◌, eqb, List, [], ◌∷◌, map, filter, refl, sym, ap, ap₂, subst, ◌∙◌}
use Rattle.std.proofs.lemmas.List.{length-map}
use Rattle.std.specs.{List.{list_any, range_with_len}, Str.{bytes_eq}}
use Rattle.relation_fields.specs.{Meeting.{meets}, declared.packages.Home.{Home}, declared.packages.PackageFacts.{PackageFacts}, declared.relations.Atom.{Atom}}
use Rattle.clause_pool.specs.Clauses.{in_row_order}
use Rattle.row_book.specs.Repository.{Repository, Healthy}
use Rattle.listed.proofs.Lists.{filter_same}
use Rattle.row_book.proofs.Numbers.{map_same}
use Rattle.repo_model.specs.{Goals.{is_named_by, packages_named, CoinstGoals}, Laws.{but_line, IgnoresLines}}
use Rattle.repo_model.specs.Repository.{clause_of, conflicting_with, in_conflict, meets_any, packages_of, row_of, stands_against, suite_repository}
use Rattle.repo_model.specs.{Stanzas.{stanza_at}, declared.goals.Goal.{Goal}}
use Rattle.repo_model.proofs.Healthy.{healthy_same}

stanza_but : (stanzas : List PackageFacts) (n : ℕ) → stanza_at (map but_line stanzas) n ≡ but_line (stanza_at stanzas n)
stanza_but [] n = refl
stanza_but (s ∷ stanzas) zero = refl
stanza_but (s ∷ stanzas) (suc n) = stanza_but stanzas n

numbers_but : (stanzas : List PackageFacts) → packages_of (map but_line stanzas) ≡ packages_of stanzas
numbers_but stanzas = ap (range_with_len 0) (length-map stanzas but_line)

-- a test that does not look at the line is the same
tests_but : (test : PackageFacts → Bool) (stanzas : List PackageFacts) → ((s : PackageFacts) → test (but_line s) ≡ test s) →
    filter (λ n. test (stanza_at (map but_line stanzas) n)) (packages_of (map but_line stanzas)) ≡ filter (λ n. test (stanza_at stanzas n)) (packages_of stanzas)
tests_but test stanzas same =
    ap (filter (λ n. test (stanza_at (map but_line stanzas) n))) (numbers_but stanzas)
    ∙ filter_same (λ n. test (stanza_at (map but_line stanzas) n)) (λ n. test (stanza_at stanzas n)) (packages_of stanzas) (λ n i. ap test (stanza_but stanzas n) ∙ same (stanza_at stanzas n))

meets_but : (home : Home) (atoms : List Atom) (s : PackageFacts) → list_any (λ atom. meets atom (but_line s) home) atoms ≡ list_any (λ atom. meets atom s home) atoms
unfolding meets
meets_but home atoms s = refl

clause_but : (home : Home) (stanzas : List PackageFacts) (element : List Atom) → clause_of home (map but_line stanzas) element ≡ clause_of home stanzas element
clause_but home stanzas element = tests_but (meets_any home element) stanzas (meets_but home element)

clauses_but : (home : Home) (stanzas : List PackageFacts) (elements : List (List Atom)) → map (clause_of home (map but_line stanzas)) elements ≡ map (clause_of home stanzas) elements
clauses_but home stanzas [] = refl
clauses_but home stanzas (element ∷ elements) = ap₂ (λ c cs. c ∷ cs) (clause_but home stanzas element) (clauses_but home stanzas elements)

rows_but : (home : Home) (stanzas : List PackageFacts) (n : ℕ) → row_of home (map but_line stanzas) (stanza_at (map but_line stanzas) n) ≡ row_of home stanzas (stanza_at stanzas n)
rows_but home stanzas n =
    ap (λ (s : PackageFacts). in_row_order (map (clause_of home (map but_line stanzas)) s.needs)) (stanza_but stanzas n) ∙ ap in_row_order (clauses_but home stanzas (stanza_at stanzas n).needs)

against_but : (home : Home) (stanzas : List PackageFacts) (m n : ℕ) →
    stands_against home (stanza_at (map but_line stanzas) m) (stanza_at (map but_line stanzas) n) ≡ stands_against home (stanza_at stanzas m) (stanza_at stanzas n)
against_but home stanzas m n = ap₂ (stands_against home) (stanza_but stanzas m) (stanza_but stanzas n) ∙ meets_but home (stanza_at stanzas m).against (stanza_at stanzas n)

conflict_but : (home : Home) (stanzas : List PackageFacts) (m n : ℕ) → in_conflict home (map but_line stanzas) m n ≡ in_conflict home stanzas m n
conflict_but home stanzas m n =
    let name : bytes_eq (stanza_at (map but_line stanzas) m).name (stanza_at (map but_line stanzas) n).name ≡ bytes_eq (stanza_at stanzas m).name (stanza_at stanzas n).name =
    ap₂ (λ (s t : PackageFacts). bytes_eq s.name t.name) (stanza_but stanzas m) (stanza_but stanzas n) in
    ap (λ b. not (eqb m n) && b) (ap₂ (λ b c. b || c) name (ap₂ (λ b c. b || c) (against_but home stanzas m n) (against_but home stanzas n m)))

conflicts_but : (home : Home) (stanzas : List PackageFacts) (m : ℕ) → conflicting_with home (map but_line stanzas) m ≡ conflicting_with home stanzas m
conflicts_but home stanzas m =
    ap (filter (in_conflict home (map but_line stanzas) m)) (numbers_but stanzas)
    ∙ filter_same (in_conflict home (map but_line stanzas) m) (in_conflict home stanzas m) (packages_of stanzas) (λ n i. conflict_but home stanzas m n)

repository_but : (home : Home) (stanzas : List PackageFacts) → suite_repository home (map but_line stanzas) ≡ suite_repository home stanzas
unfolding suite_repository
repository_but home stanzas =
    let of : List (List (List ℕ)) → List (List ℕ) → Repository = λ clauses conflicts. record { clauses = clauses; conflicts = conflicts } in
    ap₂ of
    (ap (map (λ n. row_of home (map but_line stanzas) (stanza_at (map but_line stanzas) n))) (numbers_but stanzas)
    ∙ map_same (λ n. row_of home (map but_line stanzas) (stanza_at (map but_line stanzas) n)) (λ n. row_of home stanzas (stanza_at stanzas n)) (packages_of stanzas) (λ n i. rows_but home stanzas n))
    (ap (map (conflicting_with home (map but_line stanzas))) (numbers_but stanzas)
    ∙ map_same (conflicting_with home (map but_line stanzas)) (conflicting_with home stanzas) (packages_of stanzas) (λ n i. conflicts_but home stanzas n))

names_but : (stanzas : List PackageFacts) → map (λ (s : PackageFacts). s.name) (map but_line stanzas) ≡ map (λ (s : PackageFacts). s.name) stanzas
names_but [] = refl
names_but (s ∷ stanzas) = ap (λ ns. s.name ∷ ns) (names_but stanzas)

module _ (home : Home) (stanzas others : List PackageFacts) (same : map but_line stanzas ≡ map but_line others) where
  one_repository : suite_repository home stanzas ≡ suite_repository home others
  one_repository = sym (repository_but home stanzas) ∙ ap (suite_repository home) same ∙ repository_but home others

  named_alike : (goal : Goal) (n : ℕ) → is_named_by goal (stanza_at others n) ≡ is_named_by goal (stanza_at stanzas n)
  named_alike goal n =
      sym (ap (is_named_by goal) (stanza_but others n)) ∙ ap (λ ss. is_named_by goal (stanza_at ss n)) (sym same) ∙ ap (is_named_by goal) (stanza_but stanzas n)

  coinst_alike : (goals : List Goal) → CoinstGoals home stanzas goals → CoinstGoals home others goals
  coinst_alike goals w = record {
    whole = w.whole;
    healthy = (healthy_same home others w.whole).1 (subst (λ R. Healthy R w.whole) one_repository ((healthy_same home stanzas w.whole).0 w.healthy));
    serves = λ goal i. let o = w.serves goal i in record { by = o.by; member = o.member; named = named_alike goal o.by ∙ o.named };
  }

pub lines_ignored : (home : Home) (stanzas others : List PackageFacts) → map but_line stanzas ≡ map but_line others → IgnoresLines home stanzas others
lines_ignored home stanzas others same = record {
  repository = one_repository home stanzas others same;
  names = ap in_row_order (sym (names_but stanzas) ∙ ap (map (λ (s : PackageFacts). s.name)) same ∙ names_but others);
  goals = λ goal. sym (tests_but (is_named_by goal) stanzas (λ s. refl)) ∙ ap (λ ss. packages_named ss goal) same ∙ tests_but (is_named_by goal) others (λ s. refl);
  verdicts = λ goals. (coinst_alike home stanzas others same goals, coinst_alike home others stanzas (sym same) goals);
}
