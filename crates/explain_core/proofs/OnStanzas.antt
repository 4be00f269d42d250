-- What an explanation tells holds on the stanzas.
use Rattle.std.proofs.Common.{◌≡◌, ℕ, ◌<◌, Bool, true, ◌&&◌, ◌||◌, eqb, List, ◌++◌, length, Option, Some, None, inl, inr, refl, sym, ◌∙◌, subst, arith}
use Rattle.std.proofs.lemmas.Bool.{and_from, and_parts, both_ways, eq-eqb, eqb-true, false_from_ne_true, or_cases, or_left}
use Rattle.std.specs.Prelude.{IfSome}
use Rattle.clause_solver.specs.declared.outcomes.Verdict.{Verdict as SearchVerdict}
use Rattle.clause_solver.specs.declared.outcomes.Verdict.TheVariants as tells
use Rattle.explain_core.specs.{Core.{goal_core, marked_goals, marks_of}, Explaining.{clashes_for, explained_by, explanation_of}}
use Rattle.explain_core.specs.{Meaning.{AreReasons, MeansExplanation}, Only.{only, pair}, Reasons.{clash_pairs}, declared.explanation.Clash.{Clash}}
use Rattle.explain_core.specs.{declared.explanation.Mark.{Mark}, declared.explanation.Explanation.{Explanation}}
use Rattle.explain_core.specs.declared.explanation.Explanation.TheVariants.{Yes, Spent, Core}
use Rattle.explain_core.specs.OnStanzas.{AreEnough, CoinstButFor, ExplanationsHold, HealthyButFor, HoldsOnStanzas}
use Rattle.explain_core.proofs.{Explained.{explanation_means}, Overs.{only_against}, Tellable.{AreInConflict, reasons_in_conflict}}
use Rattle.relation_fields.specs.{Meeting.{meets}, declared.packages.Home.{Home}, declared.packages.PackageFacts.{PackageFacts}}
use Rattle.repo_model.specs.{Goals.{HasOneFor, packages_named}, Repository.{clause_of, suite_repository}, Stanzas.{Met, stanza_at}, declared.goals.Goal.{Goal}}
use Rattle.repo_model.proofs.Packages.{clause_cases, clause_from, length_clauses, literal_cases, literal_from}
use Rattle.row_book.specs.{Book.{are_paired}, Repository.{Healthy, Repository, against}, Sets.{Hit, Is, NumSet}, declared.pair.Pair.{Pair}}
use Rattle.listed.specs.Lists.{In}
use Rattle.listed.proofs.Lists.{In_map, In_map_cases, any_cases, any_from}
use Rattle.search_terms.specs.{Laws.{Solves}, Tree.{failed_leaves}}
use Rattle.suite_compare.specs.Asking.{HasVerdict, asked_tree, verdict_in, wanted_by}
use Rattle.suite_compare.proofs.Deciding.{named_from, named_parts, verdict_is_judged}

module _ (home : Home) (stanzas : List PackageFacts) where
  abbrev R : Repository
  R = suite_repository home stanzas

  -- a healthy set of the repository in which these pairs alone conflict would be a healthy set of stanzas, and the other way round
  module _ (clashes : List Clash) (I : NumSet) where
    abbrev Within : Type 0
    Within = (n : ℕ) → Is I n → n < length stanzas

    member_below : Within → (n : ℕ) → Is I n → n < length R.clauses
    member_below h n i = let l = h n i in omega (arith, l, length_clauses home stanzas)

    pair_of : (m n : ℕ) (x : Pair) → (eqb x.low m && eqb x.high n) || (eqb x.low n && eqb x.high m) ≡ true → Is I m → Is I n → Is I x.low × Is I x.high
    pair_of m n x t i j = elim (or_cases (eqb x.low m && eqb x.high n) (eqb x.low n && eqb x.high m) t) [
      | inl a ↦ let w = and_parts (eqb x.low m) (eqb x.high n) a in (subst (Is I) (sym (eqb-true x.low m w.0)) i, subst (Is I) (sym (eqb-true x.high n w.1)) j)
      | inr b ↦ let w = and_parts (eqb x.low n) (eqb x.high m) b in (subst (Is I) (sym (eqb-true x.low n w.0)) j, subst (Is I) (sym (eqb-true x.high m w.1)) i)
    ]

    to_healthy : HealthyButFor home stanzas clashes I → Healthy (only R (clash_pairs clashes)) I
    to_healthy h = record {
      packages = member_below h.numbers;
      abundance = λ n i c j.
          let w = clause_cases home stanzas n c j in
          let m : Met home stanzas I w.0 = h.needs n i w.0 w.1 in
          subst (Hit (Is I)) (sym w.2) record {
            by = m.by;
            inside = literal_from home stanzas w.0 m.by (h.numbers m.by m.member) (any_from (λ atom. meets atom (stanza_at stanzas m.by) home) w.0 m.alternative m.inside m.meeting);
            alive = m.member;
          };
      peace = λ m n i j.
          only_against R (clash_pairs clashes) m n (member_below h.numbers m i) (member_below h.numbers n j) ∙ false_from_ne_true (are_paired (clash_pairs clashes) m n) (λ t.
          let a = any_cases (λ (x : Pair). (eqb x.low m && eqb x.high n) || (eqb x.low n && eqb x.high m)) (clash_pairs clashes) t in
          let both = pair_of m n a.0 a.2 i j in
          let c = In_map_cases (λ (c : Clash). pair c.first c.second) clashes a.0 a.1 in
          h.apart c.0 c.1 (subst (λ x. Is I x.low) c.2 both.0) (subst (λ x. Is I x.high) c.2 both.1));
    }

    from_healthy : Healthy (only R (clash_pairs clashes)) I → HealthyButFor home stanzas clashes I
    from_healthy h =
        let small : Within = λ n i. let l : n < length R.clauses = h.packages n i in omega (arith, l, length_clauses home stanzas) in
        record {
          numbers = small;
          needs = λ n i element j.
              let hit : Hit (Is I) (clause_of home stanzas element) = h.abundance n i (clause_of home stanzas element) (clause_from home stanzas n element (small n i) j) in
              let w = literal_cases home stanzas element hit.by hit.inside in
              let a = any_cases (λ atom. meets atom (stanza_at stanzas hit.by) home) element w.1 in
              record { alternative = a.0; inside = a.1; by = hit.by; member = hit.alive; meeting = a.2 };
          apart = λ c i a b. both_ways (against (only R (clash_pairs clashes)) c.first c.second) (h.peace c.first c.second a b)
              (only_against R (clash_pairs clashes) c.first c.second (h.packages c.first a) (h.packages c.second b) ∙ paired c i);
        }
      where
        paired : (c : Clash) → In c clashes → are_paired (clash_pairs clashes) c.first c.second ≡ true
        paired c i = any_from (λ (x : Pair). (eqb x.low c.first && eqb x.high c.second) || (eqb x.low c.second && eqb x.high c.first)) (clash_pairs clashes) (pair c.first c.second)
            (In_map (λ (c : Clash). pair c.first c.second) clashes c i)
            (or_left (eqb c.first c.first && eqb c.second c.second) (eqb c.first c.second && eqb c.second c.first) (and_from (eqb c.first c.first) (eqb c.second c.second) (eq-eqb c.first c.first refl) (eq-eqb c.second c.second refl)))

  module _ (goals : List Goal) (clashes : List Clash) where
    pub to_solves : (w : CoinstButFor home stanzas clashes goals) → Solves (only R (clash_pairs clashes)) (wanted_by stanzas goals) w.whole
    to_solves w = (
      to_healthy clashes w.whole w.healthy,
      (λ c i.
          let g = In_map_cases (packages_named stanzas) goals c i in
          let one : HasOneFor stanzas w.whole g.0 = w.serves g.0 g.1 in
          record { by = one.by; inside = subst (In one.by) (sym g.2) (named_from home stanzas g.0 one.by (w.healthy.numbers one.by one.member) one.named); alive = one.member }),
    )

    pub from_solves : (I : NumSet) → Solves (only R (clash_pairs clashes)) (wanted_by stanzas goals) I → CoinstButFor home stanzas clashes goals
    from_solves I s = record {
      whole = I;
      healthy = from_healthy clashes I s.0;
      serves = λ goal i.
          let hit : Hit (Is I) (packages_named stanzas goal) = s.1 (packages_named stanzas goal) (In_map (packages_named stanzas) goals goal i) in
          record { by = hit.by; member = hit.alive; named = named_parts home stanzas goal hit.by hit.inside };
    }

  enough_from : (goals : List Goal) (clashes : List Clash) → ((c : Clash) → In c clashes → AreInConflict home stanzas c.first c.second) → AreReasons R (wanted_by stanzas goals) clashes → AreEnough home stanzas goals clashes
  enough_from goals clashes conflicts reasons = record {
    conflicts = conflicts;
    enough = λ w. let s = to_solves goals clashes w in reasons.enough w.whole s.0 s.1;
    needed = λ before after c cut settled. let s = reasons.needed before after c cut settled in from_solves goals (before ++ after) s.0 s.1;
  }

  some_enough : (goals : List Goal) (clashes : Option (List Clash)) → IfSome clashes (λ cs. (c : Clash) → In c cs → AreInConflict home stanzas c.first c.second) → IfSome clashes (AreReasons R (wanted_by stanzas goals)) →
      IfSome clashes (AreEnough home stanzas goals)
  some_enough goals None conflicts reasons = tt
  some_enough goals (Some clashes) conflicts reasons = enough_from goals clashes conflicts reasons

module _ (home : Home) (stanzas : List PackageFacts) (limit : ℕ) (hold : Bool) (budget : ℕ) (goals : List Goal) where
  -- what is told of a spent search, and of a core
  spent_leaves : (failed : ℕ) (v : SearchVerdict) → HasVerdict limit hold home stanzas budget goals v → explained_by limit hold home stanzas budget goals v ≡ Spent failed →
      budget < failed_leaves (asked_tree limit hold home stanzas goals)
  spent_leaves failed tells.Yes h e = absurd cc
  spent_leaves failed tells.No h e = absurd cc
  spent_leaves failed tells.Spent h e = h

  core_conflicts : (marks : List Mark) (clashes : Option (List Clash)) (v : SearchVerdict) → explained_by limit hold home stanzas budget goals v ≡ Core marks clashes →
      IfSome clashes (λ cs. (c : Clash) → In c cs → AreInConflict home stanzas c.first c.second)
  core_conflicts marks clashes tells.Yes e = absurd cc
  core_conflicts marks clashes tells.Spent e = absurd cc
  core_conflicts marks clashes tells.No e =
      let same : clashes_for home stanzas budget goals (marks_of (goal_core limit hold home stanzas budget goals)) ≡ clashes = cc in
      subst (λ cs. IfSome cs (λ cs. (c : Clash) → In c cs → AreInConflict home stanzas c.first c.second)) same
      (reasons_in_conflict home stanzas budget (wanted_by stanzas (marked_goals goals (marks_of (goal_core limit hold home stanzas budget goals)))))

  holds_by : (explanation : Explanation) → explanation_of limit hold home stanzas budget goals ≡ explanation → MeansExplanation home stanzas goals explanation → HoldsOnStanzas limit hold home stanzas budget goals explanation
  holds_by Yes is m = m
  holds_by (Spent failed) is m = spent_leaves failed (verdict_in limit hold home stanzas budget goals) (verdict_is_judged limit hold home stanzas budget goals) is
  holds_by (Core marks clashes) is m = (m.0, some_enough home stanzas (marked_goals goals marks) clashes (core_conflicts marks clashes (verdict_in limit hold home stanzas budget goals) is) m.1)

pub explanations_hold : ExplanationsHold
explanations_hold home stanzas limit hold budget goals =
    holds_by home stanzas limit hold budget goals (explanation_of limit hold home stanzas budget goals) refl (explanation_means home stanzas limit hold budget goals)
