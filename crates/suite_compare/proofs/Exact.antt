-- The report of two indexes lists exactly what is broken and what is open.
use Rattle.std.proofs.Common.{ℕ, ◌≡◌, ◌⊎◌, Bool, List, [], ◌∷◌, ◌++◌, inl, inr, refl, sym, ◌∙◌, subst, filter, true, false, Option}
use Rattle.std.specs.{Prelude.{◌↔◌}, List.{flat_map}}
use Rattle.listed.proofs.Lists.{In_flat_cases, In_flat, In_append_cases, In_append_left, In_append_right, filter_cases, filter_from}
use Rattle.clause_solver.specs.declared.outcomes.Verdict.TheVariants.{Yes}
use Rattle.repo_model.specs.Goals.{any_version}
use Rattle.clause_pool.specs.Lists.{Before, InOrder}
use Rattle.listed.specs.Lists.{In, here}
use Rattle.clause_pool.proofs.Order.{order_filter}
use Rattle.suite_compare.specs.{Names.{names_of_both}, Report.{is_yes, pair_line, single_line, with_later}, declared.report.Finding.{Finding}}
use Rattle.suite_compare.specs.{declared.report.ReportLine.{ReportLine}, declared.report.ReportLine.TheVariants.{Broken1, Broken2, Open1, Open2}}
use Rattle.suite_compare.specs.Indexes.{SearchedIndex, Judged}
use Rattle.suite_compare.specs.Listing.{names_of, AreInOrder, BothHave, IsAsked, IsBroken, IsUndecided, ListsExactly, is_broken, says_open}
use Rattle.suite_compare.specs.ListingLaws.{OneListIsExact, ReportListsExactly}
use Rattle.suite_compare.proofs.Judging.{broken_is, broken_told, can_is_yes, is_yes_can, open_is, open_told, told}
use Rattle.suite_compare.proofs.Members.{later_cases, later_from, not_both, pair_broken, pair_open, pair_names, same_first, same_one, same_second}
use Rattle.suite_compare.proofs.{Members.{single_broken, single_open, single_names}, NamesOfBoth.{both_from, both_have, both_order}}
use Rattle.suite_compare.proofs.Orders.{order_same, report_order}

-- a report as lines of names and lines of pairs
abbrev singles : (List ℕ → Option Finding) → List (List ℕ) → List ReportLine
singles f names = flat_map (λ n. single_line n (f n)) names

abbrev pairs : (List ℕ → List ℕ → Option Finding) → List (List ℕ) → List ReportLine
pairs g chosen = with_later (λ a b. pair_line a b (g a b)) chosen

-- a line about a name stands there for the name, and one about a pair for the pair
one_cases : (f : List ℕ → Option Finding) (g : List ℕ → List ℕ → Option Finding) (names chosen : List (List ℕ)) → InOrder chosen → (line : ReportLine) (name : List ℕ) → names_of line ≡ name ∷ [] → In line (singles f names ++ pairs g chosen)
    → In name names × In line (single_line name (f name))
one_cases f g names chosen o line name e i =
    elim (In_append_cases (singles f names) (pairs g chosen) line i) [
      | inl l ↦
          let w : (n : List ℕ) × In n names × In line (single_line n (f n)) = In_flat_cases (λ n. single_line n (f n)) names line l in
          let same : w.0 ≡ name = same_one w.0 name (sym (single_names w.0 (f w.0) line w.2) ∙ e) in
          (subst (λ z. In z names) same w.1, subst (λ z. In line (single_line z (f z))) same w.2)
      | inr r ↦
          let w : (a : List ℕ) × (b : List ℕ) × In a chosen × In b chosen × Before a b × In line (pair_line a b (g a b)) = later_cases (λ a b. pair_line a b (g a b)) chosen o line r in
          absurd (not_both name w.0 w.1 (sym e ∙ pair_names w.0 w.1 (g w.0 w.1) line w.5))
    ]

two_cases : (f : List ℕ → Option Finding) (g : List ℕ → List ℕ → Option Finding) (names chosen : List (List ℕ)) → InOrder chosen → (line : ReportLine) (a b : List ℕ) → names_of line ≡ a ∷ (b ∷ []) → In line (singles f names ++ pairs g chosen)
    → In a chosen × In b chosen × Before a b × In line (pair_line a b (g a b))
two_cases f g names chosen o line a b e i =
    elim (In_append_cases (singles f names) (pairs g chosen) line i) [
      | inl l ↦
          let w : (n : List ℕ) × In n names × In line (single_line n (f n)) = In_flat_cases (λ n. single_line n (f n)) names line l in
          absurd (not_both w.0 a b (sym (single_names w.0 (f w.0) line w.2) ∙ e))
      | inr r ↦
          let w : (c : List ℕ) × (d : List ℕ) × In c chosen × In d chosen × Before c d × In line (pair_line c d (g c d)) = later_cases (λ a b. pair_line a b (g a b)) chosen o line r in
          let same : w.0 ∷ (w.1 ∷ []) ≡ a ∷ (b ∷ []) = sym (pair_names w.0 w.1 (g w.0 w.1) line w.5) ∙ e in
          let p : w.0 ≡ a = same_first w.0 w.1 a b same in
          let q : w.1 ≡ b = same_second w.0 w.1 a b same in (
            subst (λ z. In z chosen) p w.2,
            subst (λ z. In z chosen) q w.3,
            subst (λ z. Before a z) q (subst (λ z. Before z w.1) p w.4),
            subst (λ z. In line (pair_line a z (g a z))) q (subst (λ z. In line (pair_line z w.1 (g z w.1))) p w.5),
          )
    ]

one_from : (f : List ℕ → Option Finding) (g : List ℕ → List ℕ → Option Finding) (names chosen : List (List ℕ)) (line : ReportLine) (name : List ℕ) → In name names → In line (single_line name (f name)) → In line (singles f names ++ pairs g chosen)
one_from f g names chosen line name i j = In_append_left (singles f names) (pairs g chosen) line (In_flat (λ n. single_line n (f n)) names name line i j)

two_from : (f : List ℕ → Option Finding) (g : List ℕ → List ℕ → Option Finding) (names chosen : List (List ℕ)) → InOrder chosen → (line : ReportLine) (a b : List ℕ) → In a chosen → In b chosen → Before a b → In line (pair_line a b (g a b))
    → In line (singles f names ++ pairs g chosen)
two_from f g names chosen o line a b i j up k = In_append_right (singles f names) (pairs g chosen) line (later_from (λ a b. pair_line a b (g a b)) chosen o a b i j up line k)

pub report_lists_exactly : ReportListsExactly
report_lists_exactly old new in_old in_new says_old says_new = record { broken = broken_lines; undecided = open_lines; order = in_order }
  where
    names : List (List ℕ)
    names = names_of_both old.stanzas new.stanzas

    f : List ℕ → Option Finding
    f name = told in_old in_new (name ∷ [])

    g : List ℕ → List ℕ → Option Finding
    g first second = told in_old in_new (first ∷ (second ∷ []))

    chosen : List (List ℕ)
    chosen = filter (λ name. is_yes (in_new (any_version name ∷ []))) names

    chosen_order : InOrder chosen
    chosen_order = order_filter (λ name. is_yes (in_new (any_version name ∷ []))) names (both_order old.stanzas new.stanzas)

    in_order : AreInOrder (singles f names ++ pairs g chosen)
    in_order = report_order f g names chosen (both_order old.stanzas new.stanzas) chosen_order

    chosen_from : (name : List ℕ) → BothHave old new name → Judged new (name ∷ []) Yes → In name chosen
    chosen_from name h c = filter_from (λ name. is_yes (in_new (any_version name ∷ []))) names name (both_from old new name h) (can_is_yes new in_new (name ∷ []) says_new c)

    pair_from : (a b : List ℕ) → In a chosen → In b chosen → Before a b → IsAsked Judged old new (a ∷ (b ∷ []))
    pair_from a b i j up =
        let u : In a names × (is_yes (in_new (any_version a ∷ [])) ≡ true) = filter_cases (λ name. is_yes (in_new (any_version name ∷ []))) names a i in
        let v : In b names × (is_yes (in_new (any_version b ∷ [])) ≡ true) = filter_cases (λ name. is_yes (in_new (any_version name ∷ []))) names b j in
        (up, both_have old new a u.0, both_have old new b v.0, is_yes_can new in_new (a ∷ []) says_new u.1, is_yes_can new in_new (b ∷ []) says_new v.1)

    -- a line of two names that is told stands in the report
    pair_told : (line : ReportLine) (a b : List ℕ) → IsAsked Judged old new (a ∷ (b ∷ [])) → In line (pair_line a b (g a b)) → In line (singles f names ++ pairs g chosen)
    pair_told line a b h i = two_from f g names chosen chosen_order line a b (chosen_from a h.1 h.3) (chosen_from b h.2 h.4) h.0 i

    broken_lines : (l : ReportLine) → is_broken l ≡ true → (In l (singles f names ++ pairs g chosen) ↔ (IsAsked Judged old new (names_of l) × IsBroken Judged old new (names_of l)))
    broken_lines (Broken1 name) e = (
      (λ i. let w : In name names × In (Broken1 name) (single_line name (f name)) = one_cases f g names chosen chosen_order (Broken1 name) name refl i in
          (both_have old new name w.0, broken_is old new in_old in_new (name ∷ []) says_old says_new (single_broken name name (f name) w.1))),
      (λ h. one_from f g names chosen (Broken1 name) name (both_from old new name h.0)
          (subst (λ z. In (Broken1 name) (single_line name z)) (sym (broken_told old new in_old in_new (name ∷ []) says_old says_new h.1)) here)),
    )
    broken_lines (Broken2 a b) e = (
      (λ i. let w : In a chosen × In b chosen × Before a b × In (Broken2 a b) (pair_line a b (g a b)) = two_cases f g names chosen chosen_order (Broken2 a b) a b refl i in
          (pair_from a b w.0 w.1 w.2, broken_is old new in_old in_new (a ∷ (b ∷ [])) says_old says_new (pair_broken a b a b (g a b) w.3))),
      (λ h. pair_told (Broken2 a b) a b h.0 (subst (λ z. In (Broken2 a b) (pair_line a b z)) (sym (broken_told old new in_old in_new (a ∷ (b ∷ [])) says_old says_new h.1)) here)),
    )
    broken_lines (Open1 name) e = absurd (let no : ⊥ = cc in no)
    broken_lines (Open2 a b) e = absurd (let no : ⊥ = cc in no)

    open_lines : (l : ReportLine) → says_open l ≡ true → (In l (singles f names ++ pairs g chosen) ↔ (IsAsked Judged old new (names_of l) × IsUndecided Judged old new (names_of l)))
    open_lines (Open1 name) e = (
      (λ i. let w : In name names × In (Open1 name) (single_line name (f name)) = one_cases f g names chosen chosen_order (Open1 name) name refl i in
          (both_have old new name w.0, open_is old new in_old in_new (name ∷ []) says_old says_new (single_open name name (f name) w.1))),
      (λ h. one_from f g names chosen (Open1 name) name (both_from old new name h.0)
          (subst (λ z. In (Open1 name) (single_line name z)) (sym (open_told old new in_old in_new (name ∷ []) says_old says_new h.1)) here)),
    )
    open_lines (Open2 a b) e = (
      (λ i. let w : In a chosen × In b chosen × Before a b × In (Open2 a b) (pair_line a b (g a b)) = two_cases f g names chosen chosen_order (Open2 a b) a b refl i in
          (pair_from a b w.0 w.1 w.2, open_is old new in_old in_new (a ∷ (b ∷ [])) says_old says_new (pair_open a b a b (g a b) w.3))),
      (λ h. pair_told (Open2 a b) a b h.0 (subst (λ z. In (Open2 a b) (pair_line a b z)) (sym (open_told old new in_old in_new (a ∷ (b ∷ [])) says_old says_new h.1)) here)),
    )
    open_lines (Broken1 name) e = absurd (let no : ⊥ = cc in no)
    open_lines (Broken2 a b) e = absurd (let no : ⊥ = cc in no)

-- a line says `broken` or `open`
pub says_one : (line : ReportLine) → (is_broken line ≡ true) ⊎ (says_open line ≡ true)
says_one (Broken1 name) = inl refl
says_one (Broken2 first second) = inl refl
says_one (Open1 name) = inr refl
says_one (Open2 first second) = inr refl

-- the lines of one exact list stand in each other
carried : (old new : SearchedIndex) (lines others : List ReportLine) → ListsExactly Judged old new lines → ListsExactly Judged old new others → (line : ReportLine) → In line lines → In line others
carried old new lines others h k line i = elim (says_one line) [
  | inl e ↦ (k.broken line e).1 ((h.broken line e).0 i)
  | inr e ↦ (k.undecided line e).1 ((h.undecided line e).0 i)
]

pub one_list_is_exact : OneListIsExact
one_list_is_exact old new lines others h k = order_same lines others h.order k.order (carried old new lines others h k) (carried old new others lines k h)
