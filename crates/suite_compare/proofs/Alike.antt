-- Judges that are asked alike, and lists that are compared place by place.
use Rattle.std.proofs.Common.{◌≡◌, ℕ, ◌<◌, List, [], inl, inr, length, get_or, sym, ◌∙◌, ap, subst}
use Rattle.row_book.specs.Book.{listed_for}
use Rattle.suite_compare.{specs.Bad.{AreAllBad, AreBad}, specs.Kinds.{alone, alone_in, kernel_in, together, together_in}, specs.Report.{is_yes}, specs.declared.verdicts.Bad.{Bad}, specs.declared.judge.Judge.{Judge}}

-- the kinds that are bad with each kind, of a judge of the same kernel and kinds within the same budget
module _ (judge other : Judge) (kernel : kernel_in other ≡ kernel_in judge) (kinds : other.kinds.items ≡ judge.kinds.items) (budget : other.budget ≡ judge.budget) where
  same_alone : (k : ℕ) → alone_in other k ≡ alone_in judge k
  same_alone k =
      ap (λ K. alone K other.budget (listed_for other.kinds.items k)) kernel
      ∙ ap (λ b. alone (kernel_in judge) b (listed_for other.kinds.items k)) budget
      ∙ ap (λ lists. alone (kernel_in judge) judge.budget (listed_for lists k)) kinds

  same_together : (k m : ℕ) → together_in other k m ≡ together_in judge k m
  same_together k m =
      ap (λ K. together K other.budget (listed_for other.kinds.items k) (listed_for other.kinds.items m)) kernel
      ∙ ap (λ b. together (kernel_in judge) b (listed_for other.kinds.items k) (listed_for other.kinds.items m)) budget
      ∙ ap (λ lists. together (kernel_in judge) judge.budget (listed_for lists k) (listed_for lists m)) kinds

  same_bad : (kind : ℕ) (list : List Bad) → AreBad judge kind list → AreBad other kind list
  same_bad kind list was = record {
    within = λ b i. subst (λ lists. b.kind < length lists) (sym kinds) (was.within b i);
    single = λ b i. ap is_yes (same_alone b.kind) ∙ was.single b i;
    verdict = λ b i. was.verdict b i ∙ sym (same_together kind b.kind);
    whole = λ first k l yes. elim (was.whole (ap is_yes (sym (same_alone kind)) ∙ first) k (subst (λ lists. k < length lists) kinds l) (ap is_yes (sym (same_alone k)) ∙ yes)) [
      | inl w ↦ inl w
      | inr e ↦ inr (same_together kind k ∙ e)
    ];
  }

  pub all_bad_alike : (lists : List (List Bad)) → AreAllBad judge lists → AreAllBad other lists
  all_bad_alike lists all = record {
    long = all.long ∙ sym (ap length kinds);
    each = λ k l. same_bad k (get_or lists k []) (all.each k (subst (λ z. k < length z) kinds l));
  }
