-- The rounds behind the first one reach the kernel.
use Rattle.std.proofs.Common.{◌≡◌, ℕ, zero, suc, ◌<◌, ◌≤◌, Bool, true, false, List, length, ◌⊎◌, inl, inr, refl, sym, ◌∙◌, ap, ap₂, subst, arith, map, None}
use Rattle.std.proofs.lemmas.{Bool.{both_ways, cases_Bool}, List.{get_or-map, length-map}}
use Rattle.row_book.specs.{Repository.{Repository}, Sound.{SoundRepository}, Flattening.{flat, packages, passes}, Flags.{flag}, Merging.{class_of, quotient}}
use Rattle.row_book.specs.{Parts.{part, place_in}, Pruning.{prune}, Thinning.{thin}}
use Rattle.row_book.specs.Rounds.{class_after, is_same_repository, kernel, kernel_class, limit_at, round, round_count, rounds}
use Rattle.row_book.proofs.{Flags.{flag_in}, Numbers.{at_numbers}, Parts.{part_count}, Placed.{place_below}}
use Rattle.clause_flatten.proofs.TidyFlat.{flat_size}
use Rattle.class_merge.specs.{Classes.{class_in}, Masks.{masked_repository, AreClassesOfPart, IsMaskOfRows}, declared.masked.MaskedRows.{MaskedRows}}
use Rattle.class_merge.proofs.Plain.{class_same}
use Rattle.kernel_rounds.specs.{declared.known.KnownRounds.{KnownRounds}, Known.{known_first, AreKnownRounds, AreRoundsOf, IsClassifiedPart, IsFlatPart}}
use Rattle.kernel_rounds.specs.Laws.{KernelBehindRound}
use Rattle.kernel_rounds.proofs.{Again.{all_within, first_within}, Classes.{class_within, sized}, Midways.{falls, none_passed}}
use Rattle.kernel_rounds.proofs.Reached.{kernel_is_lem, repository_test, rounds_sound, same_from}

module _ (limit : ℕ) (hold : Bool) (R : Repository) (s : SoundRepository R) where
  next : SoundRepository (round limit hold R)
  next = rounds_sound limit hold R s 1

  -- what no round changes is reached by one round more than are behind the first
  reaches :
      round limit hold (rounds limit hold R (suc (round_count limit hold (round limit hold R))))
      ≡ rounds limit hold R (suc (round_count limit hold (round limit hold R)))
  reaches = (kernel_is_lem limit hold (round limit hold R) next).fixed

  same : kernel limit hold (round limit hold R) ≡ kernel limit hold R
  same = (kernel_is_lem limit hold R s).only (suc (round_count limit hold (round limit hold R))) reaches

  few : round_count limit hold R ≤ suc (round_count limit hold (round limit hold R))
  few = (kernel_is_lem limit hold R s).first (suc (round_count limit hold (round limit hold R))) reaches

  -- which are all, where the first changes something
  counted : (round limit hold R ≡ R → ⊥) → round_count limit hold R ≡ suc (round_count limit hold (round limit hold R))
  counted changes = let l : round_count limit hold (round limit hold R) < round_count limit hold R = falls limit hold R s changes in omega (arith, few, l)

  -- and where it does not, each package is a class of its own
  own_class : round limit hold R ≡ R → (p : ℕ) → p < length R.clauses → class_of (flat limit hold R) p ≡ p
  own_class e p l =
      class_same (flat limit hold R) (sym (sized limit hold R s) ∙ ap (λ F. length F.clauses) e ∙ sym (flat_size limit hold R)) p
      (subst (λ n. p < n) (sym (flat_size limit hold R)) l)

  changed_or : (round limit hold R ≡ R) ⊎ (round limit hold R ≡ R → ⊥)
  changed_or = elim (cases_Bool (is_same_repository (round limit hold R) R)) [
    | inl t ↦ inl (same_from (round limit hold R) R t)
    | inr f ↦ inr (λ e. both_ways (is_same_repository (round limit hold R) R) f (repository_test (round limit hold R) R e))
  ]

  classes : (p : ℕ) → p < length R.clauses → kernel_class limit hold (round limit hold R) (class_of (flat limit hold R) p) ≡ kernel_class limit hold R p
  classes p l = elim changed_or [
    | inl e ↦ ap (kernel_class limit hold (round limit hold R)) (own_class e p l) ∙ ap (λ F. kernel_class limit hold F p) e
    | inr changes ↦ ap (λ n. class_after limit hold R n p) (sym (counted changes))
  ]

  -- the limit
  none_behind : limit_at limit hold R ≡ None → limit_at limit hold (round limit hold R) ≡ None
  none_behind h = elim changed_or [
    | inl e ↦ ap (limit_at limit hold) e ∙ h
    | inr changes ↦
        none_passed limit hold (round limit hold R) next (round_count limit hold (round limit hold R)) refl
        (λ j l. all_within limit hold R h (suc j) (omega (arith, counted changes)))
        (all_within limit hold R h (suc (round_count limit hold (round limit hold R))) (omega (arith, counted changes)))
  ]

  each : passes limit hold R ≡ None → limit_at limit hold (round limit hold R) ≡ None →
      (j : ℕ) → j ≤ round_count limit hold R → passes limit hold (rounds limit hold R j) ≡ None
  each first h zero l = first
  each first h (suc j) l = all_within limit hold (round limit hold R) h j (omega (arith, few))

  none_in_all : passes limit hold R ≡ None → limit_at limit hold (round limit hold R) ≡ None → limit_at limit hold R ≡ None
  none_in_all first h =
      none_passed limit hold R s (round_count limit hold R) refl (λ j l. each first h j (omega arith))
      (each first h (round_count limit hold R) (omega arith))

pub kernel_behind_round_lem : KernelBehindRound
kernel_behind_round_lem limit hold R s = record {
  same = same limit hold R s;
  classes = classes limit hold R s;
  within = ((λ h. (first_within limit hold R h, none_behind limit hold R s h)), (λ w. none_in_all limit hold R s w.0 w.1));
}

-- what is made of packages of a mask and of what is known of the rounds after the first
module _ (limit : ℕ) (P : Repository) (masked : MaskedRows) (is : IsMaskOfRows masked) (flat_is : IsFlatPart limit P masked) where
  abbrev flags : List Bool
  flags = masked.flags.now

  place_within : (p : ℕ) → flag flags p ≡ true → place_in flags p < length P.clauses
  place_within p up =
      subst (λ n. place_in flags p < n)
      (sym (part_count (masked_repository masked) is.mask.sound flags is.mask.size) ∙ ap (λ F. length F.clauses) flat_is.is ∙ flat_size limit false P)
      (place_below flags p up)

  pub left_by_first : (R : Repository) → R ≡ thin (prune (quotient (part flags (masked_repository masked)))) → R ≡ round limit false P
  unfolding round
  left_by_first R e = e ∙ ap (λ F. thin (prune (quotient F))) flat_is.is

  pub classified_part : (R : Repository) (rounds : KnownRounds) (merged classes : List ℕ) → R ≡ round limit false P → AreKnownRounds rounds → AreRoundsOf rounds limit R →
      AreClassesOfPart (masked_repository masked) flags merged → length merged ≡ length flags → classes ≡ map (class_in rounds.class_of) merged →
      IsClassifiedPart limit P flags (record { class_of = classes; rounds = rounds })
  classified_part R rounds merged classes left known of own size made =
      let same : known_first rounds ≡ round limit false P = of.is ∙ left in
      let next : rounds.class_of ≡ map (kernel_class limit false (round limit false P)) (packages (round limit false P)) =
      known.class_of ∙ ap₂ (λ l F. map (kernel_class l false F) (packages F)) of.limit_is same in
      record {
        is = known.is ∙ ap₂ (λ l F. kernel l false F) of.limit_is same ∙ (kernel_behind_round_lem limit false P flat_is.sound).same;
        size = ap length made ∙ length-map merged (class_in rounds.class_of) ∙ size;
        class_of = λ p up.
            let l : place_in flags p < length P.clauses = place_within p up in
            let k : class_in merged p ≡ class_of (flat limit false P) (place_in flags p) = own p up ∙ ap (λ F. class_of F (place_in flags p)) flat_is.is in
            ap (λ z. class_in z p) made ∙ get_or-map (class_in rounds.class_of) merged p 0 0 (subst (λ n. p < n) (sym size) (flag_in flags p up))
            ∙ ap₂ class_in next k
            ∙ at_numbers (kernel_class limit false (round limit false P)) 0 (length (round limit false P).clauses) 0 (class_of (flat limit false P) (place_in flags p))
            (class_within limit false 1 P flat_is.sound (place_in flags p) l)
            ∙ ap (kernel_class limit false (round limit false P)) (omega arith) ∙ (kernel_behind_round_lem limit false P flat_is.sound).classes (place_in flags p) l;
        within = (kernel_behind_round_lem limit false P flat_is.sound).within.1 (flat_is.within, ap₂ (λ l F. limit_at l false F) (sym of.limit_is) (sym same) ∙ known.within);
      }
