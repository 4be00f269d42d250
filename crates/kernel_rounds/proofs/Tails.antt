-- Rounds keep every set, whatever comes after merging; and what comes in the rounds of a kernel.
use Rattle.std.proofs.Common.{◌≡◌, ℕ, Bool, zero, suc, ◌<◌, [], length, inl, inr, sym, ◌∙◌, ap, subst, slice_index_or, ◌↔◌}
use Rattle.row_book.specs.{Sets.{NumSet, Is}, Repository.{Repository, Coinst, clauses_of}, Sound.{OfPackages, SoundRepository, TidyRepository}}
use Rattle.row_book.specs.{Flattening.{flat}, Merging.{firsts, class_of, image, quotient}, Pruning.{prune}, Thinning.{thin}}
use Rattle.listed.specs.Lists.{In}
use Rattle.clause_pool.specs.Lists.{InOrder}
use Rattle.row_book.proofs.Repositories.{between, both, healthy_coinst}
use Rattle.clause_flatten.proofs.{Flat.{flat_keeps_lem}, TidyFlat.{flat_size, flat_sound}}
use Rattle.class_merge.proofs.{Classes.{has_class_lem, image_parts}, Kept.{merge_is_tidy_lem, merge_keeps_lem, merged_size}}
use Rattle.clause_prune.proofs.Dropping.{prune_step}
use Rattle.conflict_reduce.proofs.Thinned.{thin_is_sound_lem, thin_keeps_lem}
use Rattle.kernel_rounds.specs.{Tails.{Lighter, Tail, conflict_count, round_with}, Laws.{RoundsKept, TailsKeep}}
use Rattle.kernel_rounds.proofs.Thins.{count_same, thin_or}

pub merged_tidy : (limit : ℕ) (hold : Bool) → (K : Repository) → SoundRepository K → TidyRepository (quotient (flat limit hold K))
merged_tidy limit hold K s = merge_is_tidy_lem (flat limit hold K) (flat_sound limit hold K s)

pub round_sound : (limit : ℕ) (hold : Bool) → (t : Repository → Repository) → Tail t → (R : Repository) → SoundRepository R → SoundRepository (round_with limit hold t R)
round_sound limit hold t tail R s = tail.sound (quotient (flat limit hold R)) (merged_tidy limit hold R s)

pub round_size : (limit : ℕ) (hold : Bool) → (t : Repository → Repository) → Tail t → (R : Repository) → SoundRepository R → length (round_with limit hold t R).clauses ≡ length (firsts (flat limit hold R))
round_size limit hold t tail R s = tail.size (quotient (flat limit hold R)) (merged_tidy limit hold R s) ∙ merged_size (flat limit hold R)

-- the image of a set is a set of classes
pub image_within : (limit : ℕ) (hold : Bool) → (t : Repository → Repository) → Tail t → (R : Repository) → SoundRepository R → (S : NumSet) → OfPackages (round_with limit hold t R) (image (flat limit hold R) S)
image_within limit hold t tail R s S k i =
    let w : (q : ℕ) × (q < length (flat limit hold R).clauses) × Is S q × (class_of (flat limit hold R) q ≡ k) = image_parts (flat limit hold R) S k i in
    subst (λ z. k < z) (sym (round_size limit hold t tail R s)) (subst (λ z. z < length (firsts (flat limit hold R))) w.3 (has_class_lem (flat limit hold R) w.0 w.1).within)

pub round_keeps : (limit : ℕ) (hold : Bool) → (t : Repository → Repository) → Tail t → (R : Repository) → SoundRepository R → (S : NumSet) → OfPackages R S → (Coinst R S ↔ Coinst (round_with limit hold t R) (image (flat limit hold R) S))
round_keeps limit hold t tail R s S small =
    both (flat_keeps_lem limit hold R (between R s) S)
    (both (merge_keeps_lem (flat limit hold R) S (flat_sound limit hold R s) (λ q i. subst (λ z. q < z) (sym (flat_size limit hold R)) (small q i)))
    (tail.keeps (quotient (flat limit hold R)) (merged_tidy limit hold R s) (image (flat limit hold R) S)))

pub tails_keep_lem : TailsKeep
tails_keep_lem limit hold t tail R s zero = record { keeps = λ S small. ((λ h. h), (λ h. h)); sound = s }
tails_keep_lem limit hold t tail R s (suc n) =
    let rest : RoundsKept limit hold t (round_with limit hold t R) n = tails_keep_lem limit hold t tail (round_with limit hold t R) (round_sound limit hold t tail R s) n in
    record {
      keeps = λ S small. both (round_keeps limit hold t tail R s S small) (rest.keeps (image (flat limit hold R) S) (image_within limit hold t tail R s S));
      sound = rest.sound;
    }

thin_row : (R : Repository) → SoundRepository R → (p : ℕ) → clauses_of (thin R) p ≡ clauses_of R p
thin_row R s p = ap (λ c. slice_index_or c p []) (thin_is_sound_lem R s).clauses

pub thin_tail : Tail (λ R. thin (prune R))
thin_tail = record {
  sound = λ R f. (thin_is_sound_lem (prune R) (prune_step R f).tidy.sound).sound;
  keeps = λ R f S. both ((prune_step R f).keeps S) (healthy_coinst (prune R) (thin (prune R)) (λ I. thin_keeps_lem (prune R) I) S);
  size = λ R f. ap (λ c. length c) (thin_is_sound_lem (prune R) (prune_step R f).tidy.sound).clauses ∙ (prune_step R f).size;
  conflicts = λ R f. elim (thin_or (prune R) (prune_step R f).tidy.sound) [
    | inl e ↦ inl (ap (λ F. F.conflicts) e ∙ (prune_step R f).conflicts)
    | inr l ↦ inr (subst (λ n. conflict_count (thin (prune R)) < n) (count_same (prune R) R (prune_step R f).size (prune_step R f).conflicts) l)
  ];
  clauses = λ R f p c i. (prune_step R f).rows p c (subst (λ r. In c r) (thin_row (prune R) (prune_step R f).tidy.sound p) i);
  order = λ R f o p. subst (λ r. InOrder r) (sym (thin_row (prune R) (prune_step R f).tidy.sound p)) ((prune_step R f).order o p);
  weight = λ R f p. subst (λ r. Lighter r (clauses_of R p)) (sym (thin_row (prune R) (prune_step R f).tidy.sound p)) ((prune_step R f).weight p);
}
