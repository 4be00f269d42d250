-- The kernel that rounds give is one that can be written.
use Rattle.std.proofs.Common.{◌≡◌, ℕ, ◌+◌, ◌<◌, ◌≤◌, Bool, true, false, inl, inr, cond, List, [], ◌∷◌, length, map, filter, refl, sym, ap, subst, ◌∙◌, arith}
use Rattle.repo_model.specs.Limits.{most_packages}
use Rattle.clause_pool.specs.Lists.{InOrder}
use Rattle.row_book.specs.{Flattening.{flat, held_of, is_held, packages}, Repository.{Repository, clauses_of}, Rounds.{kernel, kernel_class, round_count}}
use Rattle.row_book.specs.Sound.{TidyRepository}
use Rattle.listed.specs.Lists.{In}
use Rattle.listed.proofs.{Lists.{In_map, In_map_cases, filter_cases}, Orders.{ascending_filter}}
use Rattle.row_book.proofs.Numbers.{length_numbers, numbers_ascending, numbers_from, numbers_parts}
use Rattle.clause_flatten.proofs.{Stages.{without_hold_lem}, TidyFlat.{flat_order, flat_tidy}}
use Rattle.kernel_rounds.specs.Laws.{IsKernel}
use Rattle.kernel_rounds.proofs.{Reached.{kernel_is_lem}, Settling.{fixed_parts_lem}, Classes.{HasPackage, class_met, class_within, classes_few}}
use Rattle.kernel_text.specs.{KernelText.{FitsFormat, format_of}, Laws.{RoundsGiveKernels}, Reading.{number_limit, IsFormat}}

-- the format of a kernel is one of the two
known_format : (hold : Bool) → IsFormat (format_of hold)
known_format true = inr refl
known_format false = inl refl

-- without hold no package is held
first_holds_none : (limit : ℕ) (hold : Bool) (K : Repository) → format_of hold ≡ 1 → held_of limit hold K ≡ []
unfolding held_of
first_holds_none limit true K e = absurd (omega (arith, e))
first_holds_none limit false K e = kept_none (packages K)
  where
    kept_none : (xs : List ℕ) → filter (is_held limit false K) xs ≡ []
    kept_none [] = refl
    kept_none (x ∷ xs) = ap (λ b. cond b (x ∷ filter (is_held limit false K) xs) (filter (is_held limit false K) xs)) (ap (λ s. s.held x) (without_hold_lem limit K (length K.clauses))) ∙ kept_none xs

-- the held packages of a repository are those that its format can tell
held_fit : (limit : ℕ) (hold : Bool) (K : Repository) → FitsFormat (format_of hold) (length K.clauses) (held_of limit hold K)
unfolding held_of
held_fit limit hold K = record {
  known = known_format hold;
  ascending = ascending_filter (is_held limit hold K) (packages K) (numbers_ascending (length K.clauses) 0);
  inside = λ n i. let w = numbers_parts (length K.clauses) 0 n (filter_cases (is_held limit hold K) (packages K) n i).0 in omega (arith, w.1);
  none_in_first = first_holds_none limit hold K;
}

-- the kernel of a sound repository, with the class of each of its packages, is one that can be written
pub kernel_fits : RoundsGiveKernels
unfolding number_limit
kernel_fits limit hold R stanzas s count accepted =
    let k : IsKernel limit hold R = kernel_is_lem limit hold R s in
    let fixed : flat limit hold (kernel limit hold R) ≡ kernel limit hold R = (fixed_parts_lem limit hold (kernel limit hold R) k.sound k.fixed).flattening in
    let tidy : TidyRepository (kernel limit hold R) = subst TidyRepository fixed (flat_tidy limit hold (kernel limit hold R) k.sound) in
    record {
      sound = k.sound;
      order = λ n. subst (λ F. InOrder (clauses_of F n)) fixed (flat_order limit hold (kernel limit hold R) n);
      apart = tidy.apart;
      few_classes = let few : length stanzas ≤ most_packages = accepted.few in let less : length (kernel limit hold R).clauses ≤ length R.clauses = classes_few limit hold (round_count limit hold R) R s in omega arith;
      accepted = accepted;
      each = length_numbers (kernel_class limit hold R) (length R.clauses) 0 ∙ count;
      inside = λ class i.
          let w : (p : ℕ) × In p (packages R) × (class ≡ kernel_class limit hold R p) = In_map_cases (kernel_class limit hold R) (packages R) class i in
          let p : (0 ≤ w.0) × (w.0 < 0 + length R.clauses) = numbers_parts (length R.clauses) 0 w.0 w.1 in
          subst (λ k. k < length (kernel limit hold R).clauses) (sym w.2) (class_within limit hold (round_count limit hold R) R s w.0 (omega (arith, p.1)));
      populated = λ class l.
          let w : HasPackage limit hold R (round_count limit hold R) class = class_met limit hold (round_count limit hold R) R s class l in
          let within : w.by < length R.clauses = w.within in
          subst (λ k. In k (map (kernel_class limit hold R) (packages R))) w.class (In_map (kernel_class limit hold R) (packages R) w.by (numbers_from (length R.clauses) 0 w.by (omega arith) (omega arith)));
      fits = held_fit limit hold (kernel limit hold R);
    }
