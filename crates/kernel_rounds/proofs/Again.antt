-- A kernel is its own kernel, and passes no limit that was not passed on the way to it.
use Rattle.std.proofs.Common.{◌≡◌, ℕ, Bool, suc, ◌≤◌, List, [], ◌∷◌, inl, inr, refl, sym, ◌∙◌, ap, subst, arith, map, zero-le, Option, Some, None, ◌↔◌}
use Rattle.listed.specs.Lists.{In}
use Rattle.row_book.specs.{Repository.{Repository, Coinst}, Keeping.{KeepsImages}, Sound.{SoundRepository}, Flattening.{first_some, held_of, passes}}
use Rattle.row_book.specs.Rounds.{in_round, kernel, kernel_held, kernel_image, Settled, class_after, limit_at, passed_in_round, round, rounds, round_count}
use Rattle.row_book.specs.{Rounds.{steps_after}, Numbers.{numbers}}
use Rattle.listed.proofs.{Lists.{In_cases, In_none}, Bools.{map_none}}
use Rattle.row_book.proofs.Numbers.{numbers_from}
use Rattle.kernel_rounds.specs.{Laws.{KernelOfKernel, OwnKernel}, Extracting.{IsOwnKernel}}
use Rattle.kernel_rounds.proofs.{Midways.{none_passed}, Reached.{kernel_is_lem, kernel_keeps_lem}}

-- where no value is found, each is absent
pub each_none : {A : Type 0} (f : ℕ → Option A) (xs : List ℕ) → first_some (map f xs) ≡ None → (x : ℕ) → In x xs → f x ≡ None
each_none f [] h x i = absurd (In_none i)
each_none {A} f (y ∷ ys) h x i = pick (f y) refl h (λ g j. each_none f ys g x j)
  where
    pick : (o : Option A) → f y ≡ o → first_some (o ∷ map f ys) ≡ None → (first_some (map f ys) ≡ None → In x ys → f x ≡ None) → f x ≡ None
    pick None e g more = elim (In_cases i) [ inl s ↦ ap f s ∙ e | inr j ↦ more g j ]
    pick (Some w) e g more = absurd (let never : ⊥ = cc in never)

-- where no round passes the limit, none up to the last one does
pub all_within : (limit : ℕ) (hold : Bool) (R : Repository) → limit_at limit hold R ≡ None →
    (j : ℕ) → j ≤ round_count limit hold R → passes limit hold (rounds limit hold R j) ≡ None
unfolding limit_at
all_within limit hold R h j l =
    map_none (in_round limit hold R j) (passes limit hold (rounds limit hold R j))
    (each_none (passed_in_round limit hold R) (numbers (suc (round_count limit hold R)) 0) h j
    (numbers_from (suc (round_count limit hold R)) 0 j zero-le (omega arith)))

pub first_within : (limit : ℕ) (hold : Bool) (R : Repository) → limit_at limit hold R ≡ None → passes limit hold R ≡ None
first_within limit hold R h = all_within limit hold R h 0 zero-le

module _ (limit : ℕ) (hold : Bool) (R : Repository) (s : SoundRepository R) where
  fixed : round limit hold (kernel limit hold R) ≡ kernel limit hold R
  fixed = (kernel_is_lem limit hold R s).fixed

  sound : SoundRepository (kernel limit hold R)
  sound = (kernel_is_lem limit hold R s).sound

  none : round_count limit hold (kernel limit hold R) ≡ 0
  none = let l : round_count limit hold (kernel limit hold R) ≤ 0 = (kernel_is_lem limit hold (kernel limit hold R) sound).first 0 fixed in omega (arith, l)

  -- the last round that the limit is asked of is the one over the kernel
  within : limit_at limit hold R ≡ None → limit_at limit hold (kernel limit hold R) ≡ None
  within h =
      none_passed limit hold (kernel limit hold R) sound 0 (sym none) (λ j l. absurd (omega arith))
      (all_within limit hold R h (round_count limit hold R) (omega arith))

pub kernel_of_kernel_lem : KernelOfKernel
kernel_of_kernel_lem limit hold R s = record {
  same = ap (λ n. rounds limit hold (kernel limit hold R) n) (none limit hold R s);
  held = ap (λ n. held_of limit hold (rounds limit hold (kernel limit hold R) n)) (none limit hold R s);
  classes = λ p. ap (λ n. class_after limit hold (kernel limit hold R) n p) (none limit hold R s);
  steps = ap (λ n. steps_after limit hold (kernel limit hold R) n) (none limit hold R s);
  within = within limit hold R s;
}

-- what holds of a repository that is the kernel
pub extracted_keeps : (limit : ℕ) (hold : Bool) → (R F : Repository) → SoundRepository R → F ≡ kernel limit hold R → KeepsImages R F (kernel_image limit hold R)
extracted_keeps limit hold R F s e S small = subst (λ K. Coinst R S ↔ Coinst K (kernel_image limit hold R S)) (sym e) (kernel_keeps_lem limit hold R s S small)

pub extracted_settled : (limit : ℕ) (hold : Bool) → (R F : Repository) → SoundRepository R → F ≡ kernel limit hold R → Settled limit hold F
extracted_settled limit hold R F s e = subst (Settled limit hold) (sym e) (kernel_is_lem limit hold R s).settled

pub extracted_own : (limit : ℕ) (hold : Bool) → (R F : Repository) (held : List ℕ) → SoundRepository R → F ≡ kernel limit hold R → held ≡ kernel_held limit hold R →
    limit_at limit hold R ≡ None → IsOwnKernel F held limit hold
extracted_own limit hold R F held s e same h =
    let own : OwnKernel limit hold R = kernel_of_kernel_lem limit hold R s in
    subst (λ K. IsOwnKernel K held limit hold) (sym e) (record { same = own.same; held = own.held ∙ sym same; classes = own.classes; steps = own.steps; within = own.within h })
