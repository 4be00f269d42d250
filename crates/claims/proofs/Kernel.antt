-- The kernel that is computed is the first repository that a round leaves as it is.
use Rattle.std.proofs.{Common.{◌≡◌, ◌≢◌, ℕ, zero, suc, ◌<◌, ◌≤◌, Bool, List, [], ◌∷◌, map, refl, sym, ap, subst, arith}, lemmas.Simd.{map-map}}
use Rattle.kernel_rounds.proofs.Reached.{kernel_is_lem}
use Rattle.row_book.specs.{Flattening.{flat}, Merging.{image}, Repository.{Repository}, Rounds.{image_after, round, round_count, rounds}, Sets.{NumSet}}
use Rattle.claims.specs.{Kernel.{SettlesTo, at_rest, after}, Laws.{KernelsAreKernels, KernelsAreOne}}

pub map_itself : {A : Type 0} (xs : List A) → map (λ x. x) xs ≡ xs
map_itself [] = refl
map_itself (x ∷ xs) = ap (λ more. x ∷ more) (map_itself xs)

-- after so many rounds, each of which changes something but for the last
reached : (limit : ℕ) (hold : Bool) (n : ℕ) (R : Repository) (sets : List NumSet) → ((m : ℕ) → m < n → round limit hold (rounds limit hold R m) ≢ rounds limit hold R m)
    → round limit hold (rounds limit hold R n) ≡ rounds limit hold R n → SettlesTo limit hold R sets (rounds limit hold R n) (map (image_after limit hold R n) sets)
reached limit hold zero R sets changes fixed = subst (SettlesTo limit hold R sets R) (sym (map_itself sets)) (at_rest fixed)
reached limit hold (suc n) R sets changes fixed =
    subst (SettlesTo limit hold R sets (rounds limit hold (round limit hold R) n)) (map-map (image_after limit hold (round limit hold R) n) (image (flat limit hold R)) sets)
    (after (changes 0 (omega arith)) (reached limit hold n (round limit hold R) (map (image (flat limit hold R)) sets) (λ m l. changes (suc m) (omega arith)) fixed))

pub kernels_are_kernels : KernelsAreKernels
kernels_are_kernels limit hold R sets sound =
    let k = kernel_is_lem limit hold R sound in
    reached limit hold (round_count limit hold R) R sets (λ m l e. let low : round_count limit hold R ≤ m = k.first m e in absurd (omega (arith, low))) k.fixed

pub kernels_are_one : KernelsAreOne
kernels_are_one limit hold R sets K L images others (at_rest e) (at_rest f) = (refl, refl)
kernels_are_one limit hold R sets K L images others (at_rest e) (after f k) = absurd (f e)
kernels_are_one limit hold R sets K L images others (after e j) (at_rest f) = absurd (e f)
kernels_are_one limit hold R sets K L images others (after e j) (after f k) = kernels_are_one limit hold (round limit hold R) (map (image (flat limit hold R)) sets) K L images others j k
