-- A round passes the clause limit where the code says so.
use Rattle.std.proofs.Common.{◌≡◌, ◌≢◌, ℕ, zero, suc, ◌+◌, ◌<◌, ◌≤◌, Bool, List, [], ◌∷◌, map, Option, Some, None, refl, sym, zero-le, ◌∙◌, arith, inl, inr}
use Rattle.std.proofs.lemmas.Bool.{cases_lt}
use Rattle.std.specs.Option.{option_map}
use Rattle.kernel_rounds.proofs.{Reached.{kernel_is_lem}, Again.{each_none}}
use Rattle.row_book.proofs.Numbers.{numbers_from, numbers_parts}
use Rattle.listed.specs.Lists.{In, here, there}
use Rattle.row_book.specs.{Flattening.{Passed, first_some, passes}, Numbers.{numbers}, Repository.{Repository}, Sound.{SoundRepository}}
use Rattle.row_book.specs.Rounds.{PassedRound, in_round, limit_at, passed_in_round, round, round_count, rounds}
use Rattle.claims.specs.Kernel.{PassesOnTheWay, now, later}
use Rattle.listed.proofs.Bools.{map_none}

all_within : (limit : ℕ) (hold : Bool) (R : Repository) → limit_at limit hold R ≡ None → (j : ℕ) → j ≤ round_count limit hold R → passes limit hold (rounds limit hold R j) ≡ None
unfolding limit_at
all_within limit hold R h j l =
    map_none (in_round limit hold R j) (passes limit hold (rounds limit hold R j))
    (each_none (passed_in_round limit hold R) (numbers (suc (round_count limit hold R)) 0) h j (numbers_from (suc (round_count limit hold R)) 0 j zero-le (omega arith)))

-- the round, and that each one before it changes something
record PassesAt (limit : ℕ) (hold : Bool) (R : Repository) : Type 0 where
  index : ℕ
  what : Passed
  there_it_is : passes limit hold (rounds limit hold R index) ≡ Some what
  changes : (j : ℕ) → j < index → round limit hold (rounds limit hold R j) ≢ rounds limit hold R j

where_it_is : (limit : ℕ) (hold : Bool) (R : Repository) → PassesOnTheWay limit hold R → PassesAt limit hold R
where_it_is limit hold R (now w e) = record { index = 0; what = w; there_it_is = e; changes = λ j l. absurd (omega (arith, l)) }
where_it_is limit hold R (later new p) =
    let more = where_it_is limit hold (round limit hold R) p in
    record { index = suc more.index; what = more.what; there_it_is = more.there_it_is; changes = λ j l. each j more l }
  where
    each : (j : ℕ) (more : PassesAt limit hold (round limit hold R)) → j < suc more.index → round limit hold (rounds limit hold R j) ≢ rounds limit hold R j
    each zero more l = new
    each (suc j) more l = more.changes j (omega (arith, l))

pub passes_not : (limit : ℕ) (hold : Bool) (R : Repository) → SoundRepository R → limit_at limit hold R ≡ None → ¬ (PassesOnTheWay limit hold R)
passes_not limit hold R sound none p =
    let at = where_it_is limit hold R p in
    elim (cases_lt (round_count limit hold R) at.index) [
      | inl l ↦ at.changes (round_count limit hold R) l (kernel_is_lem limit hold R sound).fixed
      | inr g ↦ let no : ⊥ = cc (sym (all_within limit hold R none at.index g) ∙ at.there_it_is) in no
    ]

way_to : (limit : ℕ) (hold : Bool) (i : ℕ) (R : Repository) (w : Passed) → passes limit hold (rounds limit hold R i) ≡ Some w → ((j : ℕ) → j < i → round limit hold (rounds limit hold R j) ≢ rounds limit hold R j) → PassesOnTheWay limit hold R
way_to limit hold zero R w e changes = now w e
way_to limit hold (suc i) R w e changes = later (changes 0 (omega arith)) (way_to limit hold i (round limit hold R) w e (λ j l. changes (suc j) (omega (arith, l))))

some_at : {A : Type 0} (f : ℕ → Option A) (ns : List ℕ) (w : A) → first_some (map f ns) ≡ Some w → (n : ℕ) × In n ns × (f n ≡ Some w)
some_at f [] w e = absurd (let no : ⊥ = cc in no)
some_at {A} f (n ∷ ns) w e = go (f n) refl e (some_at f ns w)
  where
    go : (found : Option A) → f n ≡ found → first_some (found ∷ map f ns) ≡ Some w → (first_some (map f ns) ≡ Some w → (m : ℕ) × In m ns × (f m ≡ Some w)) → (m : ℕ) × In m (n ∷ ns) × (f m ≡ Some w)
    go None at h rest = let more = rest h in (more.0, there more.1, more.2)
    go (Some x) at h rest = (n, here, at ∙ h)

mapped : {A B : Type 0} (f : A → B) (o : Option A) (w : B) → option_map f o ≡ Some w → (x : A) × (o ≡ Some x)
mapped f None w e = absurd (let no : ⊥ = cc in no)
mapped f (Some x) w e = (x, refl)

pub passes_so : (limit : ℕ) (hold : Bool) (R : Repository) → SoundRepository R → (w : PassedRound) → limit_at limit hold R ≡ Some w → PassesOnTheWay limit hold R
unfolding limit_at
passes_so limit hold R sound w e =
    let at = some_at (passed_in_round limit hold R) (numbers (suc (round_count limit hold R)) 0) w e in
    let p : (0 ≤ at.0) × (at.0 < 0 + suc (round_count limit hold R)) = numbers_parts (suc (round_count limit hold R)) 0 at.0 at.1 in
    let it = mapped (in_round limit hold R at.0) (passes limit hold (rounds limit hold R at.0)) w at.2 in
    way_to limit hold at.0 R it.0 it.1 (λ j l same. let high : round_count limit hold R ≤ j = (kernel_is_lem limit hold R sound).first j same in let low = p.1 in absurd (omega (arith, high, low, l)))
