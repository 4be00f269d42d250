-- The packages of a sample suite, drawn with a linear congruential generator (Knuth's for 64 bits).
use Rattle.std.specs.Prelude.{ℕ, ◌+◌, ◌*◌, ◌/◌, ◌%◌, ◌≤◌, ◌==◌, zero, suc, List, [], ◌∷◌, Option}
use Rattle.std.specs.Prelude.{Some, None, if◌then◌else◌}
use Rattle.repo_model.specs.Limits.{most_packages}
use Rattle.sample_suite.specs.declared.package.SamplePackage.{SamplePackage}

-- what was drawn, and the state of the generator after it
pub record Drawn (A : Type 0) : Type 0 where
  pub value : A
  pub state : ℕ

-- the state after one draw
abbrev pub next_state : ℕ → ℕ
next_state state = (state * 6364136223846793005 + 1442695040888963407) % 18446744073709551616

-- a number below `below`, from the upper bits of the next state
unfoldable pub draw : ℕ → ℕ → Drawn ℕ
draw below state =
    record { value = (next_state state / 8589934592) % below; state = next_state state }

-- one draw before others
abbrev pub drawn_first : {A : Type 0} → A → Drawn (List A) → Drawn (List A)
drawn_first first more = record { value = first ∷ more.value; state = more.state }

-- a number of draws, one after another
unfoldable pub draws : {A : Type 0} → (ℕ → Drawn A) → ℕ → ℕ → Drawn (List A)
draws one zero state = record { value = []; state = state }
draws one (suc n) state = drawn_first (one state).value (draws one n (one state).state)

-- one or two alternatives, each the number of a package
abbrev pub draw_element : ℕ → ℕ → Drawn (List ℕ)
draw_element count state = let more = draw 2 state in draws (draw count) (more.value + 1) more.state

-- a number below five is drawn: 0 and 1 give no element, 2 and 3 give one, and 4 gives two
abbrev pub draw_needs : ℕ → ℕ → Drawn (List (List ℕ))
draw_needs count state = let chance = draw 5 state in
    draws (draw_element count) (chance.value / 2) chance.state

-- a conflict with the package that was drawn
abbrev pub some_conflict : Drawn ℕ → Drawn (Option ℕ)
some_conflict conflict = record { value = Some conflict.value; state = conflict.state }

abbrev pub no_conflict : ℕ → Drawn (Option ℕ)
no_conflict state = record { value = None; state = state }

-- a number below four is drawn: 0 gives a conflict, for which a package is drawn next
abbrev pub draw_conflict : ℕ → ℕ → Drawn (Option ℕ)
draw_conflict count state = let chance = draw 4 state in
    if chance.value == 0 then some_conflict (draw count chance.state) else no_conflict chance.state

abbrev pub draw_package : ℕ → ℕ → Drawn SamplePackage
draw_package count state =
    let needs = draw_needs count state in
    let conflict = draw_conflict count needs.state in
    record {
      value = record { needs = needs.value; conflict = conflict.value };
      state = conflict.state;
    }

-- the packages of a suite of `count` packages
abbrev pub sample_packages : ℕ → ℕ → List SamplePackage
sample_packages seed count = (draws (draw_package count) count seed).value

-- how many packages a suite may have
abbrev pub IsCount : ℕ → Type 0
IsCount count = (1 ≤ count) × (count ≤ most_packages)
