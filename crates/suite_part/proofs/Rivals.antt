-- Of packages that conflict with packages of a mix, one that each conflicts with.
use Rattle.std.proofs.Common.{◌≡◌, ℕ, ◌<◌, ◌≤◌, ◌+◌, ◌⊎◌, Bool, true, false, List, length, set, inl, inr, sym, ◌∙◌, ap, subst, arith}
use Rattle.std.proofs.{lemmas.Bool.{both_ways, cases_eq}, lemmas.List.{get_or-set_same}}
use Rattle.std.specs.List.{list_any}
use Rattle.listed.specs.Lists.{In}
use Rattle.listed.proofs.Lists.{any_cases, any_from}
use Rattle.row_book.specs.{Book.{listed_for}, Flags.{flag}}
use Rattle.row_book.proofs.Flags.{flag_in}
use Rattle.suite_part.specs.Small.{HasRivals}

-- one more flag
module _ (apart : List Bool) (x : ℕ) (l : x < length apart) where
  pub one_up : (ns : List ℕ) → In x ns → list_any (flag (set apart x true)) ns ≡ true
  one_up ns i = any_from (flag (set apart x true)) ns x i (get_or-set_same apart x true false l)

-- what has a flag among some packages still has one when there are more flags
any_stays : (old new : List Bool) (ns : List ℕ) → ((n : ℕ) → flag old n ≡ true → flag new n ≡ true) → list_any (flag old) ns ≡ true → list_any (flag new) ns ≡ true
any_stays old new ns up t =
    let w : (n : ℕ) × In n ns × (flag old n ≡ true) = any_cases (flag old) ns t in
    any_from (flag new) ns w.0 w.1 (up w.0 w.2)

-- those of the packages before a number have rivals
pub record RivalsTo (conflicts : List (List ℕ)) (flags needed apart : List Bool) (n : ℕ) : Type 0 where
  pub size : length apart ≡ length needed
  pub stays : (m : ℕ) → flag needed m ≡ true → flag apart m ≡ true
  pub mix : (m : ℕ) → flag apart m ≡ true → flag flags m ≡ true
  pub rivals : (m k : ℕ) → m < n → flag needed m ≡ true → In k (listed_for conflicts m) → flag flags k ≡ true → list_any (flag apart) (listed_for conflicts m) ≡ true

module _ (conflicts : List (List ℕ)) (flags needed : List Bool) where
  pub rivals_none : (apart : List Bool) → apart ≡ needed → ((m : ℕ) → flag needed m ≡ true → flag flags m ≡ true) → RivalsTo conflicts flags needed apart 0
  rivals_none apart e mix = record {
    size = ap length e;
    stays = λ m u. ap (λ z. flag z m) e ∙ u;
    mix = λ m u. mix m (ap (λ z. flag z m) (sym e) ∙ u);
    rivals = λ m k l. absurd (omega arith);
  }

  pub rivals_less : (apart : List Bool) (n : ℕ) → flag needed n ≡ false → RivalsTo conflicts flags needed apart n → RivalsTo conflicts flags needed apart (n + 1)
  rivals_less apart n down r = record {
    size = r.size;
    stays = r.stays;
    mix = r.mix;
    rivals = λ m k l u i v. elim (cases_eq m n) [
      | inl e ↦ absurd (both_ways (flag needed n) down (subst (λ z. flag needed z ≡ true) e u))
      | inr d ↦ r.rivals m k (omega (arith, d)) u i v
    ];
  }

  pub rivals_more : (old new : List Bool) (n : ℕ) → length new ≡ length old → ((m : ℕ) → flag old m ≡ true → flag new m ≡ true) → ((m : ℕ) → flag new m ≡ true → (flag old m ≡ true) ⊎ (flag flags m ≡ true))
      → ((m : ℕ) → In m (listed_for conflicts n) → flag flags m ≡ true → list_any (flag new) (listed_for conflicts n) ≡ true) →
      RivalsTo conflicts flags needed old n → RivalsTo conflicts flags needed new (n + 1)
  rivals_more old new n size up gains one r = record {
    size = size ∙ r.size;
    stays = λ m u. up m (r.stays m u);
    mix = λ m u. elim (gains m u) [ inl a ↦ r.mix m a | inr b ↦ b ];
    rivals = λ m k l u i v. elim (cases_eq m n) [
      | inl e ↦ subst (λ z. list_any (flag new) (listed_for conflicts z) ≡ true) (sym e) (one k (subst (λ z. In k (listed_for conflicts z)) e i) v)
      | inr d ↦ any_stays old new (listed_for conflicts m) up (r.rivals m k (omega (arith, d)) u i v)
    ];
  }

pub rivals_all : (conflicts : List (List ℕ)) (flags needed apart : List Bool) (n : ℕ) → length needed ≤ n → RivalsTo conflicts flags needed apart n → HasRivals conflicts flags needed apart
rivals_all conflicts flags needed apart n l r = record {
  size = r.size;
  stays = r.stays;
  mix = r.mix;
  rivals = λ m k u i v. let below : m < length needed = flag_in needed m u in r.rivals m k (omega arith) u i v;
}
