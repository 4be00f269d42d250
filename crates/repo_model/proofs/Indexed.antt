-- Items by their numbers: the first of those that pass a test.
use Rattle.std.proofs.Common.{◌≡◌, ℕ, suc, ◌+◌, Bool, true, false, cond, List, [], ◌∷◌, ◌++◌, Option, Some, find, refl, sym, ap, ◌∙◌, add-zero, zero-add, arith}
use Rattle.std.specs.{Prelude.{◌&&◌, slice_get}, declared.cmp.Ordering.{Ordering}, declared.cmp.Ordering.TheVariants.{Less, Equal, Greater}}
use Rattle.std.specs.{Ordering.{is_eq, ordering_reverse}, Str.{bytes_eq}, Option.{option_and_then}}
use Rattle.deb_version.specs.Order.{version_order}
use Rattle.deb_version.proofs.TotalOrder.{version_total}
use Rattle.listed.proofs.Lists.{find_same}
use Rattle.relation_fields.specs.declared.packages.PackageFacts.{PackageFacts}
use Rattle.virtual_provides.specs.Bearers.{own_name, own_version}
use Rattle.package_register.specs.{Registers.{is_version_of}, Numbers.{numbers_from, numbers_where, if_so}}
use Rattle.repo_model.specs.Facts.{is_same_package}
use Rattle.package_register.proofs.Numbered.{numbers_from-cons}

module _ {X : Type 0} (test : X → Bool) where
  first_step : (all : List X) (n : ℕ) (x : X) (numbers : List ℕ) (found : Option X) → slice_get all n ≡ Some x → option_and_then (slice_get all) (slice_get numbers 0) ≡ found
      → (b : Bool) → option_and_then (slice_get all) (slice_get (if_so b n ++ numbers) 0) ≡ cond b (Some x) found
  first_step all n x numbers found here rest true = here
  first_step all n x numbers found here rest false = rest

  first_from : (all items : List X) (n : ℕ) → ((k : ℕ) → slice_get all (n + k) ≡ slice_get items k)
      → option_and_then (slice_get all) (slice_get (numbers_from n test items) 0) ≡ find test items
  first_from all [] n same = refl
  first_from all (x ∷ items) n same =
      let onward : (k : ℕ) → slice_get all (n + 1 + k) ≡ slice_get items k = λ k. let place : n + 1 + k ≡ n + suc k = omega arith in ap (slice_get all) place ∙ same (suc k) in
      rw (numbers_from-cons test n x items)
      (first_step all n x (numbers_from (n + 1) test items) (find test items) (ap (slice_get all) (sym (add-zero n)) ∙ same 0) (first_from all items (n + 1) onward) (test x))

  -- the item of the first number is the first item that passes
  pub first_where : (all : List X) → option_and_then (slice_get all) (slice_get (numbers_where test all) 0) ≡ find test all
  first_where all = first_from all all 0 (λ k. ap (slice_get all) (zero-add k))

reversed : (order : Ordering) → is_eq (ordering_reverse order) ≡ is_eq order
reversed Less = refl
reversed Equal = refl
reversed Greater = refl

-- versions are equal either way
pub either_way : (v w : List ℕ) → is_eq (version_order v w) ≡ is_eq (version_order w v)
either_way v w = ap is_eq (version_total.antisymm v w) ∙ reversed (version_order w v)

-- the first package of a name with an equal version is the first that is the same
pub first_same : (facts : PackageFacts) (packages : List PackageFacts) (numbers : List ℕ) → numbers ≡ numbers_where (is_version_of own_name own_version facts.name facts.version) packages
    → option_and_then (slice_get packages) (slice_get numbers 0) ≡ find (is_same_package facts) packages
first_same facts packages numbers e =
    ap (λ ns. option_and_then (slice_get packages) (slice_get ns 0)) e
    ∙ first_where (is_version_of own_name own_version facts.name facts.version) packages
    ∙ find_same (is_version_of own_name own_version facts.name facts.version) (is_same_package facts) packages (λ x i. ap (λ b. bytes_eq facts.name x.name && b) (either_way x.version facts.version))

-- and it is found by the numbers that a register gives
pub found_same : (facts : PackageFacts) (packages : List PackageFacts) (name numbers lent : List ℕ) (first : Option PackageFacts) → name ≡ facts.name
    → numbers ≡ numbers_where (is_version_of own_name own_version name facts.version) packages → lent ≡ numbers → first ≡ option_and_then (slice_get packages) (slice_get lent 0) → find (is_same_package facts) packages ≡ first
found_same facts packages name numbers lent first same are value told =
    sym (told ∙ ap (λ ns. option_and_then (slice_get packages) (slice_get ns 0)) value
    ∙ first_same facts packages numbers (are ∙ ap (λ n. numbers_where (is_version_of own_name own_version n facts.version) packages) same))
