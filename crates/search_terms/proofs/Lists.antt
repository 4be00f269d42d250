-- Elements of lists, by cases on the list and by places.
use Rattle.std.proofs.Common.{◌≡◌, ℕ, List, get_or, sym, subst}
use Rattle.std.specs.Prelude.{Contains}
use Rattle.listed.specs.Lists.{In}
use Rattle.listed.proofs.Lists.{In_at}
use Rattle.clause_pool.proofs.Lists.{In_place}

-- what equals the item at a place
pub item_at : {X : Type 0} (xs : List X) (k : ℕ) (x y : X) → x ≡ y → y ≡ get_or xs k y → x ≡ get_or xs k x
item_at xs k x y e h = subst (λ z. z ≡ get_or xs k z) (sym e) h
