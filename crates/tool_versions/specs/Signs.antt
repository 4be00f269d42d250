-- for the bodies of this crate alone
-- The sign that is written between two texts.
use Rattle.std.specs.Prelude.{ℕ, ◌&&◌, List, codes, if◌then◌else◌}
use Rattle.std.specs.declared.cmp.Ordering.{Ordering}
use Rattle.std.specs.declared.cmp.Ordering.TheVariants.{Less, Equal, Greater}
use Rattle.deb_version.specs.{Grammar.{is_version}, Order.{version_order}}

abbrev pub order_sign : Ordering → List ℕ
order_sign Less = codes "<"
order_sign Equal = codes "="
order_sign Greater = codes ">"

-- how the two versions compare, or `?` if one of the texts is no version
abbrev pub sign_between : List ℕ → List ℕ → List ℕ
sign_between left right =
    if is_version left && is_version right then order_sign (version_order left right) else codes "?"
