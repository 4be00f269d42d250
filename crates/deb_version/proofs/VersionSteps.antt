-- The order of two versions, part by part.
use Rattle.std.proofs.Common.{◌≡◌, true, false, List, ℕ, sym, ap, ◌∙◌}
use Rattle.std.specs.{declared.cmp.Ordering.{Ordering}, Ordering.{ordering_then, nat_cmp, is_ne}}
use Rattle.deb_version.specs.{Grammar.{upstream_of}, Order.{part_order, epoch_number, full_revision, version_order}}
use Rattle.deb_version.proofs.PieceSteps.{decided, tied}

-- the order once the epochs are compared
behind_epochs : List ℕ → List ℕ → Ordering
behind_epochs v w = ordering_then (part_order (upstream_of v) (upstream_of w)) (part_order (full_revision v) (full_revision w))

from_epochs : (v w : List ℕ) (o : Ordering) → o ≡ nat_cmp (epoch_number v) (epoch_number w) → version_order v w ≡ ordering_then o (behind_epochs v w)
unfolding version_order behind_epochs
from_epochs v w o e = ap (λ p. ordering_then p (behind_epochs v w)) (sym e)

from_upstreams : (v w : List ℕ) (p : Ordering) → p ≡ part_order (upstream_of v) (upstream_of w) → behind_epochs v w ≡ ordering_then p (part_order (full_revision v) (full_revision w))
unfolding behind_epochs
from_upstreams v w p e = ap (λ o. ordering_then o (part_order (full_revision v) (full_revision w))) (sym e)

pub epochs_decide : (v w : List ℕ) (o : Ordering) → o ≡ nat_cmp (epoch_number v) (epoch_number w) → is_ne o ≡ true → o ≡ version_order v w
epochs_decide v w o e h = decided o (behind_epochs v w) (version_order v w) (from_epochs v w o e) h

pub upstreams_decide : (v w : List ℕ) (o p : Ordering) → o ≡ nat_cmp (epoch_number v) (epoch_number w) → is_ne o ≡ false → p ≡ part_order (upstream_of v) (upstream_of w) → is_ne p ≡ true → p ≡ version_order v w
upstreams_decide v w o p e h f k =
    decided p (part_order (full_revision v) (full_revision w)) (behind_epochs v w) (from_upstreams v w p f) k
    ∙ sym (tied o (behind_epochs v w) (version_order v w) (from_epochs v w o e) h)

pub revisions_decide : (v w : List ℕ) (o p : Ordering) → o ≡ nat_cmp (epoch_number v) (epoch_number w) → is_ne o ≡ false → p ≡ part_order (upstream_of v) (upstream_of w) → is_ne p ≡ false → part_order (full_revision v) (full_revision w) ≡ version_order v w
revisions_decide v w o p e h f k =
    sym (tied p (part_order (full_revision v) (full_revision w)) (behind_epochs v w) (from_upstreams v w p f) k)
    ∙ sym (tied o (behind_epochs v w) (version_order v w) (from_epochs v w o e) h)
