-- The order of versions is total up to equal versions.
use Rattle.std.proofs.Common.{◌≡◌, ℕ, zero, suc, ◌+◌, true, false, length, refl, sym, ap, ◌∙◌, arith, inl, inr, ◌⊎◌}
use Rattle.std.proofs.lemmas.Cmp.{nat_cmp_total, int_cmp_total, lists_total, on_total, then_total, tied_itself, upto}
use Rattle.std.specs.{declared.cmp.Ordering.{Ordering}, declared.cmp.Ordering.TheVariants.{Less, Equal, Greater}, Cmp.{IsTotalOrder}}
use Rattle.std.specs.Ordering.{ordering_reverse, is_le, is_gt}
use Rattle.deb_version.specs.Order.{plain_piece, number_piece, pieces_order, first_difference, part_order, epoch_number, full_revision, version_order}
use Rattle.deb_version.specs.{Order.{IsTotalUpToTies}, Grammar.{upstream_of}}
use Rattle.deb_version.proofs.PieceSteps.{part_order-at}

-- over parts, the comparison of the pieces at one number
pieces_total : (k : ℕ) → IsTotalOrder (λ v w. pieces_order v w k)
unfolding pieces_order
pieces_total k = then_total (on_total (plain_piece k) (lists_total int_cmp_total)) (on_total (number_piece k) nat_cmp_total)

-- and of those below n
differences_total : (n : ℕ) → IsTotalOrder (λ v w. first_difference (pieces_order v w) n)
unfolding first_difference
differences_total zero = record { antisymm = λ v w. refl; trans = λ u v w p q. p; congr = λ u v w p. refl }
differences_total (suc n) = then_total (differences_total n) (pieces_total n)

pub part_total : IsTotalOrder part_order
part_total = record {
  antisymm = λ v w.
      let n : ℕ = length v + length w in
      part_order-at v w n (omega arith) (omega arith) ∙ (differences_total n).antisymm v w ∙ ap ordering_reverse (sym (part_order-at w v n (omega arith) (omega arith)));
  trans = λ u v w p q.
      let n : ℕ = length u + length v + length w in
      part_order-at u w n (omega arith) (omega arith)
      ∙ (differences_total n).trans u v w (sym (part_order-at u v n (omega arith) (omega arith)) ∙ p) (sym (part_order-at v w n (omega arith) (omega arith)) ∙ q);
  congr = λ u v w p.
      let n : ℕ = length u + length v + length w in
      part_order-at u w n (omega arith) (omega arith)
      ∙ (differences_total n).congr u v w (sym (part_order-at u v n (omega arith) (omega arith)) ∙ p)
      ∙ sym (part_order-at v w n (omega arith) (omega arith));
}

pub version_total : IsTotalOrder version_order
unfolding version_order
version_total = then_total (on_total epoch_number nat_cmp_total) (then_total (on_total upstream_of part_total) (on_total full_revision part_total))

at_most : (o : Ordering) → is_le o ≡ true → is_gt o ≡ false
at_most Less h = refl
at_most Equal h = refl
at_most Greater h = cc

no_more : (o : Ordering) → is_gt o ≡ false → is_le o ≡ true
no_more Less h = refl
no_more Equal h = refl
no_more Greater h = sym h

both : (o p : Ordering) → o ≡ ordering_reverse p → is_le o ≡ true → is_le p ≡ true → o ≡ Equal
both Less Less e g h = cc
both Less Equal e g h = e
both Less Greater e g h = cc
both Equal p e g h = refl
both Greater p e g h = cc

one_way : (o p : Ordering) → o ≡ ordering_reverse p → (is_le o ≡ true) ⊎ (is_le p ≡ true)
one_way Less p e = inl refl
one_way Equal p e = inl refl
one_way Greater Less e = inr refl
one_way Greater Equal e = inr refl
one_way Greater Greater e = cc

pub version_total_up_to_ties : IsTotalUpToTies version_order
version_total_up_to_ties = record {
  reflexive = λ v. tied_itself version_total v;
  antisymmetric = λ v w. both (version_order v w) (version_order w v) (version_total.antisymm v w);
  transitive = λ u v w p q. no_more (version_order u w) (upto version_total u v w (at_most (version_order u v) p) (at_most (version_order v w) q));
  total = λ v w. one_way (version_order v w) (version_order w v) (version_total.antisymm v w);
}
