use Rattle.std.proofs.{Common.{◌≡◌, length, map, sym, subst, arith}, lemmas.List.{length-map}}
use Rattle.list_table.specs.Index.{IsIndex, IsSize}
use Rattle.list_table.proofs.hash_index.make_room.Goals as goal

pub returns-clause-index : goal.returns-clause-index
returns-clause-index g c = record {
  index = c.in_ok-places.ensures.index (map (g.T.Item.hash_of) c.args.lists.now)
      (subst (λ p. IsIndex p (map (g.T.Item.hash_of) c.args.lists.now)) (sym c.as_slice.ensures.value) c.requires.index);
  half =
      let m : length (map (g.T.Item.hash_of) c.args.lists.now) ≡ length c.args.lists.now = length-map c.args.lists.now (g.T.Item.hash_of) in
      omega (arith, c.in_ok-places.ensures.len, c.requires.half, c.in_ok-larger.ensures.twice);
  size =
      let l : length c.in_ok-places.field-0.items ≡ c.in_ok-larger.larger = omega (arith, c.in_ok-places.ensures.len, c.in_ok-places.field-0.ok.0) in
      subst (λ n. IsSize n) (sym l) c.in_ok-larger.ensures.power;
}
