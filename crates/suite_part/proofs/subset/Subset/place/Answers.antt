use Rattle.std.proofs.Common.{◌≡◌, ◌∙◌, arith, length}
use Rattle.row_book.proofs.Placed.{place_told, places_count}
use Rattle.suite_part.proofs.subset.Subset.place.Goals as goal

pub index-requires : goal.index-requires
index-requires c =
    let count : length c.args.self.now.places.items ≡ length c.args.self.now.flags.items = places_count c.args.self.now.flags.items c.args.self.now.places.items c.args.self.now.numbered in
    omega (arith, c.args.self.now.places.ok.0, c.requires)

pub returns : goal.returns
returns c = c.index.ensures ∙ place_told c.args.self.now.flags.items c.args.self.now.places.items c.args.self.now.numbered c.args.number c.index.result.now c.requires
