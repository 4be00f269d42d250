use Rattle.std.proofs.Common.{◌≡◌, ◌<◌, ◌∙◌, ◌∷◌, ap, length, arith, set, subst, sym}
use Rattle.row_book.specs.Book.{listed_for}
use Rattle.install_lift.proofs.Chained.{put_falls, put_chains, length_chains}
use Rattle.install_lift.proofs.user_table.UserTable.put.Goals as goal

pub index-before-requires : goal.index-before-requires
index-before-requires c =
    let lt = subst (λ k. c.args.number < k) (ap length (sym c.self.view_is) ∙ length_chains c.self.inside.heads.items c.self.inside.entries.items) c.requires in
    omega (arith, lt, c.self.inside.heads.ok.0)

pub index_mut-requires : goal.index_mut-requires
index_mut-requires c =
    let lt = subst (λ k. c.args.number < k) (ap length (sym c.self.view_is) ∙ length_chains c.self.inside.heads.items c.self.inside.entries.items) c.requires in
    omega (arith, lt, c.self.inside.heads.ok.0)

pub invariant_of-self-2 : goal.invariant_of-self-2
invariant_of-self-2 c =
    let lt = subst (λ k. c.args.number < k) (ap length (sym c.self.view_is) ∙ length_chains c.self.inside.heads.items c.self.inside.entries.items) c.requires in
    let size : c.len.result ≡ length c.push.new.self.items = omega (arith, c.len.ensures, c.push.new.self.ok.0) in
    put_falls c.self.inside.heads.items _ c.self.inside.entries.items c.push.new.self.items c.args.number (record { user = c.args.user; before = c.index-before.result.now }) c.self.invariant lt c.index-before.ensures
    c.in_ok-push.ensures.items (ap (λ k. set c.self.inside.heads.items c.args.number k) size)

pub returns : goal.returns
returns c =
    let lt = subst (λ k. c.args.number < k) (ap length (sym c.self.view_is) ∙ length_chains c.self.inside.heads.items c.self.inside.entries.items) c.requires in
    let size : c.len.result ≡ length c.push.new.self.items = omega (arith, c.len.ensures, c.push.new.self.ok.0) in
    put_chains c.self.inside.heads.items _ c.self.inside.entries.items c.push.new.self.items c.args.number (record { user = c.args.user; before = c.index-before.result.now }) c.self.invariant lt c.index-before.ensures
    c.in_ok-push.ensures.items (ap (λ k. set c.self.inside.heads.items c.args.number k) size)
    ∙ ap (λ t. set t c.args.number (c.args.user ∷ listed_for t c.args.number)) c.self.view_is
