use Rattle.std.proofs.Common.{◌≡◌, ◌<◌, ◌∙◌, ◌++◌, OnOk, ap, length, arith, subst, sym}
use Rattle.row_book.specs.Book.{listed_for}
use Rattle.install_lift.specs.Chains.{chain}
use Rattle.install_lift.proofs.Chained.{length_chains, begins_within, chain_at}
use Rattle.install_lift.proofs.user_table.UserTable.add_users.Goals as goal

pub index-head-requires : goal.index-head-requires
index-head-requires c =
    let lt = subst (λ k. c.args.number < k) (ap length (sym c.self.view_is) ∙ length_chains c.self.inside.heads.items c.self.inside.entries.items) c.requires in
    omega (arith, lt, c.self.inside.heads.ok.0)

pub add_chain-requires-clause-head : goal.add_chain-requires-clause-head
add_chain-requires-clause-head c =
    let lt = subst (λ k. c.args.number < k) (ap length (sym c.self.view_is) ∙ length_chains c.self.inside.heads.items c.self.inside.entries.items) c.requires in
    rw c.as_slice.ensures.value (begins_within c.self.inside.heads.items c.self.inside.entries.items c.args.number c.index-head.result.now c.self.invariant lt c.index-head.ensures)

pub returns : goal.returns
returns c =
    let lt = subst (λ k. c.args.number < k) (ap length (sym c.self.view_is) ∙ length_chains c.self.inside.heads.items c.self.inside.entries.items) c.requires in
    subst (λ users. OnOk c.add_chain.result (c.add_chain.new.list.items ≡ c.args.list.now.items ++ users))
    (ap (λ es. chain (length es) es c.index-head.result.now) c.as_slice.ensures.value ∙ sym (chain_at c.self.inside.heads.items c.self.inside.entries.items c.args.number c.index-head.result.now lt c.index-head.ensures)
    ∙ ap (λ t. listed_for t c.args.number) c.self.view_is) c.add_chain.ensures
