use Rattle.std.proofs.{Common.{◌-◌, ◌++◌, ◌∙◌, ap, arith, drop, length, length-drop, take}, lemmas.List.{take_all}}
use Rattle.clause_families.specs.Branches.{chain}
use Rattle.clause_families.proofs.Grown.{grown_there, longer}
use Rattle.clause_families.proofs.family_tree.put_nodes.Goals as goal

pub index_mut-requires : goal.index_mut-requires
index_mut-requires c =
    omega (
      arith,
      longer c.args.nodes.now.items c.add_chain.new.nodes.items (c.len.result - c.shared-shared.result.0) c.leap_of-leap.result.0 c.leap_of-leap.result.1 (drop c.shared-shared.result.0 c.args.clause.now)
          (c.in_ok-add_chain.ensures
          ∙ ap
          (λ z. take (c.len.result - c.shared-shared.result.0) c.args.nodes.now.items
          ++ (chain (c.len.result - c.shared-shared.result.0) c.leap_of-leap.result.0 c.leap_of-leap.result.1 z ++ drop (c.len.result - c.shared-shared.result.0) c.args.nodes.now.items))
          (take_all (length c.args.clause.now - c.shared-shared.result.0) (drop c.shared-shared.result.0 c.args.clause.now) (omega (arith, length-drop c.shared-shared.result.0 c.args.clause.now))))
          (omega arith),
      length-drop c.shared-shared.result.0 c.args.clause.now,
    )

pub returns : goal.returns
returns c tree e =
    grown_there c.args.clause.now tree c.args.nodes.now.items (c.len.result - c.shared-shared.result.0)
    (omega (arith, c.shared-shared.ensures.shared tree (c.as_slice.ensures.value ∙ e))) e
    c.add_chain.new.nodes.items c.shared-shared.result.1 c.leap_of-leap.result.0 c.leap_of-leap.result.1 c.index-last.result.now c.requires
    (c.shared-shared.ensures.from tree (c.as_slice.ensures.value ∙ e))
    (λ t front at is. c.leap_of-leap.ensures t front at (ap (take (c.len.result - c.shared-shared.result.0)) c.deref.ensures.value ∙ is))
    (c.in_ok-add_chain.ensures
    ∙ ap
    (λ z. take (c.len.result - c.shared-shared.result.0) c.args.nodes.now.items
    ++ (chain (c.len.result - c.shared-shared.result.0) c.leap_of-leap.result.0 c.leap_of-leap.result.1 z ++ drop (c.len.result - c.shared-shared.result.0) c.args.nodes.now.items))
    (take_all (length c.args.clause.now - c.shared-shared.result.0) (drop c.shared-shared.result.0 c.args.clause.now) (omega (arith, length-drop c.shared-shared.result.0 c.args.clause.now)))
    ∙ ap
    (λ k. take (c.len.result - c.shared-shared.result.0) c.args.nodes.now.items
    ++ (chain (c.len.result - c.shared-shared.result.0) c.leap_of-leap.result.0 c.leap_of-leap.result.1 (drop k c.args.clause.now) ++ drop (c.len.result - c.shared-shared.result.0) c.args.nodes.now.items))
    (c.shared-shared.ensures.shared tree (c.as_slice.ensures.value ∙ e)))
    c.index-last.ensures
