use Rattle.std.proofs.{Common.{◌≡◌, ◌∙◌, ◌+◌, ◌++◌, ◌∷◌, [], Some, take, ap, sym, subst}, lemmas.List.{take_all, take_more}}
use Rattle.listed.specs.Lists.{In}
use Rattle.virtual_provides.specs.declared.names.NameTable.{NameTable}
use Rattle.package_register.specs.Registers.{IsFound}
use Rattle.virtual_provides.proofs.Built.{one_built, put_own, put_provide, PutSo}
use Rattle.virtual_provides.proofs.names.NameTable.put.Goals as goal

pub loop-provide-init : goal.loop-provide-init
loop-provide-init c = put_own c.args.self.now.register c.put.new.self c.args.facts.now c.args.number c.in_ok-put.ensures.grows (subst (λ name. IsFound c.put.new.self name (Some c.args.facts.now.version) c.args.number) c.as_slice.ensures c.in_ok-put.ensures.found)

pub loop-provide-preserved : goal.loop-provide-preserved
loop-provide-preserved c =
    let provides = c.as_slice-provides.result.now in
    let place = c.loop-provide.provide-index in
    let provide = c.provide-item.result in
    let new = c.put-in-loop-provide.new.self in
    let more : take (place + 1) provides ≡ take place provides ++ provide ∷ [] = take_more provides place provide c.loop-provide-test.true ∙ ap (λ y. take place provides ++ y ∷ []) (sym c.provide-item.is) in
    subst (λ xs. PutSo c.args.self.now.register new c.args.facts.now c.args.number xs) (sym more)
    (put_provide c.args.self.now.register c.loop-provide.self.register new c.args.facts.now c.args.number (take place provides) provide c.loop-provide.invariant c.in_ok-put-2.ensures.grows
    (subst (λ name. IsFound new name provide.version c.args.number) c.as_slice-in-loop-provide.ensures
    (subst (λ version. IsFound new c.as_slice-in-loop-provide.result.now version c.args.number) c.as_ref-version.ensures.value c.in_ok-put-2.ensures.found)))

pub returns : goal.returns
returns c = λ packages of count.
    let new : NameTable = record { register = c.loop-provide.self.register } in
    let so = c.loop-provide.invariant in
    one_built packages c.args.facts.now c.args.number c.args.self.now new of count so.grows so.own
    (λ provide inside. so.each provide (subst (λ xs. In provide xs) (sym c.as_slice-provides.ensures ∙ sym (take_all c.loop-provide.provide-index c.as_slice-provides.result.now c.loop-provide-test.false)) inside))
