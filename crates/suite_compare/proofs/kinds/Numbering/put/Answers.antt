use Rattle.std.proofs.Common.{◌≡◌, arith, ◌∷◌, ◌++◌, [], sym, ap, ◌∙◌}
use Rattle.suite_compare.proofs.Numbered.{numbered_new, numbered_old}
use Rattle.suite_compare.proofs.kinds.Numbering.put.Goals as goal

pub returns-in-Some : goal.returns-in-Some
returns-in-Some c = λ keys n is so. numbered_old keys n c.in-Some.number c.args.key.now _ _ _ _ is c.in_ok-push.ensures.items so (sym c.in-Some.ensures)

pub returns : goal.returns
returns c = λ keys n is so.
    let e : c.len.result ≡ n = omega (arith, c.len.ensures, c.args.self.now.number_of.ok.0, so.each.long) in
    numbered_new keys n c.in_ok-number.number c.args.key.now _ _ _ _ is c.in_ok-push-3.ensures.items so _ _ c.in_ok-number.ensures.place c.in_ok-number.ensures.ok
    (c.in_ok-push-2.ensures.items ∙ ap (λ z. c.args.self.now.firsts.items ++ z ∷ []) e)
