use Rattle.std.proofs.Common.{◌≡◌, ◌<◌, ◌∷◌, ◌++◌, [], length, sym, ap, ◌∙◌, subst}
use Rattle.listed.specs.Lists.{In}
use Rattle.explain_core.proofs.Meetings.{meets_again, meets_new, met_there}
use Rattle.explain_core.proofs.met.Met.meet.Goals as goal

pub returns-then-index-clause-put : goal.returns-then-index-clause-put
returns-then-index-clause-put c =
    let size : length c.self.inside.flags.items ≡ c.args.self.now.0 = ap (λ v. v.0) c.self.view_is in
    let order : c.self.inside.order.items ≡ c.args.self.now.1 = ap (λ v. v.1) c.self.view_is in
    meets_again c.args.self.now.1 c.args.number
    (subst (λ o. In c.args.number o) order
    (met_there c.self.inside.flags.items c.self.inside.order.items c.args.number c.index.result.now c.self.invariant (subst (λ n. c.args.number < n) (sym size) c.requires) c.index.ensures c.if-index.true))

pub returns-clause-put : goal.returns-clause-put
returns-clause-put c =
    let order : c.self.inside.order.items ≡ c.args.self.now.1 = ap (λ v. v.1) c.self.view_is in
    meets_new c.args.self.now.1 c.push.new.self.items c.args.number (c.in_ok-push.ensures.items ∙ ap (λ o. o ++ c.args.number ∷ []) order)
