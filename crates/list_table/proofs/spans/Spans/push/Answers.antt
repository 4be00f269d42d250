use Rattle.std.proofs.{Common.{◌≡◌, ◌+◌, ◌++◌, ◌∷◌, [], length, subst, sym, ◌∙◌, ap, ap₂, arith, length-append}, lemmas.Result.{err_from_is_err_and}}
use Rattle.list_table.specs.Parts.{parts, SpansFit}
use Rattle.list_table.proofs.Parts.{Within_more, Within_push, parts_grown, parts_push}
use Rattle.list_table.proofs.spans.Spans.push.Goals as goal

pub invariant_of-self-in_err-push : goal.invariant_of-self-in_err-push
invariant_of-self-in_err-push g c =
    let n : length c.extend_from_slice.new.self.items ≡ length c.self.inside.items.items + length c.args.list.now =
    ap length c.in_ok-extend_from_slice.ensures.items ∙ length-append c.self.inside.items.items c.args.list.now in
    subst (λ e. SpansFit (length c.extend_from_slice.new.self.items) e) (sym c.in_err-push.ensures.items)
    (Within_more (length c.self.inside.items.items) (length c.extend_from_slice.new.self.items) c.self.inside.ends.items (omega arith) c.self.invariant)

pub returns-in_err-push-clause-err : goal.returns-in_err-push-clause-err
returns-in_err-push-clause-err g c =
    let is_err = err_from_is_err_and c.from_residual-in_err-push.result c.from_residual-in_err-push.ensures.1 in
    rw is_err.1
    (ap₂ parts c.in_ok-extend_from_slice.ensures.items c.in_err-push.ensures.items
    ∙ parts_grown c.self.inside.items.items c.args.list.now c.self.inside.ends.items c.self.invariant
    ∙ c.self.view_is)

pub invariant_of-self-2 : goal.invariant_of-self-2
invariant_of-self-2 g c =
    let n : length c.extend_from_slice.new.self.items ≡ length c.self.inside.items.items + length c.args.list.now =
    ap length c.in_ok-extend_from_slice.ensures.items ∙ length-append c.self.inside.items.items c.args.list.now in
    let s : c.len-start.result ≡ length c.self.inside.items.items = omega (arith, c.len-start.ensures, c.self.inside.items.ok.0) in
    let e : c.saturating_add-end.result ≡ length c.extend_from_slice.new.self.items = omega (arith, c.if-end-gt-MOST.false) in
    subst (λ e. SpansFit (length c.extend_from_slice.new.self.items) e) (sym c.in_ok-push.ensures.items)
    (Within_push (length c.extend_from_slice.new.self.items) c.self.inside.ends.items c.len-start.result c.saturating_add-end.result
    (Within_more (length c.self.inside.items.items) (length c.extend_from_slice.new.self.items) c.self.inside.ends.items (omega arith) c.self.invariant)
    (omega arith) (omega arith))

pub returns-clause-ok : goal.returns-clause-ok
returns-clause-ok g c =
    let s : c.len-start.result ≡ length c.self.inside.items.items = omega (arith, c.len-start.ensures, c.self.inside.items.ok.0) in
    let n : length (c.self.inside.items.items ++ c.args.list.now) ≡ length c.self.inside.items.items + length c.args.list.now = length-append c.self.inside.items.items c.args.list.now in
    let e : c.saturating_add-end.result ≡ length (c.self.inside.items.items ++ c.args.list.now) = omega (arith, c.if-end-gt-MOST.false) in
    ap₂ parts c.in_ok-extend_from_slice.ensures.items c.in_ok-push.ensures.items
    ∙ ap (λ p. parts (c.self.inside.items.items ++ c.args.list.now) (c.self.inside.ends.items ++ p ∷ [])) (ap₂ (λ a b. (a, b)) s e)
    ∙ parts_push c.self.inside.items.items c.args.list.now c.self.inside.ends.items c.self.invariant
    ∙ ap (λ l. l ++ c.args.list.now ∷ []) c.self.view_is
