use Rattle.std.proofs.{Common.{◌≡◌, ◌∷◌, ◌++◌, ◌∙◌, [], List, ap, false, map, sym, true, Some, None}, lemmas.List.{map-append}}
use Rattle.std.specs.List.{find}
use Rattle.clause_pool.specs.Interned.{clause_at}
use Rattle.row_book.specs.{Pruning.{is_forced, is_idle}, Rounds.{IdleStep, RoundStep}, Trail.{trail_meaning, step_meaning}}
use Rattle.clause_prune.specs.PrunedPackages.{bare_with, left_with}
use Rattle.clause_prune.proofs.{Dropped.{ids_once}, Left.{forced_goes, found_steps, idle_goes, none_goes, order_less, part_less}}
use Rattle.clause_prune.proofs.pruned_package.PrunedPackage.prune_one.Goals as goal

pub returns-then-forced-clause-left : goal.returns-then-forced-clause-left
returns-then-forced-clause-left c =
    let f : is_forced (bare_with c.args.self.now c.args.left.now) c.args.self.now.number (clause_at c.args.self.now.pool.now c.args.clause) ≡ true =
    ap (λ z. is_forced (bare_with c.args.self.now z) c.args.self.now.number (clause_at c.args.self.now.pool.now c.args.clause)) (sym c.as_slice.ensures) ∙ sym c.in_ok-forced.ensures ∙ c.if-forced.true in
    ap (λ z. left_with c.args.self.now z) c.drop_id.ensures ∙ forced_goes c.args.self.now.pool.now c.requires.fits.fit.is_pool c.args.self.now.rows.now c.args.self.now.number c.args.left.now c.args.self.now.table.now c.args.clause c.requires.fits.inside c.requires.left c.requires.clause f

pub returns-then-forced-clause-part : goal.returns-then-forced-clause-part
returns-then-forced-clause-part c = part_less c.args.left.now c.drop_id.new.self c.args.clause c.drop_id.ensures

pub returns-then-forced-clause-order : goal.returns-then-forced-clause-order
returns-then-forced-clause-order c = order_less c.args.self.now.pool.now c.requires.fits.fit.is_pool c.args.left.now c.drop_id.new.self c.args.clause c.requires.left c.requires.clause c.drop_id.ensures c.requires.order

pub returns-in_ok-push-clause-left : goal.returns-in_ok-push-clause-left
returns-in_ok-push-clause-left c =
    let f : is_forced (bare_with c.args.self.now c.args.left.now) c.args.self.now.number (clause_at c.args.self.now.pool.now c.args.clause) ≡ false =
    ap (λ z. is_forced (bare_with c.args.self.now z) c.args.self.now.number (clause_at c.args.self.now.pool.now c.args.clause)) (sym c.as_slice.ensures) ∙ sym c.in_ok-forced.ensures ∙ c.if-forced.false in
    let g : Some c.in-Some.added ≡ find (is_idle (left_with c.args.self.now c.args.left.now) c.args.self.now.number (clause_at c.args.self.now.pool.now c.args.clause)) (clause_at c.args.self.now.pool.now c.args.clause) =
    c.in-Some.ensures ∙ ap (λ z. find (is_idle (left_with c.args.self.now z) c.args.self.now.number (clause_at c.args.self.now.pool.now c.args.clause)) (clause_at c.args.self.now.pool.now c.args.clause)) c.as_slice-2.ensures in
    ap (λ z. left_with c.args.self.now z) c.drop_id-in-Some.ensures ∙ idle_goes c.args.self.now.pool.now c.requires.fits.fit.is_pool c.args.self.now.rows.now c.args.self.now.number c.args.left.now c.args.self.now.table.now c.args.clause c.requires.fits.inside c.requires.left c.requires.clause c.in-Some.added f g

pub returns-in_ok-push-clause-part : goal.returns-in_ok-push-clause-part
returns-in_ok-push-clause-part c = part_less c.args.left.now c.drop_id-in-Some.new.self c.args.clause c.drop_id-in-Some.ensures

pub returns-in_ok-push-clause-order : goal.returns-in_ok-push-clause-order
returns-in_ok-push-clause-order c = order_less c.args.self.now.pool.now c.requires.fits.fit.is_pool c.args.left.now c.drop_id-in-Some.new.self c.args.clause c.requires.left c.requires.clause c.drop_id-in-Some.ensures c.requires.order

pub returns-in_ok-push-clause-idle : goal.returns-in_ok-push-clause-idle
returns-in_ok-push-clause-idle c =
    let f : is_forced (bare_with c.args.self.now c.args.left.now) c.args.self.now.number (clause_at c.args.self.now.pool.now c.args.clause) ≡ false =
    ap (λ z. is_forced (bare_with c.args.self.now z) c.args.self.now.number (clause_at c.args.self.now.pool.now c.args.clause)) (sym c.as_slice.ensures) ∙ sym c.in_ok-forced.ensures ∙ c.if-forced.false in
    let g : Some c.in-Some.added ≡ find (is_idle (left_with c.args.self.now c.args.left.now) c.args.self.now.number (clause_at c.args.self.now.pool.now c.args.clause)) (clause_at c.args.self.now.pool.now c.args.clause) =
    c.in-Some.ensures ∙ ap (λ z. find (is_idle (left_with c.args.self.now z) c.args.self.now.number (clause_at c.args.self.now.pool.now c.args.clause)) (clause_at c.args.self.now.pool.now c.args.clause)) c.as_slice-2.ensures in
    ap (trail_meaning c.args.self.now.pool.now) c.in_ok-push.ensures.ok ∙ map-append (step_meaning c.args.self.now.pool.now) c.args.idle.now _
    ∙ ap (λ (z : List RoundStep). trail_meaning c.args.self.now.pool.now c.args.idle.now ++ z)
    (ap (λ cl. IdleStep (record { «package» = c.args.self.now.number; clause = cl; added = c.in-Some.added }) ∷ []) (c.of.ensures ∙ c.in_ok-copy.ensures.items ∙ c.slice.ensures.lent)
    ∙ ap (map IdleStep) (sym (found_steps c.args.self.now.pool.now c.requires.fits.fit.is_pool c.args.self.now.rows.now c.args.self.now.number c.args.left.now c.args.self.now.table.now c.args.clause c.requires.fits.inside c.requires.left c.requires.clause (Some c.in-Some.added) f g)))

pub returns-in_default-clause-left : goal.returns-in_default-clause-left
returns-in_default-clause-left c =
    let f : is_forced (bare_with c.args.self.now c.args.left.now) c.args.self.now.number (clause_at c.args.self.now.pool.now c.args.clause) ≡ false =
    ap (λ z. is_forced (bare_with c.args.self.now z) c.args.self.now.number (clause_at c.args.self.now.pool.now c.args.clause)) (sym c.as_slice.ensures) ∙ sym c.in_ok-forced.ensures ∙ c.if-forced.false in
    let g : None ≡ find (is_idle (left_with c.args.self.now c.args.left.now) c.args.self.now.number (clause_at c.args.self.now.pool.now c.args.clause)) (clause_at c.args.self.now.pool.now c.args.clause) =
    c.in_default.ensures ∙ ap (λ z. find (is_idle (left_with c.args.self.now z) c.args.self.now.number (clause_at c.args.self.now.pool.now c.args.clause)) (clause_at c.args.self.now.pool.now c.args.clause)) c.as_slice-2.ensures in
    none_goes c.args.self.now.pool.now c.requires.fits.fit.is_pool c.args.self.now.rows.now c.args.self.now.number c.args.left.now c.args.self.now.table.now c.args.clause c.requires.fits.inside c.requires.left c.requires.clause f g

pub drop_id-requires : goal.drop_id-requires
drop_id-requires c = ids_once c.args.self.now.pool.now c.args.left.now c.requires.order

pub drop_id-requires-in-Some : goal.drop_id-requires-in-Some
drop_id-requires-in-Some c = ids_once c.args.self.now.pool.now c.args.left.now c.requires.order
