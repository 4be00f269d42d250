use Rattle.std.proofs.{Common.{◌≡◌, ◌++◌, ◌∙◌, length, refl, sym, ap₂, subst, take, arith}, lemmas.Grind.{common_steps}, Math.Seq.{take-append_seam}}
use Rattle.repo_model.specs.Feeding.{IsOpen}
use Rattle.repo_model.proofs.Standing.{held_more}
use Rattle.repo_model.proofs.progress.Progress.hold.Goals as goal

pub closed_length-closed-requires : goal.closed_length-closed-requires
closed_length-closed-requires c =
    let pending = c.args.self.pending.items in
    let count : c.len-before.result ≡ length pending = grind (arith, common_steps) in
    subst IsOpen (sym (ap₂ take count (c.deref.ensures.value ∙ c.in_ok-extend_from_slice.ensures.items) ∙ take-append_seam pending c.args.piece.now)) c.requires.unclosed

pub returns-then-closed-eq0-clause-stands : goal.returns-then-closed-eq0-clause-stands
returns-then-closed-eq0-clause-stands c = λ text stands.
    held_more c.args.self _ text c.args.piece.now stands refl refl c.in_ok-extend_from_slice.ensures.items

pub returns-clause-stands : goal.returns-clause-stands
returns-clause-stands c = λ text stands.
    c.close.ensures.stands (text ++ c.args.piece.now) (held_more c.args.self _ text c.args.piece.now stands refl refl (grind (arith, common_steps)))
