use Rattle.std.proofs.{Common.{sym, ◌∙◌}, lemmas.Result.{on_ok_weaker}}
use Rattle.sample_suite.proofs.Pieces.{depends_pushed, taken}
use Rattle.sample_suite.proofs.push_stanza.push_depends.Goals as goal

pub returns : goal.returns
returns c =
    on_ok_weaker c.extend_from_slice-2.result (λ pushed.
    depends_pushed c.args.needs.now c.args.out.now.items c.extend_from_slice.new.self.items c.push_needs.new.out.items c.extend_from_slice-2.new.self.items
    (sym c.is_empty.ensures ∙ c.if-is_empty.false) c.in_ok-extend_from_slice.ensures.items c.in_ok-push_needs.ensures pushed) (taken c.extend_from_slice-2.result _ _ _ c.extend_from_slice-2.ensures.items)
