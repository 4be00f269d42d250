use Rattle.std.proofs.{Common.{◌++◌, ap, codes, sym, ◌∙◌}, lemmas.Result.{on_ok_weaker}}
use Rattle.sample_suite.specs.SampleText.{conflicts_lines, with_feeds, package_name}
use Rattle.sample_suite.proofs.Pieces.{line_pushed, taken}
use Rattle.sample_suite.proofs.push_stanza.push_conflicts.Goals as goal

pub returns : goal.returns
returns c =
    on_ok_weaker c.extend_from_slice-2.result (λ pushed.
    line_pushed (codes "Conflicts: ") (package_name c.in-Some.conflict) c.args.out.now.items c.extend_from_slice.new.self.items c.push_name.new.out.items c.extend_from_slice-2.new.self.items
    c.in_ok-extend_from_slice.ensures.items c.in_ok-push_name.ensures pushed ∙ ap (λ conflict. c.args.out.now.items ++ with_feeds (conflicts_lines conflict)) (sym c.in-Some.is)) (taken c.extend_from_slice-2.result _ _ _ c.extend_from_slice-2.ensures.items)
