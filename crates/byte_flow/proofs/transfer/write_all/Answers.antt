use Rattle.std.proofs.Common.{◌≡◌, ℕ, List, [], ◌++◌, take, drop, Option, refl, sym, ap, ◌∙◌, append_assoc, take-append-drop, arith}
use Rattle.std.proofs.{KnownBytes.{Appends-nil, Appends-trans}, lemmas.Grind.{common_steps}}
use Rattle.std.specs.Io.KnownBytes.{Appends}
use Rattle.byte_flow.specs.Transfer.{begun, sent_on}
use Rattle.byte_flow.proofs.transfer.write_all.Invariants.{HasSent}
use Rattle.byte_flow.proofs.transfer.write_all.Goals as goal

-- one more write took the front of what was left
sent_more : (old mid new : Option (List ℕ)) (bytes rest after : List ℕ) (n : ℕ) → HasSent old mid bytes rest → Appends mid new (take n rest) → after ≡ drop n rest
    → HasSent old new bytes after
sent_more old mid new bytes rest after n sent took left = record {
  front = sent.front ++ take n rest;
  whole = sent.whole ∙ ap (λ l. sent.front ++ l) (sym (take-append-drop n rest)) ∙ sym (append_assoc sent.front (take n rest) (drop n rest)) ∙ ap (λ l. (sent.front ++ take n rest) ++ l) (sym left);
  taken = Appends-trans old mid new sent.front (take n rest) sent.taken took;
}

pub loop-rest-init : goal.loop-rest-init
loop-rest-init g c = record { sent = record { front = []; whole = refl; taken = Appends-nil (g.S.Sink.model.taken c.args.sink.now) }; later = omega arith; room = omega arith; calls = begun }

pub loop-rest-preserved : goal.loop-rest-preserved
loop-rest-preserved g c = record {
  sent = sent_more _ _ _ _ _ _ c.in-Ok.count c.loop-rest.invariant.sent c.in-Ok.ensures.bytes c.split_at.ensures.back;
  later = grind (arith, common_steps);
  room = grind (arith, common_steps);
  calls = rw c.split_at.ensures.back (sent_on c.loop-rest.invariant.calls c.in-Ok.ensures.gives (grind (arith, common_steps)));
}
