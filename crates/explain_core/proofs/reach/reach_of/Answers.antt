use Rattle.std.proofs.Common.{◌≡◌, ℕ, ◌<◌, ◌≤◌, ◌∙◌, get_or, length, sym, ap, subst}
use Rattle.std.specs.List.{concat}
use Rattle.row_book.specs.{Book.{repository_of}, Needs.{NeedsFit}}
use Rattle.row_book.proofs.{BookRepositories.{book_size}, Books.{clauses_row}}
use Rattle.listed.proofs.Lists.{In_at}
use Rattle.explain_core.specs.Meeting.{Meets}
use Rattle.explain_core.proofs.Meetings.{ranged, reached_all, reached_more, reached_start}
use Rattle.explain_core.proofs.reach.reach_of.Goals as goal

pub loop-place-init : goal.loop-place-init
loop-place-init c = record {
  size = c.in_ok-meet_goals.ensures.size ∙ ap (λ w. w.0) c.in_ok-met.ensures ∙ c.size.ensures;
  reached = reached_start (repository_of c.args.pool.now c.args.book.now) c.args.goals.now c.meet_goals.new.self.1
      (subst (λ n. NeedsFit n c.args.goals.now) (sym (book_size c.args.pool.now c.args.book.now)) c.requires.goals)
      (subst (λ o. Meets o c.meet_goals.new.self.1 (concat c.args.goals.now)) (ap (λ w. w.1) c.in_ok-met.ensures) c.in_ok-meet_goals.ensures.put);
}

pub meet_needs-requires-clause-number : goal.meet_needs-requires-clause-number
meet_needs-requires-clause-number c =
    let l : c.loop-place.place < length c.loop-place.met.1 = subst (λ o. c.loop-place.place < length o) c.as_slice.ensures.items c.loop-place-test.true in
    subst (λ o. get_or o c.loop-place.place 0 < length c.args.book.now.rows) (sym c.as_slice-in-loop-place.ensures.items)
    (subst (λ k. get_or c.loop-place.met.1 c.loop-place.place 0 < k) (book_size c.args.pool.now c.args.book.now)
    (c.loop-place.invariant.reached.below (get_or c.loop-place.met.1 c.loop-place.place 0) (In_at c.loop-place.met.1 c.loop-place.place 0 l)))

pub loop-place-preserved : goal.loop-place-preserved
loop-place-preserved c = record {
  size = c.in_ok-meet_needs.ensures.size ∙ c.loop-place.invariant.size;
  reached =
      let pool = c.args.pool.now in
      let book = c.args.book.now in
      let p : ℕ = get_or c.as_slice-in-loop-place.result.now c.loop-place.place 0 in
      let l : c.loop-place.place < length c.loop-place.met.1 = subst (λ o. c.loop-place.place < length o) c.as_slice.ensures.items c.loop-place-test.true in
      let is : p ≡ get_or c.loop-place.met.1 c.loop-place.place 0 = ap (λ o. get_or o c.loop-place.place 0) c.as_slice-in-loop-place.ensures.items in
      let within : p < length book.rows = subst (λ q. q < length book.rows) (sym is)
      (subst (λ k. get_or c.loop-place.met.1 c.loop-place.place 0 < k) (book_size pool book)
      (c.loop-place.invariant.reached.below (get_or c.loop-place.met.1 c.loop-place.place 0) (In_at c.loop-place.met.1 c.loop-place.place 0 l))) in
      reached_more (repository_of pool book) c.args.goals.now c.loop-place.met.1 c.meet_needs.new.met.1 c.loop-place.place p (ranged pool book c.requires.sound) l is c.loop-place.invariant.reached
      (subst (λ cs. Meets c.loop-place.met.1 c.meet_needs.new.met.1 (concat cs)) (sym (clauses_row pool book p within)) c.in_ok-meet_needs.ensures.put);
}

pub returns : goal.returns
returns c =
    reached_all (repository_of c.args.pool.now c.args.book.now) c.args.goals.now c.loop-place.met.1 c.loop-place.place c.into_flags.result.items
    (subst (λ o. length o ≤ c.loop-place.place) c.as_slice.ensures.items c.loop-place-test.false) c.loop-place.invariant.reached c.into_flags.ensures
