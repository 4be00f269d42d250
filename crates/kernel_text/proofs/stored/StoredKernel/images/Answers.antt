use Rattle.std.proofs.Common.{◌≡◌, ◌<◌, ◌+◌, ◌∙◌, [], List, Some, length, sym, subst, arith}
use Rattle.listed.specs.Lists.{Ascending, In}
use Rattle.kernel_text.specs.{declared.member.Member.{Member}, Images.{image_of, unknown_goal}, Members.{IsMemberRegister}}
use Rattle.kernel_text.proofs.GoalImages.{found_unknown, image_ascending, known_goal, no_image, one_image, some_image, some_there}
use Rattle.kernel_text.proofs.stored.StoredKernel.images.Goals as goal
use Rattle.listed.proofs.Lists.{none_listed}

-- the register is that of the members
pub image_of-requires : goal.image_of-requires
image_of-requires c = subst (λ members. IsMemberRegister members c.args.self.now.register) (sym c.as_slice-members.ensures) c.args.self.now.registered

-- the goal has no class, so it names no package
pub returns-then-is_empty-clause-unknown : goal.returns-then-is_empty-clause-unknown
returns-then-is_empty-clause-unknown c =
    let members : List Member = c.as_slice-members.result.now in
    let size = length c.args.self.now.book.rows in
    let inside : (m : Member) → In m members → m.class < size = λ m i. c.args.self.now.inside m (subst (In m) c.as_slice-members.ensures i) in
    let none : image_of members size c.index-goals-place.result ≡ [] =
    sym (c.as_slice-classes.ensures.value ∙ c.in_ok-image.ensures size inside) ∙ none_listed c.as_slice-classes.result.now (sym c.if-is_empty.ensures) in
    subst (λ ms. unknown_goal ms c.args.goals.now ≡ Some (c.loop-place.place + 1)) c.as_slice-members.ensures
    (found_unknown members c.args.goals.now c.loop-place.place c.index-goals-place.result (omega arith) c.index-goals-place.is c.loop-place.invariant.ahead
    (no_image members size inside c.index-goals-place.result none))

pub push-requires-clause-ascending : goal.push-requires-clause-ascending
push-requires-clause-ascending c =
    let members : List Member = c.as_slice-members.result.now in
    let size = length c.args.self.now.book.rows in
    let inside : (m : Member) → In m members → m.class < size = λ m i. c.args.self.now.inside m (subst (In m) c.as_slice-members.ensures i) in
    subst Ascending (sym (c.as_slice-classes.ensures.value ∙ c.in_ok-image.ensures size inside)) (image_ascending members size inside c.index-goals-place.result)

pub loop-place-preserved : goal.loop-place-preserved
loop-place-preserved c =
    let members : List Member = c.as_slice-members.result.now in
    let goal = c.index-goals-place.result in
    let size = length c.args.self.now.book.rows in
    let inside : (m : Member) → In m members → m.class < size = λ m i. c.args.self.now.inside m (subst (In m) c.as_slice-members.ensures i) in
    let made : c.as_slice-classes.result.now ≡ image_of members size goal = c.as_slice-classes.ensures.value ∙ c.in_ok-image.ensures size inside in
    let some : 0 < length (image_of members size goal) = subst (λ xs. 0 < length xs) made (some_there c.as_slice-classes.result.now (sym c.if-is_empty.ensures)) in
    record {
      images = one_image members size c.args.goals.now c.loop-place.place goal c.loop-place.needs c.push.new.self c.as_slice-classes.result.now (omega arith) c.index-goals-place.is
          c.loop-place.invariant.images made c.in_ok-push.ensures.ok;
      ahead = known_goal members c.args.goals.now c.loop-place.place goal (omega arith) c.index-goals-place.is c.loop-place.invariant.ahead (some_image members size inside goal some);
    }
