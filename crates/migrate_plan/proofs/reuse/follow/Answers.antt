use Rattle.std.proofs.{Common.{◌∙◌, subst}, lemmas.Option.{same_Some}}
use Rattle.migrate_plan.specs.BothSuites.{IsBaseFor}
use Rattle.migrate_plan.proofs.reuse.follow.Goals as goal

pub follow-requires : goal.follow-requires
follow-requires c = c.requires _ c.in-Some.is

pub returns-in-Some : goal.returns-in-Some
returns-in-Some c = λ both before rows made is. subst (IsBaseFor both) (same_Some c.follow.new.self made is) (record {
  limit_is = c.follow.ensures.limit ∙ (before _ c.in-Some.is).limit_is;
  base_is = c.follow.ensures.base both.pool both.book (before _ c.in-Some.is).base_is (rows _ c.in-Some.is);
})

pub returns-in_default : goal.returns-in_default
returns-in_default c = λ both before rows. before
