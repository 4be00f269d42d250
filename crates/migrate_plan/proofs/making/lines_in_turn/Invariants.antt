use Rattle.migrate_plan.specs.{Indexes.{Texts}, Plan.{line_behind}, Trying.{AreTakenBy, LeadsToPlan}, BothSuites.{settings_between, AreTextsOf, IsReuse}}
use Rattle.migrate_plan.proofs.making.lines_in_turn.Given as goal

abbrev pub invariant-loop-name : goal.invariant-loop-name
invariant-loop-name l = record {
  takes : AreTakenBy l.lines l.names l.taken.items;
  leads : (texts : Texts) → AreTextsOf texts l.both → LeadsToPlan (line_behind (settings_between l.both) texts.old texts.new) l.names l.name-index l.lines;
  reuse : IsReuse l.both l.reuse;
}
