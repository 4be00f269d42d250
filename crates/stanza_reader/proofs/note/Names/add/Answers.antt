use Rattle.std.proofs.Common.{◌≡◌, false, not, ◌||◌, ◌∷◌, sym, ◌∙◌, ap, arith}
use Rattle.stanza_reader.specs.{Fields.{is_same_name}, Note.{names_in}, Stanzas.{has_name}}
use Rattle.stanza_reader.proofs.{MarkLemmas.{marks_more}, NoteLemmas.{in_front, left_to_set, name_is_there, set_more}}
use Rattle.stanza_reader.proofs.note.Names.add.Goals as goal

-- the name is none of those that are compared one by one, so the set decides
pub returns-clause-answer : goal.returns-clause-answer
returns-clause-answer c before held =
    let name = c.args.name.now in
    let absent : has_name (names_in c.args.self.now.few.items) name ≡ false = rw c.as_slice.ensures.value at (sym c.is_among.ensures ∙ c.if-is_among.false) in
    c.in_ok-insert.ensures.added
    ∙ ap not (name_is_there c.args.self.now.others held.others c.in_ok-name.name name held.in_set c.in_ok-name.ensures ∙ sym (left_to_set c.args.self.now before name held absent))

-- a new name in the set
pub returns-clause-added : goal.returns-clause-added
returns-clause-added c before held new =
    let name = c.args.name.now in
    record {
      others = name ∷ held.others;
      in_set = set_more c.args.self.now.others c.insert.new.self held.others c.in_ok-name.name name held.in_set c.in_ok-name.ensures c.in_ok-insert.ensures.updates;
      behind = λ short. absurd (omega (arith, short, c.if-len-lt-FEW.false));
      same = λ q. in_front (names_in c.args.self.now.few.items) held.others name q ∙ ap (λ t. is_same_name name q || t) (held.same q);
    }

-- a new name among those that are compared one by one
pub returns-then-len-lt-FEW-clause-marks : goal.returns-then-len-lt-FEW-clause-marks
returns-then-len-lt-FEW-clause-marks c = rw (c.in_ok-push.ensures.items, c.mark_of.ensures) (marks_more _ _ _ c.requires.marks)
