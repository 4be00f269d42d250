use Rattle.std.proofs.Common.{◌≡◌, ℕ, List, [], Option, ◌∙◌, sym, ap, subst, refl}
use Rattle.std.specs.Option.{option_copied}
use Rattle.relation_fields.specs.Fields.{said_in}
use Rattle.repo_model.proofs.relations.read_field.Goals as goal

said_in-none : {X : Type 0} (one : List ℕ → Option X) → said_in one [] ≡ []
unfolding said_in
said_in-none one = refl

pub returns-in_default-clause-said : goal.returns-in_default-clause-said
returns-in_default-clause-said g c =
    let none = sym c.find_field.ensures.value ∙ ap option_copied c.in_default.is in
    (rw none refl, c.new.ensures ∙ sym (rw none (said_in-none g.T.ElementReader.reading)))

pub returns-in_default-clause-reads : goal.returns-in_default-clause-reads
returns-in_default-clause-reads g c = subst (λ said. g.T.ElementReader.reads c.args.reader.now said c.args.reader.now) (sym c.new.ensures) (g.met.T.ElementReader.reads_none c.args.reader.now)
