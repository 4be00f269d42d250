use Rattle.std.proofs.{Common.{◌≡◌, ◌∙◌, ◌∷◌, []}, lemmas.Result.{IfOk-weaker}}
use Rattle.repo_model.specs.{Meeting.{meeting}, Repository.{clause_of}}
use Rattle.repo_model.proofs.Chosen.{clause_single}
use Rattle.repo_model.proofs.clauses.single_clause.Goals as goal

pub returns : goal.returns
returns c =
    let home = c.args.home.now in
    let packages = c.args.packages.now in
    let atom = c.args.atom.now in
    IfOk-weaker c.meeting.result (λ found. found.items ≡ meeting home packages atom) (λ found. found.items ≡ clause_of home packages (atom ∷ []))
    (λ found e. e ∙ clause_single home packages atom) c.meeting.ensures
