use Rattle.std.proofs.Common.{◌≡◌, ◌∙◌, length, ap}
use Rattle.row_book.specs.Lent.{repository_in}
use Rattle.clause_solver.specs.{Engine.{IsEngine}, Solvers.{IsReady}}
use Rattle.clause_solver.proofs.{AnyConflicts.{fit_in, ready_in}, Preparing.{engine_goals, own_negative, goals_full, goals_positive, search_end}}
use Rattle.search_terms.proofs.Ranges.{rows_long}
use Rattle.clause_solver.proofs.book_solver.BookSolver.run.Goals as goal

pub start-requires-clause-engine : goal.start-requires-clause-engine
start-requires-clause-engine c =
    let asked = c.args.asked.now in
    let s = c.self.inside.solver in
    let ready : IsReady (repository_in asked) s = ready_in c.self.inside.book asked c.args.self.now s c.self.view_is c.requires.clauses c.self.invariant in
    let size : s.classes ≡ length asked.book.now.rows = ready.size ∙ rows_long asked.pool.now asked.book.now.rows in
    let engine : IsEngine s.classes c.in_ok-wanted.wanted.items s.own.items s.uses.items asked.book.now.conflicts =
    engine_goals s.classes (length asked.book.now.rows) c.args.goals.now c.in_ok-wanted.wanted.items s.own.items s.uses.items asked.book.now.conflicts c.in_ok-wanted.ensures.sentences size
    (fit_in asked c.args.self.now c.args.goals.now c.requires.clauses c.requires.goals) ready.engine in
    rw (c.deref.ensures.value, c.deref-2.ensures.value, c.deref-3.ensures.value, c.as_slice.ensures, ap (λ w. w.0) c.in_ok-trail.ensures ∙ ready.trail) engine

pub start-requires-clause-positive : goal.start-requires-clause-positive
start-requires-clause-positive c = rw (c.deref.ensures.value ∙ c.in_ok-wanted.ensures.sentences) (goals_positive c.args.goals.now)

pub start-requires-clause-base : goal.start-requires-clause-base
start-requires-clause-base c =
    let asked = c.args.asked.now in
    let s = c.self.inside.solver in
    let ready : IsReady (repository_in asked) s = ready_in c.self.inside.book asked c.args.self.now s c.self.view_is c.requires.clauses c.self.invariant in
    rw (c.deref-2.ensures.value, c.as_slice.ensures, ap (λ w. w.1) c.in_ok-trail.ensures) ready.base

pub walk-requires-clause-engine : goal.walk-requires-clause-engine
walk-requires-clause-engine c =
    let asked = c.args.asked.now in
    let s = c.self.inside.solver in
    let ready : IsReady (repository_in asked) s = ready_in c.self.inside.book asked c.args.self.now s c.self.view_is c.requires.clauses c.self.invariant in
    let size : s.classes ≡ length asked.book.now.rows = ready.size ∙ rows_long asked.pool.now asked.book.now.rows in
    let engine : IsEngine s.classes c.in_ok-wanted.wanted.items s.own.items s.uses.items asked.book.now.conflicts =
    engine_goals s.classes (length asked.book.now.rows) c.args.goals.now c.in_ok-wanted.wanted.items s.own.items s.uses.items asked.book.now.conflicts c.in_ok-wanted.ensures.sentences size
    (fit_in asked c.args.self.now c.args.goals.now c.requires.clauses c.requires.goals) ready.engine in
    rw (c.deref.ensures.value, c.deref-2.ensures.value, c.deref-3.ensures.value, c.as_slice.ensures) engine

pub walk-requires-clause-negative : goal.walk-requires-clause-negative
walk-requires-clause-negative c =
    own_negative (repository_in c.self.inside.book).clauses c.deref-2.result.now (c.deref-2.ensures.value ∙ c.self.invariant.sentences)

pub walk-requires-clause-full : goal.walk-requires-clause-full
walk-requires-clause-full c = rw (c.deref.ensures.value ∙ c.in_ok-wanted.ensures.sentences) (goals_full c.args.goals.now c.in_ok-wanted.ensures.needs)

pub walk-requires-clause-positive : goal.walk-requires-clause-positive
walk-requires-clause-positive c = rw (c.deref.ensures.value ∙ c.in_ok-wanted.ensures.sentences) (goals_positive c.args.goals.now)

pub returns : goal.returns
returns c =
    let asked = c.args.asked.now in
    let s = c.self.inside.solver in
    let ready : IsReady (repository_in asked) s = ready_in c.self.inside.book asked c.args.self.now s c.self.view_is c.requires.clauses c.self.invariant in
    search_end asked.pool.now asked.book.now c.args.goals.now asked.sound asked.book.now.paired (fit_in asked c.args.self.now c.args.goals.now c.requires.clauses c.requires.goals) c.args.keeps c.args.budget s.classes
    c.deref.result.now c.deref-2.result.now c.as_slice.result.now c.in_ok-verdict.verdict c.walk.new.trail.1 c.walk.new.log
    ready.size (c.deref.ensures.value ∙ c.in_ok-wanted.ensures.sentences) (c.deref-2.ensures.value ∙ ready.sentences) c.as_slice.ensures c.in_ok-verdict.ensures
