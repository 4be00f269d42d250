use Rattle.std.proofs.{Common.{ℕ, [], ◌∷◌, ◌++◌, ◌-◌, map, refl, sym, ap, ap₂, ◌∙◌, subst}, lemmas.Bool.{both_ways}, lemmas.List.{map-append}}
use Rattle.listed.specs.Lists.{Ascending, In, has}
use Rattle.listed.proofs.Lists.{In_has, has_In}
use Rattle.kernel_text.specs.{KernelLines.{NeedsLine}, Reader.{entry_of, last_clause}, Reading.{ClassClause, may_add_clause}}
use Rattle.kernel_text.proofs.{Allowed.{allowed_told, clause_told, not_allowed}, ClauseTaken.{last_pushed, same_clause, same_table}}
use Rattle.kernel_text.proofs.reader.Reader.take_clause.Goals as goal

-- the previous clause is the last line's, where that is one
pub returns-then-not-may_add_clause : goal.returns-then-not-may_add_clause
returns-then-not-may_add_clause c t h =
    let previous = last_clause c.args.self.now.clauses in
    let clause = c.args.clause in
    let same = ap (λ kind. may_add_clause kind previous clause) (sym h.last) ∙ ap₂ (may_add_clause c.args.self.now.last) (sym c.previous.ensures) (sym c.as_slice-numbers.ensures) in
    rw (sym (same_table t.last previous clause h.previous) ∙ same ∙ sym c.if-not-may_add_clause.ensures) refl

pub returns-then-not-is_ascending : goal.returns-then-not-is_ascending
returns-then-not-is_ascending c t h = not_allowed t (NeedsLine c.args.clause) (λ a.
    both_ways c.is_ascending.result c.if-not-is_ascending.true (c.is_ascending.ensures.1 (subst Ascending (sym c.as_slice-numbers.ensures) a.1.ascending)))

-- the clause holds its own class
pub returns-then-holds : goal.returns-then-holds
returns-then-holds c t h = not_allowed t (NeedsLine c.args.clause) (λ a.
    let class = c.this_class-class.ensures ∙ ap (λ n. n - 1) h.classes in
    a.1.apart (subst (λ k. In k c.args.clause) class
    (subst (In c.this_class-class.result) c.as_slice-numbers.ensures (has_In c.as_slice-numbers.result.now c.this_class-class.result (sym c.if-holds.ensures)))))

pub returns : goal.returns
returns c t h =
    let previous = last_clause c.args.self.now.clauses in
    let clause = c.args.clause in
    let numbers = c.as_slice-numbers.result.now in
    let same = ap (λ kind. may_add_clause kind previous clause) (sym h.last) ∙ ap₂ (may_add_clause c.args.self.now.last) (sym c.previous.ensures) (sym c.as_slice-numbers.ensures) in
    let class = c.this_class-class.ensures ∙ ap (λ n. n - 1) h.classes in
    let entry : ℕ → ClassClause = λ k. record { class = k; clause = clause } in (
      (allowed_told t (NeedsLine clause)).1 (
        (clause_told t.last clause).0 (sym (same_table t.last previous clause h.previous) ∙ same ∙ sym c.if-not-may_add_clause.ensures),
        record {
          ascending = subst Ascending c.as_slice-numbers.ensures (c.is_ascending.ensures.0 c.if-not-is_ascending.false);
          apart = λ i. both_ways (has numbers c.this_class-class.result) (sym c.if-holds.ensures)
              (In_has (subst (In c.this_class-class.result) (sym c.as_slice-numbers.ensures) (subst (λ k. In k clause) (sym class) i)));
          low = c.requires;
        },
      ),
      record {
        last = refl;
        previous = λ d e. ap last_clause c.in_ok-push.ensures.ok ∙ last_pushed c.args.self.now.clauses (record { class = c.this_class-class.result; numbers = clause }) ∙ same_clause clause d e;
        of_format = h.of_format;
        classes = h.classes;
        members = h.members;
        known = h.known;
        held = h.held;
        clauses = ap (map entry_of) c.in_ok-push.ensures.ok ∙ map-append entry_of c.args.self.now.clauses (record { class = c.this_class-class.result; numbers = clause } ∷ [])
            ∙ ap₂ (λ xs k. xs ++ entry k ∷ []) h.clauses class;
        conflicts = h.conflicts;
      },
    )
