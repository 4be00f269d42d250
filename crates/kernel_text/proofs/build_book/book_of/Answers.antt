use Rattle.std.proofs.{Common.{◌≡◌, ◌<◌, length, map, ap, sym, subst, ◌∙◌, arith}, lemmas.Result.{IfOk-weaker}}
use Rattle.clause_pool.proofs.Interned.{kept_along}
use Rattle.clause_pool.specs.{Interned.{clauses_at}, Compacting.{RowsOf}}
use Rattle.row_book.specs.Book.{AddsOnly, NumbersFit, PairsFit}
use Rattle.listed.specs.Lists.{In}
use Rattle.listed.proofs.Lists.{In_map}
use Rattle.kernel_text.specs.{Booking.{AreRows, GainsRows, HasIdsByClass}, Reader.{entry_of}, Reading.{number_limit}}
use Rattle.kernel_text.proofs.{Gained.{rows_alone}, IdTables.{book_is, rows_count, numbers_fit, table_in_order, table_of_pool}}
use Rattle.kernel_text.proofs.build_book.book_of.Goals as goal

pub intern_clauses-requires-clause-inside : goal.intern_clauses-requires-clause-inside
intern_clauses-requires-clause-inside c d i =
    let h = c.requires.1 in
    let j : In d c.args.reader.now.clauses = subst (In d) c.as_slice.ensures i in
    subst (λ n. d.class < n) (sym h.classes) (c.requires.2.of_classes (entry_of d) (subst (λ xs. In (entry_of d) xs) h.clauses (In_map entry_of c.args.reader.now.clauses d j)))

pub intern_clauses-requires-clause-ascending : goal.intern_clauses-requires-clause-ascending
intern_clauses-requires-clause-ascending c d i =
    let h = c.requires.1 in
    let j : In d c.args.reader.now.clauses = subst (In d) c.as_slice.ensures i in
    c.requires.2.ascending (entry_of d) (subst (λ xs. In (entry_of d) xs) h.clauses (In_map entry_of c.args.reader.now.clauses d j))

pub intern_rows-requires-clause-of_pool : goal.intern_rows-requires-clause-of_pool
intern_rows-requires-clause-of_pool c ids i =
    table_of_pool c.intern_clauses.new.pool (map entry_of c.as_slice.result.now) c.args.reader.now.classes c.in_ok-ids.ids.items c.in_ok-ids.ensures.ids ids (subst (In ids) c.as_slice-2.ensures.value i)

pub intern_rows-requires-clause-in_order : goal.intern_rows-requires-clause-in_order
intern_rows-requires-clause-in_order c ids i =
    let h = c.requires.1 in
    table_in_order c.intern_clauses.new.pool c.requires.0 (map entry_of c.as_slice.result.now) c.in_ok-ids.ids.items (ap (map entry_of) c.as_slice.ensures ∙ h.clauses)
    (subst (λ n. HasIdsByClass c.intern_clauses.new.pool (map entry_of c.as_slice.result.now) n c.in_ok-ids.ids.items) h.classes c.in_ok-ids.ensures.ids) c.requires.2 ids (subst (In ids) c.as_slice-2.ensures.value i)

pub build-requires-clause-few : goal.build-requires-clause-few
unfolding number_limit
build-requires-clause-few c =
    let h = c.requires.1 in
    let pool = c.intern_clauses.new.pool in
    let entries = map entry_of c.as_slice.result.now in
    let table = c.in_ok-ids.ids.items in
    let rows = c.in_ok-rows.rows.items in
    let count : length rows ≡ c.requires.0.classes =
    rows_count pool c.requires.0 entries table (ap (map entry_of) c.as_slice.ensures ∙ h.clauses) (subst (λ n. HasIdsByClass pool entries n table) h.classes c.in_ok-ids.ensures.ids) c.requires.2
    c.intern_rows.new.pool rows (subst (λ xs. AreRows c.intern_rows.new.pool (map (clauses_at pool) xs) rows) c.as_slice-2.ensures.value c.in_ok-rows.ensures.rows) in
    let few : c.requires.0.classes < 4294967295 = c.requires.2.few in
    subst (λ xs. length xs < 4294967295) (sym c.deref.ensures.value) (omega arith)

pub build-requires-clause-rows : goal.build-requires-clause-rows
build-requires-clause-rows c = subst (RowsOf c.intern_rows.new.pool) (sym c.deref.ensures.value) c.in_ok-rows.ensures.rows.within

pub build-requires-clause-numbers : goal.build-requires-clause-numbers
build-requires-clause-numbers c =
    let h = c.requires.1 in
    let pool = c.intern_clauses.new.pool in
    let entries = map entry_of c.as_slice.result.now in
    let table = c.in_ok-ids.ids.items in
    let rows = c.in_ok-rows.rows.items in
    subst (NumbersFit c.intern_rows.new.pool) (sym c.deref.ensures.value)
    (numbers_fit pool c.requires.0 entries table (ap (map entry_of) c.as_slice.ensures ∙ h.clauses) (subst (λ n. HasIdsByClass pool entries n table) h.classes c.in_ok-ids.ensures.ids) c.requires.2
    c.intern_rows.new.pool rows (subst (λ xs. AreRows c.intern_rows.new.pool (map (clauses_at pool) xs) rows) c.as_slice-2.ensures.value c.in_ok-rows.ensures.rows))

pub build-requires-clause-pairs : goal.build-requires-clause-pairs
build-requires-clause-pairs c =
    let h = c.requires.1 in
    let pool = c.intern_clauses.new.pool in
    let entries = map entry_of c.as_slice.result.now in
    let table = c.in_ok-ids.ids.items in
    let rows = c.in_ok-rows.rows.items in
    let count : length rows ≡ c.requires.0.classes =
    rows_count pool c.requires.0 entries table (ap (map entry_of) c.as_slice.ensures ∙ h.clauses) (subst (λ n. HasIdsByClass pool entries n table) h.classes c.in_ok-ids.ensures.ids) c.requires.2
    c.intern_rows.new.pool rows (subst (λ xs. AreRows c.intern_rows.new.pool (map (clauses_at pool) xs) rows) c.as_slice-2.ensures.value c.in_ok-rows.ensures.rows) in
    subst (λ xs. PairsFit c.as_slice-3.result.now (length xs)) (sym c.deref.ensures.value)
    (subst (λ ps. PairsFit ps (length rows)) (sym (c.as_slice-3.ensures ∙ h.conflicts)) (subst (PairsFit c.requires.0.conflicts) (sym count) c.requires.2.conflicts))

pub returns-clause-repository : goal.returns-clause-repository
returns-clause-repository c =
    let h = c.requires.1 in
    let pool = c.intern_clauses.new.pool in
    let entries = map entry_of c.as_slice.result.now in
    let table = c.in_ok-ids.ids.items in
    let rows = c.in_ok-rows.rows.items in
    book_is pool c.requires.0 entries table (ap (map entry_of) c.as_slice.ensures ∙ h.clauses) (subst (λ n. HasIdsByClass pool entries n table) h.classes c.in_ok-ids.ensures.ids) c.requires.2
    c.intern_rows.new.pool rows (subst (λ xs. AreRows c.intern_rows.new.pool (map (clauses_at pool) xs) rows) c.as_slice-2.ensures.value c.in_ok-rows.ensures.rows)
    c.args.reader.now h c.as_slice-3.result.now (c.as_slice-3.ensures ∙ h.conflicts) c.deref.result.now c.deref.ensures.value c.build.result c.build.ensures.rows c.build.ensures.conflicts

-- the clauses that were gained are those of the rows
pub returns-clause-only : goal.returns-clause-only
returns-clause-only c =
    let pool = c.args.pool.now in
    let new = c.intern_rows.new.pool in
    let rows = c.in_ok-rows.rows.items in
    let gained : AddsOnly pool new rows =
    rows_alone pool c.intern_clauses.new.pool new c.in_ok-ids.ids.items rows c.in_ok-ids.ensures.gains
    (subst (λ table. GainsRows c.intern_clauses.new.pool new table rows) c.as_slice-2.ensures.value c.in_ok-rows.ensures.gains) in
    IfOk-weaker c.build.result (λ book. book.rows ≡ c.deref.result.now) (λ book. AddsOnly pool new book.rows)
    (λ book e. subst (AddsOnly pool new) (sym (e ∙ c.deref.ensures.value)) gained) c.build.ensures.rows

pub returns-in_err-rows-clause-kept : goal.returns-in_err-rows-clause-kept
returns-in_err-rows-clause-kept c = kept_along c.args.pool.now c.intern_clauses.new.pool c.intern_rows.new.pool c.intern_clauses.ensures.kept c.intern_rows.ensures.kept

pub returns-clause-kept : goal.returns-clause-kept
returns-clause-kept c = kept_along c.args.pool.now c.intern_clauses.new.pool c.intern_rows.new.pool c.intern_clauses.ensures.kept c.intern_rows.ensures.kept
