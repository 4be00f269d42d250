-- The short definitions, computed at small values.
use Rattle.relation_fields.specs.Spelling.{SpellsAtom}
use Rattle.std.proofs.Common.{◌≡◌, ℕ, true, false, List, [], ◌∷◌, ◌++◌, Some, None, not, ◌&&◌, ◌||◌, inl, refl}
use Rattle.std.specs.{Prelude.{codes, ◌==◌}, Fmt.{digits}, declared.cmp.Ordering.TheVariants.{Less, Equal, Greater}}
use Rattle.deb_version.specs.Grammar.{behind_epoch, epoch_of, is_version, revision_in, upstream_in}
use Rattle.listed.specs.Texts as white
use Rattle.kernel_text.specs.{KernelLines.{line_text}, KernelText.{class_lines, kernel_lines, kernel_text}, declared.member.Member.{Member}}
use Rattle.row_book.specs.{Numbers.{numbers}, Repository.{Repository}}
use Rattle.relation_fields.specs.{declared.packages.Home.{Home}, declared.packages.PackageFacts.{PackageFacts}, declared.relations.Atom.{Atom}}
use Rattle.relation_fields.specs.{declared.relations.Op.TheVariants.{LaterEqual}, Meeting.{meets}}
use Rattle.search_terms.specs.{Closure.{literal}, declared.literals.Literal.{Literal}, Form.{form}}
use Rattle.suite_compare.specs.declared.report.ReportLine.TheVariants.{Broken1, Open2}
use Rattle.coinst_words.specs.Usage.{Text}
use Rattle.claims.specs.{Printed.{printed_comparison}, Control.{fields, stanza_groups, field_value}, Index.{relation_elements, is_one_package}}
use Rattle.claims.specs.{Search.{class_to_split}, Words.{asking_words}}
use Rattle.repo_model.specs.Repository.{suite_repository}
use Rattle.deb_version.specs.Order.{behind, first_difference, number_piece, part_order, pieces_order, plain_piece, version_order}

a_tilde_comes_first : version_order (codes "1.0~rc1-1") (codes "1.0-1") ≡ Less
unfolding version_order part_order first_difference pieces_order plain_piece number_piece behind epoch_of behind_epoch upstream_in revision_in
a_tilde_comes_first = refl

epochs_come_first : version_order (codes "1:0.1") (codes "20.0") ≡ Greater
unfolding version_order part_order first_difference pieces_order plain_piece number_piece behind epoch_of behind_epoch upstream_in revision_in
epochs_come_first = refl

zeros_do_not_count : version_order (codes "0:1.0-0") (codes "1.000") ≡ Equal
unfolding version_order part_order first_difference pieces_order plain_piece number_piece behind epoch_of behind_epoch upstream_in revision_in
zeros_do_not_count = refl

numbers_count_as_such : version_order (codes "1.10") (codes "1.9") ≡ Greater
unfolding version_order part_order first_difference pieces_order plain_piece number_piece behind epoch_of behind_epoch upstream_in revision_in
numbers_count_as_such = refl

letters_come_before_others : version_order (codes "1.0a") (codes "1.0+") ≡ Less
unfolding version_order part_order first_difference pieces_order plain_piece number_piece behind epoch_of behind_epoch upstream_in revision_in
letters_come_before_others = refl

a_revision_counts : version_order (codes "1-2-3") (codes "1-2-2.9") ≡ Greater
unfolding version_order part_order first_difference pieces_order plain_piece number_piece behind epoch_of behind_epoch upstream_in revision_in
a_revision_counts = refl

-- two stanzas, with blank lines around them
abbrev first : List Text
first = codes "Package: a" ∷ codes "DEPENDS: b (>= 1)," ∷ codes "  c | d , ," ∷ codes "Version: 1 " ∷ []

abbrev text : Text
text =
    codes " " ++ (10 ∷ codes "Package: a" ++ (10 ∷ codes "DEPENDS: b (>= 1)," ++ (10 ∷ codes "  c | d , ," ++ (10 ∷ codes "Version: 1 "
    ++ (10 ∷ codes "" ++ (10 ∷ (9 ∷ []) ++ (10 ∷ codes "Package: b" ++ (10 ∷ []))))))))

two_groups : stanza_groups text ≡ first ∷ (codes "Package: b" ∷ []) ∷ []
unfolding stanza_groups
two_groups = refl

three_fields : fields first ≡ codes "Package: a" ∷ (codes "DEPENDS: b (>= 1)," ++ 10 ∷ codes "  c | d , ,") ∷ codes "Version: 1 " ∷ []
three_fields = refl

a_value : field_value (codes "version") first ≡ Some (codes "1")
unfolding white.trim_both white.trim_end white.trim_start
a_value = refl

no_value : field_value (codes "provides") first ≡ None
no_value = refl

two_elements : relation_elements (codes "depends") first ≡ codes "b (>= 1)" ∷ (10 ∷ codes "  c | d ") ∷ []
unfolding white.trim_both white.trim_end white.trim_start
two_elements = refl

no_elements : relation_elements (codes "breaks") first ≡ []
no_elements = refl

one_package : is_one_package (codes "a") (codes "1.0") (codes "a") (codes "1.00") ≡ true
unfolding version_order part_order first_difference pieces_order plain_piece number_piece behind epoch_of behind_epoch upstream_in revision_in
one_package = refl

abbrev b_from_one : Atom
b_from_one = record { name = codes "b"; qualifier = Some (codes "any"); bound = Some (record { op = LaterEqual; version = codes "1" }) }

an_atom : SpellsAtom (codes " b:any (>= 1) ") b_from_one
unfolding is_version epoch_of behind_epoch upstream_in revision_in
an_atom = (codes " ", codes ":any", codes " ", codes "(>= 1)", codes " ", refl, refl, (refl, refl), ([], codes ">=", codes " ", [], refl, inl refl, refl, refl), refl)

-- a package that b 2 needs, and what it meets
abbrev of_any : Home
of_any = record { name = None }

abbrev a_facts : PackageFacts
a_facts = record { line = 1; name = codes "a"; version = codes "1"; is_arch_dependent = false; needs = []; against = []; provides = record { name = codes "b"; qualifier = None; version = Some (codes "1.0") } ∷ [] }

abbrev b_facts : PackageFacts
b_facts = record { line = 4; name = codes "b"; version = codes "0~1"; is_arch_dependent = false; needs = (b_from_one ∷ []) ∷ []; against = b_from_one ∷ []; provides = [] }

a_meets : meets b_from_one a_facts of_any ≡ true
unfolding meets version_order part_order first_difference pieces_order plain_piece number_piece behind epoch_of behind_epoch upstream_in revision_in
a_meets = refl

b_meets_not : meets b_from_one b_facts of_any ≡ false
unfolding meets version_order part_order first_difference pieces_order plain_piece number_piece behind epoch_of behind_epoch upstream_in revision_in
b_meets_not = refl

its_repository : suite_repository of_any (a_facts ∷ b_facts ∷ []) ≡ record { clauses = [] ∷ ((0 ∷ []) ∷ []) ∷ []; conflicts = (1 ∷ []) ∷ (0 ∷ []) ∷ [] }
unfolding suite_repository meets version_order part_order first_difference pieces_order plain_piece number_piece behind epoch_of behind_epoch upstream_in revision_in
its_repository = refl

-- three classes, of which the second needs the first or the third, and the last two conflict
abbrev three : Repository
three = record { clauses = [] ∷ ((0 ∷ 2 ∷ []) ∷ []) ∷ [] ∷ []; conflicts = [] ∷ (2 ∷ []) ∷ (1 ∷ []) ∷ [] }

abbrev members : List Member
members = record { class = 0; name = codes "a"; version = codes "1" } ∷ record { class = 1; name = codes "b"; version = codes "2-1" } ∷ record { class = 2; name = codes "c"; version = codes "3" } ∷ []

abbrev kernel_bytes : Text
kernel_bytes =
    (codes "coinst-kernel 2" ++ 10 ∷ []) ++ (codes "class 0" ++ 10 ∷ []) ++ (codes "member a 1" ++ 10 ∷ []) ++ (codes "class 1" ++ 10 ∷ []) ++ (codes "member b 2-1" ++ 10 ∷ []) ++ (codes "held" ++ 10 ∷ [])
    ++ (codes "needs 0 2" ++ 10 ∷ []) ++ (codes "against 2" ++ 10 ∷ []) ++ (codes "class 2" ++ 10 ∷ []) ++ (codes "member c 3" ++ 10 ∷ []) ++ (codes "end 3 3" ++ 10 ∷ [])

its_lines : kernel_bytes ≡ kernel_text 2 three members (1 ∷ [])
unfolding numbers digits kernel_text kernel_lines class_lines line_text
its_lines = refl

abbrev yes : ℕ → Literal
yes c = literal c true

abbrev not_it : ℕ → Literal
not_it c = literal c false

a_form : form three ((1 ∷ []) ∷ []) ≡ (yes 1 ∷ []) ∷ (not_it 1 ∷ yes 0 ∷ yes 2 ∷ []) ∷ (not_it 1 ∷ not_it 2 ∷ []) ∷ (not_it 2 ∷ not_it 1 ∷ []) ∷ []
a_form = refl

-- with the second class true and the third false, the first is asked for
a_class : class_to_split (λ l. (l.class == 1) && l.positive || (l.class == 2) && not l.positive) (form three ((1 ∷ []) ∷ [])) ≡ Some 0
a_class = refl

-- a broken name, an open pair, and the last line
three_lines : printed_comparison (Broken1 (codes "a") ∷ Open2 (codes "b") (codes "c") ∷ []) ≡ (codes "broken a" ++ 10 ∷ []) ++ (codes "open b c" ++ 10 ∷ []) ++ (codes "end 1 1" ++ 10 ∷ [])
unfolding printed_comparison digits
three_lines = refl

words_of_a_kernel : asking_words (codes "kernel") None (Some 12) true (codes "Packages" ∷ []) ≡ codes "kernel" ∷ codes "--clause-limit" ∷ codes "12" ∷ codes "--hold" ∷ codes "Packages" ∷ []
unfolding digits
words_of_a_kernel = refl

words_of_a_comparison : asking_words (codes "compare") None (Some 7) false (codes "old" ∷ codes "new" ∷ []) ≡ codes "compare" ∷ codes "--clause-limit" ∷ codes "7" ∷ codes "old" ∷ codes "new" ∷ []
unfolding digits
words_of_a_comparison = refl
