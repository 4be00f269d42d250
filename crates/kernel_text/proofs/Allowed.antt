-- What a line that is allowed says, and what the lines of a text give.
use Rattle.std.proofs.Common.{◌≡◌, ℕ, ◌<◌, ◌==◌, ◌&&◌, ◌||◌, not, Bool, true, false, List, [], ◌∷◌, length, Option, Some, None, inl, inr, refl, sym, ap₂, subst}
use Rattle.std.proofs.{Common.{eq-eqb, eqb-true}, lemmas.Bool.{and_from, and_parts, false_from_ne_true, false≢true, lt-ltb, ltb-true, or_cases}}
use Rattle.std.specs.{Prelude.{nat_lt, is_none}, List.{list_all}}
use Rattle.clause_pool.specs.Lists.{Before}
use Rattle.clause_pool.proofs.Order.{before_is, before_test}
use Rattle.deb_version.specs.{Grammar.{is_version}, Names.{is_name}}
use Rattle.listed.proofs.Lists.{In_has, all_at, all_from, has_In}
use Rattle.listed.specs.Lists.{Ascending, In, has}
use Rattle.row_book.specs.Repository.{Repository}
use Rattle.kernel_text.specs.{declared.member.Member.{Member}, Reader.{IsInRange, IsNew}, StoredReading.{ends_with}, Words.{IsWellFormed}}
use Rattle.kernel_text.specs.KernelLines.{KernelLine, HeadLine, ClassLine, MemberLine, HeldLine, NeedsLine, AgainstLine, EndLine, line_text, lines_of}
use Rattle.kernel_text.specs.Reading.{IsFormat, IsNamed, Reading, are_low, ascends, empty_reading, is_allowed, is_same_member, kind_of_last, last_needs}
use Rattle.kernel_text.specs.Reading.{may_add_clause, may_add_conflict, may_add_held, may_add_member, may_begin, member_of_line, number_limit}
use Rattle.kernel_text.specs.Reading.{repository_of_reading, this_class, with_line}

-- that a test is passed
abbrev pub So : Bool → Type 0
So true = Unit {0}
So false = ⊥

abbrev pub MayBegin : Option KernelLine → Type 0
MayBegin last = So (may_begin (kind_of_last last))

abbrev pub MayAddMember : Option KernelLine → Type 0
MayAddMember last = So (may_add_member (kind_of_last last))

abbrev pub MayAddHeld : Option KernelLine → Type 0
MayAddHeld last = So (may_add_held (kind_of_last last))

abbrev pub MayAddClause : Option KernelLine → List ℕ → Type 0
MayAddClause (Some (NeedsLine lesser)) clause = Before lesser clause
MayAddClause last clause = So (may_add_clause (kind_of_last last) [] clause)

abbrev pub MayAddConflict : Option KernelLine → ℕ → Type 0
MayAddConflict (Some (AgainstLine lesser)) m = lesser < m
MayAddConflict last m = So (may_add_conflict (kind_of_last last) m)

pub record IsClauseOf (class : ℕ) (clause : List ℕ) : Type 0 where
  pub ascending : Ascending clause
  pub apart : In class clause → ⊥
  pub low : (l : ℕ) → In l clause → l < number_limit

abbrev pub IsAllowed : Reading → KernelLine → Type 0
IsAllowed t (HeadLine format) = (t.last ≡ None) × IsFormat format
IsAllowed t (ClassLine n) = MayBegin t.last × (n ≡ t.classes) × (n < number_limit)
IsAllowed t (MemberLine name version) = MayAddMember t.last × IsNamed name version × IsNew (member_of_line t name version) t.members
IsAllowed t HeldLine = MayAddHeld t.last × (t.format ≡ 2)
IsAllowed t (NeedsLine clause) = MayAddClause t.last clause × IsClauseOf (this_class t) clause
IsAllowed t (AgainstLine m) = MayAddConflict t.last m × (this_class t < m) × (m < number_limit)
IsAllowed t (EndLine classes members) = MayBegin t.last × (classes < number_limit) × (members < number_limit)

-- each line is the bytes of one that is allowed behind those before it, and with them all the reading t becomes u
abbrev pub LinesGive : Reading → List (List ℕ) → Reading → Type 0
LinesGive t [] u = t ≡ u
LinesGive t (line ∷ more) u = (l : KernelLine) × (line ≡ line_text l) × IsAllowed t l × LinesGive (with_line t l) more u

abbrev pub IsEnded : Reading → Type 0
IsEnded t = t.last ≡ Some (EndLine t.classes (length t.members))

-- what a text without a fault is read as
pub record IsRead (text : List ℕ) (format : ℕ) (R : Repository) (members : List Member) (held : List ℕ) : Type 0 where
  pub reading : Reading
  pub given : LinesGive empty_reading (lines_of text) reading
  pub ended : IsEnded reading
  pub in_range : IsInRange reading
  pub of_format : format ≡ reading.format
  pub repository : R ≡ repository_of_reading reading
  pub member_list : members ≡ reading.members
  pub held_list : held ≡ reading.held

pub allowed_formed : (t : Reading) (l : KernelLine) → IsAllowed t l → IsWellFormed l
allowed_formed t (HeadLine format) a = a.1
allowed_formed t (ClassLine n) a = a.2
allowed_formed t (MemberLine name version) a = a.1
allowed_formed t HeldLine a = tt
allowed_formed t (NeedsLine clause) a = a.1.low
allowed_formed t (AgainstLine m) a = a.2
allowed_formed t (EndLine c d) a = (a.1, a.2)

pub some_none : (l : KernelLine) → Some l ≡ None → ⊥
some_none l e = let f : ⊥ = cc in f

-- a test tells whether something is so
abbrev pub Tells : Bool → Type 0 → Type 0
Tells b P = (b ≡ true → P) × (P → b ≡ true)

itself : (b : Bool) → Tells b (b ≡ true)
itself b = ((λ e. e), (λ e. e))

always : Tells true (Unit {0})
always = ((λ e. tt), (λ h. refl))

never : Tells false ⊥
never = ((λ e. absurd (false≢true e)), (λ h. absurd h))

pub not_told : {P : Type 0} (b : Bool) → Tells b P → Tells (not b) (P → ⊥)
not_told true t = ((λ e. absurd (false≢true e)), (λ h. absurd (h (t.0 refl))))
not_told false t = ((λ e h. false≢true (t.1 h)), (λ h. refl))

not_so : (b : Bool) → Tells (not b) (b ≡ false)
not_so true = ((λ e. absurd (false≢true e)), (λ e. absurd (false≢true (sym e))))
not_so false = ((λ e. refl), (λ e. refl))

two : {P Q : Type 0} (p q : Bool) → Tells p P → Tells q Q → Tells (p && q) (P × Q)
two p q s t = ((λ e. let w = and_parts p q e in (s.0 w.0, t.0 w.1)), (λ h. and_from p q (s.1 h.0) (t.1 h.1)))

three : {P Q R : Type 0} (p q r : Bool) → Tells p P → Tells q Q → Tells r R → Tells (p && (q && r)) (P × Q × R)
three p q r s t u =
    ((λ e. let w = and_parts p (q && r) e in let v = and_parts q r w.1 in (s.0 w.0, t.0 v.0, u.0 v.1)), (λ h. and_from p (q && r) (s.1 h.0) (and_from q r (t.1 h.1) (u.1 h.2))))

each : {A : Type 0} (p : A → Bool) (P : A → Type 0) → ((x : A) → Tells (p x) (P x)) → (xs : List A) → Tells (list_all p xs) ((x : A) → In x xs → P x)
each p P t xs = ((λ e x i. (t x).0 (all_at p xs e x i)), (λ h. all_from p xs (λ x i. (t x).1 (h x i))))

pub less : (m n : ℕ) → Tells (nat_lt m n) (m < n)
less m n = (ltb-true m n, lt-ltb m n)

same : (m n : ℕ) → Tells (m == n) (m ≡ n)
same m n = (eqb-true m n, eq-eqb m n)

format_told : (f : ℕ) → Tells (f == 1 || f == 2) (IsFormat f)
format_told f = (
  (λ e. elim (or_cases (f == 1) (f == 2) e) [ inl a ↦ inl (eqb-true f 1 a) | inr b ↦ inr (eqb-true f 2 b) ]),
  (λ h. elim h [ inl a ↦ subst (λ z. (z == 1 || z == 2) ≡ true) (sym a) refl | inr b ↦ subst (λ z. (z == 1 || z == 2) ≡ true) (sym b) refl ]),
)

none_told : (o : Option KernelLine) → Tells (is_none o) (o ≡ None)
none_told None = ((λ e. refl), (λ e. refl))
none_told (Some l) = ((λ e. absurd (false≢true e)), (λ e. absurd (some_none l e)))

pub so : (b : Bool) → Tells b (So b)
so true = always
so false = never

pub clause_told : (o : Option KernelLine) (clause : List ℕ) → Tells (may_add_clause (kind_of_last o) (last_needs o) clause) (MayAddClause o clause)
clause_told (Some (NeedsLine lesser)) clause = (before_test lesser clause, before_is lesser clause)
clause_told (Some (MemberLine name version)) clause = always
clause_told (Some HeldLine) clause = always
clause_told o clause = never

conflict_told : (o : Option KernelLine) (m : ℕ) → Tells (may_add_conflict (kind_of_last o) m) (MayAddConflict o m)
conflict_told (Some (AgainstLine lesser)) m = less lesser m
conflict_told (Some (MemberLine name version)) m = always
conflict_told (Some HeldLine) m = always
conflict_told (Some (NeedsLine clause)) m = always
conflict_told o m = never

ascending_told : (ns : List ℕ) → Tells (ascends ns) (Ascending ns)
ascending_told [] = always
ascending_told (n ∷ ns) = two (list_all (nat_lt n) ns) (ascends ns) (each (nat_lt n) (λ m. n < m) (less n) ns) (ascending_told ns)

has_told : (ns : List ℕ) (n : ℕ) → Tells (has ns n) (In n ns)
has_told ns n = (has_In ns n, In_has)

pub low_told : (ns : List ℕ) → Tells (are_low ns) ((l : ℕ) → In l ns → l < number_limit)
low_told ns = each (λ n. nat_lt n number_limit) (λ l. l < number_limit) (λ n. less n number_limit) ns

pub clause_of_told : (class : ℕ) (clause : List ℕ) → Tells (ascends clause && (not (has clause class) && are_low clause)) (IsClauseOf class clause)
clause_of_told class clause =
    let t = three (ascends clause) (not (has clause class)) (are_low clause) (ascending_told clause) (not_told (has clause class) (has_told clause class)) (low_told clause) in (
      (λ e. let w = t.0 e in record { ascending = w.0; apart = w.1; low = w.2 }),
      (λ h. t.1 (h.ascending, h.apart, h.low)),
    )

pub named_told : (name version : List ℕ) → Tells (is_name name && is_version version) (IsNamed name version)
named_told name version = two (is_name name) (is_version version) (itself (is_name name)) (itself (is_version version))

pub new_told : (m : Member) (earlier : List Member) → Tells (list_all (λ o. not (is_same_member m o)) earlier) (IsNew m earlier)
new_told m earlier = each (λ o. not (is_same_member m o)) (λ o. is_same_member m o ≡ false) (λ o. not_so (is_same_member m o)) earlier

pub allowed_told : (t : Reading) (l : KernelLine) → Tells (is_allowed t l) (IsAllowed t l)
allowed_told t (HeadLine format) = two (is_none t.last) (format == 1 || format == 2) (none_told t.last) (format_told format)
allowed_told t (ClassLine n) = three (may_begin (kind_of_last t.last)) (n == t.classes) (nat_lt n number_limit) (so (may_begin (kind_of_last t.last))) (same n t.classes) (less n number_limit)
allowed_told t (MemberLine name version) =
    let m : Member = member_of_line t name version in
    three (may_add_member (kind_of_last t.last)) (is_name name && is_version version) (list_all (λ o. not (is_same_member m o)) t.members) (so (may_add_member (kind_of_last t.last))) (named_told name version) (new_told m t.members)
allowed_told t HeldLine = two (may_add_held (kind_of_last t.last)) (t.format == 2) (so (may_add_held (kind_of_last t.last))) (same t.format 2)
allowed_told t (NeedsLine clause) =
    two (may_add_clause (kind_of_last t.last) (last_needs t.last) clause) (ascends clause && (not (has clause (this_class t)) && are_low clause)) (clause_told t.last clause) (clause_of_told (this_class t) clause)
allowed_told t (AgainstLine m) =
    three (may_add_conflict (kind_of_last t.last) m) (nat_lt (this_class t) m) (nat_lt m number_limit) (conflict_told t.last m) (less (this_class t) m) (less m number_limit)
allowed_told t (EndLine c d) =
    three (may_begin (kind_of_last t.last)) (nat_lt c number_limit) (nat_lt d number_limit) (so (may_begin (kind_of_last t.last))) (less c number_limit) (less d number_limit)

-- the end line
ends_first : (a b c d : ℕ) → Some (EndLine a b) ≡ Some (EndLine c d) → a ≡ c
ends_first a b c d h = cc

ends_second : (a b c d : ℕ) → Some (EndLine a b) ≡ Some (EndLine c d) → b ≡ d
ends_second a b c d h = cc

pub ends_told : (o : Option KernelLine) (m n : ℕ) → Tells (ends_with o m n) (o ≡ Some (EndLine m n))
ends_told (Some (EndLine c d)) m n = (
  (λ e. let w = and_parts (c == m) (d == n) e in ap₂ (λ x y. Some (EndLine x y)) (eqb-true c m w.0) (eqb-true d n w.1)),
  (λ h. and_from (c == m) (d == n) (eq-eqb c m (ends_first c d m n h)) (eq-eqb d n (ends_second c d m n h))),
)
ends_told None m n = ((λ e. absurd (false≢true e)), (λ h. absurd (let no : ⊥ = cc in no)))
ends_told (Some (HeadLine f)) m n = ((λ e. absurd (false≢true e)), (λ h. absurd (let no : ⊥ = cc in no)))
ends_told (Some (ClassLine c)) m n = ((λ e. absurd (false≢true e)), (λ h. absurd (let no : ⊥ = cc in no)))
ends_told (Some (MemberLine a v)) m n = ((λ e. absurd (false≢true e)), (λ h. absurd (let no : ⊥ = cc in no)))
ends_told (Some HeldLine) m n = ((λ e. absurd (false≢true e)), (λ h. absurd (let no : ⊥ = cc in no)))
ends_told (Some (NeedsLine c)) m n = ((λ e. absurd (false≢true e)), (λ h. absurd (let no : ⊥ = cc in no)))
ends_told (Some (AgainstLine c)) m n = ((λ e. absurd (false≢true e)), (λ h. absurd (let no : ⊥ = cc in no)))

pub not_allowed : (t : Reading) (l : KernelLine) → (IsAllowed t l → ⊥) → is_allowed t l ≡ false
not_allowed t l none = false_from_ne_true (is_allowed t l) (λ e. none ((allowed_told t l).0 e))
