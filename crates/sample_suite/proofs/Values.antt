-- The values of a sample suite's fields, behind their colons.
use Rattle.std.proofs.Common.{◌≡◌, ◌∙◌, ◌≤◌, ◌==◌, ℕ, true, false, not, refl, sym, ap, subst, List, [], ◌∷◌, ◌++◌, map, length, codes, append_assoc, append-nil}
use Rattle.std.proofs.{Common.{arith}, lemmas.Bool.{and_parts, not-true, ne_eqb}}
use Rattle.std.specs.List.{AllByRecursion, flat_map}
use Rattle.stanza_reader.specs.Fields.{before_trimmed, is_edge, trimmed, trimmed_end, trimmed_start}
use Rattle.sample_suite.specs.SampleText.{element_text, joined_by, needs_text, package_name}
use Rattle.sample_suite.proofs.{Names.{IsSmall, is_free, name_free}, SampleLines.{AreSmall}}

-- a text that neither begins nor ends with what is dropped there
pub record IsTight (text : List ℕ) : Type 0 where
  pub first : ℕ
  pub more : List ℕ
  pub is : text ≡ first ∷ more
  pub begins : is_edge first ≡ false
  pub stays : trimmed_end text ≡ text

end_of_two : (xs : List ℕ) (y : ℕ) (ys : List ℕ) → trimmed_end (y ∷ ys) ≡ y ∷ ys → trimmed_end (xs ++ y ∷ ys) ≡ xs ++ y ∷ ys
end_of_two [] y ys h = h
end_of_two (x ∷ xs) y ys h = ap (before_trimmed x) (end_of_two xs y ys h) ∙ go xs
  where
    go : (xs : List ℕ) → before_trimmed x (xs ++ y ∷ ys) ≡ x ∷ (xs ++ y ∷ ys)
    go [] = refl
    go (z ∷ zs) = refl

-- a text behind another
tight_behind : (xs ys : List ℕ) → IsTight ys → trimmed_end (xs ++ ys) ≡ xs ++ ys
tight_behind xs ys t =
    subst (λ zs. trimmed_end (xs ++ zs) ≡ xs ++ zs) (sym t.is) (end_of_two xs t.first t.more (subst (λ zs. trimmed_end zs ≡ zs) t.is t.stays))

free_stays : (text : List ℕ) → is_free is_edge text ≡ true → trimmed_end text ≡ text
free_stays [] h = refl
free_stays (b ∷ bs) h =
    let w : (not (is_edge b) ≡ true) × (is_free is_edge bs ≡ true) = and_parts (not (is_edge b)) (is_free is_edge bs) h in
    ap (before_trimmed b) (free_stays bs w.1) ∙ go bs (not-true (is_edge b) w.0)
  where
    go : (bs : List ℕ) → is_edge b ≡ false → before_trimmed b bs ≡ b ∷ bs
    go [] e = rw e refl
    go (c ∷ cs) e = refl

edge_fails : (c : ℕ) → 48 ≤ c → c ≤ 57 → is_edge c ≡ false
edge_fails c low high =
    let a : (c == 32) ≡ false = ne_eqb c 32 (λ e. omega arith) in
    let b : (c == 9) ≡ false = ne_eqb c 9 (λ e. omega arith) in
    let d : (c == 10) ≡ false = ne_eqb c 10 (λ e. omega arith) in
    rw (a, b, d) refl

pub name_tight : (n : ℕ) → IsSmall n → IsTight (package_name n)
name_tight n small = record { first = 112; more = _; is = refl; begins = refl; stays = free_stays (package_name n) (name_free is_edge refl edge_fails n small) }

abbrev AllTight : List (List ℕ) → Type 0
AllTight texts = AllByRecursion IsTight texts

-- tight texts with a separator between them
tight_joined : (separator text : List ℕ) (more : List (List ℕ)) → IsTight text → trimmed_end (joined_by separator (text ∷ more)) ≡ joined_by separator (text ∷ more) → IsTight (joined_by separator (text ∷ more))
tight_joined separator text more t h = record {
  first = t.first;
  more = t.more ++ flat_map (λ other. separator ++ other) more;
  is = ap (λ xs. xs ++ flat_map (λ other. separator ++ other) more) t.is;
  begins = t.begins;
  stays = h;
}

joined_stays : (separator text : List ℕ) (more : List (List ℕ)) → IsTight text → AllTight more → trimmed_end (joined_by separator (text ∷ more)) ≡ joined_by separator (text ∷ more)
joined_stays separator text [] t h = subst (λ xs. trimmed_end xs ≡ xs) (sym (append-nil text)) t.stays
joined_stays separator text (other ∷ more) t h =
    let last = tight_joined separator other more h.0 (joined_stays separator other more h.0 h.1) in
    let same : text ++ flat_map (λ x. separator ++ x) (other ∷ more) ≡ (text ++ separator) ++ joined_by separator (other ∷ more) =
    ap (λ xs. text ++ xs) (append_assoc separator other (flat_map (λ x. separator ++ x) more)) ∙ sym (append_assoc text separator (joined_by separator (other ∷ more))) in
    subst (λ xs. trimmed_end xs ≡ xs) (sym same) (tight_behind (text ++ separator) (joined_by separator (other ∷ more)) last)

joined_tight : (separator text : List ℕ) (more : List (List ℕ)) → IsTight text → AllTight more → IsTight (joined_by separator (text ∷ more))
joined_tight separator text more t h = tight_joined separator text more t (joined_stays separator text more t h)

names_tight : (numbers : List ℕ) → AllByRecursion IsSmall numbers → AllTight (map package_name numbers)
names_tight [] h = tt
names_tight (n ∷ numbers) h = (name_tight n h.0, names_tight numbers h.1)

-- elements with an alternative each
abbrev pub AreFilled : List (List ℕ) → Type 0
AreFilled elements = AllByRecursion (λ alternatives. 1 ≤ length alternatives) elements

element_tight : (alternatives : List ℕ) → AllByRecursion IsSmall alternatives → 1 ≤ length alternatives → IsTight (element_text alternatives)
element_tight [] h some = absurd (omega arith)
element_tight (n ∷ numbers) h some = joined_tight (codes " | ") (package_name n) (map package_name numbers) (name_tight n h.0) (names_tight numbers h.1)

elements_tight : (elements : List (List ℕ)) → AreSmall elements → AreFilled elements → AllTight (map element_text elements)
elements_tight [] h some = tt
elements_tight (element ∷ more) h some = (element_tight element h.0 some.0, elements_tight more h.1 some.1)

pub needs_tight : (element : List ℕ) (more : List (List ℕ)) → AreSmall (element ∷ more) → AreFilled (element ∷ more) → IsTight (needs_text (element ∷ more))
needs_tight element more h some = joined_tight (codes ", ") (element_text element) (map element_text more) (element_tight element h.0 some.0) (elements_tight more h.1 some.1)

-- what is kept of a field that has no more lines
pub tight_value : (text : List ℕ) → IsTight text → trimmed ((32 ∷ text) ++ []) ≡ text
tight_value text t =
    ap trimmed (append-nil (32 ∷ text)) ∙ ap (λ xs. trimmed_start (before_trimmed 32 xs)) (t.stays ∙ t.is) ∙ go ∙ sym t.is
  where
    go : trimmed_start (32 ∷ t.first ∷ t.more) ≡ t.first ∷ t.more
    go = rw t.begins refl
