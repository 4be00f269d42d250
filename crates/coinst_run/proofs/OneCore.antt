-- No two lists of conflicts have one text behind the same goals.
use Rattle.std.proofs.Common.{◌≡◌, ℕ, Bool, true, false, List, [], ◌∷◌, ◌++◌, length, Option, Some, None, refl, sym, ap, ap₂, ◌∙◌, inl, inr, arith, get_or}
use Rattle.std.proofs.{Common.{append_assoc}, lemmas.List.{append_cancel_left}}
use Rattle.std.specs.{Prelude.{IfSome, codes}, List.{flat_map}}
use Rattle.explain_core.specs.{declared.explanation.Clash.{Clash}, declared.explanation.Mark.{Mark}, OnStanzas.{AreClashesOf}}
use Rattle.kernel_text.proofs.Spelling.{cut_same}
use Rattle.relation_fields.specs.declared.packages.PackageFacts.{PackageFacts}
use Rattle.repo_model.specs.{Stanzas.{stanza_at}, declared.goals.Goal.{Goal}}
use Rattle.repo_model.proofs.Accepted.{Accepted}
use Rattle.listed.specs.Lists.{here, there}
use Rattle.coinst_run.specs.{ExplainText.{clash_count, clash_line, clash_text, clashes_text, core_text, goal_line, package_text}, Lines.{end_text}}
use Rattle.claims.proofs.Members.{place_of_package}
use Rattle.coinst_run.proofs.OneInstallation.{IsPlainPackage, plain_at}

-- the pieces of a line, and what stands behind it
pieces : (a n v m w b e behind : List ℕ) → a ++ (n ++ b ++ v) ++ b ++ (m ++ b ++ w) ++ e ++ behind ≡ a ++ (n ++ (b ++ (v ++ (b ++ (m ++ (b ++ (w ++ (e ++ behind))))))))
pieces a n v m w b e behind = simp append_assoc

-- by which two lines are told apart
abbrev at_byte : ℕ → List ℕ → ℕ
at_byte n bytes = get_or bytes n 0

record IsSameClash (u v : Bool) (s t p q : PackageFacts) (R S : List ℕ) : Type 0 where
  unsettled : u ≡ v
  first_name : s.name ≡ p.name
  first_version : s.version ≡ p.version
  second_name : t.name ≡ q.name
  second_version : t.version ≡ q.version
  behind : R ≡ S

same_packages : (u : Bool) (A : List ℕ) (s t p q : PackageFacts) (R S : List ℕ) → IsPlainPackage s → IsPlainPackage t → IsPlainPackage p → IsPlainPackage q →
    A ++ package_text s ++ codes " " ++ package_text t ++ (10 ∷ []) ++ R ≡ A ++ package_text p ++ codes " " ++ package_text q ++ (10 ∷ []) ++ S → IsSameClash u u s t p q R S
same_packages u A s t p q R S ps pt pp pq e =
    let B : List ℕ = codes " " in
    let F : List ℕ = 10 ∷ [] in
    let from_name : s.name ++ (B ++ (s.version ++ (B ++ (t.name ++ (B ++ (t.version ++ (F ++ R))))))) ≡ p.name ++ (B ++ (p.version ++ (B ++ (q.name ++ (B ++ (q.version ++ (F ++ S))))))) =
    append_cancel_left A (s.name ++ (B ++ (s.version ++ (B ++ (t.name ++ (B ++ (t.version ++ (F ++ R)))))))) (p.name ++ (B ++ (p.version ++ (B ++ (q.name ++ (B ++ (q.version ++ (F ++ S))))))))
    (sym (pieces A s.name s.version t.name t.version B F R) ∙ e ∙ pieces A p.name p.version q.name q.version B F S) in
    let a = cut_same s.name p.name (B ++ (s.version ++ (B ++ (t.name ++ (B ++ (t.version ++ (F ++ R))))))) (B ++ (p.version ++ (B ++ (q.name ++ (B ++ (q.version ++ (F ++ S))))))) ps.name pp.name (inl refl) (inl refl) from_name in
    let b = cut_same s.version p.version (B ++ (t.name ++ (B ++ (t.version ++ (F ++ R))))) (B ++ (q.name ++ (B ++ (q.version ++ (F ++ S))))) ps.version pp.version (inl refl) (inl refl)
    (append_cancel_left B (s.version ++ (B ++ (t.name ++ (B ++ (t.version ++ (F ++ R)))))) (p.version ++ (B ++ (q.name ++ (B ++ (q.version ++ (F ++ S)))))) a.1) in
    let c = cut_same t.name q.name (B ++ (t.version ++ (F ++ R))) (B ++ (q.version ++ (F ++ S))) pt.name pq.name (inl refl) (inl refl)
    (append_cancel_left B (t.name ++ (B ++ (t.version ++ (F ++ R)))) (q.name ++ (B ++ (q.version ++ (F ++ S)))) b.1) in
    let d = cut_same t.version q.version (F ++ R) (F ++ S) pt.version pq.version (inr refl) (inr refl) (append_cancel_left B (t.version ++ (F ++ R)) (q.version ++ (F ++ S)) c.1) in
    record { unsettled = refl; first_name = a.0; first_version = b.0; second_name = c.0; second_version = d.0; behind = append_cancel_left F R S d.1 }

same_clash : (u v : Bool) (s t p q : PackageFacts) (R S : List ℕ) → IsPlainPackage s → IsPlainPackage t → IsPlainPackage p → IsPlainPackage q → clash_text u s t ++ R ≡ clash_text v p q ++ S → IsSameClash u v s t p q R S
same_clash true true s t p q R S ps pt pp pq e = same_packages true (codes "clash-open ") s t p q R S ps pt pp pq e
same_clash false false s t p q R S ps pt pp pq e = same_packages false (codes "clash ") s t p q R S ps pt pp pq e
same_clash true false s t p q R S ps pt pp pq e = let w : 45 ≡ 32 = ap (at_byte 5) e in absurd (omega (arith, w))
same_clash false true s t p q R S ps pt pp pq e = let w : 32 ≡ 45 = ap (at_byte 5) e in absurd (omega (arith, w))

-- a line of a conflict is neither the last line nor the one of conflicts that are open as a whole
not_last : (u : Bool) (s t : PackageFacts) (R : List ℕ) (goals clashes : ℕ) → clash_text u s t ++ R ≡ end_text goals clashes → ⊥
not_last true s t R goals clashes e = let w : 99 ≡ 101 = ap (at_byte 0) e in omega (arith, w)
not_last false s t R goals clashes e = let w : 99 ≡ 101 = ap (at_byte 0) e in omega (arith, w)

not_open : (u : Bool) (s t : PackageFacts) (R S : List ℕ) → clash_text u s t ++ R ≡ codes "clashes-open" ++ S → ⊥
not_open true s t R S e = let w : 45 ≡ 101 = ap (at_byte 5) e in omega (arith, w)
not_open false s t R S e = let w : 32 ≡ 101 = ap (at_byte 5) e in omega (arith, w)

module _ (packages : List PackageFacts) (accepted : Accepted packages) where
  abbrev lines : List Clash → List ℕ
  lines = flat_map (clash_line packages)

  one_list : (xs ys : List Clash) (goals n m : ℕ) → AreClashesOf (length packages) xs → AreClashesOf (length packages) ys → lines xs ++ end_text goals n ≡ lines ys ++ end_text goals m → xs ≡ ys
  one_list [] [] goals n m f g e = refl
  one_list [] (y ∷ ys) goals n m f g e =
      absurd (not_last y.unsettled (stanza_at packages y.first) (stanza_at packages y.second) (lines ys ++ end_text goals m) goals n (sym (append_assoc (clash_line packages y) (lines ys) (end_text goals m)) ∙ sym e))
  one_list (x ∷ xs) [] goals n m f g e =
      absurd (not_last x.unsettled (stanza_at packages x.first) (stanza_at packages x.second) (lines xs ++ end_text goals n) goals m (sym (append_assoc (clash_line packages x) (lines xs) (end_text goals n)) ∙ e))
  one_list (x ∷ xs) (y ∷ ys) goals n m f g e =
      let l = f x here in
      let k = g y here in
      let same = same_clash x.unsettled y.unsettled (stanza_at packages x.first) (stanza_at packages x.second) (stanza_at packages y.first) (stanza_at packages y.second) (lines xs ++ end_text goals n) (lines ys ++ end_text goals m)
      (plain_at packages accepted x.first l.0) (plain_at packages accepted x.second l.1) (plain_at packages accepted y.first k.0) (plain_at packages accepted y.second k.1)
      (sym (append_assoc (clash_line packages x) (lines xs) (end_text goals n)) ∙ e ∙ append_assoc (clash_line packages y) (lines ys) (end_text goals m)) in
      let first : x.first ≡ y.first = place_of_package packages accepted.single x.first y.first l.0 k.0 same.first_name same.first_version in
      let second : x.second ≡ y.second = place_of_package packages accepted.single x.second y.second l.1 k.1 same.second_name same.second_version in
      let one : x ≡ y = ap₂ (λ a b. record { first = a; second = b; unsettled = x.unsettled }) first second ∙ ap (λ u. record { first = y.first; second = y.second; unsettled = u }) same.unsettled in
      ap₂ (λ z zs. z ∷ zs) one (one_list xs ys goals n m (λ c i. f c (there i)) (λ c i. g c (there i)) same.behind)

  one_reason : (xs ys : Option (List Clash)) (goals : ℕ) → IfSome xs (AreClashesOf (length packages)) → IfSome ys (AreClashesOf (length packages)) →
      clashes_text packages xs ++ end_text goals (clash_count xs) ≡ clashes_text packages ys ++ end_text goals (clash_count ys) → xs ≡ ys
  one_reason None None goals f g e = refl
  one_reason None (Some []) goals f g e = let w : 99 ≡ 101 = ap (at_byte 0) e in absurd (omega (arith, w))
  one_reason None (Some (y ∷ ys)) goals f g e =
      absurd (not_open y.unsettled (stanza_at packages y.first) (stanza_at packages y.second) (lines ys ++ end_text goals (length (y ∷ ys))) ((10 ∷ []) ++ end_text goals 0)
      (sym (append_assoc (clash_line packages y) (lines ys) (end_text goals (length (y ∷ ys)))) ∙ sym e))
  one_reason (Some []) None goals f g e = let w : 101 ≡ 99 = ap (at_byte 0) e in absurd (omega (arith, w))
  one_reason (Some (x ∷ xs)) None goals f g e =
      absurd (not_open x.unsettled (stanza_at packages x.first) (stanza_at packages x.second) (lines xs ++ end_text goals (length (x ∷ xs))) ((10 ∷ []) ++ end_text goals 0)
      (sym (append_assoc (clash_line packages x) (lines xs) (end_text goals (length (x ∷ xs)))) ∙ e))
  one_reason (Some xs) (Some ys) goals f g e = ap Some (one_list xs ys goals (length xs) (length ys) f g e)

  -- behind the goals no other conflicts have the same text
  pub one_core : (goals : List Goal) (marks : List Mark) (xs ys : Option (List Clash)) → IfSome xs (AreClashesOf (length packages)) → IfSome ys (AreClashesOf (length packages)) →
      core_text packages goals marks xs ≡ core_text packages goals marks ys → xs ≡ ys
  unfolding core_text
  one_core goals marks xs ys f g e =
      let front : List ℕ = flat_map (goal_line goals) marks in
      let back : Option (List Clash) → List ℕ = λ zs. clashes_text packages zs ++ end_text (length marks) (clash_count zs) in
      one_reason xs ys (length marks) f g
      (append_cancel_left front (back xs) (back ys)
      (sym (append_assoc front (clashes_text packages xs) (end_text (length marks) (clash_count xs))) ∙ e ∙ append_assoc front (clashes_text packages ys) (end_text (length marks) (clash_count ys))))
