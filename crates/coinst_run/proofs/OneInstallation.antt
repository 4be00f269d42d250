-- No two lists of packages of an index have one text.
use Rattle.std.proofs.Common.{◌≡◌, ℕ, ◌<◌, true, List, [], ◌∷◌, ◌++◌, length, refl, sym, ap₂, subst, ◌∙◌, inl, inr, append_assoc}
use Rattle.std.proofs.{lemmas.Bool.{and_parts, false≢true}, lemmas.List.{append_cancel_left}}
use Rattle.std.specs.{Prelude.{codes}, List.{flat_map, list_all}}
use Rattle.deb_version.specs.Grammar.{is_upstream_byte}
use Rattle.relation_fields.proofs.Bytes.{version_bytes}
use Rattle.relation_fields.specs.declared.packages.PackageFacts.{PackageFacts}
use Rattle.repo_model.specs.Stanzas.{no_stanza, stanza_at}
use Rattle.repo_model.proofs.{Accepted.{Accepted}, Elements.{at_place}}
use Rattle.listed.specs.Lists.{In, here, there}
use Rattle.kernel_text.proofs.{Spelling.{Plain, cut_same, name_plain}, Candidates.{version_plain}}
use Rattle.coinst_run.specs.{Lines.{line_of_text}, QueryText.{install_line, yes_text}}
use Rattle.claims.proofs.Members.{place_of_package}

pub record IsPlainPackage (s : PackageFacts) : Type 0 where
  pub name : Plain s.name
  pub version : Plain s.version

-- the pieces of a line, and what stands behind it
pieces : (a b c d e behind : List ℕ) → a ++ b ++ c ++ d ++ e ++ behind ≡ a ++ (b ++ (c ++ (d ++ (e ++ behind))))
pieces a b c d e behind =
    append_assoc (a ++ b ++ c ++ d) e behind ∙ append_assoc (a ++ b ++ c) d (e ++ behind) ∙ append_assoc (a ++ b) c (d ++ (e ++ behind)) ∙ append_assoc a b (c ++ (d ++ (e ++ behind)))

record IsSameLine (s t : PackageFacts) (R S : List ℕ) : Type 0 where
  name : s.name ≡ t.name
  version : s.version ≡ t.version
  behind : R ≡ S

same_line : (s t : PackageFacts) (R S : List ℕ) → IsPlainPackage s → IsPlainPackage t → install_line s ++ R ≡ install_line t ++ S → IsSameLine s t R S
same_line s t R S p q e =
    let A : List ℕ = codes "install " in
    let B : List ℕ = codes " " in
    let F : List ℕ = 10 ∷ [] in
    let from_name : s.name ++ (B ++ (s.version ++ (F ++ R))) ≡ t.name ++ (B ++ (t.version ++ (F ++ S))) =
    append_cancel_left A (s.name ++ (B ++ (s.version ++ (F ++ R)))) (t.name ++ (B ++ (t.version ++ (F ++ S)))) (sym (pieces A s.name B s.version F R) ∙ e ∙ pieces A t.name B t.version F S) in
    let names = cut_same s.name t.name (B ++ (s.version ++ (F ++ R))) (B ++ (t.version ++ (F ++ S))) p.name q.name (inl refl) (inl refl) from_name in
    let versions = cut_same s.version t.version (F ++ R) (F ++ S) p.version q.version (inr refl) (inr refl) (append_cancel_left B (s.version ++ (F ++ R)) (t.version ++ (F ++ S)) names.1) in
    record { name = names.0; version = versions.0; behind = append_cancel_left F R S versions.1 }

module _ (packages : List PackageFacts) (accepted : Accepted packages) where
  pub plain_at : (n : ℕ) → n < length packages → IsPlainPackage (stanza_at packages n)
  plain_at n l =
      let w = accepted.named (stanza_at packages n) (at_place packages n no_stanza l) in
      record { name = name_plain (stanza_at packages n).name w.name; version = version_plain (stanza_at packages n).version (version_bytes (stanza_at packages n).version w.version) }

  one_list : (xs ys : List ℕ) → ((n : ℕ) → In n xs → n < length packages) → ((n : ℕ) → In n ys → n < length packages) →
      flat_map (λ n. install_line (stanza_at packages n)) xs ≡ flat_map (λ n. install_line (stanza_at packages n)) ys → xs ≡ ys
  one_list [] [] f g e = refl
  one_list [] (y ∷ ys) f g e = absurd (cc e)
  one_list (x ∷ xs) [] f g e = absurd (cc e)
  one_list (x ∷ xs) (y ∷ ys) f g e =
      let l = f x here in
      let m = g y here in
      let same = same_line (stanza_at packages x) (stanza_at packages y) (flat_map (λ n. install_line (stanza_at packages n)) xs) (flat_map (λ n. install_line (stanza_at packages n)) ys) (plain_at x l) (plain_at y m) e in
      ap₂ (λ z zs. z ∷ zs) (place_of_package packages accepted.single x y l m same.name same.version) (one_list xs ys (λ n i. f n (there i)) (λ n i. g n (there i)) same.behind)

  pub one_installation : (xs ys : List ℕ) → ((n : ℕ) → In n xs → n < length packages) → ((n : ℕ) → In n ys → n < length packages) → yes_text packages xs ≡ yes_text packages ys → xs ≡ ys
  unfolding yes_text
  one_installation xs ys f g e =
      one_list xs ys f g (append_cancel_left (line_of_text (codes "yes")) (flat_map (λ n. install_line (stanza_at packages n)) xs) (flat_map (λ n. install_line (stanza_at packages n)) ys) e)
