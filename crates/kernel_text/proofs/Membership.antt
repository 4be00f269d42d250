-- Members that are read, and which lines may stand behind them.
use Rattle.std.proofs.Common.{◌≡◌, ℕ, ◌+◌, true, false, List, [], ◌∷◌, length, Option, Some, None, refl, sym, ap, subst, ◌∙◌}
use Rattle.std.proofs.lemmas.Bool.{false≢true, false_from_ne_true}
use Rattle.std.specs.{Prelude.{◌&&◌, ◌==◌, slice_get}, Option.{option_map_or}, Str.{bytes_eq}}
use Rattle.listed.specs.Lists.{In, here}
use Rattle.listed.proofs.Lists.{In_none, none_listed}
use Rattle.package_register.specs.{Numbers.{numbers_where, passes_at}, Registers.{is_version_of}}
use Rattle.package_register.proofs.Numbered.{numbered_pass, passing_numbered}
use Rattle.repo_model.proofs.Indexed.{either_way}
use Rattle.kernel_text.specs.{declared.member.Member.{Member}, KernelLines.{MemberLine, NeedsLine}, Reader.{IsNew}, Reading.{is_same_member}}
use Rattle.kernel_text.proofs.GoalImages.{got_in, in_got}

pub other_line : (name version clause : List ℕ) → Some (MemberLine name version) ≡ Some (NeedsLine clause) → ⊥
other_line name version clause e = let f : ⊥ = cc in f

-- a register finds what is the same package
same_tests : (m o : Member) → is_version_of (λ x. x.name) (λ x. x.version) m.name m.version o ≡ is_same_member m o
same_tests m o = ap (λ b. bytes_eq m.name o.name && b) (either_way o.version m.version)

-- a member is new where the register finds none that is the same
pub new_member : (members : List Member) (m : Member) (same : List ℕ) → same ≡ numbers_where (is_version_of (λ x. x.name) (λ x. x.version) m.name m.version) members
    → (length same == 0) ≡ true → IsNew m members
new_member members m same are none o inside =
    let test = is_version_of (λ (x : Member). x.name) (λ x. x.version) m.name m.version in
    false_from_ne_true (is_same_member m o) (λ h.
    let at : (i : ℕ) × (slice_get members i ≡ Some o) = in_got members o inside in
    let passes : passes_at test members at.0 ≡ true = ap (λ found. option_map_or test found false) at.1 ∙ same_tests m o ∙ h in
    In_none (subst (λ ns. In (0 + at.0) ns) (sym are ∙ none_listed same none) (passing_numbered test 0 members at.0 passes)))

old_at : (members : List Member) (m : Member) (i : ℕ) → IsNew m members → (found : Option Member) → slice_get members i ≡ found
    → option_map_or (is_version_of (λ x. x.name) (λ x. x.version) m.name m.version) found false ≡ true → ⊥
old_at members m i new None e h = false≢true h
old_at members m i new (Some o) e h = false≢true (sym (new o (got_in members i o e)) ∙ sym (same_tests m o) ∙ h)

pub old_member : (members : List Member) (m : Member) (same : List ℕ) → same ≡ numbers_where (is_version_of (λ x. x.name) (λ x. x.version) m.name m.version) members
    → (length same == 0) ≡ false → IsNew m members → ⊥
old_member members m [] are some new = false≢true (sym some)
old_member members m (k ∷ same) are some new =
    let test = is_version_of (λ (x : Member). x.name) (λ x. x.version) m.name m.version in
    let p : (i : ℕ) × (k ≡ 0 + i) × (passes_at test members i ≡ true) = numbered_pass test 0 members k (subst (λ ns. In k ns) are here) in
    old_at members m p.0 new (slice_get members p.0) refl p.2
