-- A table of names, package after package.
use Rattle.std.proofs.Common.{◌≡◌, ℕ, zero, suc, List, [], ◌∷◌, ◌++◌, length, take, Some, inl, inr, sym, subst, ◌∙◌}
use Rattle.std.specs.Prelude.{slice_get}
use Rattle.listed.specs.Lists.{In}
use Rattle.listed.proofs.Lists.{In_append_cases, In_cases, In_none}
use Rattle.relation_fields.specs.{declared.packages.PackageFacts.{PackageFacts}, declared.relations.Provide.{Provide}}
use Rattle.package_register.specs.{Registers.{Grows, IsFound}, declared.register.Register.{Register}}
use Rattle.package_register.proofs.Registered.{found_later, got_more, none_registered, one_registered}
use Rattle.virtual_provides.specs.{Bearers.{own_name, own_version, IsBuiltFrom}, declared.names.NameTable.{NameTable}}

-- no packages
pub none_built : (table : NameTable) → IsBuiltFrom [] table
none_built table = record {
  own = none_registered own_name own_version table.register;
  provided = λ n facts e provide inside. absurd (let f : ⊥ = cc in f);
}

-- one more package, of which the name and each provide is found
pub one_built : (packages : List PackageFacts) (facts : PackageFacts) (number : ℕ) (old new : NameTable) → IsBuiltFrom packages old → number ≡ length packages → Grows old.register new.register
    → IsFound new.register facts.name (Some facts.version) number → ((provide : Provide) → In provide facts.provides → IsFound new.register provide.name provide.version number)
    → IsBuiltFrom (packages ++ facts ∷ []) new
one_built packages facts number old new of count grows found all = record {
  own = one_registered own_name own_version packages facts number old.register new.register of.own count grows found;
  provided = λ n other e provide inside.
      elim (got_more packages facts other n e) [
        | inl before ↦ found_later old.register new.register provide.name provide.version n grows (of.provided n other before provide inside)
        | inr w ↦
            subst (λ k. IsFound new.register provide.name provide.version k) (count ∙ sym w.0)
            (all provide (subst (λ (f : PackageFacts). In provide f.provides) w.1 inside))
      ];
}

-- the name and so many provides of a package are found
pub record PutSo (old new : Register) (facts : PackageFacts) (number : ℕ) (provides : List Provide) : Type 0 where
  pub grows : Grows old new
  pub own : IsFound new facts.name (Some facts.version) number
  pub each : (provide : Provide) → In provide provides → IsFound new provide.name provide.version number

grows_twice : (old between new : Register) → Grows old between → Grows between new → Grows old new
grows_twice old between new first second = record {
  named = λ name n h. second.named name n (first.named name n h);
  exact = λ name version n h. second.exact name version n (first.exact name version n h);
}

-- the name alone
pub put_own : (old new : Register) (facts : PackageFacts) (number : ℕ) → Grows old new → IsFound new facts.name (Some facts.version) number → PutSo old new facts number []
put_own old new facts number grows found = record { grows = grows; own = found; each = λ provide inside. absurd (In_none inside) }

-- one provide more
pub put_provide : (old between new : Register) (facts : PackageFacts) (number : ℕ) (provides : List Provide) (provide : Provide) → PutSo old between facts number provides
    → Grows between new → IsFound new provide.name provide.version number → PutSo old new facts number (provides ++ provide ∷ [])
put_provide old between new facts number provides provide so grows found = record {
  grows = grows_twice old between new so.grows grows;
  own = found_later between new facts.name (Some facts.version) number grows so.own;
  each = λ other inside.
      elim (In_append_cases provides (provide ∷ []) other inside) [
        | inl before ↦ found_later between new other.name other.version number grows (so.each other before)
        | inr last ↦ elim (In_cases last) [
          | inl same ↦ subst (λ (p : Provide). IsFound new p.name p.version number) (sym same) found
          | inr none ↦ absurd (In_none none)
        ]
      ];
}

got_whole : {X : Type 0} (items : List X) (count n : ℕ) (x : X) → slice_get (take count items) n ≡ Some x → slice_get items n ≡ Some x
got_whole [] zero n x e = e
got_whole [] (suc count) n x e = e
got_whole (y ∷ items) zero n x e = absurd (let f : ⊥ = cc in f)
got_whole (y ∷ items) (suc count) zero x e = e
got_whole (y ∷ items) (suc count) (suc n) x e = got_whole items count n x e

-- the table of all packages is one of the first of them
pub front_built : (count : ℕ) (packages : List PackageFacts) (table : NameTable) → IsBuiltFrom packages table → IsBuiltFrom (take count packages) table
front_built count packages table of = record {
  own = record { found = λ n facts e. of.own.found n facts (got_whole packages count n facts e) };
  provided = λ n facts e provide inside. of.provided n facts (got_whole packages count n facts e) provide inside;
}
