use Rattle.std.proofs.Common.{◌≡◌, List, ℕ, None, Some, ap, subst, sym}
use Rattle.std.specs.Option.{option_copied}
use Rattle.package_register.specs.{Hashed.{hash_of, Puts}, Registers.{package_key, IsFound}}
use Rattle.package_register.proofs.Registered.{found_bare, found_few, found_many, grows_named, grows_versions}
use Rattle.package_register.proofs.register.Register.put.Goals as goal

pub returns-then-not-many : goal.returns-then-not-many
returns-then-not-many c =
    let old = c.args.self.now in
    let new = c.put_name.new.self in
    let name : List ℕ = c.args.name.now in
    record {
      found = found_few old new name c.args.number c.in_ok-many.ensures.puts (option_copied c.args.version) (c.in_ok-many.ensures.few c.if-not-many.true);
      grows = grows_named old new name c.args.number c.in_ok-many.ensures.puts c.put_name.ensures.versions;
    }

pub returns-in_default : goal.returns-in_default
returns-in_default c =
    let old = c.args.self.now in
    let new = c.put_name.new.self in
    let name : List ℕ = c.args.name.now in
    let none : option_copied c.args.version ≡ None = ap option_copied c.in_default.is in
    record {
      found = found_bare old new name c.args.number c.in_ok-many.ensures.puts (option_copied c.args.version) none;
      grows = grows_named old new name c.args.number c.in_ok-many.ensures.puts c.put_name.ensures.versions;
    }

pub returns : goal.returns
returns c =
    let old = c.args.self.now in
    let new = c.put_version.new.self in
    let name : List ℕ = c.args.name.now in
    let own : List ℕ = c.in-Some.version.now in
    let puts : Puts old.names new.names (hash_of name) c.args.number = subst (λ table. Puts old.names table (hash_of name) c.args.number) (sym c.put_version.ensures.names) c.in_ok-many.ensures.puts in
    let more : Puts old.versions new.versions (hash_of (package_key name own)) c.args.number = subst (λ table. Puts table new.versions (hash_of (package_key name own)) c.args.number) c.put_name.ensures.versions c.in_ok-put_version.ensures.puts in
    let given : option_copied c.args.version ≡ Some own = ap option_copied c.in-Some.is in
    record {
      found = subst (λ version. IsFound new name version c.args.number) (sym given) (found_many old new name c.args.number puts own c.put_version.ensures.version more);
      grows = grows_versions old new name c.args.number puts (hash_of (package_key name own)) more;
    }
