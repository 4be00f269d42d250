-- What flattening gives: a tidy repository, with its rows in order.
use Rattle.std.proofs.Common.{◌≡◌, ℕ, Bool, ◌<◌, List, length, refl, sym, ◌∙◌, ap, subst}
use Rattle.listed.specs.Lists.{In}
use Rattle.clause_pool.specs.Lists.{InOrder}
use Rattle.row_book.specs.{Repository.{Repository, clauses_of}, Book.{AreConflicts}, Support.{MinimalBlock, row}}
use Rattle.row_book.specs.{Sound.{OfPackages, SoundRepository, TidyRepository}, Flattening.{core_of, flat}}
use Rattle.row_book.proofs.{Books.{in_listed}, Repositories.{between, each_list}}
use Rattle.listed.proofs.Orders.{ascending_same}
use Rattle.clause_flatten.proofs.{Flat.{kept_after}, Rows.{row_is}, Tables.{row_order, table_at, table_length}}

pub flat_size : (limit : ℕ) (hold : Bool) → (R : Repository) → length (flat limit hold R).clauses ≡ length R.clauses
unfolding flat
flat_size limit hold R = table_length R (core_of limit hold R)

pub flat_row : (limit : ℕ) (hold : Bool) → (R : Repository) (p : ℕ) → p < length R.clauses → clauses_of (flat limit hold R) p ≡ row R (core_of limit hold R) p
unfolding flat
flat_row limit hold R p l = table_at R (core_of limit hold R) p l

pub flat_conflicts : (limit : ℕ) (hold : Bool) → (R : Repository) → (flat limit hold R).conflicts ≡ R.conflicts
unfolding flat
flat_conflicts limit hold R = refl

pub core_bound : (limit : ℕ) (hold : Bool) → (R : Repository) → SoundRepository R → OfPackages R (core_of limit hold R)
core_bound limit hold R s = (kept_after limit hold R (between R s) (length R.clauses)).bound

pub flat_minimal : (limit : ℕ) (hold : Bool) → (R : Repository) → SoundRepository R → (p : ℕ) (c : List ℕ) → In c (clauses_of (flat limit hold R) p) → MinimalBlock R (core_of limit hold R) p c
flat_minimal limit hold R s p c i =
    let l : p < length R.clauses = subst (λ k. p < k) (flat_size limit hold R) (in_listed (flat limit hold R).clauses p c i) in
    (row_is R (core_of limit hold R) p (core_bound limit hold R s)).sound c (subst (λ r. In c r) (flat_row limit hold R p l) i)

pub flat_sound : (limit : ℕ) (hold : Bool) → (R : Repository) → SoundRepository R → SoundRepository (flat limit hold R)
flat_sound limit hold R s = record {
  clauses = λ p c i. (
    (flat_minimal limit hold R s p c i).ascending,
    λ n j. subst (λ z. n < z) (sym (flat_size limit hold R)) (core_bound limit hold R s n ((flat_minimal limit hold R s p c i).blocks.within n j)),
  );
  count = ap (λ t. length t) (flat_conflicts limit hold R) ∙ (s.count ∙ sym (flat_size limit hold R));
  conflicts = subst AreConflicts (sym (flat_conflicts limit hold R)) s.conflicts;
}

pub flat_tidy : (limit : ℕ) (hold : Bool) → (R : Repository) → SoundRepository R → TidyRepository (flat limit hold R)
flat_tidy limit hold R s = record {
  sound = flat_sound limit hold R s;
  apart = λ p c i j. (flat_minimal limit hold R s p c i).blocks.apart p j refl;
  minimal = λ p c d i j f.
      ascending_same c d (flat_minimal limit hold R s p c i).ascending (flat_minimal limit hold R s p d j).ascending f
      ((flat_minimal limit hold R s p d j).minimal c (flat_minimal limit hold R s p c i).blocks f);
}

pub flat_order : (limit : ℕ) (hold : Bool) → (R : Repository) (p : ℕ) → InOrder (clauses_of (flat limit hold R) p)
flat_order limit hold R = each_list InOrder (flat limit hold R).clauses tt (λ p l.
    subst InOrder (sym (flat_row limit hold R p (subst (λ k. p < k) (flat_size limit hold R) l))) (row_order R (core_of limit hold R) p))
