-- The kernel of some packages of all that mixes have, and the line that is told by it.
use Rattle.std.proofs.Common.{◌≡◌, ℕ, ◌<◌, Bool, true, false, List, [], map, filter, length, slice_index_or, Option, Some, None, refl, sym, ap, ap₂, subst, ◌∙◌}
use Rattle.std.proofs.{Common.{zero-add}, lemmas.List.{get_or-map, length-map}, lemmas.Option.{none-some, same_Some}, lemmas.Simd.{map-map}}
use Rattle.std.specs.{Prelude.{◌↔◌}, Global.{Vec}, List.{items_where_true}, Option.{ForSome, option_map}}
use Rattle.class_merge.specs.{Classes.{class_in}, Masks.{masked_repository}, declared.masked.MaskedRows.{MaskedRows}}
use Rattle.listed.specs.Lists.{In}
use Rattle.listed.proofs.Lists.{filter_cases, In_map_cases, map_alike}
use Rattle.clause_pool.specs.Interned.{row_at, Interned}
use Rattle.kernel_rounds.{specs.Extracting.{IsExtracted}, specs.Known.{AreKnownRounds, IsClassifiedPart, IsFlatPart}, specs.declared.extraction.Kernel.{Kernel}, specs.declared.known.Classified.{Classified}, specs.Laws.{HoldUnused}, proofs.Again.{first_within}, proofs.Unheld.{hold_is_unused_lem}}
use Rattle.relation_fields.{specs.declared.packages.Home.{Home}, specs.declared.packages.PackageFacts.{PackageFacts}}
use Rattle.repo_model.{specs.Goals.{any_version, packages_named}, specs.Repository.{suite_repository}, specs.declared.goals.Goal.{Goal}, proofs.Packages.{length_clauses}}
use Rattle.row_book.{specs.Book.{listed_for, repository_of}, specs.Flags.{flag}, specs.Flattening.{flat, packages, passes}, specs.Numbers.{numbers}, specs.Parts.{number_in, part, place_in}, specs.Repository.{Repository}}
use Rattle.row_book.{specs.Rounds.{PassedRound, kernel, kernel_class, limit_at}, specs.Sound.{SoundRepository}, specs.declared.book.Book.{Book}, specs.declared.lent_book.LentBook.{LentBook}}
use Rattle.row_book.proofs.{BookRepositories.{sound_repository}, Flags.{flag_in}, Numbers.{at_numbers, length_numbers}, PartSound.{part_sound}}
use Rattle.row_book.proofs.{Parts.{part_count}, Placed.{place_below}}
use Rattle.suite_compare.{specs.Bearers.{bearer_classes, bearers_of, AreClasses}, specs.Groups.{AreEach}, specs.Lent.{IsLentKernel}, specs.Views.{IsBookOf}, proofs.Bearing.{images_are}, proofs.Gathering.{named_inside}}
use Rattle.suite_part.{specs.Mixes.{AreMixRows}, specs.declared.base.Base.{Base}, proofs.LawRows.{names_part, repository_part}}
use Rattle.migrate_plan.specs.BothSuites.{book_made, classes_made, packages_of_both, pool_made, CanFollow, HasMixRows, IsKernelAt, IsMadeKernel, AreBothSuites}
use Rattle.migrate_plan.specs.{BothSuites.{KnowsRounds}, declared.kernels.MadeKernel.{MadeKernel}, declared.both_suites.BothSuites.{BothSuites}}
use Rattle.migrate_plan.specs.declared.kernels.MadeKernel.TheVariants.{Beside, Own}

some_passed : (o : Option PassedRound) → (o ≡ None → ⊥) → (passed : PassedRound) × (o ≡ Some passed)
some_passed None f = absurd (f refl)
some_passed (Some passed) f = (passed, refl)

-- the kernel of a mix
module _ (limit : ℕ) (hold : Bool) (W : Repository) (sound : SoundRepository W) (flags : List Bool) (size : length flags ≡ length W.clauses) where
  abbrev M : Repository
  M = part flags W

  abbrev table : List ℕ
  table = map (kernel_class limit hold M) (packages M)

  -- the class of a package of the mix by a table of all classes
  pub class_there : (p : ℕ) → flag flags p ≡ true → number_in table (place_in flags p) ≡ kernel_class limit hold M (place_in flags p)
  class_there p up =
      at_numbers (kernel_class limit hold M) 0 (length M.clauses) 0 (place_in flags p) (subst (λ z. place_in flags p < z) (sym (part_count W sound flags size)) (place_below flags p up))
      ∙ ap (kernel_class limit hold M) (zero-add (place_in flags p))

  -- one that was extracted from the book of the mix
  pub own_made : (start pool : Interned) (made : Kernel) (R : Repository) (class_of : Vec ℕ) (chosen : List Bool) → R ≡ M → chosen ≡ flags → IsExtracted R limit hold start pool made.book made.class_of made.held made.trail.steps
      → class_of.items ≡ map (λ n. number_in made.class_of (place_in chosen n)) (numbers (length chosen) 0) → IsMadeKernel limit hold W flags (Own pool made class_of)
  own_made start pool made R class_of chosen same up given spread =
      let all : class_of.items ≡ map (λ n. number_in table (place_in flags n)) (numbers (length flags) 0) =
      spread ∙ ap₂ (λ classes fs. map (λ n. number_in classes (place_in fs n)) (numbers (length fs) 0)) (given.class_of ∙ ap (λ S. map (kernel_class limit hold S) (packages S)) same) up in
      record {
        within = ap (limit_at limit hold) (sym same) ∙ given.within;
        book_is = record { repository = given.is ∙ ap (kernel limit hold) same; sound = given.sound };
        size = ap length all ∙ length_numbers (λ n. number_in table (place_in flags n)) (length flags) 0;
        class_of = λ p u. ap (λ z. class_in z p) all ∙ at_numbers (λ n. number_in table (place_in flags n)) 0 (length flags) 0 p (flag_in flags p u)
            ∙ ap (λ n. number_in table (place_in flags n)) (zero-add p) ∙ class_there p u;
      }

  -- the classes of those that bear names among the packages of the mix
  pub mix_images : (home : Home) (all : List PackageFacts) → W ≡ suite_repository home all → length flags ≡ length all → (class_of : List ℕ) → ((p : ℕ) → flag flags p ≡ true → class_in class_of p ≡ kernel_class limit hold M (place_in flags p))
      → (names named images : List (List ℕ)) → named ≡ bearers_of all names → AreEach (λ i image. AreClasses class_of (filter (flag flags) (listed_for named i)) image) [] (length named) images
      → images ≡ bearer_classes limit hold home (items_where_true flags all) names
  mix_images home all is fits class_of told names named images borne each =
      let mix : List PackageFacts = items_where_true flags all in
      let same : M ≡ suite_repository home mix = ap (part flags) is ∙ sym (repository_part home all flags fits) in
      let long : length named ≡ length names = ap length borne ∙ length-map names (λ name. packages_named all (any_version name)) in
      images_are limit hold home mix table (ap (λ S. map (kernel_class limit hold S) (packages S)) same) names images (record {
        long = each.long ∙ long;
        each = λ i l.
            let goal : Goal = any_version (listed_for names i) in
            let chosen : List ℕ = filter (flag flags) (packages_named all goal) in
            let so : AreClasses class_of chosen (listed_for images i) =
            subst (λ z. AreClasses class_of (filter (flag flags) z) (listed_for images i)) (ap (λ z. listed_for z i) borne ∙ get_or-map (λ name. packages_named all (any_version name)) names i [] [] l) (each.each i (subst (λ z. i < z) (sym long) l)) in
            let moved : map (λ n. slice_index_or class_of n 0) chosen ≡ map (λ n. slice_index_or table n 0) (packages_named mix goal) =
            map_alike (λ n. slice_index_or class_of n 0) (λ n. number_in table (place_in flags n)) chosen
            (λ n j. let u : flag flags n ≡ true = (filter_cases (flag flags) (packages_named all goal) n j).1 in told n u ∙ sym (class_there n u))
            ∙ sym (map-map (number_in table) (place_in flags) chosen) ∙ ap (map (number_in table)) (sym (names_part all flags fits goal)) in
            record { ascending = so.ascending; same = λ k. subst (λ z. In k (listed_for images i) ↔ In k z) moved (so.same k) };
      })

-- one that was made of the rows of the mix, or none
pub beside_made : (limit : ℕ) (W : Repository) (flags : List Bool) (made : Option Classified) (rows : Vec ℕ) → ForSome made (IsClassifiedPart limit (part flags W) flags) → ForSome made (λ classified. AreKnownRounds classified.rounds)
    → (made ≡ None → limit_at limit false (part flags W) ≡ None → ⊥) → IsKernelAt limit false W flags (option_map (λ classified. Beside classified rows) made)
beside_made limit W flags None rows given known none = some_passed (limit_at limit false (part flags W)) (none refl)
beside_made limit W flags (Some classified) rows given known none =
    let is : IsClassifiedPart limit (part flags W) flags classified = given classified refl in
    record { within = is.within; book_is = record { repository = is.is; sound = (known classified refl).sound }; size = is.size; class_of = is.class_of }

pub beside_known : (made : Option Classified) (rows : Vec ℕ) → ForSome made (λ classified. AreKnownRounds classified.rounds) → ForSome (option_map (λ classified. Beside classified rows) made) KnowsRounds
beside_known None rows known kernel e = absurd (none-some kernel e)
beside_known (Some classified) rows known kernel e = subst KnowsRounds (same_Some (Beside classified rows) kernel e) (known classified refl)

pub beside_rows : (both : BothSuites) (base : Base) (flags : List Bool) (made : Option Classified) (rows : Vec ℕ) → AreMixRows both.pool both.book base flags rows.items → ForSome (option_map (λ classified. Beside classified rows) made) (HasMixRows both (Some base) flags)
beside_rows both base flags None rows are kernel e = absurd (none-some kernel e)
beside_rows both base flags (Some classified) rows are kernel e =
    subst (HasMixRows both (Some base) flags) (same_Some (Beside classified rows) kernel e) (λ before is. subst (λ b. AreMixRows both.pool both.book b flags rows.items) (same_Some base before is) are)

-- the rows of a mix, as the rounds ask for them
pub flat_part : (limit : ℕ) (W : Repository) (flags : List Bool) (base : Base) (given : MaskedRows) → SoundRepository W → length flags ≡ length W.clauses → base.limit ≡ limit → passes base.limit false (part flags W) ≡ None
    → given.flags.now ≡ flags → part flags (masked_repository given) ≡ flat base.limit false (part flags W) → IsFlatPart limit (part flags W) given
flat_part limit W flags base given sound size same within flags_are is = record {
  sound = part_sound W flags sound size;
  within = ap (λ l. passes l false (part flags W)) (sym same) ∙ within;
  is = ap (λ z. part z (masked_repository given)) flags_are ∙ is ∙ ap (λ l. flat l false (part flags W)) same;
}

-- a mix that passes the limit in its first round
pub over_made : (limit : ℕ) (W : Repository) (flags : List Bool) (base : Base) → base.limit ≡ limit → (passes base.limit false (part flags W) ≡ None → ⊥) → IsKernelAt limit false W flags None
over_made limit W flags base same over = some_passed (limit_at limit false (part flags W)) (λ none. over (ap (λ l. passes l false (part flags W)) same ∙ first_within limit false (part flags W) none))

-- a kernel that was made without hold, where no round passes the limit, is also that with hold
pub held_made : (limit : ℕ) (hold : Bool) (W : Repository) (flags : List Bool) (made : MadeKernel) → SoundRepository (part flags W) → IsMadeKernel limit false W flags made → IsMadeKernel limit hold W flags made
held_made limit false W flags made sound is = is
held_made limit true W flags made sound is =
    let unused : HoldUnused limit (part flags W) = hold_is_unused_lem limit (part flags W) sound is.within in
    record {
      within = unused.within;
      book_is = subst (λ K. IsBookOf (pool_made made) (book_made made) K) (sym unused.same) is.book_is;
      size = is.size;
      class_of = λ p up. is.class_of p up ∙ sym (unused.classes (place_in flags p));
    }

-- the rows of a mix are rows over the base
pub can_follow : (both : BothSuites) (base : Option Base) (flags : List Bool) (made : MadeKernel) → HasMixRows both base flags made → CanFollow base flags made
can_follow both base flags (Own pool kernel class_of) has = tt
can_follow both base flags (Beside classified rows) has = λ before is. (has before is).base_rows

-- a book of packages has as many rows
pub book_long : (pool : Interned) (book : Book) (home : Home) (packages : List PackageFacts) → IsBookOf pool book (suite_repository home packages) → length book.rows ≡ length packages
book_long pool book home packages is = sym (length-map book.rows (row_at pool)) ∙ ap (λ R. length R.clauses) is.repository ∙ length_clauses home packages

-- a book of equal packages with the same home
pub book_alike : (pool : Interned) (book : Book) (home other : Home) (packages others : List PackageFacts) → home ≡ other → packages ≡ others → IsBookOf pool book (suite_repository home packages) → IsBookOf pool book (suite_repository other others)
book_alike pool book home other packages others same are is = subst (λ ps. IsBookOf pool book (suite_repository other ps)) are (subst (λ h. IsBookOf pool book (suite_repository h packages)) same is)

-- a mix of the packages of both suites
module _ (both : BothSuites) (is : AreBothSuites both) (flags : List Bool) (fits : length flags ≡ length (packages_of_both both)) where
  abbrev all : List PackageFacts
  all = packages_of_both both

  abbrev mix : List PackageFacts
  mix = items_where_true flags all

  abbrev W : Repository
  W = repository_of both.pool both.book

  -- the part of the packages of both is the repository of the mix
  pub mix_is : part flags W ≡ suite_repository both.home mix
  mix_is = ap (part flags) is.book_is.repository ∙ sym (repository_part both.home all flags fits)

  -- it passes a limit as its part does
  pub mix_over : (limit : ℕ) (hold : Bool) (passed : PassedRound) → limit_at limit hold (part flags W) ≡ Some passed → limit_at limit hold (suite_repository both.home mix) ≡ Some passed
  mix_over limit hold passed there = ap (limit_at limit hold) (sym mix_is) ∙ there

  -- its kernel as a comparison asks it, and the classes of the packages that bear each old name
  module _ (limit : ℕ) (hold : Bool) (made : MadeKernel) (given : IsMadeKernel limit hold W flags made) where
    abbrev names : List (List ℕ)
    names = both.old.now.names

    pub mix_within : limit_at limit hold (suite_repository both.home mix) ≡ None
    mix_within = ap (limit_at limit hold) (sym mix_is) ∙ given.within

    pub lent_is : (lent : LentBook) → lent.pool.now ≡ pool_made made → lent.book.now ≡ book_made made → IsLentKernel lent limit hold (suite_repository both.home mix)
    lent_is lent pool book = ap₂ repository_of pool book ∙ given.book_is.repository ∙ ap (kernel limit hold) mix_is

    pub bearers_within : (named : List (List ℕ)) → named ≡ both.named.items → (list : List ℕ) → In list named → (n : ℕ) → In n list → n < length flags
    bearers_within named e list i n j =
        let w = In_map_cases (λ name. packages_named all (any_version name)) names list (subst (λ lists. In list lists) (e ∙ is.named_are) i) in
        subst (λ size. n < size) (sym fits) (named_inside all (any_version w.0) n (subst (λ z. In n z) w.2 j))

    pub images_made : (class_of : List ℕ) (named images : List (List ℕ)) → class_of ≡ classes_made made → named ≡ both.named.items
        → AreEach (λ i image. AreClasses class_of (filter (flag flags) (listed_for named i)) image) [] (length named) images → images ≡ bearer_classes limit hold both.home mix names
    images_made class_of named images e f each =
        mix_images limit hold W (sound_repository both.pool both.book is.book_is.sound.rows.is_pool is.book_is.sound) flags (fits ∙ sym (length_clauses both.home all) ∙ ap (λ R. length R.clauses) (sym is.book_is.repository))
        both.home all is.book_is.repository fits class_of (λ p up. ap (λ z. class_in z p) e ∙ given.class_of p up) names named images (f ∙ is.named_are) each
