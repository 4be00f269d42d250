-- A base and a small book tell the rows of a mix, and whether one passes the limit.
use Rattle.std.proofs.{Common.{◌≡◌, ◌<◌, ◌≤◌, Bool, false, List, length, None, inl, inr, ◌∙◌, subst}, lemmas.Bool.{cases_Bool}}
use Rattle.row_book.specs.{Parts.{part}, declared.book.Book.{Book}, Book.{repository_of}, Flags.{flag}, Flattening.{passes, remaining_after, row_length}}
use Rattle.row_book.specs.Repository.{Repository}
use Rattle.row_book.proofs.{Placed.{HasPlace, at_place, count_in}, Parts.{part_count}, BookRepositories.{book_size}}
use Rattle.clause_pool.specs.Interned.{Interned}
use Rattle.clause_flatten.proofs.Passing.{passes_none}
use Rattle.suite_part.specs.{declared.base.Base.{Base}, Small.{IsFollowed, LimitBySmall, MixFollows, RowsBySmall, TellsOfMix}}
use Rattle.suite_part.proofs.{Smalls.{small_tells_lem}, Standing.{is_own, row_same, within_there}}

module _ (from : Interned) (book : Book) (base : Base) (flags changed needed apart : List Bool) (S : Repository) (f : IsFollowed from book base flags changed needed apart S) where
  abbrev W : Repository
  W = repository_of from book

  abbrev P : Repository
  P = part flags W

  told : TellsOfMix base.limit W flags needed apart S
  told = small_tells_lem base.limit W flags needed apart S f.apart_are f.small_is

  size : length flags ≡ length book.rows
  size = f.apart_are.size ∙ book_size from book

  count : length P.clauses ≡ count_in flags
  count = part_count W f.apart_are.whole flags f.apart_are.size

  none_here : passes base.limit false S ≡ None → passes base.limit false P ≡ None
  none_here none = passes_none P base.limit false (λ j m p l.
      let h : HasPlace flags p = at_place flags p (subst (λ z. p < z) count l) in
      subst (λ z. row_length P (remaining_after base.limit false P j).left z ≤ base.limit) h.is (elim (cases_Bool (flag changed h.number)) [
        | inl up ↦ told.within none h.number (f.needed_are h.number h.up up) j
        | inr down ↦ within_there from book base flags changed f.sound f.base_is size f.long f.changed_are h.number
            (is_own from book base flags changed f.sound f.base_is size f.long f.changed_are h.number h.up down) down j
      ]))

  follows : LimitBySmall base.limit P S × RowsBySmall from book base flags changed apart S
  follows = (
    record { there = told.passes_not; back = none_here },
    record {
      stays = λ x up down. row_same from book base flags changed f.sound f.base_is size f.long f.changed_are x up down;
      made = λ x up there. told.rows x (f.needed_are x up there);
    },
  )

pub mix_follows_lem : MixFollows
mix_follows_lem from book base flags changed needed apart S f = follows from book base flags changed needed apart S f
