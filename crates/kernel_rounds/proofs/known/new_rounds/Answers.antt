use Rattle.std.proofs.{Common.{◌≡◌, ◌∙◌, ap, false, map, refl, subst, sym}, lemmas.Option.{same_Some}}
use Rattle.row_book.specs.{Book.{repository_of, Sound}, Flattening.{packages}, Rounds.{kernel, kernel_class, limit_at}}
use Rattle.row_book.proofs.Books.{repository_kept, sound_kept}
use Rattle.kernel_rounds.specs.Known.{AreKnownRounds, AreRoundsOf}
use Rattle.kernel_rounds.proofs.known.new_rounds.Goals as goal

pub returns-in-Ok-clause-known : goal.returns-in-Ok-clause-known
returns-in-Ok-clause-known c = λ rounds is.
    let first = c.in_ok-first.first in
    let sound : Sound c.keep_live.new.pool first = c.in_ok-first.ensures.book.sound c.requires.sound in
    let same : repository_of c.extract.new.pool first ≡ repository_of c.keep_live.new.pool first =
    repository_kept c.keep_live.new.pool c.extract.new.pool sound.rows.is_pool c.extract.ensures.kept first sound in
    let made = c.in-Ok.ensures.kernel in
    subst AreKnownRounds (same_Some _ rounds is) (record {
      first = sound_kept c.keep_live.new.pool c.extract.new.pool sound.rows.is_pool c.extract.ensures.kept first sound;
      sound = made.sound;
      is = made.is ∙ ap (kernel c.args.limit false) (sym same);
      class_of = made.class_of ∙ ap (λ R. map (kernel_class c.args.limit false R) (packages R)) (sym same);
      within = ap (limit_at c.args.limit false) same ∙ made.within;
    })

pub returns-in-Ok-clause-of_first : goal.returns-in-Ok-clause-of_first
returns-in-Ok-clause-of_first c = λ rounds is.
    let first = c.in_ok-first.first in
    let sound : Sound c.keep_live.new.pool first = c.in_ok-first.ensures.book.sound c.requires.sound in
    subst (λ made. AreRoundsOf made c.args.limit (repository_of c.args.pool c.args.first)) (same_Some _ rounds is) (record {
      limit_is = refl;
      is =
          repository_kept c.keep_live.new.pool c.extract.new.pool sound.rows.is_pool c.extract.ensures.kept first sound
          ∙ c.in_ok-first.ensures.book.repository;
    })
