use Rattle.std.proofs.Common.{◌≡◌, ◌<◌, ℕ, List, Ok, true, length, sym, subst, ◌∙◌}
use Rattle.listed.specs.Lists.{In}
use Rattle.row_book.specs.Book.{repository_of}
use Rattle.kernel_text.specs.{KernelLines.{lines_of}, Reading.{Reading, empty_reading}, StoredReading.{is_complete, read_lines}}
use Rattle.kernel_text.proofs.{Allowed.{IsEnded, LinesGive, ends_told}, Bookable.{bookable, orderly}, ReadIsWritten.{written}, StoredReading.{lines_given}}
use Rattle.kernel_text.proofs.stored.read_kernel.Goals as goal

as_given : (bytes : List ℕ) (t : Reading) → read_lines empty_reading 1 (lines_of bytes) ≡ Ok t → LinesGive empty_reading (lines_of bytes) t
as_given bytes t e = lines_given (lines_of bytes) empty_reading t 1 e

as_ended : (t : Reading) → is_complete t ≡ true → IsEnded t
as_ended t e = (ends_told t.last t.classes (length t.members)).0 e

pub book_of-requires : goal.book_of-requires
book_of-requires c =
    let k = c.in_ok-reader.ensures.read in
    (k.reading, k.holds, bookable c.args.bytes.now k.reading (as_given c.args.bytes.now k.reading k.given) (as_ended k.reading k.ended) k.in_range)

pub invariant_of-result : goal.invariant_of-result
invariant_of-result c =
    let k = c.in_ok-reader.ensures.read in
    record {
      inside = λ m i.
          subst (λ n. m.class < n) (sym (c.in_ok-book.ensures.size ∙ k.holds.classes)) ((orderly c.args.bytes.now k.reading (as_given c.args.bytes.now k.reading k.given)).members m (subst (In m) k.holds.members i));
      registered = k.holds.known;
    }

pub returns-clause-read : goal.returns-clause-read
returns-clause-read c =
    let k = c.in_ok-reader.ensures.read in
    let bytes = c.args.bytes.now in
    let reader = c.in_ok-reader.reader in
    let w = written bytes reader.format (repository_of c.book_of.new.pool c.in_ok-book.book) reader.members reader.held (record {
      reading = k.reading;
      given = as_given bytes k.reading k.given;
      ended = as_ended k.reading k.ended;
      in_range = k.in_range;
      of_format = k.holds.of_format;
      repository = c.in_ok-book.ensures.repository k.reading k.holds;
      member_list = k.holds.members;
      held_list = k.holds.held;
    }) in
    record { writable = w.0; lines = w.1 }
