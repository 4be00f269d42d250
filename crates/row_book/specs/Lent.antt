-- Books that are lent with their pools.
use Rattle.row_book.specs.{Book.{repository_of}, Repository.{Repository}}
use Rattle.row_book.specs.declared.lent_book.LentBook.{LentBook}

-- the repository of a lent book
abbrev pub repository_in : LentBook → Repository
repository_in lent = repository_of lent.pool.now lent.book.now
