use Rattle.book.proofs.Runs.{chains_keep_the_law}
use Rattle.book.proofs.Worked.{on_books}
use Rattle.book.proofs.Book.new.Goals as goal

pub returns-clause-worked : goal.returns-clause-worked
returns-clause-worked g c = on_books

pub returns-clause-law : goal.returns-clause-law
returns-clause-law g c = chains_keep_the_law
