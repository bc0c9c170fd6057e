use Rattle.book.proofs.Laws.{law}
use Rattle.book.proofs.book.Book.law_of_histories.Goals as goal

pub returns : goal.returns
returns g c = λ G h P. law G h P.right
