use Rattle.std.proofs.Common.{refl, rules}
use Rattle.book.proofs.Tables.{written}
use Rattle.book.proofs.book.Book.place.Goals as goal

pub returns : goal.returns
returns g c = record {
  table = written c.args.self.now.charts c.args.slot c.args.chart (search rules);
  channel = refl;
  count = c.count.ensures;
}
