use Rattle.std.proofs.Common.{arith}
use Rattle.chart.specs.Of.{lines_in}
use Rattle.chart.proofs.Kept.{size_bound}
use Rattle.chart.proofs.Put.{length_file}
use Rattle.chart.proofs.chart.Chart.file_length.Goals as goal

pub overflow_mul-result-2 : goal.overflow_mul-result-2
overflow_mul-result-2 c = let s = c.args.self.now in let b = size_bound (lines_in s) s.lined in let e = c.size.ensures in omega arith

pub overflow_add-result-2 : goal.overflow_add-result-2
overflow_add-result-2 c = let s = c.args.self.now in let b = size_bound (lines_in s) s.lined in let e = c.size.ensures in omega arith

pub returns : goal.returns
returns c = let e = length_file (lines_in c.args.self.now) in omega arith
