use Rattle.std.proofs.Common.{◌-◌, length}
use Rattle.chart.specs.Steps.{file_at, place_at}
use Rattle.chart.proofs.Reached.{Came}
use Rattle.chart.proofs.reader.Reader.read.Given as goal

abbrev pub invariant-loop : goal.invariant-loop
invariant-loop l = Came l.fn.self l.self

abbrev pub decreases-loop : goal.decreases-loop
decreases-loop l = length (file_at l.self) - place_at l.self
