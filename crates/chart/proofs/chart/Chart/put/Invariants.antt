use Rattle.std.proofs.Common.{length, take}
use Rattle.files.specs.Bytes.{front_bytes}
use Rattle.chart.specs.Of.{lines_in}
use Rattle.chart.specs.Putting.{Puts}
use Rattle.chart.proofs.chart.Chart.put.Given as goal

abbrev pub invariant-loop-party : goal.invariant-loop-party
invariant-loop-party l = Puts l.fn.output (front_bytes (length (lines_in l.self)) (take l.party (lines_in l.self))) l.output
