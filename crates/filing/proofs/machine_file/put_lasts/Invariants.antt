use Rattle.std.proofs.Common.{take}
use Rattle.chart.specs.Putting.{Puts}
use Rattle.views.specs.Parties.{nodes_in}
use Rattle.filing.specs.Filed.{last_of, each_view}
use Rattle.filing.proofs.machine_file.put_lasts.Given as goal

abbrev pub invariant-loop-number : goal.invariant-loop-number
invariant-loop-number l = Puts l.fn.output (each_view last_of 0 (take l.number (nodes_in l.views))) l.output
