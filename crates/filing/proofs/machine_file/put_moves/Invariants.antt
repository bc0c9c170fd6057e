use Rattle.std.proofs.Common.{◌+◌, length, take}
use Rattle.chart.specs.Putting.{Puts}
use Rattle.views.specs.Parties.{nodes_in}
use Rattle.filing.specs.Filed.{move_of, each_view}
use Rattle.filing.proofs.machine_file.put_moves.Given as goal

abbrev pub invariant-loop-number : goal.invariant-loop-number
invariant-loop-number l = Puts l.fn.output (each_view move_of 0 (take (length l.yielded + 1) (nodes_in l.views))) l.output
