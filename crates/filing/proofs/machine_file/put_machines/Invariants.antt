use Rattle.std.proofs.Common.{length}
use Rattle.chart.specs.Putting.{Puts}
use Rattle.views.specs.Parties.{tables_in}
use Rattle.filing.proofs.Putting.{front}
use Rattle.filing.proofs.machine_file.put_machines.Given as goal

abbrev pub invariant-loop-party : goal.invariant-loop-party
invariant-loop-party l = Puts l.fn.output (front l.code l.count (tables_in l.parties) (length l.yielded)) l.output
