use Rattle.std.proofs.Common.{◌∷◌, take}
use Rattle.chart.specs.Putting.{Puts}
use Rattle.search.specs.Kinds.{kind_number}
use Rattle.machines.specs.Files.{told_bytes}
use Rattle.filing.proofs.list_file.put_list.Given as goal

abbrev pub invariant-loop-act : goal.invariant-loop-act
invariant-loop-act l = Puts l.fn.output (87 ∷ kind_number l.fn.kind ∷ told_bytes (take l.act-index l.acts)) l.output
