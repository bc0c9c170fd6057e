use Rattle.std.proofs.Common.{take}
use Rattle.files.specs.Bytes.{line_bytes}
use Rattle.chart.specs.Putting.{Puts}
use Rattle.chart.proofs.writer.write_line.Given as goal

abbrev pub invariant-loop-act : goal.invariant-loop-act
invariant-loop-act l = Puts l.fn.output (line_bytes l.party (take l.act-index l.acts)) l.output
