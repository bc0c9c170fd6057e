-- The lines of a chart.
use Rattle.acts.specs.Acts.{Lines}
use Rattle.lines.specs.Of.{lines_of}
use Rattle.chart.specs.declared.chart.Chart.{Chart}

abbrev pub lines_in : Chart → Lines
lines_in c = lines_of c.sheet
