-- When two charts are equal.
use Rattle.std.specs.Prelude.{Bool}
use Rattle.std.specs.Cmp.Lexicographic.{pointwise}
use Rattle.std.specs.Ordering.{on}
use Rattle.acts.specs.declared.Act.{Act}
use Rattle.acts.specs.contracts.ActPartialEq.TheImpl as acts
use Rattle.acts.specs.Acts.{Lines}
use Rattle.chart.specs.declared.chart.Chart.{Chart}
use Rattle.chart.specs.Of.{lines_in}

-- two acts, as their derived `==` compares them
abbrev pub same_acts : Act → Act → Bool
same_acts = (acts.eq-value).it

-- as many lines with the same acts
abbrev pub same_lines : Lines → Lines → Bool
same_lines = pointwise (pointwise same_acts)

-- two charts with the same lines
abbrev pub same_charts : Chart → Chart → Bool
same_charts = on lines_in same_lines
