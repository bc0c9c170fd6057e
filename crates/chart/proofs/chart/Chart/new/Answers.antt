use Rattle.std.proofs.Common.{sym, subst}
use Rattle.lines.specs.Charts.{IsChart}
use Rattle.lines.specs.Of.{lines_of}
use Rattle.chart.proofs.Kept.{bare}
use Rattle.chart.proofs.chart.Chart.new.Goals as goal

pub invariant_of-result : goal.invariant_of-result
invariant_of-result c =
    let k : IsChart (lines_of c.in_ok-sheet.sheet) = subst IsChart (sym c.in_ok-sheet.ensures.1) bare in
    record { lined = ∣ k.lined ∣₁; paired = k.paired; playable = ∣ k.playable ∣₁ }
