use Rattle.chart.specs.Of.{lines_in}
use Rattle.chart.proofs.Kept.{is_chart}
use Rattle.chart.proofs.chart.Chart.is_chart.Goals as goal

pub returns : goal.returns
returns c = let s = c.args.self.now in is_chart (lines_in s) s.lined s.paired s.playable
