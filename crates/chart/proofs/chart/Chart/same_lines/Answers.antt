use Rattle.std.proofs.Common.{Decides, subst, sym, Bool, ◌≡◌}
use Rattle.chart.specs.Of.{lines_in}
use Rattle.chart.proofs.Compared.{lines_decide}
use Rattle.chart.proofs.chart.Chart.same_lines.Goals as goal

pub returns : goal.returns
returns c =
    let a = lines_in c.args.self.now in
    let b = lines_in c.args.other.now in
    subst (λ (r : Bool). Decides r (a ≡ b)) (sym c.eq.ensures) (lines_decide a b)
