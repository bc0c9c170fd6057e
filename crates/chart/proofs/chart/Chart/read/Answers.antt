use Rattle.std.proofs.Common.{ℕ, List, refl, subst}
use Rattle.std.proofs.lemmas.Result.{err_from_is_err_and}
use Rattle.fault.specs.declared.Fault.{Fault}
use Rattle.files.specs.Answers.{Refused}
use Rattle.chart.proofs.chart.Chart.read.Goals as goal

pub returns-in_err-check : goal.returns-in_err-check
returns-in_err-check c =
    let p = err_from_is_err_and c.from_residual-in_err-check.result c.from_residual-in_err-check.ensures.1 in
    let f : Fault = c.in_err-check.field-0.0 in
    let h = c.in_ok-fill.ensures in
    let r : Refused c.args.file.now f = subst (λ (x : List ℕ). Refused x f) h.1 (c.in_err-check.ensures h.0) in
    rw (p.1, p.2) (r, refl)
