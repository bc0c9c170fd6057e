use Rattle.std.proofs.Common.{ℕ, List, subst, arith}
use Rattle.std.proofs.lemmas.Grind.{common_steps}
use Rattle.machines.specs.Files.{machine_file_bytes}
use Rattle.chart.specs.Putting.{Puts}
use Rattle.filing.proofs.Shown.{file_same}
use Rattle.filing.proofs.machine_file.write_machines.Goals as goal

pub returns-clause-charts : goal.returns-clause-charts
returns-clause-charts c f S =
    let done = c.put_machines.new.output in
    let h : Puts c.new.result (machine_file_bytes c.args.code c.args.count f) done =
    subst (λ (l : List ℕ). Puts c.new.result l done) (file_same f c.args.parties.now c.args.code c.args.count S) c.put_machines.ensures in
    let o = h.output in
    grind (arith, common_steps)
