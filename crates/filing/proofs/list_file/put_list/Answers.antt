use Rattle.std.proofs.Common.{ℕ, List, sym, subst}
use Rattle.search.specs.Kinds.{kind_number}
use Rattle.chart.specs.Putting.{Fits, Puts}
use Rattle.views.specs.Spelled.{root}
use Rattle.filing.proofs.Putting.{act_fits, act_puts, list_puts}
use Rattle.filing.proofs.list_file.put_list.Goals as goal

pub put-requires-in-loop-act : goal.put-requires-in-loop-act
put-requires-in-loop-act c =
    let i = c.loop-act in
    subst (Fits i.output) (sym c.told_bytes.ensures)
    (act_fits (kind_number c.args.kind) c.args.acts.now c.args.output.now i.output i.act-index c.requires i.invariant root.act c.loop-act-test.true)

pub loop-act-preserved : goal.loop-act-preserved
loop-act-preserved c =
    let i = c.loop-act in
    let more = c.put-in-loop-act.new.self in
    act_puts (kind_number c.args.kind) c.args.acts.now c.args.output.now i.output i.act-index c.requires i.invariant root.act c.loop-act-test.true more
    (subst (λ (l : List ℕ). Puts i.output l more) c.told_bytes.ensures c.put-in-loop-act.ensures)

pub returns : goal.returns
returns c =
    let i = c.loop-act in
    list_puts (kind_number c.args.kind) c.args.acts.now c.args.output.now i.output i.act-index c.requires i.invariant c.loop-act-test.false
    c.put-2.new.self c.put-2.ensures
