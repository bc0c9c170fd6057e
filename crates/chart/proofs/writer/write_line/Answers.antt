use Rattle.chart.proofs.Putting.{act_room, act_more}
use Rattle.chart.proofs.writer.write_line.Goals as goal

pub write_act-requires : goal.write_act-requires
write_act-requires c =
    act_room c.args.output.now c.loop-act.output c.args.party c.loop-act.act-index c.args.acts.now c.requires c.loop-act-test.true
    c.loop-act.invariant

pub loop-act-preserved : goal.loop-act-preserved
loop-act-preserved c =
    act_more c.args.output.now c.loop-act.output c.write_act.new.output c.args.party c.loop-act.act-index c.args.acts.now _ c.requires
    c.loop-act-test.true c.loop-act.invariant c.write_act.ensures
