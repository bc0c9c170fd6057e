use Rattle.std.proofs.Common.{arith}
use Rattle.acts.specs.Acts.{Lines}
use Rattle.chart.specs.Of.{lines_in}
use Rattle.chart.proofs.Putting.{line_room, line_more, file_whole}
use Rattle.chart.proofs.chart.Chart.put.Goals as goal

pub write_line-requires : goal.write_line-requires
write_line-requires c =
    let cl : Lines = lines_in c.args.self.now in
    line_room c.args.output.now c.loop-party.output c.loop-party.party cl c.line.result.now c.requires
    (omega (arith, c.parties-party-end.ensures.count, c.loop-party-test.true)) c.line.ensures.acts c.loop-party.invariant

pub loop-party-preserved : goal.loop-party-preserved
loop-party-preserved c =
    let cl : Lines = lines_in c.args.self.now in
    line_more c.args.output.now c.loop-party.output c.write_line.new.output c.loop-party.party cl c.line.result.now c.requires
    (omega (arith, c.parties-party-end.ensures.count, c.loop-party-test.true)) c.line.ensures.acts c.loop-party.invariant c.write_line.ensures

pub returns : goal.returns
returns c =
    let cl : Lines = lines_in c.args.self.now in
    file_whole c.args.output.now c.loop-party.output c.put-2.new.self c.loop-party.party cl c.requires
    (omega (arith, c.parties-party-end.ensures.count, c.loop-party-test.false)) c.loop-party.invariant c.put-2.ensures
