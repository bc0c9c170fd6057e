use Rattle.std.proofs.Common.{◌∙◌, sym}
use Rattle.std.proofs.lemmas.Result.{err_from_is_err_and}
use Rattle.chart.proofs.Reached.{command_more, command_wrong, command_last}
use Rattle.chart.proofs.reader.Reader.read.Goals as goal

pub returns-in_err-command : goal.returns-in_err-command
returns-in_err-command c =
    let p = err_from_is_err_and c.from_residual.result c.from_residual.ensures.1 in
    rw (p.1, p.2) (command_wrong c.args.self.now c.loop.self c.command.new.self c.loop.invariant _ c.in_err-command.ensures)

pub loop-preserved : goal.loop-preserved
loop-preserved c =
    command_more c.args.self.now c.loop.self c.command.new.self c.loop.invariant _ (sym c.is_continue.ensures ∙ c.if-is_continue.true)
    c.in_ok-command.ensures

pub returns : goal.returns
returns c =
    command_last c.args.self.now c.loop.self c.command.new.self c.loop.invariant _ c.finish.result
    (sym c.is_continue.ensures ∙ c.if-is_continue.false) c.in_ok-command.ensures c.finish.ensures
