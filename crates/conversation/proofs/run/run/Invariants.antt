use Rattle.std.proofs.Common.{◌≡◌, ◌+◌, ◌≤◌, length, vec_items}
use Rattle.lines.specs.Of.{lines_of}
use Rattle.lines.specs.Progress.{left}
use Rattle.chart.specs.Of.{lines_in}
use Rattle.conversation.specs.Running.{Going}
use Rattle.conversation.proofs.run.run.Given as goal

-- the acts noted so far have brought the channel and the parties here
abbrev pub invariant-loop-act : goal.invariant-loop-act
invariant-loop-act g l =
    (lines_of l.progress.sheet.now ≡ lines_in l.chart)
    × (length (vec_items l.order.acts) + left l.progress.done ≤ 192)
    × Going (g.C.Channel.meaning l.fn.channel).clearly (g.C.Channel.meaning l.channel) (lines_in l.chart) l.progress.done (vec_items l.order.acts)

abbrev pub decreases-loop-act : goal.decreases-loop-act
decreases-loop-act g l = left l.progress.done
