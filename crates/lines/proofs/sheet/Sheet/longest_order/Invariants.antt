use Rattle.std.proofs.Common.{◌≡◌, ◌+◌, ◌≤◌, List, length}
use Rattle.acts.specs.declared.Act.{Act}
use Rattle.acts.specs.Acts.{Own}
use Rattle.lines.specs.Of.{lines_of}
use Rattle.lines.specs.Playing.{Going}
use Rattle.lines.specs.Progress.{left}
use Rattle.lines.proofs.sheet.Sheet.longest_order.Given as goal

-- some playing order with as many acts has brought every party so far
abbrev pub invariant-loop-party : goal.invariant-loop-party
invariant-loop-party l =
    (l.progress.sheet.now ≡ l.self)
    × (l.count + left l.progress.done ≤ 192)
    × (Own (lines_of l.self) → (w : List Act) × Going (lines_of l.self) l.progress.done w × (length w ≡ l.count))

abbrev pub decreases-loop-party : goal.decreases-loop-party
decreases-loop-party l = left l.progress.done
