use Rattle.std.proofs.Common.{ℕ, ◌<◌}
use Rattle.lines.specs.Of.{lines_of}
use Rattle.lines.specs.Progress.{Refused}
use Rattle.lines.proofs.progress.Progress.first.Given as goal

-- the next acts of the parties so far do not pass
abbrev pub invariant-loop-party : goal.invariant-loop-party
invariant-loop-party g l =
    (q : ℕ) → q < l.party → Refused (goal.F-post g l.test) (lines_of l.self.sheet.now) l.self.done q
