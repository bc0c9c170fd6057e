use Rattle.std.proofs.Common.{◌≡◌, ℕ, ◌<◌, false, Some, [], ◌∷◌}
use Rattle.acts.specs.declared.Act.{Act}
use Rattle.lines.specs.Of.{lines_of}
use Rattle.lines.specs.Progress.{next_act}
use Rattle.conversation.proofs.run.advance.Given as goal

-- nothing is carried yet, and the next acts of the parties so far are not granted
abbrev pub invariant-loop-party : goal.invariant-loop-party
invariant-loop-party g l =
    (g.C.Channel.meaning l.channel ≡ g.C.Channel.meaning l.initial.channel)
    × (l.progress ≡ l.initial.progress)
    × ((q : ℕ) (a : Act) → q < l.party → next_act (lines_of l.initial.progress.sheet.now) l.initial.progress.done q ≡ Some a
    → (g.C.Channel.meaning l.initial.channel).grants (a ∷ []) ≡ false)
