use Rattle.std.proofs.Common.{◌-◌, length}
use Rattle.session.specs.Course.{course}
use Rattle.session.specs.Going.{Going}
use Rattle.session.proofs.session.session_text.Given as goal

abbrev pub invariant-loop-clerk : goal.invariant-loop-clerk
invariant-loop-clerk g l = Going (g.C.Channel.meaning l.initial.clerk.book.channel).clearly l.session (course l.clerk)

abbrev pub decreases-loop-clerk : goal.decreases-loop-clerk
decreases-loop-clerk g l = length l.session - l.clerk.place
