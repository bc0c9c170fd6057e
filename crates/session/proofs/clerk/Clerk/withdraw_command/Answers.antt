use Rattle.std.proofs.Common.{List, ℕ, length, refl}
use Rattle.std.proofs.lemmas.Result.{IfOk-weaker}
use Rattle.session.specs.Course.{course}
use Rattle.session.specs.Sessions.{cut_at}
use Rattle.session.proofs.Stepping.{stops, cut_short_w, withdrawn_on}
use Rattle.session.proofs.clerk.Clerk.withdraw_command.Goals as goal

pub returns-in_default : goal.returns-in_default
returns-in_default g c =
    let was = course c.args.self.now in
    let is = course c.stop.new.self in
    let r : List ℕ = c.rest.result.now in
    IfOk-weaker c.stop.result _ _
    (λ u e G h P. stops G h was is c.requires.within (cut_at (length was.session)) P e
    (cut_short_w G h was is c.requires.within c.requires.letter r c.rest.ensures.value c.in_default.len_below)) c.stop.ensures

pub returns : goal.returns
returns g c = λ G h P.
    let K = c.withdraw-answer.ensures G h P in
    withdrawn_on G h (course c.args.self.now) _ c.requires.within c.requires.letter c.rest.result.now c.rest.ensures.value c.withdraw-answer.result
    c.in-len2-up.len_at_least K.0 K.1 refl refl c.in_ok-write_answer.ensures
