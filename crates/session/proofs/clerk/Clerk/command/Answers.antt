use Rattle.std.proofs.Common.{List, ℕ, arith, rules}
use Rattle.std.proofs.lemmas.Result.{IfOk-weaker}
use Rattle.session.specs.Course.{course}
use Rattle.session.specs.Sessions.{unknown_at}
use Rattle.session.proofs.Stepping.{stops, unknown}
use Rattle.session.proofs.clerk.Clerk.command.Goals as goal
use Rattle.session.proofs.clerk.Clerk.command.Goals.{in_default-via-then-rest-lt1, in_default-via-else-rest-lt1+in_default-1}

pub returns-in_default : goal.returns-in_default
returns-in_default g c =
    let was = course c.args.self.now in
    let is = course c.stop.new.self in
    let r : List ℕ = c.rest.result.now in
    let some = c.rest.ensures.len in
    elim c.in_default.branch [
      | in_default-via-then-rest-lt1 w ↦ absurd (search rules)
      | in_default-via-else-rest-lt1+in_default-1 w ↦
          IfOk-weaker c.stop.result _ _
          (λ u e G h P. stops G h was is c.requires (unknown_at was.place) P e
          (unknown G h was is c.requires r c.rest.ensures.value (λ x. search rules) (λ x. omega arith))) c.stop.ensures
    ]
