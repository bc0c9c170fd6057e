use Rattle.std.proofs.Common.{Bool, List, sym, refl, ap, ◌∙◌, subst, arith}
use Rattle.acts.specs.declared.Act.{Act}
use Rattle.book.specs.History.{start}
use Rattle.book.specs.Past.{Past, standing}
use Rattle.session.specs.Sessions.{text_of_session}
use Rattle.session.specs.Course.{course}
use Rattle.session.proofs.Goings.{begun, goes, at_end}
use Rattle.session.proofs.session.session_text.Goals as goal

pub loop-clerk-init : goal.loop-clerk-init
loop-clerk-init g c =
    let m = g.C.Channel.meaning in
    let b = c.in_ok-new.field-0 in
    let P = c.in_ok-new.ensures in
    begun (m b.channel).clearly _ (subst (λ (G : List Act → Bool). Past G start (standing m b)) (sym P.rest.clearly) P) refl c.new-2.ensures.bytes

pub loop-clerk-preserved : goal.loop-clerk-preserved
loop-clerk-preserved g c =
    goes (g.C.Channel.meaning c.in_ok-new.field-0.channel).clearly c.args.session.now (course c.loop-clerk.clerk) (course c.command.new.self)
    c.loop-clerk.invariant (omega arith) c.in_ok-command.ensures

pub returns : goal.returns
returns g c =
    at_end (g.C.Channel.meaning c.in_ok-new.field-0.channel).clearly c.args.session.now (course c.loop-clerk.clerk) c.loop-clerk.invariant (omega arith)
    ∙ ap (λ (F : List Act → Bool). text_of_session F c.args.session.now) c.in_ok-new.ensures.rest.clearly
