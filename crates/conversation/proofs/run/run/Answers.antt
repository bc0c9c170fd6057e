use Rattle.std.proofs.Common.{◌≡◌, ◌<◌, Bool, List, [], ◌∷◌, ◌++◌, length, vec_items, sym, refl, ap, ◌∙◌, subst, arith}
use Rattle.std.proofs.lemmas.List.{length_push}
use Rattle.acts.specs.declared.Act.{Act}
use Rattle.acts.specs.Acts.{Lines}
use Rattle.lines.specs.Charts.{Lined}
use Rattle.lines.specs.Of.{lines_of}
use Rattle.files.proofs.Lined.{begun_own}
use Rattle.channel.specs.Meaning.{Meaning}
use Rattle.chart.specs.Of.{lines_in}
use Rattle.chart.proofs.Kept.{lined_from}
use Rattle.conversation.specs.Running.{Going, Moved, Stood, Ran}
use Rattle.conversation.proofs.Steps.{noted_more, ended}
use Rattle.conversation.proofs.run.run.Goals as goal

pub loop-act-preserved : goal.loop-act-preserved
loop-act-preserved g c =
    let ch = c.args.chart.now in
    let cl : Lines = lines_in ch in
    let L : Lined cl = lined_from cl ch.lined in
    let G : List Act → Bool = (g.C.Channel.meaning c.args.channel.now).clearly in
    let i = c.loop-act.invariant in
    let P = c.loop-act.progress in
    let w : List Act = vec_items c.loop-act.order.acts in
    let a : Act = c.in-Some.act in
    let m : Meaning = g.C.Channel.meaning c.loop-act.channel in
    let n : Meaning = g.C.Channel.meaning c.advance.new.channel in
    let M : Moved cl m P.done a n c.advance.new.progress.done = subst (λ (d : Lines). Moved d m P.done a n c.advance.new.progress.done) i.0 c.in-Some.ensures.step in
    let less = M.less in
    let room : length w < 192 = (let b = i.1 in omega arith) in
    let e : vec_items c.push.new.self.acts ≡ w ++ (a ∷ []) = noted_more w _ a (length w) refl room c.push.ensures in (
      ap lines_of c.advance.ensures.sheet ∙ i.0,
      (let b = i.1 in let l = ap length e ∙ length_push w a in omega arith),
      subst (Going G _ cl _) (sym e)
          (M.on (begun_own (length cl) cl L) G (g.met.C.Channel.lawful c.args.channel.now) w i.2),
    )

pub returns-clause-ran : goal.returns-clause-ran
returns-clause-ran g c =
    let ch = c.args.chart.now in
    let cl : Lines = lines_in ch in
    let L : Lined cl = lined_from cl ch.lined in
    let G : List Act → Bool = (g.C.Channel.meaning c.args.channel.now).clearly in
    let i = c.loop-act.invariant in
    let P = c.loop-act.progress in
    let w : List Act = vec_items c.loop-act.order.acts in
    let m : Meaning = g.C.Channel.meaning c.loop-act.channel in
    let n : Meaning = g.C.Channel.meaning c.advance.new.channel in
    let S : Stood cl m P.done n c.advance.new.progress.done = subst (λ (d : Lines). Stood d m P.done n c.advance.new.progress.done) i.0 c.in_default.ensures.step in
    let r : Ran G cl w (length w) = ended G cl w (g.met.C.Channel.lawful c.args.channel.now) (begun_own (length cl) cl L) ch.paired (S.stuck G w i.2) in
    subst (Ran G cl w) (ap length (sym c.acts.ensures.value)) r
