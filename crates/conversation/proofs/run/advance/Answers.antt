use Rattle.std.proofs.Common.{◌≡◌, ℕ, Bool, true, false, Some, [], ◌∷◌, sym, ap, ◌∙◌, subst, rules, arith}
use Rattle.acts.specs.declared.Act.{Act}
use Rattle.acts.specs.Acts.{Lines}
use Rattle.lines.specs.declared.progress.Progress.{Progress}
use Rattle.lines.specs.Of.{lines_of}
use Rattle.lines.specs.Progress.{next_act}
use Rattle.lines.proofs.Steps.{short_lines}
use Rattle.channel.specs.Meaning.{Meaning, carried, tried}
use Rattle.conversation.specs.Running.{Moved, Stood}
use Rattle.conversation.proofs.Steps.{among_six, moved, stood}
use Rattle.conversation.proofs.run.advance.Goals as goal

pub returns-in-loop-party-clause-step : goal.returns-in-loop-party-clause-step
returns-in-loop-party-clause-step g c =
    let i = c.loop-party.invariant in
    let P = c.loop-party.progress in
    let cl : Lines = lines_of P.sheet.now in
    let m : Meaning = g.C.Channel.meaning c.loop-party.channel in
    let n : Meaning = g.C.Channel.meaning c.carry.new.self in
    let a : Act = c.in-Some.act in
    let is : next_act cl P.done c.loop-party.party ≡ Some a = search rules in
    let granted : m.grants (a ∷ []) ≡ true = search rules in
    let after : n ≡ carried a m = c.carry.ensures.after ∙ ap (λ (b : Bool). tried b a m) (c.carry.ensures.test ∙ granted) in
    let short = short_lines P.sheet.now.lines P.sheet.now.begun c.loop-party.party in
    let s : Moved cl m P.done a n c.pass.new.self.done =
    subst (Moved cl m P.done a n) (sym c.pass.ensures.done) (moved cl m n P.done c.loop-party.party a (omega (arith, P.six)) is short P.within granted after) in
    subst (λ (x : Meaning). Moved (lines_of c.args.progress.now.sheet.now) x c.args.progress.now.done a n c.pass.new.self.done) i.0
    (subst (λ (x : Progress). Moved (lines_of x.sheet.now) m x.done a n c.pass.new.self.done) i.1 s)

pub returns-clause-step : goal.returns-clause-step
returns-clause-step g c =
    let i = c.loop-party.invariant in
    let P = c.args.progress.now in
    let cl : Lines = lines_of P.sheet.now in
    let m : Meaning = g.C.Channel.meaning c.args.channel.now in
    let none : (q : ℕ) (a : Act) → next_act cl P.done q ≡ Some a → m.grants (a ∷ []) ≡ false = (λ q a e. i.2 q a (let six = among_six P.sheet.now P.done q a e in omega arith) e) in
    subst (λ (x : Progress). Stood cl m P.done (g.C.Channel.meaning c.loop-party.channel) x.done) (sym i.1)
    (subst (λ (x : Meaning). Stood cl m P.done x P.done) (sym i.0) (stood cl m P.done none))
