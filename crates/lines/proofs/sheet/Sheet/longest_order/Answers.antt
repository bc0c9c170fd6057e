use Rattle.std.proofs.Common.{◌≡◌, ℕ, ◌+◌, ◌<◌, true, false, Some, [], ◌∷◌, ◌++◌, sym, refl, ap, ◌∙◌, subst, arith, rules}
use Rattle.std.proofs.lemmas.List.{length_push}
use Rattle.acts.specs.declared.Act.{Act}
use Rattle.acts.specs.Acts.{Lines}
use Rattle.lines.specs.Charts.{LongestOrder}
use Rattle.lines.specs.Of.{lines_of}
use Rattle.lines.specs.Playing.{ready_by, Advanced}
use Rattle.lines.specs.Progress.{next_act, left}
use Rattle.lines.proofs.Steps.{short_lines}
use Rattle.lines.proofs.Plays.{moved, stood, ended}
use Rattle.lines.proofs.sheet.Sheet.longest_order.Goals as goal

pub loop-party-preserved : goal.loop-party-preserved
loop-party-preserved c =
    let cl : Lines = lines_of c.args.self.now in
    let g = c.loop-party.progress in
    let cg : Lines = lines_of g.sheet.now in
    let i = c.loop-party.invariant in
    let same : cg ≡ cl = ap lines_of i.0 in
    let x = c.in-Some.ensures in
    let ready : ready_by cg g.done c.in-Some.field-0-1 ≡ true = search rules in
    let short = short_lines g.sheet.now.lines g.sheet.now.begun c.in-Some.party in
    let m : Advanced cg g.done true c.pass.new.self.done =
    subst (Advanced cg g.done true) (sym c.pass.ensures.done) (moved cg g.done c.in-Some.party c.in-Some.field-0-1 x.0 x.1 short g.within ready) in
    let A : Advanced cl g.done true c.pass.new.self.done = subst (λ (d : Lines). Advanced d g.done true c.pass.new.self.done) same m in
    let less : left c.pass.new.self.done < left g.done = A.less refl in (
      c.pass.ensures.sheet ∙ i.0,
      (let b = i.1 in omega arith),
      λ O.
          let w = i.2 O in
          let k = A.on O refl w.0 w.1 in
          (w.0 ++ (k.0 ∷ []), k.1, length_push w.0 k.0 ∙ ap (λ (n : ℕ). n + 1) w.2),
    )

pub returns : goal.returns
returns c O =
    let cl : Lines = lines_of c.args.self.now in
    let g = c.loop-party.progress in
    let cg : Lines = lines_of g.sheet.now in
    let w = c.loop-party.invariant.2 O in
    let none : (q : ℕ) (a : Act) → next_act cg g.done q ≡ Some a → ready_by cg g.done a ≡ false =
    (λ q a e. let r = c.in_default.ensures q a e in sym (search rules)) in
    let A : Advanced cl g.done false g.done = subst (λ (d : Lines). Advanced d g.done false g.done) (ap lines_of c.loop-party.invariant.0) (stood cg g.done g.within none) in
    subst (LongestOrder cl) w.2 (ended cl w.0 (A.stands O refl w.0 w.1))
