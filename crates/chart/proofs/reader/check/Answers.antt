use Rattle.std.proofs.Common.{◌≡◌, ℕ, ◌<◌, length, refl, subst, arith, rules}
use Rattle.acts.specs.Acts.{Lines}
use Rattle.acts.specs.Language.{size}
use Rattle.lines.specs.Charts.{LongestOrder}
use Rattle.lines.specs.Of.{lines_of}
use Rattle.files.specs.Answers.{not_playable}
use Rattle.files.proofs.Lined.{begun_own, all_paired, playable_from, longest_below}
use Rattle.chart.proofs.reader.check.Goals as goal

pub returns-then-acts-size : goal.returns-then-acts-size
returns-then-acts-size c L =
    let cl : Lines = lines_of c.args.sheet.now in
    not_playable (record {
      lines = cl;
      lined = L;
      whole = refl;
      paired = all_paired cl L c.in_default.ensures;
      acts = c.longest_order-acts.result;
      longest = c.longest_order-acts.ensures (begun_own (length cl) cl L);
      fewer = subst (λ (n : ℕ). c.longest_order-acts.result < n) c.size.ensures c.if-acts-size.true;
      fault = search rules;
    })

pub returns : goal.returns
returns c L =
    let cl : Lines = lines_of c.args.sheet.now in
    let k : ℕ = c.longest_order-acts.result in
    let o : LongestOrder cl k = c.longest_order-acts.ensures (begun_own (length cl) cl L) in
    let all : k ≡ size cl = (let e = c.size.ensures in let b = longest_below cl k L o in omega (arith, c.if-acts-size.false)) in
    record { lined = L; paired = all_paired cl L c.in_default.ensures; playable = playable_from cl L (subst (LongestOrder cl) all o) }
