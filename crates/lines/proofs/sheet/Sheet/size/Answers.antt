use Rattle.std.proofs.Common.{◌≡◌, ◌^◌, ◌≤◌, length, take, sym, ◌∙◌, arith, rules, length-take-le}
use Rattle.std.specs.List.{sum_by}
use Rattle.std.proofs.lemmas.Iterator.{YieldsList-from_slice}
use Rattle.std.proofs.lemmas.Iterator.Adapters.{fits_from_length, at_most_from_yields_List}
use Rattle.lines.specs.Of.{acts_of}
use Rattle.lines.proofs.Sheets.{size_sum}
use Rattle.lines.proofs.sheet.Sheet.size.Goals as goal

-- at most six lines of at most 32 acts
pub sum-requires-clause-fits : goal.sum-requires-clause-fits
sum-requires-clause-fits c =
    let s = c.args.self.now in
    let few : length (take s.begun s.lines) ≤ 6 = (let e = length-take-le s.begun s.lines (omega (arith, s.six)) in omega arith) in
    fits_from_length _ _ 6 (2 ^ 64) (at_most_from_yields_List (YieldsList-from_slice (take s.begun s.lines) (search rules)) few) c.map.ensures.closure (omega arith) (λ x r q k. search rules)

pub returns : goal.returns
returns c =
    let s = c.args.self.now in
    let e : c.sum.result ≡ sum_by (λ l. length (acts_of l)) (take s.begun s.lines) = search rules in
    e ∙ sym (size_sum acts_of s.lines s.begun)
