use Rattle.std.proofs.Common.{rules, tests, ◌≡◌, ℕ, refl, sym, ◌∙◌, arith}
use Rattle.std.specs.List.{list_all, range_with_len}
use Rattle.std.specs.Cmp.Lexicographic.{pointwise}
use Rattle.std.proofs.lemmas.Iterator.{YieldsList-from_range}
use Rattle.std.proofs.lemmas.Iterator.Search.{all_from_yields_List}
use Rattle.acts.specs.Acts.{Lines, line}
use Rattle.chart.specs.Of.{lines_in}
use Rattle.chart.specs.Same.{same_acts}
use Rattle.chart.proofs.Compared.{all_parties}
use Rattle.chart.proofs.chart.comparing.ChartPartialEq.eq.Goals as goal

pub returns-then-parties : goal.returns-then-parties
returns-then-parties c =
    let a : Lines = lines_in c.args.self.now in
    let b : Lines = lines_in c.args.other.now in
    let n : ℕ = c.parties-then-parties.result in
    let k : c.all.result ≡ list_all (λ p. pointwise same_acts (line a p) (line b p)) (range_with_len 0 n) =
    all_from_yields_List (λ p. pointwise same_acts (line a p) (line b p)) _ _ c.all.result c.all.ensures.ran
    (YieldsList-from_range 0 n n refl (omega arith)) (λ x r q k. search (rules, tests)) in
    k ∙ all_parties a b n c.parties-then-parties.ensures.count
    (c.parties-then-parties.ensures.count ∙ sym c.parties.ensures.count ∙ c.if-parties.true ∙ c.parties-2.ensures.count)
