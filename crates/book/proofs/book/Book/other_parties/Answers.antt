use Rattle.std.proofs.Common.{◌≡◌, not, eqb, length, map, sym, ◌∙◌, subst, rules, tests}
use Rattle.std.specs.Option.{option_to_list, option_map}
use Rattle.std.specs.List.{find, flat_map}
use Rattle.chart.specs.declared.chart.Chart.{Chart}
use Rattle.chart.specs.Of.{lines_in}
use Rattle.std.proofs.lemmas.Iterator.{YieldsList-from_slice, YieldsList-from_map}
use Rattle.std.proofs.lemmas.Iterator.Adapters.{YieldsList-from_flatten, option_map_id}
use Rattle.std.proofs.lemmas.Iterator.Consumers.{YieldsList-at}
use Rattle.std.proofs.lemmas.Iterator.Search.{find_from_yields_List}
use Rattle.book.proofs.Slots.{one, Others, others}
use Rattle.book.proofs.book.Book.other_parties.Goals as goal

pub returns : goal.returns
returns g c =
    let cs = c.args.self.now.charts in
    let n = c.parties-expected.result in
    let e : option_map (λ m. m) c.find.result ≡ find (λ m. not (eqb m n)) (map (λ (d : Chart). length (lines_in d)) (flat_map option_to_list cs)) =
    find_from_yields_List (λ m. not (eqb m n)) _ _ c.find.result c.find.ensures.ran
    (YieldsList-from_map _ (λ (d : Chart). length (lines_in d))
    (YieldsList-at c.map.ensures.source (YieldsList-from_flatten _ _ (λ y. y.now) option_to_list (λ x j b. one x.now b.0 b.1) (YieldsList-from_slice cs cc) c.flatten.ensures.front c.flatten.ensures.back c.flatten.ensures.done))
    c.map.ensures.closure (λ x r q k. (search rules, k.met.0)))
    (λ x b q k. search (rules, tests)) in
    subst (λ r. Others (lines_in c.args.chart.now) r cs) (sym e ∙ option_map_id c.find.result) (others (lines_in c.args.chart.now) n c.parties-expected.ensures.count cs)
