use Rattle.std.proofs.Common.{◌≡◌, ℕ, length, ap, ◌∙◌, arith, rules}
use Rattle.std.specs.List.{flat_map}
use Rattle.std.specs.Option.{option_to_list}
use Rattle.std.proofs.lemmas.Iterator.{YieldsList-from_slice}
use Rattle.std.proofs.lemmas.Iterator.Adapters.{YieldsList-from_flatten}
use Rattle.std.proofs.lemmas.Iterator.Consumers.{count_from_yields_List}
use Rattle.book.specs.History.{counted}
use Rattle.book.specs.Past.{table_of}
use Rattle.book.proofs.Slots.{one, few-slots, counted-slots}
use Rattle.book.proofs.book.Book.count.Goals as goal

-- the chain gives the charts that are held
given : (g : _) (c : goal.After-count g) → c.count.result ≡ length (flat_map option_to_list c.args.self.now.charts)
given g c =
    count_from_yields_List c.flatten.result c.count.result c.count.ensures.ran
    (YieldsList-from_flatten _ _ (λ y. y.now) option_to_list (λ x j b. one x.now b.0 b.1) (YieldsList-from_slice c.args.self.now.charts cc)
    c.flatten.ensures.front c.flatten.ensures.back c.flatten.ensures.done)

pub overflow_cast-result : goal.overflow_cast-result
overflow_cast-result g c =
    let long : length c.args.self.now.charts ≡ 8 = search rules in
    let e = given g c in
    omega (arith, few-slots c.args.self.now.charts)

pub returns : goal.returns
returns g c =
    let cs = c.args.self.now.charts in
    let long : length cs ≡ 8 = search rules in
    given g c ∙ counted-slots cs ∙ ap (λ (k : ℕ). counted k (table_of cs)) long
