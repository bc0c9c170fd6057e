use Rattle.std.proofs.Common.{◌≡◌, length, ap, rules, arith}
use borrow.Author.Tests.{tests}
use Rattle.std.proofs.lemmas.Iterator.{YieldsList-from_slice}
use Rattle.std.proofs.lemmas.Iterator.Consumers.{YieldsList-from_filter, YieldsList-at, count_from_yields_List}
use Rattle.std.specs.List.{filter}
use Rattle.views.specs.Parties.{nodes_in}
use Rattle.filing.proofs.Rows.{is_last_view, lasts_size, table_size}
use Rattle.filing.proofs.machine_file.party_length.Goals as goal

pub returns : goal.returns
returns c p =
    let xs = nodes_in c.args.views.now in
    let n = ap length c.views-views.ensures.value in
    let k : c.count-lasts.result ≡ length (filter is_last_view xs) =
    count_from_yields_List _ _ c.count-lasts.ensures.ran
    (YieldsList-from_filter _ is_last_view (YieldsList-at c.filter.ensures.source (YieldsList-from_slice xs cc)) c.filter.ensures.closure (λ x r q h. search (rules, tests))) in
    let s = table_size p xs in
    let l = lasts_size 0 xs in
    omega arith
