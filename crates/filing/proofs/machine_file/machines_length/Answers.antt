use Rattle.std.proofs.Common.{◌≡◌, ℕ, ◌<◌, length, get_or, ap, ◌∙◌, arith}
use Rattle.std.proofs.lemmas.List.{get_or-take, length-take-le}
use Rattle.views.specs.Parties.{nodes_in, tables_in}
use Rattle.filing.specs.Filed.{table_bytes, tables_below, tables_file}
use Rattle.filing.proofs.Rows.{table_few, table_read, tables_size, file_size}
use Rattle.filing.proofs.Shown.{file_same}
use Rattle.filing.proofs.machine_file.machines_length.Goals as goal

pub overflow_add-length : goal.overflow_add-length
overflow_add-length c =
    let x = c.views-item.result in
    let n = x.views.ok.0 in
    let b = table_few 0 (nodes_in x) (omega arith) in
    let r = c.party_length-length.ensures 0 in
    let m = length-take-le c.from.result c.args.parties.now (omega arith) in
    let t = c.loop-views-test.true in
    let i = c.loop-views.invariant.1 in
    omega (arith, c.ranges.count)

pub loop-views-preserved : goal.loop-views-preserved
loop-views-preserved c =
    let ps = c.args.parties.now in
    let x = c.views-item.result in
    let p = c.loop-views.views-index in
    let m = length-take-le c.from.result ps (omega arith) in
    let h : p < c.from.result = let t = c.loop-views-test.true in omega arith in
    let e : x ≡ get_or ps p x = c.views-item.is ∙ get_or-take c.from.result ps p x h in
    let t = ap (λ l. length (table_bytes p l)) (table_read ps p x (omega arith) e) in
    let n = x.views.ok.0 in
    let b = table_few p (nodes_in x) (omega arith) in
    let r = c.party_length-length.ensures p in
    let s = tables_size (tables_in ps) p in
    let i = c.loop-views.invariant.0 in
    let j = c.loop-views.invariant.1 in
    (omega arith, omega arith)

pub returns : goal.returns
returns c =
    let ps = c.args.parties.now in
    let n = c.args.count in
    let m = length-take-le c.from.result ps (omega arith) in
    let q : c.loop-views.views-index ≡ n = let t = c.loop-views-test.false in let u = c.loop-views.auto.views-index-end in omega arith in
    let e = ap (λ (k : ℕ). length (tables_below (tables_in ps) k)) q in
    let i = c.loop-views.invariant.0 in
    let whole : (code : ℕ) → c.loop-views.length ≡ length (tables_file code n (tables_in ps)) = λ code. let s = file_size code n (tables_in ps) in omega arith in
    record { tables = whole; charts = λ f S code. whole code ∙ ap length (file_same f ps code n S) }
