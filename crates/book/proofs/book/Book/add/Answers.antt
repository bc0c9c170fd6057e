use Rattle.std.proofs.Common.{◌≡◌, ℕ, ◌<◌, ◌≤◌, true, false, length, is_some, Some, Err, vec_items, refl, ap, ◌∙◌, subst, rules}
use Rattle.fault.specs.declared.BookCause.TheVariants.{IdTaken, OtherParties, NoConversation}
use Rattle.acts.specs.Language.{size}
use Rattle.files.proofs.Lined.{begun_own}
use Rattle.chart.specs.Of.{lines_in}
use Rattle.chart.proofs.Kept.{lined_from}
use Rattle.book.specs.History.{add}
use Rattle.book.specs.Right.{refusal}
use Rattle.book.specs.Past.{Standing, standing}
use Rattle.book.proofs.Tables.{known_place, put-at}
use Rattle.book.proofs.Pasts.{answered, add_taken, add_others, add_mute, add_granted}
use Rattle.book.proofs.book.Book.add.Goals as goal

pub returns-then-is_some : goal.returns-then-is_some
returns-then-is_some g c = λ G h P.
    let b = standing g.C.Channel.meaning c.args.self.now in
    let i = c.args.id in
    let taken : is_some (b.charts i) ≡ true = known_place c.args.self.now.charts i c.from-slot.result c.index-self-slot.result true (search rules) (search rules) c.index-self-slot.is (search rules) in
    let same : c.from-slot.result ≡ i = search rules in
    answered G h (add i (lines_in c.args.chart)) (Err c.refused-then-is_some.result) (refusal IdTaken i) b
    (c.refused-then-is_some.ensures ∙ ap (refusal IdTaken) same)
    (add_taken G h b P i c.if-id-gt-LAST_ID.false (lines_in c.args.chart) taken)

pub returns-in-Some : goal.returns-in-Some
returns-in-Some g c = λ G h P.
    let b = standing g.C.Channel.meaning c.args.self.now in
    let i = c.args.id in
    let cl = lines_in c.args.chart in
    let free : is_some (b.charts i) ≡ false = known_place c.args.self.now.charts i c.from-slot.result c.index-self-slot.result false (search rules) (search rules) c.index-self-slot.is (search rules) in
    let n = c.in-Some.parties in
    let same : c.from.result ≡ n = search rules in
    answered G h (add i cl) (Err c.refused-in-Some.result) (refusal OtherParties n) b
    (c.refused-in-Some.ensures ∙ ap (refusal OtherParties) same)
    (add_others G h b P i c.if-id-gt-LAST_ID.false cl free n c.in-Some.ensures)

pub returns-then-most-size : goal.returns-then-most-size
returns-then-most-size g c = λ G h P.
    let b = standing g.C.Channel.meaning c.args.self.now in
    let i = c.args.id in
    let cl = lines_in c.args.chart in
    let free : is_some (b.charts i) ≡ false = known_place c.args.self.now.charts i c.from-slot.result c.index-self-slot.result false (search rules) (search rules) c.index-self-slot.is (search rules) in
    let now : Standing = record { channel = g.C.Channel.meaning c.run-most.new.channel; charts = b.charts } in
    let n = c.run-most.result in
    let R = c.run-most.ensures in
    let less : n < size cl = subst (λ (x : ℕ). n < x) c.size.ensures c.if-most-size.true in
    answered G h (add i cl) (Err c.refused-then-most-size.result) (refusal NoConversation n) now
    c.refused-then-most-size.ensures
    (add_mute G h b P i c.if-id-gt-LAST_ID.false cl free c.in_default.ensures c.in_default-equal_chart.ensures
    (vec_items c.run-most.new.order.acts) n now R.ran R.clear less refl)

pub returns : goal.returns
returns g c = λ G h P.
    let b = standing g.C.Channel.meaning c.args.self.now in
    let i = c.args.id in
    let ch = c.args.chart in
    let cl = lines_in ch in
    let slot = c.from-slot.result in
    let free : is_some (b.charts i) ≡ false = known_place c.args.self.now.charts i slot c.index-self-slot.result false (search rules) (search rules) c.index-self-slot.is (search rules) in
    let now = standing g.C.Channel.meaning c.place.new.self in
    let n = c.run-most.result in
    let R = c.run-most.ensures in
    let E = c.place.ensures in
    let all : size cl ≤ n = subst (λ (x : ℕ). x ≤ n) c.size.ensures c.if-most-size.false in
    add_granted G h b P i c.if-id-gt-LAST_ID.false cl free c.in_default.ensures c.in_default-equal_chart.ensures
    (vec_items c.run-most.new.order.acts) n now R.ran (ap g.C.Channel.meaning E.channel ∙ R.clear)
    c.place.result (begun_own (length cl) cl (lined_from cl ch.lined)) all
    (put-at i slot (Some cl) b.charts now.charts (search rules) E.table) E.count
