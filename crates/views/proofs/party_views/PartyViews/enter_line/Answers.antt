use Rattle.std.proofs.Common.{◌≡◌, ◌<◌, [], length, get_or, set, sym, subst, refl, arith}
use Rattle.std.proofs.lemmas.List.{get_or_read}
use Rattle.views.specs.declared.view.View.{View}
use Rattle.views.specs.Spelled.{root}
use Rattle.views.specs.Building.{in_chart, completing, Entering, Entered}
use Rattle.views.proofs.Growing.{sound, remasked_sound}
use Rattle.views.proofs.Entering.{entering_none, entering_all}
use Rattle.views.proofs.party_views.PartyViews.enter_line.Goals as goal

pub invariant_of-self-2 : goal.invariant_of-self-2
invariant_of-self-2 c =
    let s = c.walk-whole.new.self in
    let x = c.index_mut-2.result.now in
    let n = s.views.ok.0 in
    let h : c.walk-whole.result < length s.views.items = let b = c.walk-whole.ensures.below in omega arith in
    let k = remasked_sound s.views.items (sound s) c.walk-whole.result h x c.index_mut-2.ensures.value (completing x c.args.bit) refl refl in
    record { some = s.some; few = s.few; room = s.room; earlier = k.earlier; apart = k.apart; short = k.short }

pub returns : goal.returns
returns c =
    let s = c.args.self.now in
    let nodes = s.views.items in
    let l = c.args.line.now in
    let bit = c.args.bit in
    let n = s.views.ok.0 in
    let some : 0 < length nodes = let z = s.some in omega arith in
    let first : c.index_mut.result.now ≡ get_or nodes 0 root = get_or_read nodes 0 c.index_mut.result.now some c.index_mut.ensures.value root in
    let walked = c.walk-whole.new.self in
    let at = c.walk-whole.result in
    let m = walked.views.ok.0 in
    let h : at < length walked.views.items = let b = c.walk-whole.ensures.below in omega arith in
    let last : c.index_mut-2.result.now ≡ get_or walked.views.items at root =
    get_or_read walked.views.items at c.index_mut-2.result.now h c.index_mut-2.ensures.value root in
    let E = c.walk-whole.ensures.entering nodes (subst (λ (x : View). Entering nodes [] bit 0 (set nodes 0 (in_chart x bit))) (sym first) (entering_none nodes some s.apart bit)) in
    subst (λ (x : View). Entered nodes l bit (set walked.views.items at (completing x bit))) (sym last) (entering_all nodes l bit at walked.views.items E walked.apart)
