use Rattle.std.proofs.Common.{◌≡◌, ℕ, ◌+◌, ◌<◌, List, [], ◌∷◌, ◌++◌, length, get_or, take, set, vec_items, sym, refl, ap, ◌∙◌, subst, arith, rules}
use Rattle.std.proofs.lemmas.List.{get_or_read, take_more, take_all, length_push}
use Rattle.acts.specs.declared.Act.{Act}
use Rattle.views.specs.declared.view.View.{View}
use Rattle.views.specs.Spelled.{root, spelled}
use Rattle.views.specs.Building.{Entering, in_chart}
use Rattle.views.proofs.Growing.{sound, remasked_sound}
use Rattle.views.proofs.Spelling.{spelled-first}
use Rattle.views.proofs.Entering.{entering_more, bit_spelled}
use Rattle.views.proofs.party_views.PartyViews.walk.Goals as goal

pub loop-act-init : goal.loop-act-init
loop-act-init c =
    let s = c.args.self.now in
    (s.some, omega arith, ap length (spelled-first s.views.items), λ start E. E)

pub loop-act-preserved : goal.loop-act-preserved
loop-act-preserved c =
    let i = c.loop-act.invariant in
    let idx = c.loop-act.act-index in
    let l = c.args.line.now in
    let h : idx < length l = c.loop-act-test.true in
    let a : Act = get_or l idx root.act in
    let was : List View = vec_items c.loop-act.self.views in
    let more : List View = vec_items c.lengthened-at.new.self.views in
    let k : ℕ = c.lengthened-at.result in
    let bit = c.args.bit in
    let L = c.lengthened-at.ensures in
    let A = c.lengthened-at.new.self.apart in
    let n0 = c.loop-act.self.views.ok.0 in
    let n1 = c.lengthened-at.new.self.views.ok.0 in
    let below : k < length more = let b = L.below in omega arith in
    let x = c.index_mut.result.now in
    let here : x ≡ get_or more k root = get_or_read more k x below c.index_mut.ensures.value root in
    let spell : spelled (set more k (in_chart x bit)) ≡ spelled more =
    ap (λ (y : View). spelled (set more k (in_chart y bit))) here
    ∙ bit_spelled more A k below (λ y. y.charts) (in_chart (get_or more k root) bit) bit refl refl in
    let is : get_or (spelled more) k [] ≡ get_or (spelled was) c.loop-act.at [] ++ (a ∷ []) = L.is in (
      (let b = L.below in omega arith),
      (let g = L.grown.few in let b = i.1 in omega arith),
      ap (λ (vs : List (List Act)). length (get_or vs k [])) spell ∙ ap length is ∙ length_push (get_or (spelled was) c.loop-act.at []) a ∙ ap (λ (x : ℕ). x + 1) i.2,
      λ start E.
          subst (λ (y : View). Entering start (take (idx + 1) l) bit k (set more k (in_chart y bit))) (sym here)
          (subst (λ (x : List Act). Entering start x bit k (set more k (in_chart (get_or more k root) bit))) (sym (take_more l idx root.act h))
          (entering_more start (take idx l) a bit c.loop-act.at was (i.3 start E) more k below A L.grown is L.views)),
    )

pub invariant_of-self : goal.invariant_of-self
invariant_of-self c =
    let s = c.lengthened-at.new.self in
    let x = c.index_mut.result.now in
    let n = s.views.ok.0 in
    let h : c.lengthened-at.result < length s.views.items = let b = c.lengthened-at.ensures.below in omega arith in
    let k = remasked_sound s.views.items (sound s) c.lengthened-at.result h x c.index_mut.ensures.value (in_chart x c.args.bit) refl refl in
    record { some = s.some; few = s.few; room = s.room; earlier = k.earlier; apart = k.apart; short = k.short }

pub returns : goal.returns
returns c =
    let i = c.loop-act.invariant in
    let l = c.args.line.now in
    record {
      below = i.0;
      entering = λ start E. subst (λ (x : List Act). Entering start x c.args.bit c.loop-act.at (vec_items c.loop-act.self.views)) (take_all c.loop-act.act-index l (search rules)) (i.3 start E);
    }
