use Rattle.std.proofs.Common.{◌≡◌, ℕ, ◌<◌, length, vec_items, sym, subst, arith}
use Rattle.views.proofs.Growing.{Sound, sound, Lengthened, found, pushed, pushed_sound}
use Rattle.views.proofs.party_views.PartyViews.lengthened.Goals as goal

pub returns-in-Some : goal.returns-in-Some
returns-in-Some c =
    let s = c.args.self.now in
    let n = s.views.ok.0 in
    let h : c.args.at < length s.views.items = let p = c.requires.within in omega arith in
    let L = found s.views.items (sound s) c.args.at h c.args.act c.in-Some.k c.in-Some.ensures in
    record { below = (let b = L.below in omega arith); is = L.is; views = L.views; grown = L.grown }

pub invariant_of-self : goal.invariant_of-self
invariant_of-self c =
    let s = c.args.self.now in
    let n = s.views.ok.0 in
    let h : c.args.at < length s.views.items = let p = c.requires.within in omega arith in
    let l = c.push_reserved.ensures.len in
    let S : Sound (vec_items c.push_reserved.new.self) =
    subst Sound (sym c.push_reserved.ensures.items) (pushed_sound s.views.items (sound s) c.args.at h c.args.act c.in_default.ensures c.requires.short) in
    record {
      some = omega arith;
      few = let r = c.requires.room in omega arith;
      room = let k = c.push_reserved.ensures.capacity in let r = s.room in omega arith;
      earlier = S.earlier;
      apart = S.apart;
      short = S.short;
    }

pub returns : goal.returns
returns c =
    let s = c.args.self.now in
    let n = s.views.ok.0 in
    let h : c.args.at < length s.views.items = let p = c.requires.within in omega arith in
    let l = c.push_reserved.ensures.len in
    let number : length s.views.items ≡ c.len-number.result = let q = c.len-number.ensures in omega arith in
    let more = vec_items c.push_reserved.new.self in
    let L : Lengthened s.views.items c.args.at c.args.act c.len-number.result more =
    subst (λ (k : ℕ). Lengthened s.views.items c.args.at c.args.act k more) number
    (subst (Lengthened s.views.items c.args.at c.args.act (length s.views.items)) (sym c.push_reserved.ensures.items)
    (pushed s.views.items (sound s) c.args.at h c.args.act c.in_default.ensures)) in
    record { below = omega arith; is = L.is; views = L.views; grown = L.grown }
