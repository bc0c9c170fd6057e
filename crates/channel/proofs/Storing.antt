-- A channel that stores what waits in a list of 36 places: what is read, changed and cleared there.
use Rattle.std.proofs.Common.{◌≡◌, ℕ, ◌/◌, ◌%◌, ◌<◌, ◌↔◌, Bool, true, false, cond, ◌&&◌, eqb, ltb, List, [], ◌∷◌, map, length, get_or, set, sym, refl, ap, ◌∙◌, subst, arith}
use mathlib.Core.Path.{fun_ext}
use mathlib.Core.Bool.{false≢true}
use Rattle.std.proofs.lemmas.List.{get_or-set_same, get_or-set_other, get_or-map, map-set, length-map}
use Rattle.std.proofs.lemmas.Bool.{and_parts, and_from, eqb-true, eq-eqb, ltb-true, lt-ltb, cond-true, cond-false, cond_both, both_ways}
use Rattle.std.specs.Bool.{MatchBool}
use Rattle.std.specs.List.{AllWithin, HoldsAt}
use Rattle.acts.specs.declared.Act.{Act}
use Rattle.acts.specs.declared.Letter.{Letter}
use Rattle.acts.specs.declared.Letter.TheVariants.{Send, Receive}
use Rattle.acts.specs.Acts.{InRange, from, to}
use Rattle.channel.specs.Meaning.{cleared, carried, Still}
use Rattle.channel.specs.Pairs.{granted, in_range, Way, allows, change, State, clear, may, carry, meaning_of}
use Rattle.channel.specs.Places.{slot, place_of, stored, meaning_in}
use Rattle.channel.specs.Ways.{WayLawful}
use Rattle.channel.specs.WaysLemmas.{in_range_holds, way_carried}

both_below : (s r : ℕ) → (ltb s 6 && ltb r 6) ≡ true → (s < 6) × (r < 6)
both_below s r t =
    let k = and_parts (ltb s 6) (ltb r 6) t in
    (ltb-true s 6 k.0, ltb-true r 6 k.1)

ends_below : (l : Letter) (p e : ℕ) → p < 6 → e < 6 → (from l p e < 6) × (to l p e < 6)
ends_below Send p e hp he = (hp, he)
ends_below Receive p e hp he = (he, hp)

-- what waits at a place
abbrev pub at : (W : Way) → {X : Type 0} → (X → W.Waiting) → List X → ℕ → W.Waiting
at W held xs k = get_or (map held xs) k W.none

-- nothing waits
abbrev pub Bare : (W : Way) → W.Waiting → Type 0
Bare W x = (m : ℕ) → W.count x m ≡ 0

module _ (W : Way) {X : Type 0} (held : X → W.Waiting) where
  pub at_place : (xs : List X) (k : ℕ) (x : X) → k < length xs → at W held xs k ≡ held (get_or xs k x)
  at_place xs k x h = get_or-map held xs k x W.none h

  -- what holds of the item at a place holds of what waits there
  at_each : (P : W.Waiting → Type 0) (xs : List X) (k : ℕ) → k < length xs → HoldsAt (λ x. P (held x)) xs k → P (at W held xs k)
  at_each P [] k h z = absurd (omega arith)
  at_each P (x ∷ xs) k h z = subst P (sym (at_place (x ∷ xs) k x h)) (z x)

  read : (xs : List X) (s r : ℕ) → s < 6 → r < 6 → stored W held xs s r ≡ at W held xs (slot s r)
  read xs s r hs hr =
      cond-true (ltb s 6 && ltb r 6) (at W held xs (slot s r)) W.none (and_from (ltb s 6) (ltb r 6) (lt-ltb s 6 hs) (lt-ltb r 6 hr))

  -- what holds at each place, and where there is none, holds of the state
  by_place : (xs : List X) (s r : ℕ) (P : W.Waiting → Type 0) → (s < 6 → r < 6 → P (at W held xs (slot s r)))
      → ((ltb s 6 && ltb r 6) ≡ false → P W.none) → P (stored W held xs s r)
  by_place xs s r P f = cond_both (ltb s 6 && ltb r 6) (at W held xs (slot s r)) W.none P (λ t. let k = both_below s r t in f k.0 k.1)

  -- nothing waits anywhere
  pub stored-none : (xs : List X) → length xs ≡ 36 → AllWithin (λ x. held x ≡ W.none) xs 0 36 → meaning_in W held xs ≡ meaning_of W (clear W)
  stored-none xs size z = ap (meaning_of W) (fun_ext (λ s. fun_ext (λ r.
      by_place xs s r (λ x. x ≡ W.none)
      (λ hs hr. at_each (λ x. x ≡ W.none) xs (slot s r) (omega arith) (λ x. z (slot s r) x (omega arith) (omega arith)))
      (λ t. refl))))

  pub stored-cleared : WayLawful W → (xs : List X) → length xs ≡ 36 → AllWithin (λ x. held x ≡ W.none) xs 0 36 → (q : State W)
      → meaning_in W held xs ≡ cleared (meaning_of W q)
  stored-cleared L xs size z q =
      stored-none xs size z
      ∙ λ i. record {
        clearly = granted (may W) (carry W) (clear W);
        grants = granted (may W) (carry W) (clear W);
        waits = λ s r m. L.count_none m i;
      }

  pub empty_still : WayLawful W → (xs : List X) → ((k : ℕ) → k < 36 → Bare W (at W held xs k)) → Still (meaning_in W held xs)
  empty_still L xs z s r m = by_place xs s r (λ x. W.count x m ≡ 0) (λ hs hr. z (slot s r) (omega arith) m) (λ t. L.count_none m)

  pub still_empty : (xs : List X) → Still (meaning_in W held xs) → (k : ℕ) → k < 36 → Bare W (at W held xs k)
  still_empty xs z k h m =
      let s : ℕ = k / 6 in
      let r : ℕ = k % 6 in
      let e : k ≡ slot s r = omega arith in
      ap (λ (j : ℕ). W.count (at W held xs j) m) e
      ∙ ap (λ (x : W.Waiting). W.count x m) (sym (read xs s r (omega arith) (omega arith)))
      ∙ z s r m

  -- the answer of asking each item whether nothing waits there
  pub all_still : WayLawful W → (xs : List X) (b : Bool)
      → MatchBool b (AllWithin (λ x. Bare W (held x)) xs 0 (length xs)) ((k : ℕ) × (k < length xs) × HoldsAt (λ x. Bare W (held x) → ⊥) xs k)
      → length xs ≡ 36 → (b ≡ true) ↔ Still (meaning_in W held xs)
  all_still L xs true z size =
      (λ e. empty_still L xs (λ k h. at_each (Bare W) xs k (omega arith) (λ x. z k x (omega arith) (omega arith))), λ s. refl)
  all_still L xs false z size =
      (λ e. absurd (false≢true e), λ s. absurd (at_each (λ y. Bare W y → ⊥) xs z.0 z.1 z.2 (still_empty xs s z.0 (omega arith))))

  -- one place changed
  module _ (xs : List X) (s r : ℕ) (y : X) (size : length xs ≡ 36) (hs : s < 6) (hr : r < 6) where
    here : stored W held (set xs (slot s r) y) s r ≡ held y
    here =
        read (set xs (slot s r) y) s r hs hr
        ∙ ap (λ (zs : List W.Waiting). get_or zs (slot s r) W.none) (map-set held xs (slot s r) y)
        ∙ get_or-set_same (map held xs) (slot s r) (held y) W.none (let e = length-map xs held in omega arith)

    elsewhere : (s' r' : ℕ) → (eqb s s' && eqb r r') ≡ false → stored W held (set xs (slot s r) y) s' r' ≡ stored W held xs s' r'
    elsewhere s' r' e = by_place (set xs (slot s r) y) s' r' (λ z. z ≡ stored W held xs s' r')
        (λ hs' hr'.
        ap (λ (zs : List W.Waiting). get_or zs (slot s' r') W.none) (map-set held xs (slot s r) y)
        ∙ get_or-set_other (map held xs) (slot s r) (slot s' r') (held y) W.none (λ k.
        both_ways (eqb s s' && eqb r r') e
        (and_from (eqb s s') (eqb r r') (eq-eqb s s' (omega arith)) (eq-eqb r r' (omega arith))))
        ∙ sym (read xs s' r' hs' hr'))
        (λ t. sym (cond-false (ltb s' 6 && ltb r' 6) (at W held xs (slot s' r')) W.none t))

    changed : (f : W.Waiting → W.Waiting) → held y ≡ f (stored W held xs s r)
        → stored W held (set xs (slot s r) y) ≡ (λ s' r'. cond (eqb s s' && eqb r r') (f (stored W held xs s' r')) (stored W held xs s' r'))
    changed f e = fun_ext (λ s'. fun_ext (λ r'.
        let ys : List X = set xs (slot s r) y in
        cond_both (eqb s s' && eqb r r') (f (stored W held xs s' r')) (stored W held xs s' r') (λ z. stored W held ys s' r' ≡ z)
        (λ t.
        let k = and_parts (eqb s s') (eqb r r') t in
        subst (λ (j : ℕ). stored W held ys s' j ≡ f (stored W held xs s' j)) (eqb-true r r' k.1)
        (subst (λ (j : ℕ). stored W held ys j r ≡ f (stored W held xs j r)) (eqb-true s s' k.0) (here ∙ e)))
        (elsewhere s' r')))

-- an allowed act is carried by changing the item at its place
pub stored-carried : (W : Way) {X : Type 0} (held : X → W.Waiting) → WayLawful W → (xs : List X) (i : ℕ) (x y : X) (a : Act) → length xs ≡ 36
    → in_range a ≡ true → i ≡ place_of a → allows W a.letter a.name (held (get_or xs i x)) ≡ true
    → held y ≡ change W a.letter a.name (held (get_or xs i x)) → meaning_in W held (set xs i y) ≡ carried a (meaning_in W held xs)
stored-carried W held L xs i x y a size known place h e =
    let s : ℕ = from a.letter a.party a.peer in
    let r : ℕ = to a.letter a.party a.peer in
    let q : State W = stored W held xs in
    let k : InRange 6 a = in_range_holds a known in
    let b : (s < 6) × (r < 6) = ends_below a.letter a.party a.peer k.party k.peer in
    let here : q s r ≡ held (get_or xs i x) =
    read W held xs s r b.0 b.1 ∙ ap (at W held xs) (sym place) ∙ at_place W held xs i x (omega arith) in
    ap (λ (j : ℕ). meaning_in W held (set xs j y)) place
    ∙ ap (meaning_of W) (changed W held xs s r y size b.0 b.1 (change W a.letter a.name) (e ∙ ap (change W a.letter a.name) (sym here)))
    ∙ way_carried W L q a (and_from (in_range a) (allows W a.letter a.name (q s r)) known (ap (allows W a.letter a.name) here ∙ h))
