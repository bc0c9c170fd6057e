-- A channel whose messages wait pair by pair is lawful; in order and in any order are such.
use Rattle.std.specs.Prelude.{◌≡◌, ℕ, zero, suc, pred, ◌+◌, ◌-◌, ◌<◌, ◌≤◌, Bool, true, false, cond, not, ◌&&◌, ◌≢◌, List, [], ◌∷◌, ◌++◌, length, ◌==◌, nat_lt, refl}
use Rattle.std.proofs.Common.{sym, ◌∙◌, ap, subst, arith}
use Rattle.std.proofs.Math.Path.{fun_ext}
use mathlib.Core.List.{tail}
use Rattle.std.proofs.lemmas.Bool.{and_parts, and_from, eqb-true, eqb-false, eq-eqb, ltb-true, lt-ltb, not-true, cond_both, false≢true}
use Rattle.acts.specs.declared.Act.{Act}
use Rattle.acts.specs.declared.Letter.{Letter}
use Rattle.acts.specs.declared.Letter.TheVariants.{Send, Receive}
use Rattle.acts.specs.Acts.{InRange, from, to, sends, receives, is_send, is_receive}
use Rattle.acts.specs.Language.{Diamond}
use Rattle.channel.specs.Meaning.{Lawful, carried}
use Rattle.channel.specs.Pairs.{granted, in_range, Way, allows, change, State, clear, may, between, carry, meaning_of, is_first, times, in_order, total, in_any_order}
use Rattle.channel.specs.Ways.{WayCrossing, WayLawful}
use Rattle.channel.specs.Steps.{StepsCrossing, StepsLawful, steps_diamond, steps_lawful}

pub in_range_holds : (a : Act) → in_range a ≡ true → InRange 6 a
in_range_holds a h =
    let h₁ = and_parts (nat_lt a.party 6) (nat_lt a.peer 6 && (not (a.peer == a.party) && nat_lt a.name 32)) h in
    let h₂ = and_parts (nat_lt a.peer 6) (not (a.peer == a.party) && nat_lt a.name 32) h₁.1 in
    let h₃ = and_parts (not (a.peer == a.party)) (nat_lt a.name 32) h₂.1 in
    record {
      party = ltb-true a.party 6 h₁.0;
      peer = ltb-true a.peer 6 h₂.0;
      apart = eqb-false a.peer a.party (not-true (a.peer == a.party) h₃.0);
      name = ltb-true a.name 32 h₃.1;
    }

-- two changes, each made or not, in either order
crossed : {X : Type 0} (b c : Bool) (f g : X → X) (x : X) → (b ≡ true → c ≡ true → g (f x) ≡ f (g x))
    → cond c (g (cond b (f x) x)) (cond b (f x) x) ≡ cond b (f (cond c (g x) x)) (cond c (g x) x)
crossed true true f g x h = h refl refl
crossed true false f g x h = refl
crossed false true f g x h = refl
crossed false false f g x h = refl

pair_of : (a : Act) (s r : ℕ) → between a s r ≡ true
    → (from a.letter a.party a.peer ≡ s) × (to a.letter a.party a.peer ≡ r)
pair_of a s r h =
    let f : ℕ = from a.letter a.party a.peer in
    let t : ℕ = to a.letter a.party a.peer in
    let k = and_parts (f == s) (t == r) h in
    (eqb-true f s k.0, eqb-true t r k.1)

module _ (W : Way) (q : State W) (a : Act) (h : may W q a ≡ true) where
  allowed : (in_range a ≡ true)
      × (allows W a.letter a.name (q (from a.letter a.party a.peer) (to a.letter a.party a.peer)) ≡ true)
  allowed =
      and_parts (in_range a) (allows W a.letter a.name (q (from a.letter a.party a.peer) (to a.letter a.party a.peer))) h

  -- and so at any pair that the act is between
  allowed_at : (s r : ℕ) → between a s r ≡ true → allows W a.letter a.name (q s r) ≡ true
  allowed_at s r e =
      let k = pair_of a s r e in
      subst (λ (y : ℕ). allows W a.letter a.name (q s y) ≡ true) k.1
      (subst (λ (y : ℕ). allows W a.letter a.name (q y (to a.letter a.party a.peer)) ≡ true) k.0 allowed.1)

module _ (W : Way) (X : WayCrossing W) where
  -- two acts of different parties on one pair: the one sends and the other receives
  commute : (l k : Letter) (p e m p' e' m' : ℕ) (x : W.Waiting) → p ≢ p' → from l p e ≡ from k p' e' → to l p e ≡ to k p' e'
      → allows W l m x ≡ true → allows W k m' x ≡ true → change W k m' (change W l m x) ≡ change W l m (change W k m' x)
  commute Send Send p e m p' e' m' x n f t ha hb = absurd (n f)
  commute Send Receive p e m p' e' m' x n f t ha hb = X.put-take x m m' hb
  commute Receive Send p e m p' e' m' x n f t ha hb = sym (X.put-take x m' m ha)
  commute Receive Receive p e m p' e' m' x n f t ha hb = absurd (n t)

  still : (l k : Letter) (p e m p' e' m' : ℕ) (x : W.Waiting) → p ≢ p' → from l p e ≡ from k p' e' → to l p e ≡ to k p' e'
      → allows W l m x ≡ true → allows W k m' x ≡ true → allows W k m' (change W l m x) ≡ true
  still Send Send p e m p' e' m' x n f t ha hb = absurd (n f)
  still Send Receive p e m p' e' m' x n f t ha hb = X.put-ready x m m' hb
  still Receive Send p e m p' e' m' x n f t ha hb = X.take_room x m ha hb
  still Receive Receive p e m p' e' m' x n f t ha hb = absurd (n t)

  stays : (q : State W) (a b : Act) → a.party ≢ b.party → may W q a ≡ true → may W q b ≡ true → may W (carry W q a) b ≡ true
  stays q a b n ha hb =
      let s : ℕ = from b.letter b.party b.peer in
      let r : ℕ = to b.letter b.party b.peer in
      let kb = allowed W q b hb in
      and_from (in_range b) (allows W b.letter b.name (carry W q a s r)) kb.0
      (cond_both (between a s r) (change W a.letter a.name (q s r)) (q s r) (λ x. allows W b.letter b.name x ≡ true)
      (λ e.
      let i = pair_of a s r e in
      still a.letter b.letter a.party a.peer a.name b.party b.peer b.name (q s r) n i.0 i.1
      (allowed_at W q a ha s r e) kb.1)
      (λ e. kb.1))

  swaps : (q : State W) (a b : Act) → a.party ≢ b.party → may W q a ≡ true → may W q b ≡ true
      → carry W (carry W q a) b ≡ carry W (carry W q b) a
  swaps q a b n ha hb = fun_ext (λ s. fun_ext (λ r.
      crossed (between a s r) (between b s r) (change W a.letter a.name) (change W b.letter b.name) (q s r)
      (λ e k.
      let i = pair_of a s r e in
      let j = pair_of b s r k in
      commute a.letter b.letter a.party a.peer a.name b.party b.peer b.name (q s r) n
      (i.0 ∙ sym j.0) (i.1 ∙ sym j.1) (allowed_at W q a ha s r e) (allowed_at W q b hb s r k))))

  pub way_crossing : StepsCrossing (may W) (carry W)
  way_crossing = record { stays = stays; swaps = swaps }

  pub way_diamond : (q : State W) → Diamond (granted (may W) (carry W) q)
  way_diamond = steps_diamond (may W) (carry W) way_crossing

module _ (W : Way) (L : WayLawful W) where
  ready : (l : Letter) (p e m : ℕ) (q : State W) → allows W l m (q (from l p e) (to l p e)) ≡ true → l ≡ Receive → 0 < W.count (q e p) m
  ready Send p e m q h k = let z : ◌≡◌ {A = ℕ} 0 1 = cc in omega arith
  ready Receive p e m q h k =
      let c = L.count_take (q e p) m m h in
      let i = ap (λ (b : Bool). cond {A = ℕ} b 1 0) (eq-eqb m m refl) in
      omega arith

  -- the counts of one act, at its own pair and at others
  sent : (b c : Bool) (x : W.Waiting) (k m : ℕ)
      → cond (b && (c && k == m)) 1 0 + W.count x m ≡ W.count (cond (b && c) (W.put k x) x) m + 0
  sent true true x k m = let f = L.count_put x k m in omega arith
  sent true false x k m = omega arith
  sent false c x k m = omega arith

  got : (b c : Bool) (x : W.Waiting) (k m : ℕ) → ((c && b) ≡ true → W.ready k x ≡ true)
      → 0 + W.count x m ≡ W.count (cond (c && b) (W.take k x) x) m + cond (b && (c && k == m)) 1 0
  got true true x k m h = let f = L.count_take x k m (h refl) in omega arith
  got true false x k m h = omega arith
  got false true x k m h = omega arith
  got false false x k m h = omega arith

  count : (l : Letter) (p e k : ℕ) (x : W.Waiting) (s r m : ℕ)
      → ((from l p e == s && to l p e == r) ≡ true → allows W l k x ≡ true)
      → cond (is_send l && (p == s && (e == r && k == m))) 1 0 + W.count x m
      ≡ W.count (cond (from l p e == s && to l p e == r) (change W l k x) x) m
      + cond (is_receive l && (p == r && (e == s && k == m))) 1 0
  count Send p e k x s r m h = sent (p == s) (e == r) x k m
  count Receive p e k x s r m h = got (p == r) (e == s) x k m h

  pub way_steps : StepsLawful (may W) (carry W) (λ q s r m. W.count (q s r) m)
  way_steps = record {
    crossing = way_crossing W L.crossing;
    range = λ q a h. in_range_holds a (allowed W q a h).0;
    ready = λ q a h e. ready a.letter a.party a.peer a.name q (allowed W q a h).1 e;
    count = λ q a h s r m. count a.letter a.party a.peer a.name (q s r) s r m (allowed_at W q a h s r);
  }

  pub way_lawful : Lawful (granted (may W) (carry W) (clear W))
  way_lawful = steps_lawful (may W) (carry W) (λ q s r m. W.count (q s r) m) way_steps (clear W) (λ s r m. L.count_none m)

  -- a carry of the state is a carried act of its meaning
  pub way_carried : (q : State W) (a : Act) → may W q a ≡ true → meaning_of W (carry W q a) ≡ carried a (meaning_of W q)
  way_carried q a h =
      let g : granted (may W) (carry W) (carry W q a) ≡ (λ l. granted (may W) (carry W) q (a ∷ l)) =
      fun_ext (λ l. sym (ap (λ (b : Bool). b && granted (may W) (carry W) (carry W q a) l) h)) in
      let count : (s r m : ℕ) → W.count (carry W q a s r) m ≡ (W.count (q s r) m + sends s r m (a ∷ [])) - receives s r m (a ∷ []) =
      λ s r m. let e = way_steps.count q a h s r m in omega arith in
      λ i. record {
        clearly = granted (may W) (carry W) (clear W);
        grants = g i;
        waits = fun_ext (λ s. fun_ext (λ r. fun_ext (λ m. count s r m))) i;
      }

-- in order
times-put : (m k : ℕ) (x : List ℕ) → times m (x ++ (k ∷ [])) ≡ cond (k == m) 1 0 + times m x
times-put m k [] = refl
times-put m k (j ∷ x) = let h = times-put m k x in omega arith

first-take : (x : List ℕ) (m : ℕ) → is_first m x ≡ true → nat_lt (length x) 32 ≡ true → nat_lt (length (tail x)) 32 ≡ true
first-take [] m h k = absurd (false≢true h)
first-take (j ∷ x) m h k = let e = ltb-true (suc (length x)) 32 k in lt-ltb (length x) 32 (omega arith)

first-swap : (x : List ℕ) (k m : ℕ) → is_first m x ≡ true → tail (x ++ (k ∷ [])) ≡ tail x ++ (k ∷ [])
first-swap [] k m h = absurd (false≢true h)
first-swap (j ∷ x) k m h = refl

first_stays : (x : List ℕ) (k m : ℕ) → is_first m x ≡ true → is_first m (x ++ (k ∷ [])) ≡ true
first_stays [] k m h = absurd (false≢true h)
first_stays (j ∷ x) k m h = h

times-take : (x : List ℕ) (k m : ℕ) → is_first k x ≡ true → times m x ≡ cond (k == m) 1 0 + times m (tail x)
times-take [] k m h = absurd (false≢true h)
times-take (j ∷ x) k m h = ap (λ (y : ℕ). cond (y == m) 1 0 + times m x) (eqb-true j k h)

pub in_order_way : WayLawful in_order
in_order_way = record {
  crossing = record { put-take = first-swap; put-ready = first_stays; take_room = first-take };
  count_none = λ m. refl;
  count_put = λ x k m. times-put m k x;
  count_take = times-take;
}

pub in_order_lawful : Lawful (granted (may in_order) (carry in_order) (clear in_order))
in_order_lawful = way_lawful in_order in_order_way

-- in any order
put_more : (b : Bool) (n : ℕ) → cond b (suc n) n ≡ cond b 1 0 + n
put_more true n = omega arith
put_more false n = omega arith

take_less : (b : Bool) (n : ℕ) → (b ≡ true → 0 < n) → n ≡ cond b 1 0 + cond b (pred n) n
take_less true n h = let k = h refl in let e : n ≡ 1 + pred n = omega arith in e
take_less false n h = omega arith

total-≤ : (n : ℕ) (x y : ℕ → ℕ) → ((i : ℕ) → x i ≤ y i) → total n x ≤ total n y
total-≤ zero x y h = omega arith
total-≤ (suc n) x y h = let a = total-≤ n x y h in let b = h n in omega arith

any_take : (x : ℕ → ℕ) (m : ℕ) → nat_lt (total 32 x) 32 ≡ true → nat_lt (total 32 (in_any_order.take m x)) 32 ≡ true
any_take x m h =
    let y : ℕ → ℕ = in_any_order.take m x in
    let a = total-≤ 32 y x (λ i. cond_both (m == i) (pred (x i)) (x i) (λ n. n ≤ x i) (λ e. let f : pred (x i) ≤ x i = omega arith in f) (λ e. omega arith)) in
    let b = ltb-true (total 32 x) 32 h in
    lt-ltb (total 32 y) 32 (omega arith)

pub in_any_order_way : WayLawful in_any_order
in_any_order_way = record {
  crossing = record {
    put-take = λ x k m h. fun_ext (λ i. crossed (k == i) (m == i) suc pred (x i)
        (λ e f. let g : 0 < x i = subst (λ (y : ℕ). 0 < x y) (eqb-true m i f) (ltb-true 0 (x m) h) in omega arith));
    put-ready = λ x k m h. lt-ltb 0 (in_any_order.put k x m)
        (cond_both (k == m) (suc (x m)) (x m) (λ y. 0 < y) (λ e. omega arith) (λ e. ltb-true 0 (x m) h));
    take_room = λ x m h. any_take x m;
  };
  count_none = λ m. refl;
  count_put = λ x k m. put_more (k == m) (x m);
  count_take = λ x k m h. take_less (k == m) (x m) (λ e. subst (λ (y : ℕ). 0 < x y) (eqb-true k m e) (ltb-true 0 (x k) h));
}

pub in_any_order_lawful : Lawful (granted (may in_any_order) (carry in_any_order) (clear in_any_order))
in_any_order_lawful = way_lawful in_any_order in_any_order_way
