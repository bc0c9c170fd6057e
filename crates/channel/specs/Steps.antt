-- A language that is granted act by act is lawful where the single acts are.
use Rattle.std.specs.Prelude.{◌≡◌, ℕ, suc, ◌+◌, ◌<◌, Bool, true, false, cond, ◌&&◌, ◌≢◌, List, [], ◌∷◌, ◌++◌}
use Rattle.std.proofs.Math.Path.{refl, sym, ap}
use Rattle.std.proofs.Common.{◌∙◌}
use Rattle.std.proofs.Math.Bool.{and_assoc}
use native.Mathlib.Omega.{arith}
use Rattle.std.proofs.lemmas.Bool.{and_parts, and_from}
use Rattle.acts.specs.declared.Act.{Act}
use Rattle.acts.specs.declared.Letter.TheVariants.{Receive}
use Rattle.acts.specs.Acts.{InRange, tally, send_of, receive_of, sends, receives}
use Rattle.acts.specs.Language.{Diamond}
use Rattle.channel.specs.Meaning.{Lawful}
use Rattle.channel.specs.Pairs.{granted}

-- acts of different parties do not hinder each other
pub record StepsCrossing {Q : Type 0} (may : Q → Act → Bool) (carry : Q → Act → Q) : Type 0 where
  pub stays : (q : Q) (a b : Act) → a.party ≢ b.party → may q a ≡ true → may q b ≡ true → may (carry q a) b ≡ true
  pub swaps : (q : Q) (a b : Act) → a.party ≢ b.party → may q a ≡ true → may q b ≡ true
      → carry (carry q a) b ≡ carry (carry q b) a

-- the laws of single acts; `waiting q s r m` of the message wait in the state q
pub record StepsLawful {Q : Type 0} (may : Q → Act → Bool) (carry : Q → Act → Q) (waiting : Q → ℕ → ℕ → ℕ → ℕ) : Type 0 where
  pub crossing : StepsCrossing may carry
  pub range : (q : Q) (a : Act) → may q a ≡ true → InRange 6 a
  pub ready : (q : Q) (a : Act) → may q a ≡ true → a.letter ≡ Receive → 0 < waiting q a.peer a.party a.name
  pub count : (q : Q) (a : Act) → may q a ≡ true → (s r m : ℕ)
      → sends s r m (a ∷ []) + waiting q s r m ≡ waiting (carry q a) s r m + receives s r m (a ∷ [])

tally-cons : (t : Act → Bool) (a : Act) (l : List Act) → tally t (a ∷ l) ≡ tally t (a ∷ []) + tally t l
tally-cons t a l = go (t a)
  where
    go : (b : Bool) → cond b (suc (tally t l)) (tally t l) ≡ cond b 1 0 + tally t l
    go true = omega arith
    go false = omega arith

module _ {Q : Type 0} (may : Q → Act → Bool) (carry : Q → Act → Q) where
  -- the state after a list
  after : Q → List Act → Q
  after q [] = q
  after q (a ∷ l) = after (carry q a) l

  granted-++ : (q : Q) (l m : List Act) → granted may carry q (l ++ m) ≡ (granted may carry q l && granted may carry (after q l) m)
  unfolding after
  granted-++ q [] m = refl
  granted-++ q (a ∷ l) m =
      ap (λ (b : Bool). may q a && b) (granted-++ (carry q a) l m)
      ∙ sym (and_assoc (may q a) (granted may carry (carry q a) l) (granted may carry (after (carry q a) l) m))

  front : (q : Q) (l m : List Act) → granted may carry q (l ++ m) ≡ true → granted may carry q l ≡ true
  front q l m h = (and_parts (granted may carry q l) (granted may carry (after q l) m) (sym (granted-++ q l m) ∙ h)).0

  -- the act that comes after l
  last : (q : Q) (l : List Act) (a : Act) → granted may carry q (l ++ (a ∷ [])) ≡ true → may (after q l) a ≡ true
  last q l a h =
      let k = and_parts (granted may carry q l) (granted may carry (after q l) (a ∷ [])) (sym (granted-++ q l (a ∷ [])) ∙ h) in
      (and_parts (may (after q l) a) true k.1).0

  two : (q : Q) (a b : Act) (m : List Act) → may q a ≡ true → may (carry q a) b ≡ true
      → granted may carry q (a ∷ b ∷ m) ≡ granted may carry (carry (carry q a) b) m
  two q a b m h k =
      ap (λ (x : Bool). x && (may (carry q a) b && granted may carry (carry (carry q a) b) m)) h
      ∙ ap (λ (x : Bool). x && granted may carry (carry (carry q a) b) m) k

  pub steps_diamond : StepsCrossing may carry → (start : Q) → Diamond (granted may carry start)
  steps_diamond X start = record {
    empty = refl;
    beginning = front start;
    both = λ l a b n h k.
        let q : Q = after start l in
        let ha : may q a ≡ true = last start l a h in
        granted-++ start l (a ∷ b ∷ [])
        ∙ and_from (granted may carry start l) (granted may carry q (a ∷ b ∷ [])) (front start l (a ∷ []) h)
        (two q a b [] ha (X.stays q a b n ha (last start l b k)));
    either = λ l a b n h k m.
        let q : Q = after start l in
        let ha : may q a ≡ true = last start l a h in
        let hb : may q b ≡ true = last start l b k in
        granted-++ start l (a ∷ b ∷ m)
        ∙ ap (λ (x : Bool). granted may carry start l && x)
        (two q a b m ha (X.stays q a b n ha hb)
        ∙ ap (λ (x : Q). granted may carry x m) (X.swaps q a b n ha hb)
        ∙ sym (two q b a m hb (X.stays q b a (λ e. n (sym e)) hb ha)))
        ∙ sym (granted-++ start l (b ∷ a ∷ m));
  }

  module _ (waiting : Q → ℕ → ℕ → ℕ → ℕ) (L : StepsLawful may carry waiting) where
    counted : (q : Q) (l : List Act) → granted may carry q l ≡ true → (s r m : ℕ)
        → sends s r m l + waiting q s r m ≡ waiting (after q l) s r m + receives s r m l
    unfolding after
    counted q [] h s r m = omega arith
    counted q (a ∷ l) h s r m =
        let k = and_parts (may q a) (granted may carry (carry q a) l) h in
        let e₁ = tally-cons (send_of s r m) a l in
        let e₂ = tally-cons (receive_of s r m) a l in
        let e₃ = L.count q a k.0 s r m in
        let e₄ = counted (carry q a) l k.1 s r m in
        omega arith

    -- where nothing waits at the start
    pub steps_lawful : (start : Q) → ((s r m : ℕ) → waiting start s r m ≡ 0) → Lawful (granted may carry start)
    steps_lawful start none = record {
      diamond = steps_diamond L.crossing start;
      range = λ l a h. L.range (after start l) a (last start l a h);
      waits = λ l a h e.
          let k = counted start l (front start l (a ∷ []) h) a.peer a.party a.name in
          let r = L.ready (after start l) a (last start l a h) e in
          let z = none a.peer a.party a.name in
          omega arith;
    }
