-- The orders are strict and total; how one more act at the end compares.
use Rattle.std.proofs.Common.{◌≡◌, ℕ, ◌<◌, ◌⊎◌, List, [], ◌∷◌, ◌++◌, length, sym, refl, ◌∙◌, subst, inl, inr, arith, length-append}
use Rattle.std.proofs.lemmas.Bool.{cases_order}
use Rattle.acts.specs.declared.Act.{Act}
use Rattle.acts.specs.declared.Letter.{Letter}
use Rattle.acts.specs.declared.Letter.TheVariants.{Send, Receive}
use Rattle.acts.specs.Order.{Leftmost, rank, fields, Sooner, Before, Strict}

module _ (A : Type 0) (R : A → A → Type 0) (s : Strict R) where
  pub left_never : (u : List A) → Leftmost R u u → ⊥
  left_never [] x = x
  left_never (a ∷ u) (inl r) = s.never a r
  left_never (a ∷ u) (inr x) = left_never u x.1

  pub left_onward : (u v w : List A) → Leftmost R u v → Leftmost R v w → Leftmost R u w
  left_onward [] v w x y = absurd x
  left_onward (a ∷ u) [] w x y = absurd x
  left_onward (a ∷ u) (b ∷ v) [] x y = absurd y
  left_onward (a ∷ u) (b ∷ v) (c ∷ w) (inl r) (inl q) = inl (s.onward a b c r q)
  left_onward (a ∷ u) (b ∷ v) (c ∷ w) (inl r) (inr y) = inl (subst (λ (z : A). R a z) y.0 r)
  left_onward (a ∷ u) (b ∷ v) (c ∷ w) (inr x) (inl q) = inl (subst (λ (z : A). R z c) (sym x.0) q)
  left_onward (a ∷ u) (b ∷ v) (c ∷ w) (inr x) (inr y) = inr (x.0 ∙ y.0, left_onward u v w x.1 y.1)

  pub left-total : (u w : List A) → length u ≡ length w → (u ≡ w) ⊎ (Leftmost R u w ⊎ Leftmost R w u)
  left-total [] [] e = inl refl
  left-total [] (b ∷ w) e = absurd (omega (arith, e))
  left-total (a ∷ u) [] e = absurd (omega (arith, e))
  left-total (a ∷ u) (b ∷ w) e = go (s.total a b) (left-total u w (omega (arith, e)))
    where
      go : (a ≡ b) ⊎ (R a b ⊎ R b a) → (u ≡ w) ⊎ (Leftmost R u w ⊎ Leftmost R w u)
          → (a ∷ u ≡ b ∷ w) ⊎ (Leftmost R (a ∷ u) (b ∷ w) ⊎ Leftmost R (b ∷ w) (a ∷ u))
      go (inr (inl r)) t = inr (inl (inl r))
      go (inr (inr r)) t = inr (inr (inl r))
      go (inl q) (inl p) = inl (λ i. q i ∷ p i)
      go (inl q) (inr (inl x)) = inr (inl (inr (q, x)))
      go (inl q) (inr (inr x)) = inr (inr (inr (sym q, x)))

  -- a longer end changes nothing
  pub left_more : (u w x y : List A) → Leftmost R u w → Leftmost R (u ++ x) (w ++ y)
  left_more [] w x y l = absurd l
  left_more (a ∷ u) [] x y l = absurd l
  left_more (a ∷ u) (b ∷ w) x y (inl r) = inl r
  left_more (a ∷ u) (b ∷ w) x y (inr l) = inr (l.0, left_more u w x y l.1)

  pub left_last : (u : List A) (a b : A) → R a b → Leftmost R (u ++ (a ∷ [])) (u ++ (b ∷ []))
  left_last [] a b r = inl r
  left_last (c ∷ u) a b r = inr (refl, left_last u a b r)

less_strict : Strict ◌<◌
less_strict = record { never = λ a h. omega arith; onward = λ a b c h k. omega arith; total = cases_order }

rank_same : (x y : Letter) → rank x ≡ rank y → x ≡ y
rank_same Send Send e = refl
rank_same Send Receive e = absurd (omega (arith, e))
rank_same Receive Send e = absurd (omega (arith, e))
rank_same Receive Receive e = refl

fields_same : (a b : Act) → fields a ≡ fields b → a ≡ b
fields_same a b e =
    let p : a.party ≡ b.party = cc in
    let r : rank a.letter ≡ rank b.letter = cc in
    let q : a.peer ≡ b.peer = cc in
    let n : a.name ≡ b.name = cc in
    let l : a.letter ≡ b.letter = rank_same a.letter b.letter r in
    λ i. record { party = p i; letter = l i; peer = q i; name = n i }

pub sooner_strict : Strict Sooner
sooner_strict = record {
  never = λ a. left_never ℕ ◌<◌ less_strict (fields a);
  onward = λ a b c. left_onward ℕ ◌<◌ less_strict (fields a) (fields b) (fields c);
  total = λ a b. go a b (left-total ℕ ◌<◌ less_strict (fields a) (fields b) refl);
}
  where
    go : (a b : Act) → (fields a ≡ fields b) ⊎ (Sooner a b ⊎ Sooner b a) → (a ≡ b) ⊎ (Sooner a b ⊎ Sooner b a)
    go a b (inl e) = inl (fields_same a b e)
    go a b (inr x) = inr x

before_onward : (u v w : List Act) → Before u v → Before v w → Before u w
before_onward u v w (inl h) (inl k) = inl (omega arith)
before_onward u v w (inl h) (inr k) = inl (omega arith)
before_onward u v w (inr h) (inl k) = inl (omega arith)
before_onward u v w (inr h) (inr k) = inr (h.0 ∙ k.0, left_onward Act Sooner sooner_strict u v w h.1 k.1)

before_never : (u : List Act) → Before u u → ⊥
before_never u (inl h) = omega arith
before_never u (inr h) = left_never Act Sooner sooner_strict u h.1

before_total : (u w : List Act) → (u ≡ w) ⊎ (Before u w ⊎ Before w u)
before_total u w = go (cases_order (length u) (length w))
  where
    same : length u ≡ length w → (u ≡ w) ⊎ (Leftmost Sooner u w ⊎ Leftmost Sooner w u) → (u ≡ w) ⊎ (Before u w ⊎ Before w u)
    same e (inl p) = inl p
    same e (inr (inl x)) = inr (inl (inr (e, x)))
    same e (inr (inr x)) = inr (inr (inr (sym e, x)))

    go : (length u ≡ length w) ⊎ ((length u < length w) ⊎ (length w < length u)) → (u ≡ w) ⊎ (Before u w ⊎ Before w u)
    go (inl e) = same e (left-total Act Sooner sooner_strict u w e)
    go (inr (inl h)) = inr (inl (inl h))
    go (inr (inr h)) = inr (inr (inl h))

pub before_strict : Strict Before
before_strict = record { never = before_never; onward = before_onward; total = before_total }

-- one more act at the end of each
pub before_more : (u w : List Act) (a b : Act) → Before u w → Before (u ++ (a ∷ [])) (w ++ (b ∷ []))
before_more u w a b (inl h) = inl (simp length-append (omega arith))
before_more u w a b (inr h) =
    inr (simp length-append (omega (arith, h.0)), left_more Act Sooner sooner_strict u w (a ∷ []) (b ∷ []) h.1)

pub before_last : (u : List Act) (a b : Act) → Sooner a b → Before (u ++ (a ∷ [])) (u ++ (b ∷ []))
before_last u a b r = inr (simp length-append (omega arith), left_last Act Sooner sooner_strict u a b r)

pub before_longer : (u : List Act) (a : Act) → Before u (u ++ (a ∷ []))
before_longer u a = inl (simp length-append (omega arith))
