-- The least number that passes a test; equal lines.
use Rattle.std.proofs.Common.{◌≡◌, ℕ, zero, suc, ◌<◌, Bool, true, false, cond, eqb, List, [], ◌∷◌, Some, None, Option, refl, ap, ◌∙◌, subst, inl, inr, arith}
use Rattle.std.proofs.lemmas.Bool.{and_parts, and_from, eqb-true, eq-eqb, false≢true, cases_order}
use Rattle.acts.specs.declared.Act.{Act}
use Rattle.acts.specs.declared.Letter.{Letter}
use Rattle.acts.specs.declared.Letter.TheVariants.{Send, Receive}
use Rattle.acts.specs.Acts.{Lines}
use Rattle.acts.specs.Order.{rank}
use Rattle.answering.specs.Answering.{same_act, same_list, equal_lines, or_new, least}

-- where nothing below k passes, nothing is found
pub none-least : (k : ℕ) (t : ℕ → Bool) → ((j : ℕ) → j < k → t j ≡ true → ⊥) → least k t ≡ None
none-least zero t h = refl
none-least (suc k) t h =
    ap (λ (o : Option ℕ). or_new o (t k) k) (none-least k t (λ j g. h j (omega arith))) ∙ go (t k) refl
  where
    go : (b : Bool) → t k ≡ b → cond b (Some k) None ≡ None
    go true e = absurd (h k (omega arith) e)
    go false e = refl

-- what is found passes, and is below k
pub record Found (k : ℕ) (t : ℕ → Bool) : Type 0 where
  pub at : ℕ
  pub is : least k t ≡ Some at
  pub below : at < k
  pub passes : t at ≡ true

later : (k : ℕ) (t : ℕ → Bool) → Found k t → Found (suc k) t
later k t f = record { at = f.at; is = ap (λ (o : Option ℕ). or_new o (t k) k) f.is; below = (let b = f.below in omega arith); passes = f.passes }

-- what stands as found was found
pub found_at : (k : ℕ) (t : ℕ → Bool) (x : ℕ) → least k t ≡ Some x → (x < k) × (t x ≡ true)
found_at zero t x e = let z : ◌≡◌ {A = ℕ} 0 1 = cc in absurd (omega arith)
found_at (suc k) t x e = go (least k t) refl (t k) refl (found_at k t) e
  where
    go : (o : Option ℕ) → least k t ≡ o → (b : Bool) → t k ≡ b → ((y : ℕ) → least k t ≡ Some y → (y < k) × (t y ≡ true))
        → or_new o b k ≡ Some x → (x < suc k) × (t x ≡ true)
    go (Some y) p b q f r =
        let same : y ≡ x = cc in
        let g = f x (p ∙ ap Some same) in
        (omega arith, g.1)
    go None p true q f r = let same : k ≡ x = cc in (omega arith, subst (λ (i : ℕ). t i ≡ true) same q)
    go None p false q f r = let z : ◌≡◌ {A = ℕ} 0 1 = cc in absurd (omega arith)

-- where something below k passes, something is found
pub some-least : (k : ℕ) (t : ℕ → Bool) (j : ℕ) → j < k → t j ≡ true → Found k t
some-least zero t j h e = absurd (omega arith)
some-least (suc k) t j h e = elim (cases_order j k) [
  | inl q ↦ new (least k t) refl (subst (λ (i : ℕ). t i ≡ true) q e)
  | inr (inl l) ↦ later k t (some-least k t j l e)
  | inr (inr g) ↦ absurd (omega arith)
]
  where
    new : (o : Option ℕ) → least k t ≡ o → t k ≡ true → Found (suc k) t
    new (Some x) p q = let g = found_at k t x p in later k t (record { at = x; is = p; below = g.0; passes = g.1 })
    new None p q = record {
      at = k;
      is = ap (λ (o : Option ℕ). or_new o (t k) k) p ∙ ap (λ (b : Bool). cond b (Some k) None) q;
      below = omega arith;
      passes = q;
    }

rank_same : (x y : Letter) → rank x ≡ rank y → x ≡ y
rank_same Send Send e = refl
rank_same Send Receive e = absurd (omega (arith, e))
rank_same Receive Send e = absurd (omega (arith, e))
rank_same Receive Receive e = refl

-- the tests of equality are right
pub same_act_lem : (a b : Act) → same_act a b ≡ true → a ≡ b
same_act_lem a b h =
    let h₁ = and_parts (eqb a.party b.party) _ h in
    let h₂ = and_parts (eqb (rank a.letter) (rank b.letter)) _ h₁.1 in
    let h₃ = and_parts (eqb a.peer b.peer) _ h₂.1 in
    let p = eqb-true a.party b.party h₁.0 in
    let l = rank_same a.letter b.letter (eqb-true (rank a.letter) (rank b.letter) h₂.0) in
    let q = eqb-true a.peer b.peer h₃.0 in
    let n = eqb-true a.name b.name h₃.1 in
    λ i. record { party = p i; letter = l i; peer = q i; name = n i }

pub act_same : (a : Act) → same_act a a ≡ true
act_same a =
    and_from (eqb a.party a.party) _ (eq-eqb a.party a.party refl)
    (and_from (eqb (rank a.letter) (rank a.letter)) _ (eq-eqb (rank a.letter) (rank a.letter) refl)
    (and_from (eqb a.peer a.peer) _ (eq-eqb a.peer a.peer refl) (eq-eqb a.name a.name refl)))

same_list_lem : {X : Type 0} (t : X → X → Bool) → ((x y : X) → t x y ≡ true → x ≡ y) → (u w : List X) → same_list t u w ≡ true → u ≡ w
same_list_lem t f [] [] h = refl
same_list_lem t f [] (y ∷ w) h = absurd (false≢true h)
same_list_lem t f (x ∷ u) [] h = absurd (false≢true h)
same_list_lem t f (x ∷ u) (y ∷ w) h =
    let k = and_parts (t x y) (same_list t u w) h in
    let p = f x y k.0 in
    let q = same_list_lem t f u w k.1 in
    λ i. p i ∷ q i

list_same : {X : Type 0} (t : X → X → Bool) → ((x : X) → t x x ≡ true) → (u : List X) → same_list t u u ≡ true
list_same t f [] = refl
list_same t f (x ∷ u) = and_from (t x x) (same_list t u u) (f x) (list_same t f u)

pub same_lines : (c d : Lines) → equal_lines c d ≡ true → c ≡ d
same_lines = same_list_lem (same_list same_act) (same_list_lem same_act same_act_lem)

pub lines_same : (c : Lines) → equal_lines c c ≡ true
lines_same = list_same (same_list same_act) (list_same same_act act_same)
