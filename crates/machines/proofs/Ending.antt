-- The last act of a view and the view that it lengthens.
use Rattle.std.proofs.Common.{◌≡◌, ℕ, ◌⊎◌, List, [], ◌∷◌, ◌++◌, Some, refl, ap, inl, inr}
use Rattle.acts.specs.declared.Act.{Act}
use Rattle.acts.specs.Language.{maybe}
use Rattle.numbering.specs.Numbering.{place}
use Rattle.machines.specs.Files.{last_act, lengthens, move_bytes, move_to}

pub record Ended (v : List Act) : Type 0 where
  pub before : List Act
  pub act : Act
  pub is : v ≡ before ++ (act ∷ [])

-- a view is empty or ends in an act
pub ended : (v : List Act) → (v ≡ []) ⊎ Ended v
ended [] = inl refl
ended (a ∷ v) = inr (go a v (ended v))
  where
    go : (a : Act) (v : List Act) → (v ≡ []) ⊎ Ended v → Ended (a ∷ v)
    go a v (inl e) = record { before = []; act = a; is = ap (λ (x : List Act). a ∷ x) e }
    go a v (inr e) = record { before = a ∷ e.before; act = e.act; is = ap (λ (x : List Act). a ∷ x) e.is }

pub last_push : (u : List Act) (a : Act) → last_act (u ++ (a ∷ [])) ≡ Some a
last_push [] a = refl
last_push (b ∷ []) a = refl
last_push (b ∷ c ∷ u) a = last_push (c ∷ u) a

pub lengthens-push : (u : List Act) (a : Act) → lengthens (u ++ (a ∷ [])) ≡ u
lengthens-push [] a = refl
lengthens-push (b ∷ []) a = refl
lengthens-push (b ∷ c ∷ u) a = ap (λ (x : List Act). b ∷ x) (lengthens-push (c ∷ u) a)

-- what is made of the last act and of the view that it lengthens
pub made_push : {X : Type 0} (none : X) (some : List Act → Act → X) (u : List Act) (a : Act)
    → maybe none (some (lengthens (u ++ (a ∷ [])))) (last_act (u ++ (a ∷ []))) ≡ some u a
made_push none some u a = λ i. maybe none (some (lengthens-push u a i)) (last_push u a i)

pub move_push : (views : List (List Act)) (k : ℕ) (u : List Act) (a : Act) → move_to views k (u ++ (a ∷ [])) ≡ move_bytes (place views u) k a
move_push views k u a = made_push [] (λ v. move_bytes (place views v) k) u a
