-- What is made of each of numbered views: one view more at the end, what stands in it, and its length.
use Rattle.std.proofs.Common.{◌≡◌, ℕ, zero, suc, ◌+◌, ◌<◌, List, [], ◌∷◌, ◌++◌, length, get_or, take, sym, ap, ◌∙◌, subst, inl, inr, append_assoc, append-nil, arith}
use mathlib.Core.List.Memᴰ
use mathlib.Core.List.{Memᴰ}
use Rattle.std.specs.List.{AllByRecursion}
use Rattle.std.proofs.lemmas.List.{take_more, length-take-le}
use Rattle.std.proofs.ByRecursion.{All-append}
use Rattle.acts.specs.declared.Act.{Act}
use Rattle.machines.specs.Files.{each_from}

module _ {X : Type 0} (g : ℕ → List Act → List X) where
  pub each_push : (k : ℕ) (vs : List (List Act)) (v : List Act) → each_from g k (vs ++ (v ∷ [])) ≡ each_from g k vs ++ g (k + length vs) v
  each_push k [] v =
      let e : k ≡ k + 0 = omega arith in
      append-nil (g k v) ∙ ap (λ (j : ℕ). g j v) e
  each_push k (x ∷ vs) v =
      let e : suc k + length vs ≡ k + suc (length vs) = omega arith in
      ap (λ (l : List X). g k x ++ l) (each_push (suc k) vs v ∙ ap (λ (j : ℕ). each_from g (suc k) vs ++ g j v) e)
      ∙ sym (append_assoc (g k x) (each_from g (suc k) vs) (g (k + suc (length vs)) v))

  -- the step of a loop over the views
  pub each_more : (vs : List (List Act)) (i : ℕ) → i < length vs
      → each_from g 0 (take (i + 1) vs) ≡ each_from g 0 (take i vs) ++ g i (get_or vs i [])
  each_more vs i h =
      let e : 0 + length (take i vs) ≡ i = let n = length-take-le i vs (omega arith) in omega arith in
      ap (each_from g 0) (take_more vs i [] h) ∙ each_push 0 (take i vs) (get_or vs i [])
      ∙ ap (λ (j : ℕ). each_from g 0 (take i vs) ++ g j (get_or vs i [])) e

  -- which of the views an element is made of
  pub record InEach (k : ℕ) (vs : List (List Act)) (e : X) : Type 0 where
    pub at : ℕ
    pub below : at < length vs
    pub there : Memᴰ e (g (k + at) (get_or vs at []))

  pub in_each : (k : ℕ) (vs : List (List Act)) (e : X) → Memᴰ e (each_from g k vs) → InEach k vs e
  in_each k [] e m = absurd (Memᴰ.not-nil m)
  in_each k (v ∷ vs) e m = elim (Memᴰ.append_cases (g k v) m) [
    | inl y ↦
        let z : k ≡ k + 0 = omega arith in
        record { at = 0; below = omega arith; there = subst (λ (j : ℕ). Memᴰ e (g j v)) z y }
    | inr y ↦
        let r = in_each (suc k) vs e y in
        let z : suc k + r.at ≡ k + suc r.at = omega arith in
        record {
          at = suc r.at;
          below = (let b = r.below in omega arith);
          there = subst (λ (j : ℕ). Memᴰ e (g j (get_or vs r.at []))) z r.there;
        }
  ]

  pub each_has : (k : ℕ) (vs : List (List Act)) (e : X) (at : ℕ) → at < length vs → Memᴰ e (g (k + at) (get_or vs at [])) → Memᴰ e (each_from g k vs)
  each_has k [] e at h m = absurd (omega arith)
  each_has k (v ∷ vs) e zero h m =
      let z : k + 0 ≡ k = omega arith in
      Memᴰ.append_left (each_from g (suc k) vs) (subst (λ (j : ℕ). Memᴰ e (g j v)) z m)
  each_has k (v ∷ vs) e (suc at) h m =
      let z : k + suc at ≡ suc k + at = omega arith in
      Memᴰ.append_right (g k v) (each_has (suc k) vs e at (omega arith) (subst (λ (j : ℕ). Memᴰ e (g j (get_or vs at []))) z m))

  pub each_all : (P : X → Type 0) (k : ℕ) (vs : List (List Act)) → ((at : ℕ) → at < length vs → AllByRecursion P (g (k + at) (get_or vs at []))) → AllByRecursion P (each_from g k vs)
  each_all P k [] h = tt
  each_all P k (v ∷ vs) h =
      All-append P (g k v) (each_from g (suc k) vs)
      (subst (λ (j : ℕ). AllByRecursion P (g j v)) first (h 0 (omega arith)))
      (each_all P (suc k) vs (λ at l. subst (λ (j : ℕ). AllByRecursion P (g j (get_or vs at []))) (next at) (h (suc at) (omega arith))))
    where
      first : k + 0 ≡ k
      first = omega arith

      next : (at : ℕ) → k + suc at ≡ suc k + at
      next at = omega arith
