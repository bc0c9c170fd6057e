-- What a verdict means.
use Rattle.std.proofs.Common.{ℕ, ◌≤◌, Bool, ◌⊎◌, List, length, refl, ap, inl, inr, arith}
use Rattle.acts.specs.declared.Act.{Act}
use Rattle.families.specs.Judgement.{Charts, Local, HeldConversation, BeginsHeld, BreaksCc2, BreaksCc3, Broken, of_cc2, of_cc3, Upto, Told, Judgeable}
use Rattle.families.specs.Families.{Machines, Whole, Able, tree}
use Rattle.families.specs.Theorems.{Beyond, ToldMeans, VerdictMeans}
use Rattle.families.proofs.Kinding.{Cc2OrNot}
use Rattle.families.proofs.Realize.{local-run, last_whole, unbroken, tree_precise, tree_lively, run_cc3, whole_cc2}

pub upto_fewer : (u w : List Act) → Upto u w → length u ≤ length w
upto_fewer u w (inl e) = let x = ap length e in omega arith
upto_fewer u w (inr (inl h)) = omega arith
upto_fewer u w (inr (inr h)) = let x = h.0 in omega arith

module _ (G : List Act → Bool) (n : ℕ) (f : Charts) (J : Judgeable G n f) where
  pub broken_local : (k : ℕ) (w : List Act) → Broken G f k w → Local G f w
  broken_local k w (of_cc2 e b) = b.local
  broken_local k w (of_cc3 e m b) = b.local

  -- no list that breaks has fewer acts than the told one
  told_cc2 : (k : ℕ) (w : List Act) → Told G f k w → (v : List Act) → BreaksCc2 G f v → length w ≤ length v
  told_cc2 k w t v b = upto_fewer w v (t.least v 1 (of_cc2 refl b))

  told_cc3 : (k : ℕ) (w : List Act) → Told G f k w → (v : List Act) → BreaksCc3 G f v → length w ≤ length v
  told_cc3 k w t v b = elim (Cc2OrNot G n f J v b.local) [
    | inl x ↦ told_cc2 k w t v x
    | inr m ↦ upto_fewer w v (t.least v 2 (of_cc3 refl m b))
  ]

  pub told_fewest : (k : ℕ) (w : List Act) → Told G f k w → (v : List Act) → Beyond (tree f) G n f v → length w ≤ length v
  told_fewest k w t v b = elim b.beyond [
    | inl m ↦ told_cc3 k w t v (run_cc3 G n f J v b.led m)
    | inr x ↦ told_cc2 k w t v (whole_cc2 G n f J v x.1 x.0)
  ]

  module _ (M : Machines) where
    broken_beyond : (k : ℕ) (w : List Act) → Broken G f k w
        → (¬ BeginsHeld G f w) ⊎ ((¬ HeldConversation G f w) × (Able M G n f → Whole M G n w))
    broken_beyond k w (of_cc2 e b) = inr (b.broken, λ able. last_whole G n f J M able w b.local b.quiet b.last)
    broken_beyond k w (of_cc3 e m b) = inl b.broken

    pub told_means : (k : ℕ) (w : List Act) → Told G f k w → ToldMeans M G n f w
    told_means k w t = record {
      led = λ able. local-run G n f J M able w (broken_local k w t.broken);
      beyond = broken_beyond k w t.broken;
      fewest = told_fewest k w t;
    }

    pub verdict_means : VerdictMeans M G n f
    verdict_means = record {
      views_realize = λ ok. (tree_precise G n f J ok, tree_lively G n f J ok);
      realized_unbroken = unbroken G n f J M;
      told_means = told_means;
    }
