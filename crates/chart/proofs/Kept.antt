-- What a chart's type keeps, got out of its truncations.
use Rattle.std.proofs.Common.{◌≡◌, ℕ, zero, suc, ◌*◌, ◌≤◌, List, [], ◌∷◌, length, sym, refl, ap, ◌∙◌, subst, inl, inr, arith, lit≤}
use mathlib.Core.Logic.{∥∥₁_elim}
use mathlib.Core.HLevel.{⊥_prop, Unit-prop, ¬_prop, ×_prop}
use native.Mathlib.Bridge.{le_prop}
use native.Mathlib.Nat.{ℕ_set}
use Rattle.std.specs.List.{AllByRecursion}
use Rattle.std.proofs.lemmas.Bool.{cases_lt}
use Rattle.acts.specs.declared.Act.{Act}
use Rattle.acts.specs.Acts.{InRange, Lines, line, sends, receives}
use Rattle.acts.specs.Language.{plays, run, size}
use Rattle.acts.proofs.Playing.{plays_diamond, plays_causal}
use Rattle.acts.proofs.Running.{run-longest}
use Rattle.lines.specs.Charts.{Fine, Lined, Paired, Playable, LongestOrder, IsChart}
use Rattle.files.proofs.Lined.{begun_own, longest-orders, longest_below, playable_from, not_playable_from}

range_prop : (n : ℕ) (a : Act) → IsProp (InRange n a)
range_prop n a x y i = record {
  party = le_prop x.party y.party i;
  peer = le_prop x.peer y.peer i;
  apart = ¬_prop x.apart y.apart i;
  name = le_prop x.name y.name i;
}

all_prop : (P : Act → Type 0) → ((a : Act) → IsProp (P a)) → (l : List Act) → IsProp (AllByRecursion P l)
all_prop P h [] = Unit-prop
all_prop P h (a ∷ l) = ×_prop (h a) (all_prop P h l)

fine_prop : (n p : ℕ) (l : List Act) → IsProp (Fine n p l)
fine_prop n p l x y i = record {
  short = le_prop x.short y.short i;
  acts = all_prop (λ a. InRange n a × (a.party ≡ p)) (λ a. ×_prop (range_prop n a) (ℕ_set a.party p)) l x.acts y.acts i;
}

pub lined_prop : (c : Lines) → IsProp (Lined c)
lined_prop c x y i = record {
  low = le_prop x.low y.low i;
  high = le_prop x.high y.high i;
  few = le_prop x.few y.few i;
  fine = λ p. fine_prop (length c) p (line c p) (x.fine p) (y.fine p) i;
}

pub lined_from : (c : Lines) → ∥ Lined c ∥₁ → Lined c
lined_from c t = ∥∥₁_elim t (lined_prop c) (λ x. x)

-- whether a chart can be played is decided, so an order can be had
pub playable_of : (c : Lines) → Lined c → ∥ Playable c ∥₁ → Playable c
playable_of c L t =
    let k : ℕ = length (run plays c (size c) []) in
    let o : LongestOrder c k = longest-orders c k (run-longest plays plays_diamond c (begun_own (length c) c L)) in
    elim (cases_lt k (size c)) [
      | inl h ↦ absurd (∥∥₁_elim t ⊥_prop (not_playable_from c k L o h))
      | inr h ↦ playable_from c L (subst (LongestOrder c) (let b = longest_below c k L o in let e : k ≡ size c = omega arith in e) o)
    ]

pub is_chart : (c : Lines) → ∥ Lined c ∥₁ → Paired c → ∥ Playable c ∥₁ → IsChart c
is_chart c l p t =
    let L : Lined c = lined_from c l in
    record { lined = L; paired = p; playable = playable_of c L t }

-- six lines of 32 acts at most
size_by : (c : Lines) → ((p : ℕ) → length (line c p) ≤ 32) → size c ≤ 32 * length c
size_by [] h = omega arith
size_by (l ∷ c) h = let e = h 0 in let f = size_by c (λ p. h (suc p)) in omega arith

pub size_bound : (c : Lines) → ∥ Lined c ∥₁ → (size c ≤ 192) × (length c ≤ 6)
size_bound c t =
    let L : Lined c = lined_from c t in
    let e = size_by c (λ p. (L.fine p).short) in
    let f = L.high in
    (omega arith, f)

-- no line past the two has an act
bare_line : (p : ℕ) → line ([] ∷ [] ∷ []) p ≡ []
bare_line zero = refl
bare_line (suc zero) = refl
bare_line (suc (suc p)) = refl

-- two parties and no act are a chart
pub bare : IsChart ([] ∷ [] ∷ [])
bare = record {
  lined = record {
    low = lit≤ tt;
    high = lit≤ tt;
    few = lit≤ tt;
    fine = λ p. subst (Fine 2 p) (sym (bare_line p)) (record { short = lit≤ tt; acts = tt });
  };
  paired = λ s r m. ap (sends s r m) (bare_line s) ∙ sym (ap (receives s r m) (bare_line r));
  playable = record {
    order = [];
    playing = record { causal = plays_causal [] refl; along = λ p. (line ([] ∷ [] ∷ []) p, refl) };
    all = λ p. sym (bare_line p);
  };
}
