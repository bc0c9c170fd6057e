-- Acts in range, and lines and parts past the parties of a chart.
use Rattle.std.proofs.Common.{◌≡◌, ℕ, ◌≤◌, Bool, true, List, [], ◌∷◌, ◌++◌, length, sym, refl, ap, ◌∙◌, subst, append_assoc, arith}
use mathlib.Core.List.{cons-ne-nil}
use native.Mathlib.Decide.{ℕ_discrete}
use lib.ListN.{get_or-eq_default}
use Rattle.std.specs.List.{AllByRecursion}
use Rattle.std.proofs.ByRecursion.{All-weaker}
use Rattle.acts.specs.declared.Act.{Act}
use Rattle.acts.specs.Acts.{InRange, part, Beginning, Lines, line}
use Rattle.acts.proofs.Parts.{part_own, part-other}
use Rattle.lines.specs.Charts.{Lined}
use Rattle.channel.specs.Meaning.{Lawful}

pub past_end : (c : Lines) (n p : ℕ) → length c ≡ n → n ≤ p → line c p ≡ []
past_end c n p e h = get_or-eq_default c [] (subst (λ (k : ℕ). k ≤ p) (sym e) h)

-- only the empty list is a beginning of the empty list
pub none-begins : (v l : List Act) → Beginning v l → l ≡ [] → v ≡ []
none-begins [] l b e = refl
none-begins (a ∷ v) l b e = absurd (cons-ne-nil a (v ++ b.0) (b.1 ∙ e))

pub all_left : (P : Act → Type 0) (v r : List Act) → AllByRecursion P (v ++ r) → AllByRecursion P v
all_left P [] r h = tt
all_left P (a ∷ v) r h = (h.0, all_left P v r h.1)

pub all_right : (P : Act → Type 0) (v r : List Act) → AllByRecursion P (v ++ r) → AllByRecursion P r
all_right P [] r h = h
all_right P (a ∷ v) r h = all_right P v r h.1

-- what holds of the acts of each part holds of all
pub all_parts : (P : Act → Type 0) (w : List Act) → ((p : ℕ) → AllByRecursion P (part p w)) → AllByRecursion P w
all_parts P [] h = tt
all_parts P (a ∷ w) h = (
  (subst (AllByRecursion P) (part_own a.party a w refl) (h a.party)).0,
  all_parts P w rest,
)
  where
    rest : (p : ℕ) → AllByRecursion P (part p w)
    rest p = elim (ℕ_discrete a.party p) [
      | yes e ↦ (subst (AllByRecursion P) (part_own p a w e) (h p)).1
      | no n ↦ subst (AllByRecursion P) (part-other p a w n) (h p)
    ]

-- a party past the range has no acts
pub none_past : (n p : ℕ) (w : List Act) → AllByRecursion (InRange n) w → n ≤ p → part p w ≡ []
none_past n p [] h k = refl
none_past n p (a ∷ w) h k =
    part-other p a w (λ e. let b = h.0.party in omega arith) ∙ none_past n p w h.1 k

-- the acts of a chart's lines are in range
pub line_range : (n : ℕ) (c : Lines) → Lined c → length c ≡ n → (p : ℕ) → AllByRecursion (InRange n) (line c p)
line_range n c l e p =
    subst (λ (k : ℕ). AllByRecursion (InRange k) (line c p)) e
    (All-weaker (λ a. InRange (length c) a × (a.party ≡ p)) (InRange (length c)) (λ a h. h.0) (line c p) (l.fine p).acts)

-- the acts of a granted list are in range for six parties
granted-from : (G : List Act → Bool) → Lawful G → (todo done : List Act) → G (done ++ todo) ≡ true → AllByRecursion (InRange 6) todo
granted-from G lawful [] done g = tt
granted-from G lawful (a ∷ todo) done g =
    let next : G ((done ++ (a ∷ [])) ++ todo) ≡ true = ap G (append_assoc done (a ∷ []) todo) ∙ g in (
      lawful.range done a (lawful.diamond.beginning (done ++ (a ∷ [])) todo next),
      granted-from G lawful todo (done ++ (a ∷ [])) next,
    )

pub granted_range : (G : List Act → Bool) → Lawful G → (w : List Act) → G w ≡ true → AllByRecursion (InRange 6) w
granted_range G lawful w g = granted-from G lawful w [] g
