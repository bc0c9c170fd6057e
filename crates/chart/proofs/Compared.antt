-- What `==` says of acts, lists of acts and lines.
use Rattle.std.proofs.Common.{◌≡◌, ℕ, suc, ◌+◌, Bool, ◌&&◌, List, [], ◌∷◌, length, Decides, sym, refl, ap, ◌∙◌, add-zero, zero-add, arith, rules}
use Rattle.std.specs.List.{list_all, range_with_len}
use Rattle.std.proofs.lemmas.Slice.Eq.{slice_eq-Decides}
use Rattle.std.specs.Cmp.Lexicographic.{pointwise}
use Rattle.acts.specs.declared.Act.{Act}
use Rattle.acts.specs.Acts.{Lines, line}
use Rattle.chart.specs.Same.{same_acts, same_lines}

act_decides : (a b : Act) → Decides (same_acts a b) (a ≡ b)
act_decides a b = search rules

-- two lists of acts
pub acts_decide : (xs ys : List Act) → Decides (pointwise same_acts xs ys) (xs ≡ ys)
acts_decide xs ys = slice_eq-Decides act_decides xs ys (pointwise same_acts xs ys) refl

-- two charts' lines
pub lines_decide : (c d : Lines) → Decides (same_lines c d) (c ≡ d)
lines_decide c d = slice_eq-Decides acts_decide c d (same_lines c d) refl

-- line by line, the lines being read off by their parties from k on
by_party : (f g : ℕ → List Act) (k : ℕ) (c d : Lines) → length c ≡ length d → ((i : ℕ) → f (k + i) ≡ line c i) → ((i : ℕ) → g (k + i) ≡ line d i)
    → list_all (λ p. pointwise same_acts (f p) (g p)) (range_with_len k (length c)) ≡ same_lines c d
by_party f g k [] [] e p q = refl
by_party f g k [] (m ∷ d) e p q = absurd (omega arith)
by_party f g k (l ∷ c) [] e p q = absurd (omega arith)
by_party f g k (l ∷ c) (m ∷ d) e p q =
    let x : f k ≡ l = ap f (sym (add-zero k)) ∙ p 0 in
    let y : g k ≡ m = ap g (sym (add-zero k)) ∙ q 0 in
    let z : list_all (λ p. pointwise same_acts (f p) (g p)) (range_with_len (k + 1) (length c)) ≡ same_lines c d =
    by_party f g (k + 1) c d (omega arith) (λ i. ap f (let n : (k + 1) + i ≡ k + suc i = omega arith in n) ∙ p (suc i))
    (λ i. ap g (let n : (k + 1) + i ≡ k + suc i = omega arith in n) ∙ q (suc i)) in
    ap (λ (b : Bool). b && list_all (λ p. pointwise same_acts (f p) (g p)) (range_with_len (k + 1) (length c))) (ap (pointwise same_acts (f k)) y ∙ ap (λ (v : List Act). pointwise same_acts v m) x)
    ∙ ap (λ (b : Bool). pointwise same_acts l m && b) z

pub all_parties : (c d : Lines) (n : ℕ) → n ≡ length c → n ≡ length d
    → list_all (λ p. pointwise same_acts (line c p) (line d p)) (range_with_len 0 n) ≡ same_lines c d
all_parties c d n e h =
    ap (λ (k : ℕ). list_all (λ p. pointwise same_acts (line c p) (line d p)) (range_with_len 0 k)) e
    ∙ by_party (line c) (line d) 0 c d (sym e ∙ h) (λ i. ap (line c) (zero-add i)) (λ i. ap (line d) (zero-add i))
