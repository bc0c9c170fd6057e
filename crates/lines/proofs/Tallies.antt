-- Counting the acts of a list that pass a test, by std's count and one after another.
use Rattle.std.proofs.Common.{◌≡◌, ℕ, suc, ◌+◌, ◌<◌, ◌≤◌, Bool, true, false, cond, List, [], ◌∷◌, ◌++◌, length, get_or, take, sym, refl, ap, ◌∙◌, subst, arith}
use Rattle.std.proofs.lemmas.List.{take_more, take_all}
use Rattle.std.specs.List.{count_by}
use Rattle.std.proofs.lemmas.List.Recursion.{is_count_by}
use Rattle.acts.specs.declared.Act.{Act}
use Rattle.acts.specs.Acts.{tally}

-- std's count of the same
pub tally_count : (t : Act → Bool) (w : List Act) → tally t w ≡ count_by t w
tally_count t w = is_count_by (tally t) t refl (λ a v. go (t a) (tally t v)) w
  where
    go : (b : Bool) (n : ℕ) → cond b (suc n) n ≡ cond b (1 + n) n
    go true n = omega arith
    go false n = refl

pub tally-push : (t : Act → Bool) (w : List Act) (a : Act) → tally t (w ++ (a ∷ [])) ≡ cond (t a) (tally t w + 1) (tally t w)
tally-push t [] a = go (t a)
  where
    go : (b : Bool) → cond {A = ℕ} b 1 0 ≡ cond b (0 + 1) 0
    go true = refl
    go false = refl
tally-push t (b ∷ w) a = ap (λ (n : ℕ). cond (t b) (suc n) n) (tally-push t w a) ∙ go (t a) (t b) (tally t w)
  where
    go : (x y : Bool) (n : ℕ) → cond y (suc (cond x (n + 1) n)) (cond x (n + 1) n) ≡ cond x (cond y (suc n) n + 1) (cond y (suc n) n)
    go true true n = omega arith
    go true false n = refl
    go false true n = refl
    go false false n = refl

bounded : (b : Bool) (n i : ℕ) → n ≤ i → cond b (n + 1) n ≤ i + 1
bounded true n i h = let e : n + 1 ≤ i + 1 = omega arith in e
bounded false n i h = let e : n ≤ i + 1 = omega arith in e

-- the count of one act more, which passes the test or not
pub tally_more : (t : Act → Bool) (w : List Act) (i n m : ℕ) (d : Act) (b : Bool) → i < length w → b ≡ t (get_or w i d)
    → (n ≡ tally t (take i w)) × (n ≤ i) → m ≡ cond b (n + 1) n → (m ≡ tally t (take (i + 1) w)) × (m ≤ i + 1)
tally_more t w i n m d b h is e k = (
  k
      ∙ ap (λ (x : Bool). cond x (n + 1) n) is
      ∙ ap (λ (x : ℕ). cond (t (get_or w i d)) (x + 1) x) e.0
      ∙ sym (tally-push t (take i w) (get_or w i d))
      ∙ ap (tally t) (sym (take_more w i d h)),
  subst (λ (x : ℕ). x ≤ i + 1) (sym k) (bounded b n i e.1),
)

-- and of all
pub tally-all : (t : Act → Bool) (w : List Act) (i n : ℕ) → length w ≤ i → n ≡ tally t (take i w) → n ≡ tally t w
tally-all t w i n h e = e ∙ ap (tally t) (take_all i w h)
