-- How masks are made, joined and counted.
use Rattle.std.proofs.Common.{◌≡◌, ℕ, zero, suc, ◌+◌, ◌*◌, ◌^◌, ◌<◌, Bool, true, false, ◌&&◌, sym, refl, ap, ◌∙◌, inl, inr, one-mul, pow-suc, zero-mul, arith}
use lib.Bits.{bit_and, bit_or, and_block, or_shifted_r}
use lib.Count.{ones, ones_cat}
use Rattle.std.proofs.lemmas.Nat.{pow_pos}
use Rattle.std.proofs.lemmas.Bool.{cases_eq}
use Rattle.numbering.specs.Masks.{one, mask, passing}

one_lt : (b : Bool) → one b < 2
one_lt true = omega arith
one_lt false = omega arith

double : (k : ℕ) → 2 ^ suc k ≡ 2 ^ k * 2
double k = pow-suc 2 k

pub mask_lt : (t : ℕ → Bool) (k : ℕ) → mask t k < 2 ^ k
mask_lt t zero = omega arith
mask_lt t (suc k) =
    let r = mask_lt t k in
    let e = double k in
    go (t k) r e
  where
    go : (b : Bool) → mask t k < 2 ^ k → 2 ^ suc k ≡ 2 ^ k * 2 → one b * 2 ^ k + mask t k < 2 ^ suc k
    go true r e = omega arith
    go false r e = omega arith

pub mask_same : (t u : ℕ → Bool) (k : ℕ) → ((i : ℕ) → i < k → t i ≡ u i) → mask t k ≡ mask u k
mask_same t u zero h = refl
mask_same t u (suc k) h =
    ap (λ (b : Bool). one b * 2 ^ k + mask t k) (h k (omega arith)) ∙ ap (λ (m : ℕ). one (u k) * 2 ^ k + m) (mask_same t u k (λ i l. h i (omega arith)))

-- masks joined by and
pub mask_and : (t u : ℕ → Bool) (k : ℕ) → bit_and (mask t k) (mask u k) ≡ mask (λ i. t i && u i) k
mask_and t u zero = refl
mask_and t u (suc k) =
    and_block k (one (t k)) (one (u k)) (mask t k) (mask u k) (mask_lt t k) (mask_lt u k)
    ∙ ap (λ (m : ℕ). bit_and (one (t k)) (one (u k)) * 2 ^ k + m) (mask_and t u k)
    ∙ ap (λ (m : ℕ). m * 2 ^ k + mask (λ i. t i && u i) k) (bit (t k) (u k))
  where
    bit : (a b : Bool) → bit_and (one a) (one b) ≡ one (a && b)
    bit true true = refl
    bit true false = refl
    bit false true = refl
    bit false false = refl

pub mask_ones : (t : ℕ → Bool) (k : ℕ) → ones (mask t k) ≡ passing t k
unfolding ones
mask_ones t zero = refl
mask_ones t (suc k) =
    ones_cat k (one (t k)) (mask t k) (mask_lt t k)
    ∙ bit (t k) (ones (mask t k)) (passing t k) (mask_ones t k)
  where
    bit : (b : Bool) (x y : ℕ) → x ≡ y → ones (one b) + x ≡ y + one b
    bit true x y e = let o : ones 1 ≡ 1 = refl in omega arith
    bit false x y e = let o : ones 0 ≡ 0 = refl in omega arith

-- one bit more at the top
pub mask_or : (t : ℕ → Bool) (k : ℕ) → bit_or (mask t k) (2 ^ k) ≡ 1 * 2 ^ k + mask t k
mask_or t k = ap (bit_or (mask t k)) (sym (one-mul (2 ^ k))) ∙ or_shifted_r 1 k (mask t k) (mask_lt t k)

-- no bit is set where no id passes, and otherwise one is
pub mask-none : (t : ℕ → Bool) (k : ℕ) → ((i : ℕ) → i < k → t i ≡ false) → mask t k ≡ 0
mask-none t zero h = refl
mask-none t (suc k) h =
    let r = mask-none t k (λ i l. h i (omega arith)) in
    let e : one (t k) ≡ 0 = ap one (h k (omega arith)) in
    ap (λ (m : ℕ). m * 2 ^ k + mask t k) e ∙ (let z : 0 * 2 ^ k ≡ 0 = zero-mul (2 ^ k) in omega arith)

pub mask-some : (t : ℕ → Bool) (k i : ℕ) → i < k → t i ≡ true → 0 < mask t k
mask-some t zero i h e = absurd (omega arith)
mask-some t (suc k) i h e = elim (cases_eq i k) [
  | inl q ↦
      let o : one (t k) ≡ 1 = ap one (ap t (sym q) ∙ e) in
      let p = pow_pos k in
      let m : one (t k) * 2 ^ k ≡ 1 * 2 ^ k = ap (λ (x : ℕ). x * 2 ^ k) o in
      omega arith
  | inr n ↦ let r = mask-some t k i (omega arith) e in omega arith
]

pub mask_zero : (t : ℕ → Bool) (k : ℕ) → mask t k ≡ 0 → (i : ℕ) → i < k → t i ≡ false
mask_zero t k z i h = go (t i) refl
  where
    go : (b : Bool) → t i ≡ b → t i ≡ false
    go false e = e
    go true e = let p = mask-some t k i h e in absurd (omega arith)
