-- A command with which nothing is wrong is one of five: what each of them keeps, and that this is enough.
use Rattle.std.proofs.Common.{◌≡◌, ℕ, pred, ◌+◌, ◌<◌, ◌≤◌, Bool, true, false, cond, not, ◌&&◌, eqb, ltb, leb, Some, None, Option, refl, subst, inl, inr, arith}
use Rattle.std.proofs.lemmas.Bool.{eqb-true, eqb-false, ltb-true, ltb-false, leb-true, eq-eqb, ne_eqb, lt-ltb, le-ltb, le-leb, and_parts, and_from, or_cases, or_left, not-true, not-false, not_from_true, not_from_false}
use Rattle.fault.specs.declared.Fault.{Fault}
use Rattle.files.specs.Rules.{is_act, allowed, operands, first_fits, second_fits, first, rows}

-- none of the six rows applies
pub record Clear (n k m left b x y : ℕ) : Type 0 where
  pub some : eqb left 0 ≡ false
  pub place : allowed n k b ≡ true
  pub whole : ltb left (1 + operands b) ≡ false
  pub fits : first_fits n k b x ≡ true
  pub named : second_fits b y ≡ true
  pub room : (is_act b && not (ltb m 32)) ≡ false

-- a row that does not apply, and the rows behind it
record Passed (t : Bool) (o : Option Fault) : Type 0 where
  pub here : t ≡ false
  pub after : o ≡ None

passed : (t : Bool) (f : Fault) (o : Option Fault) → cond t (Some f) o ≡ None → Passed t o
passed true f o e = let z : ◌≡◌ {A = ℕ} 0 1 = cc in absurd (omega arith)
passed false f o e = record { here = refl; after = e }

pass : (t : Bool) (f : Fault) (o : Option Fault) → t ≡ false → o ≡ None → cond t (Some f) o ≡ None
pass true f o e h = let z : ◌≡◌ {A = ℕ} 0 1 = cc in absurd (omega arith)
pass false f o e h = h

pub clear : (n k m size at left b x y : ℕ) → first (rows n k m size at left b x y) ≡ None → Clear n k m left b x y
clear n k m size at left b x y e =
    let r₁ = passed (eqb left 0) _ _ e in
    let r₂ = passed (not (allowed n k b)) _ _ r₁.after in
    let r₃ = passed (ltb left (1 + operands b)) _ _ r₂.after in
    let r₄ = passed (not (first_fits n k b x)) _ _ r₃.after in
    let r₅ = passed (not (second_fits b y)) _ _ r₄.after in
    let r₆ = passed (is_act b && not (ltb m 32)) _ _ r₅.after in
    record {
      some = r₁.here;
      place = not-false (allowed n k b) r₂.here;
      whole = r₃.here;
      fits = not-false (first_fits n k b x) r₄.here;
      named = not-false (second_fits b y) r₅.here;
      room = r₆.here;
    }

pub none-wrong : (n k m size at left b x y : ℕ) → Clear n k m left b x y → first (rows n k m size at left b x y) ≡ None
none-wrong n k m size at left b x y c =
    pass (eqb left 0) _ _ c.some
    (pass (not (allowed n k b)) _ _ (not_from_true (allowed n k b) c.place)
    (pass (ltb left (1 + operands b)) _ _ c.whole
    (pass (not (first_fits n k b x)) _ _ (not_from_true (first_fits n k b x) c.fits)
    (pass (not (second_fits b y)) _ _ (not_from_true (second_fits b y) c.named)
    (pass (is_act b && not (ltb m 32)) _ _ c.room refl)))))

-- C
pub record Names (n x left : ℕ) : Type 0 where
  pub unnamed : n ≡ 0
  pub low : 2 ≤ x
  pub high : x ≤ 6
  pub whole : 2 ≤ left

-- L
pub record Begins (n k x left : ℕ) : Type 0 where
  pub missing : k < n
  pub next : x ≡ k
  pub whole : 2 ≤ left

-- S and R
pub record Acts (n k m x y left : ℕ) : Type 0 where
  pub begun : 0 < k
  pub peer : x < n
  pub apart : x ≡ pred k → ⊥
  pub name : y < 32
  pub room : m < 32
  pub whole : 3 ≤ left

-- Z
pub record Ends (n k left : ℕ) : Type 0 where
  pub named : 0 < n
  pub all : k ≡ n
  pub whole : 1 ≤ left

pub data Command (n k m left b x y : ℕ) : Type 0 where
  names : b ≡ 67 → Names n x left → Command n k m left b x y
  begins : b ≡ 76 → Begins n k x left → Command n k m left b x y
  sends : b ≡ 83 → Acts n k m x y left → Command n k m left b x y
  receives : b ≡ 82 → Acts n k m x y left → Command n k m left b x y
  ends : b ≡ 90 → Ends n k left → Command n k m left b x y

module _ (n k m left x y : ℕ) where
  names-from : n ≡ 0 → Clear n k m left 67 x y → Names n x left
  names-from e c =
      let p = and_parts (leb 2 x) (leb x 6) c.fits in
      record {
        unnamed = e;
        low = leb-true 2 x p.0;
        high = leb-true x 6 p.1;
        whole = ltb-false left 2 c.whole;
      }

  begins-from : k < n → Clear n k m left 76 x y → Begins n k x left
  begins-from h c = record { missing = h; next = eqb-true x k c.fits; whole = ltb-false left 2 c.whole }

  -- S and R keep the same
  acts_from : 0 < k → (ltb x n && not (eqb x (pred k))) ≡ true → ltb y 32 ≡ true → not (ltb m 32) ≡ false → ltb left 3 ≡ false
      → Acts n k m x y left
  acts_from h fits named room whole =
      let p = and_parts (ltb x n) (not (eqb x (pred k))) fits in
      record {
        begun = h;
        peer = ltb-true x n p.0;
        apart = eqb-false x (pred k) (not-true (eqb x (pred k)) p.1);
        name = ltb-true y 32 named;
        room = ltb-true m 32 (not-false (ltb m 32) room);
        whole = ltb-false left 3 whole;
      }

  ends_from : 0 < n → k ≡ n → Clear n k m left 90 x y → Ends n k left
  ends_from h e c = record { named = h; all = e; whole = ltb-false left 1 c.whole }

  pub clear-names : Names n x left → Clear n k m left 67 x y
  clear-names h = record {
    some = ne_eqb left 0 (λ e. omega arith);
    place = or_left (eqb n 0) false (eq-eqb n 0 h.unnamed);
    whole = le-ltb left 2 h.whole;
    fits = and_from (leb 2 x) (leb x 6) (le-leb 2 x h.low) (le-leb x 6 h.high);
    named = refl;
    room = refl;
  }

  pub clear-begins : Begins n k x left → Clear n k m left 76 x y
  clear-begins h = record {
    some = ne_eqb left 0 (λ e. omega arith);
    place = or_left (ltb k n) false (lt-ltb k n h.missing);
    whole = le-ltb left 2 h.whole;
    fits = eq-eqb x k h.next;
    named = refl;
    room = refl;
  }

  pub clear-sends : Acts n k m x y left → Clear n k m left 83 x y
  clear-sends h = record {
    some = ne_eqb left 0 (λ e. omega arith);
    place = or_left (ltb 0 k) false (lt-ltb 0 k h.begun);
    whole = le-ltb left 3 h.whole;
    fits = and_from (ltb x n) (not (eqb x (pred k))) (lt-ltb x n h.peer)
        (not_from_false (eqb x (pred k)) (ne_eqb x (pred k) h.apart));
    named = lt-ltb y 32 h.name;
    room = not_from_true (ltb m 32) (lt-ltb m 32 h.room);
  }

  pub clear-receives : Acts n k m x y left → Clear n k m left 82 x y
  clear-receives h =
      let c = clear-sends h in
      record { some = c.some; place = c.place; whole = c.whole; fits = c.fits; named = c.named; room = c.room }

  pub clear_ends : Ends n k left → Clear n k m left 90 x y
  clear_ends h = record {
    some = ne_eqb left 0 (λ e. omega arith);
    place = and_from (ltb 0 n) (eqb k n) (lt-ltb 0 n h.named) (eq-eqb k n h.all);
    whole = le-ltb left 1 h.whole;
    fits = refl;
    named = refl;
    room = refl;
  }

  command_from : (b : ℕ) → Clear n k m left b x y → Command n k m left b x y
  command_from b c = elim (or_cases (eqb b 67 && eqb n 0) _ c.place) [
    | inl e ↦
        let p = and_parts (eqb b 67) (eqb n 0) e in
        let q = eqb-true b 67 p.0 in
        names q (names-from (eqb-true n 0 p.1) (at q))
    | inr f ↦ elim (or_cases (eqb b 76 && ltb k n) _ f) [
      | inl e ↦
          let p = and_parts (eqb b 76) (ltb k n) e in
          let q = eqb-true b 76 p.0 in
          begins q (begins-from (ltb-true k n p.1) (at q))
      | inr g ↦ elim (or_cases (is_act b && ltb 0 k) _ g) [
        | inl e ↦
            let p = and_parts (is_act b) (ltb 0 k) e in
            let h : 0 < k = ltb-true 0 k p.1 in
            elim (or_cases (eqb b 83) (eqb b 82) p.0) [
              | inl d ↦
                  let q = eqb-true b 83 d in
                  let r = at q in
                  sends q (acts_from h r.fits r.named r.room r.whole)
              | inr d ↦
                  let q = eqb-true b 82 d in
                  let r = at q in
                  receives q (acts_from h r.fits r.named r.room r.whole)
            ]
        | inr e ↦
            let p = and_parts (eqb b 90) (ltb 0 n && eqb k n) e in
            let r = and_parts (ltb 0 n) (eqb k n) p.1 in
            let q = eqb-true b 90 p.0 in
            ends q (ends_from (ltb-true 0 n r.0) (eqb-true k n r.1) (at q))
      ]
    ]
  ]
    where
      at : {v : ℕ} → b ≡ v → Clear n k m left v x y
      at e = subst (λ (v : ℕ). Clear n k m left v x y) e c

-- a command with which nothing is wrong
pub command : (n k m size at left b x y : ℕ) → first (rows n k m size at left b x y) ≡ None → Command n k m left b x y
command n k m size at left b x y e = command_from n k m left x y b (clear n k m size at left b x y e)
