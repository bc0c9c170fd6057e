-- The tests of lists, of what waits, and of held charts decide what they are named for.
use Rattle.std.proofs.Common.{◌≡◌, ℕ, zero, suc, ◌<◌, Bool, true, false, cond, not, ◌&&◌, eqb, ◌⊎◌, ◌↔◌, List, [], ◌∷◌, ◌++◌, Some, None, Option, sym, refl, ap, ◌∙◌, subst, inl, inr, not-suc-le-zero, arith}
use mathlib.Core.List.{head-eq_of_cons-eq, tail-eq_of_cons-eq, cons-ne-nil}
use native.Mathlib.Decide.{ℕ_discrete}
use Rattle.std.specs.List.{list_all}
use Rattle.std.proofs.lemmas.Bool.{false≢true, both_ways, and_parts, and_from, or_cases, or_left, or_right, eqb-true, eq-eqb, not-true, not_from_false, cases_Bool}
use Rattle.acts.specs.declared.Act.{Act}
use Rattle.acts.specs.declared.Letter.{Letter}
use Rattle.acts.specs.declared.Letter.TheVariants.{Send, Receive}
use Rattle.acts.specs.Acts.{message_of, from, to, is_send, is_receive, send_of, receive_of, sends, receives, Quiet, Beginning, Lines}
use Rattle.acts.specs.Order.{rank}
use Rattle.families.specs.Judgement.{Charts, HeldChart}
use Rattle.families.specs.Tests.{same_act, same_list, same_acts, begins_with, balanced, quiet, all_below, some_below, passes, some_held}

-- the test tells whether P
abbrev pub Tells : Bool → Type 0 → Type 0
Tells b P = (b ≡ true) ↔ P

pub told_no : (b : Bool) (P : Type 0) → Tells b P → b ≡ false → ¬ P
told_no b P t e x = both_ways b e (t.1 x)

pub not_told : (b : Bool) (P : Type 0) → Tells b P → ¬ P → b ≡ false
not_told true P t n = absurd (n (t.0 refl))
not_told false P t n = refl

pub told_or_not : (b : Bool) (P : Type 0) → Tells b P → P ⊎ (¬ P)
told_or_not true P t = inl (t.0 refl)
told_or_not false P t = inr (told_no false P t refl)

pub tells_and : (a b : Bool) (P Q : Type 0) → Tells a P → Tells b Q → Tells (a && b) (P × Q)
tells_and a b P Q s t = (
  λ h. (s.0 (and_parts a b h).0, t.0 (and_parts a b h).1),
  λ x. and_from a b (s.1 x.0) (t.1 x.1),
)

pub tells_not : (b : Bool) (P : Type 0) → Tells b P → Tells (not b) (¬ P)
tells_not b P t = (λ h. told_no b P t (not-true b h), λ n. not_from_false b (not_told b P t n))

pub tells_same : (a b : Bool) (P Q : Type 0) → Tells a P → Tells b Q → (P → Q) → (Q → P) → a ≡ b
tells_same true b P Q s t f g = sym (t.1 (f (s.0 refl)))
tells_same false b P Q s t f g = sym (not_told b Q t (λ y. told_no false P s refl (g y)))

-- equal acts and lists
rank_same : (x y : Letter) → rank x ≡ rank y → x ≡ y
rank_same Send Send e = refl
rank_same Send Receive e = absurd (omega (arith, e))
rank_same Receive Send e = absurd (omega (arith, e))
rank_same Receive Receive e = refl

pub same_act_lem : (a b : Act) → same_act a b ≡ true → a ≡ b
same_act_lem a b h =
    let h₁ = and_parts (eqb a.party b.party) _ h in
    let h₂ = and_parts (eqb (rank a.letter) (rank b.letter)) _ h₁.1 in
    let h₃ = and_parts (eqb a.peer b.peer) _ h₂.1 in
    let p = eqb-true a.party b.party h₁.0 in
    let l = rank_same a.letter b.letter (eqb-true (rank a.letter) (rank b.letter) h₂.0) in
    let q = eqb-true a.peer b.peer h₃.0 in
    let n = eqb-true a.name b.name h₃.1 in
    λ i. record { party = p i; letter = l i; peer = q i; name = n i }

pub act_same : (a : Act) → same_act a a ≡ true
act_same a =
    and_from (eqb a.party a.party) _ (eq-eqb a.party a.party refl)
    (and_from (eqb (rank a.letter) (rank a.letter)) _ (eq-eqb (rank a.letter) (rank a.letter) refl)
    (and_from (eqb a.peer a.peer) _ (eq-eqb a.peer a.peer refl) (eq-eqb a.name a.name refl)))

pub same_list_lem : {X : Type 0} (t : X → X → Bool) → ((x y : X) → t x y ≡ true → x ≡ y) → (u w : List X) → same_list t u w ≡ true → u ≡ w
same_list_lem t f [] [] h = refl
same_list_lem t f [] (y ∷ w) h = absurd (false≢true h)
same_list_lem t f (x ∷ u) [] h = absurd (false≢true h)
same_list_lem t f (x ∷ u) (y ∷ w) h =
    let k = and_parts (t x y) (same_list t u w) h in
    let p = f x y k.0 in
    let q = same_list_lem t f u w k.1 in
    λ i. p i ∷ q i

pub list_same : {X : Type 0} (t : X → X → Bool) → ((x : X) → t x x ≡ true) → (u : List X) → same_list t u u ≡ true
list_same t f [] = refl
list_same t f (x ∷ u) = and_from (t x x) (same_list t u u) (f x) (list_same t f u)

pub same_tells : (u w : List Act) → Tells (same_acts u w) (u ≡ w)
same_tells u w = (
  same_list_lem same_act same_act_lem u w,
  λ e. subst (λ (v : List Act). same_acts u v ≡ true) e (list_same same_act act_same u),
)

-- beginnings
begins_true : (v l : List Act) → begins_with v l ≡ true → Beginning v l
begins_true [] l h = (l, refl)
begins_true (a ∷ v) [] h = absurd (false≢true h)
begins_true (a ∷ v) (b ∷ l) h =
    let k = and_parts (same_act a b) (begins_with v l) h in
    let e = same_act_lem a b k.0 in
    let r = begins_true v l k.1 in
    (r.0, λ i. e i ∷ r.1 i)

true-begins : (v l : List Act) → Beginning v l → begins_with v l ≡ true
true-begins [] l b = refl
true-begins (a ∷ v) [] b = absurd (cons-ne-nil a (v ++ b.0) b.1)
true-begins (a ∷ v) (c ∷ l) b =
    and_from (same_act a c) (begins_with v l)
    (subst (λ (x : Act). same_act a x ≡ true) (head-eq_of_cons-eq b.1) (act_same a))
    (true-begins v l (b.0, tail-eq_of_cons-eq b.1))

pub begins_tells : (v l : List Act) → Tells (begins_with v l) (Beginning v l)
begins_tells v l = (begins_true v l, true-begins v l)

-- what waits: a message with no act in the list is neither sent nor received, and any other passes the test by its act
module _ (w : List Act) (s r m : ℕ) where
  abbrev Level : Type 0
  Level = sends s r m w ≡ receives s r m w

  abbrev Untouched : List Act → Type 0
  Untouched v = (sends s r m v ≡ 0) × (receives s r m v ≡ 0)

  level : (x y k : ℕ) → x ≡ s → y ≡ r → k ≡ m → sends x y k w ≡ receives x y k w → Level
  level x y k p q n e =
      ap (λ (z : ℕ). sends z r m w) (sym p)
      ∙ ap (λ (z : ℕ). sends x z m w) (sym q)
      ∙ ap (λ (z : ℕ). sends x y z w) (sym n)
      ∙ e
      ∙ ap (λ (z : ℕ). receives z y k w) p
      ∙ ap (λ (z : ℕ). receives s z k w) q
      ∙ ap (λ (z : ℕ). receives s r z w) n

  by_send : (l : Letter) (p e k : ℕ) → (is_send l && (eqb p s && (eqb e r && eqb k m))) ≡ true
      → sends (from l p e) (to l p e) k w ≡ receives (from l p e) (to l p e) k w → Level
  by_send Send p e k h b =
      let x = and_parts (eqb p s) (eqb e r && eqb k m) h in
      let y = and_parts (eqb e r) (eqb k m) x.1 in
      level p e k (eqb-true p s x.0) (eqb-true e r y.0) (eqb-true k m y.1) b
  by_send Receive p e k h b = absurd (false≢true h)

  by_receive : (l : Letter) (p e k : ℕ) → (is_receive l && (eqb p r && (eqb e s && eqb k m))) ≡ true
      → sends (from l p e) (to l p e) k w ≡ receives (from l p e) (to l p e) k w → Level
  by_receive Send p e k h b = absurd (false≢true h)
  by_receive Receive p e k h b =
      let x = and_parts (eqb p r) (eqb e s && eqb k m) h in
      let y = and_parts (eqb e s) (eqb k m) x.1 in
      level e p k (eqb-true e s y.0) (eqb-true p r x.0) (eqb-true k m y.1) b

  touched : (v : List Act) → list_all (λ a. balanced w (message_of a)) v ≡ true → Untouched v ⊎ Level
  touched [] h = inl (refl, refl)
  touched (a ∷ v) h = go (cases_Bool (send_of s r m a)) (cases_Bool (receive_of s r m a)) (touched v k.1)
    where
      k : (balanced w (message_of a) ≡ true) × (list_all (λ a. balanced w (message_of a)) v ≡ true)
      k = and_parts (balanced w (message_of a)) (list_all (λ a. balanced w (message_of a)) v) h

      even : sends (message_of a).sender (message_of a).receiver a.name w ≡ receives (message_of a).sender (message_of a).receiver a.name w
      even = eqb-true _ _ k.0

      go : (send_of s r m a ≡ true) ⊎ (send_of s r m a ≡ false) → (receive_of s r m a ≡ true) ⊎ (receive_of s r m a ≡ false)
          → Untouched v ⊎ Level → Untouched (a ∷ v) ⊎ Level
      go (inl e) y z = inr (by_send a.letter a.party a.peer a.name e even)
      go (inr e) (inl y) z = inr (by_receive a.letter a.party a.peer a.name y even)
      go (inr e) (inr y) (inr z) = inr z
      go (inr e) (inr y) (inl z) = inl (
        ap (λ (b : Bool). cond b (suc (sends s r m v)) (sends s r m v)) e ∙ z.0,
        ap (λ (b : Bool). cond b (suc (receives s r m v)) (receives s r m v)) y ∙ z.1,
      )

quiet_true : (w : List Act) → quiet w ≡ true → Quiet w
quiet_true w h s r m = elim (touched w s r m w h) [ inl z ↦ z.0 ∙ sym z.1 | inr e ↦ e ]

true-quiet : (w : List Act) → Quiet w → (v : List Act) → list_all (λ a. balanced w (message_of a)) v ≡ true
true-quiet w q [] = refl
true-quiet w q (a ∷ v) =
    and_from (balanced w (message_of a)) (list_all (λ a. balanced w (message_of a)) v)
    (eq-eqb _ _ (q (message_of a).sender (message_of a).receiver a.name)) (true-quiet w q v)

pub quiet_tells : (w : List Act) → Tells (quiet w) (Quiet w)
quiet_tells w = (quiet_true w, λ q. true-quiet w q w)

-- numbers below a bound
all_true : (k : ℕ) (t : ℕ → Bool) → all_below k t ≡ true → (i : ℕ) → i < k → t i ≡ true
all_true zero t h i l = absurd (not-suc-le-zero l)
all_true (suc k) t h i l =
    let x = and_parts (all_below k t) (t k) h in
    elim (ℕ_discrete i k) [
      | yes e ↦ ap t e ∙ x.1
      | no n ↦ all_true k t x.0 i (omega arith)
    ]

true-all : (k : ℕ) (t : ℕ → Bool) → ((i : ℕ) → i < k → t i ≡ true) → all_below k t ≡ true
true-all zero t h = refl
true-all (suc k) t h = and_from (all_below k t) (t k) (true-all k t (λ i l. h i (omega arith))) (h k (omega arith))

pub all_tells : (k : ℕ) (t : ℕ → Bool) (P : ℕ → Type 0) → ((i : ℕ) → Tells (t i) (P i)) → Tells (all_below k t) ((i : ℕ) → i < k → P i)
all_tells k t P each = (λ h i l. (each i).0 (all_true k t h i l), λ x. true-all k t (λ i l. (each i).1 (x i l)))

pub record Passing (k : ℕ) (t : ℕ → Bool) : Type 0 where
  pub at : ℕ
  pub below : at < k
  pub passes : t at ≡ true

some_true : (k : ℕ) (t : ℕ → Bool) → some_below k t ≡ true → Passing k t
some_true zero t h = absurd (false≢true h)
some_true (suc k) t h = elim (or_cases (some_below k t) (t k) h) [
  | inl e ↦
      let x : Passing k t = some_true k t e in
      record { at = x.at; below = let b = x.below in omega arith; passes = x.passes }
  | inr e ↦ record { at = k; below = omega arith; passes = e }
]

true-some : (k : ℕ) (t : ℕ → Bool) (i : ℕ) → i < k → t i ≡ true → some_below k t ≡ true
true-some zero t i l h = absurd (not-suc-le-zero l)
true-some (suc k) t i l h = elim (ℕ_discrete i k) [
  | yes e ↦ or_right (some_below k t) (t k) (ap t (sym e) ∙ h)
  | no n ↦ or_left (some_below k t) (t k) (true-some k t i (omega arith) h)
]

-- some held chart
module _ (f : Charts) (ids : (i : ℕ) (c : Lines) → f i ≡ Some c → i < 8) (t : Lines → Bool) (P : Lines → Type 0)
    (each : (c : Lines) → Tells (t c) (P c)) where
  passing : (i : ℕ) (o : Option Lines) → f i ≡ o → passes t o ≡ true → HeldChart f P
  passing i None e h = absurd (false≢true h)
  passing i (Some c) e h = record { id = i; chart = c; held = e; fits = (each c).0 h }

  pub held_tells : Tells (some_held f t) (HeldChart f P)
  held_tells = (
    λ h.
        let x : Passing 8 (λ i. passes t (f i)) = some_true 8 (λ i. passes t (f i)) h in
        passing x.at (f x.at) refl x.passes,
    λ x. true-some 8 (λ i. passes t (f i)) x.id (ids x.id x.chart x.held)
        (ap (passes t) x.held ∙ (each x.chart).1 x.fits),
  )
