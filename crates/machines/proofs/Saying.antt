-- Which moves and last views a machine file says.
use Rattle.std.proofs.Common.{◌≡◌, ℕ, zero, suc, ◌+◌, ◌<◌, Bool, true, false, cond, ◌⊎◌, List, [], ◌∷◌, ◌++◌, length, get_or, sym, refl, ap, ◌∙◌, subst, inl, inr, arith}
use mathlib.Core.List.Memᴰ
use mathlib.Core.List.{Memᴰ}
use Rattle.std.proofs.lemmas.Bool.{cases_eq}
use Rattle.acts.specs.declared.Act.{Act}
use Rattle.families.specs.Judgement.{Charts}
use Rattle.families.specs.Tests.{is_last}
use Rattle.numbering.specs.Numbering.{place, views_of}
use Rattle.machines.specs.Files.{each_from, machine_file_bytes}
use Rattle.machines.specs.Reading.{Entry, leads, ends, entries}
use Rattle.machines.proofs.Ending.{Ended, ended, made_push}
use Rattle.machines.proofs.Each.{InEach, in_each, each_has}
use Rattle.machines.proofs.Commands.{by, move_said, last_said, party_said, said_below, file_says}

-- the move from q to r under a leads to the view r, which lengthens the view q by the act
pub record Leads (views : List (List Act)) (p q : ℕ) (a : Act) (r : ℕ) : Type 0 where
  pub before : List Act
  pub act : Act
  pub below : r < length views
  pub view : get_or views r [] ≡ before ++ (act ∷ [])
  pub from : q ≡ place views before
  pub is : a ≡ by p act

pub record Ends (views : List (List Act)) (t : List Act → Bool) (q : ℕ) : Type 0 where
  pub below : q < length views
  pub passes : t (get_or views q []) ≡ true

-- what one view says
abbrev party_of : Entry → ℕ
party_of (leads p q a r) = p
party_of (ends p q) = p

module _ (p : ℕ) (views : List (List Act)) (k : ℕ) (v : List Act) where
  record OneMove (e : Entry) : Type 0 where
    end : Ended v
    is : e ≡ leads p (place views end.before) (by p end.act) k

  one_move : (e : Entry) → Memᴰ e (move_said p views k v) → OneMove e
  one_move e m = elim (ended v) [
    | inl z ↦ absurd (Memᴰ.not-nil (subst (λ (x : List Act). Memᴰ e (move_said p views k x)) z m))
    | inr z ↦
        record {
          end = z;
          is = Memᴰ.eq_of_singleton
              (subst (λ (l : List Entry). Memᴰ e l) (made z) m);
        }
  ]
    where
      made : (z : Ended v) → move_said p views k v ≡ leads p (place views z.before) (by p z.act) k ∷ []
      made z =
          ap (move_said p views k) z.is
          ∙ made_push [] (λ u a. leads p (place views u) (by p a) k ∷ []) z.before z.act

one_last : (p : ℕ) (b : Bool) (k : ℕ) (e : Entry) → Memᴰ e (cond b (ends p k ∷ []) []) → (b ≡ true) × (e ≡ ends p k)
one_last p true k e m = (refl, Memᴰ.eq_of_singleton m)
one_last p false k e m = absurd (Memᴰ.not-nil m)

-- what is said of a party
module _ (f : Charts) (p : ℕ) where
  party_cases : (e : Entry) → Memᴰ e (party_said f p)
      → InEach (move_said p (views_of p f)) 0 (views_of p f) e ⊎ InEach (last_said p (is_last f p)) 0 (views_of p f) e
  unfolding party_said
  party_cases e m = elim (Memᴰ.append_cases (each_from (move_said p (views_of p f)) 0 (views_of p f)) m) [
    | inl x ↦ inl (in_each (move_said p (views_of p f)) 0 (views_of p f) e x)
    | inr x ↦ inr (in_each (last_said p (is_last f p)) 0 (views_of p f) e x)
  ]

  move_of_lem : (e : Entry) (x : InEach (move_said p (views_of p f)) 0 (views_of p f) e) → OneMove p (views_of p f) (0 + x.at) (get_or (views_of p f) x.at []) e
  move_of_lem e x = one_move p (views_of p f) (0 + x.at) (get_or (views_of p f) x.at []) e x.there

  last_of : (e : Entry) (x : InEach (last_said p (is_last f p)) 0 (views_of p f) e) → (is_last f p (get_or (views_of p f) x.at []) ≡ true) × (e ≡ ends p (0 + x.at))
  last_of e x = one_last p (is_last f p (get_or (views_of p f) x.at [])) (0 + x.at) e x.there

  party_own : (e : Entry) → Memᴰ e (party_said f p) → party_of e ≡ p
  party_own e m = elim (party_cases e m) [
    | inl x ↦ ap party_of (move_of_lem e x).is
    | inr x ↦ ap party_of (last_of e x).1
  ]

  party_leads : (q : ℕ) (a : Act) (r : ℕ) → Memᴰ (leads p q a r) (party_said f p) → Leads (views_of p f) p q a r
  party_leads q a r m = elim (party_cases (leads p q a r) m) [
    | inl x ↦
        let y : OneMove p (views_of p f) (0 + x.at) (get_or (views_of p f) x.at []) (leads p q a r) = move_of_lem (leads p q a r) x in
        let e = y.is in
        let here : r ≡ 0 + x.at = cc in
        let at : r ≡ x.at = omega arith in
        let b = x.below in
        record {
          before = y.end.before;
          act = y.end.act;
          below = omega arith;
          view = ap (λ (k : ℕ). get_or (views_of p f) k []) at ∙ y.end.is;
          from = cc;
          is = cc;
        }
    | inr x ↦
        let e = (last_of (leads p q a r) x).1 in
        let z : ◌≡◌ {A = ℕ} 0 1 = cc in
        absurd (omega arith)
  ]

  party_ends : (q : ℕ) → Memᴰ (ends p q) (party_said f p) → Ends (views_of p f) (is_last f p) q
  party_ends q m = elim (party_cases (ends p q) m) [
    | inl x ↦
        let e = (move_of_lem (ends p q) x).is in
        let z : ◌≡◌ {A = ℕ} 0 1 = cc in
        absurd (omega arith)
    | inr x ↦
        let y = last_of (ends p q) x in
        let e = y.1 in
        let here : q ≡ 0 + x.at = cc in
        let at : q ≡ x.at = omega arith in
        let b = x.below in
        record { below = omega arith; passes = ap (λ (k : ℕ). is_last f p (get_or (views_of p f) k [])) at ∙ y.0 }
  ]

  leads_party : (q : ℕ) (a : Act) (r : ℕ) → Leads (views_of p f) p q a r → Memᴰ (leads p q a r) (party_said f p)
  unfolding party_said
  leads_party q a r x =
      Memᴰ.append_left (each_from (last_said p (is_last f p)) 0 (views_of p f))
      (each_has (move_said p (views_of p f)) 0 (views_of p f) (leads p q a r) r x.below
      (subst (λ (l : List Entry). Memᴰ (leads p q a r) l) (sym made) (Memᴰ.head same)))
    where
      made : move_said p (views_of p f) (0 + r) (get_or (views_of p f) r []) ≡ leads p (place (views_of p f) x.before) (by p x.act) (0 + r) ∷ []
      made =
          ap (move_said p (views_of p f) (0 + r)) x.view
          ∙ made_push [] (λ u b. leads p (place (views_of p f) u) (by p b) (0 + r) ∷ []) x.before x.act

      number : r ≡ 0 + r
      number = omega arith

      same : leads p q a r ≡ leads p (place (views_of p f) x.before) (by p x.act) (0 + r)
      same = λ i. leads p (x.from i) (x.is i) (number i)

  ends_party : (q : ℕ) → Ends (views_of p f) (is_last f p) q → Memᴰ (ends p q) (party_said f p)
  unfolding party_said
  ends_party q x =
      Memᴰ.append_right (each_from (move_said p (views_of p f)) 0 (views_of p f))
      (each_has (last_said p (is_last f p)) 0 (views_of p f) (ends p q) q x.below
      (subst (λ (b : Bool). Memᴰ (ends p q) (cond b (ends p (0 + q) ∷ []) [])) (sym x.passes) (Memᴰ.head (ap (ends p) number))))
    where
      number : q ≡ 0 + q
      number = omega arith

-- what is said of the parties below n is said of each
below_party : (f : Charts) (n : ℕ) (e : Entry) → Memᴰ e (said_below f n) → Memᴰ e (party_said f (party_of e))
below_party f zero e m = absurd (Memᴰ.not-nil m)
below_party f (suc n) e m = elim (Memᴰ.append_cases (said_below f n) m) [
  | inl x ↦ below_party f n e x
  | inr x ↦ subst (λ (p : ℕ). Memᴰ e (party_said f p)) (sym (party_own f n e x)) x
]

party_below : (f : Charts) (n p : ℕ) (e : Entry) → p < n → Memᴰ e (party_said f p) → Memᴰ e (said_below f n)
party_below f zero p e h m = absurd (omega arith)
party_below f (suc n) p e h m = elim (cases_eq p n) [
  | inl x ↦ Memᴰ.append_right (said_below f n) (subst (λ (j : ℕ). Memᴰ e (party_said f j)) x m)
  | inr x ↦ Memᴰ.append_left (party_said f n) (party_below f n p e (omega arith) m)
]

-- the moves and the last views of a machine file
module _ (code n : ℕ) (f : Charts) where
  from_file : (e : Entry) → Memᴰ e (entries (machine_file_bytes code n f)) → Memᴰ e (party_said f (party_of e))
  from_file e m = below_party f n e (subst (Memᴰ e) (file_says code n f) m)

  to_file : (p : ℕ) (e : Entry) → p < n → Memᴰ e (party_said f p) → Memᴰ e (entries (machine_file_bytes code n f))
  to_file p e h m = subst (Memᴰ e) (sym (file_says code n f)) (party_below f n p e h m)

  pub file_leads : (p q : ℕ) (a : Act) (r : ℕ) → Memᴰ (leads p q a r) (entries (machine_file_bytes code n f)) → Leads (views_of p f) p q a r
  file_leads p q a r m = party_leads f p q a r (from_file (leads p q a r) m)

  pub leads_file : (p q : ℕ) (a : Act) (r : ℕ) → p < n → Leads (views_of p f) p q a r → Memᴰ (leads p q a r) (entries (machine_file_bytes code n f))
  leads_file p q a r h x = to_file p (leads p q a r) h (leads_party f p q a r x)

  pub file_ends : (p q : ℕ) → Memᴰ (ends p q) (entries (machine_file_bytes code n f)) → Ends (views_of p f) (is_last f p) q
  file_ends p q m = party_ends f p q (from_file (ends p q) m)

  pub ends_file : (p q : ℕ) → p < n → Ends (views_of p f) (is_last f p) q → Memᴰ (ends p q) (entries (machine_file_bytes code n f))
  ends_file p q h x = to_file p (ends p q) h (ends_party f p q x)
