-- Where no line can go on, nothing granted along those lines goes further.
use Rattle.std.proofs.Common.{◌≡◌, ℕ, suc, ◌+◌, ◌≤◌, Bool, true, false, List, [], ◌∷◌, ◌++◌, length, sym, refl, ap, ◌∙◌, subst, true≢false, append_assoc, append-nil, arith, length-append}
use mathlib.Core.List.{append_cancel_left, head-eq_of_cons-eq}
use native.Mathlib.Decide.{ℕ_discrete}
use Rattle.acts.specs.declared.Act.{Act}
use Rattle.acts.specs.Acts.{part, SameParts, Beginning, Lines, line}
use Rattle.acts.proofs.Parts.{part_own, part-other, part-++, parts_uncons, no_parts, First, first, moved_parts, length_moved}
use Rattle.acts.specs.Language.{Diamond, Longest}
use Rattle.acts.specs.Theorems.{Stuck}
use Rattle.acts.proofs.Diamond.{after_all, Moves, moves, Completed, complete, parts_decide}

-- lists with the same parts are as long as each other
pub same_length : (w u : List Act) → SameParts u w → length u ≡ length w
same_length [] u s = ap (length {A = Act}) (no_parts u s)
same_length (a ∷ w) u s =
    let f : First a u = first a u (part a.party w) (s a.party ∙ part_own a.party a w refl) in
    ap (length {A = Act}) (sym f.whole)
    ∙ length_moved a f.before f.after
    ∙ ap suc (same_length w (f.before ++ f.after)
    (λ p. parts_uncons p a (f.before ++ f.after) w
    (sym (moved_parts p a f.before f.after f.none) ∙ ap (part p) f.whole ∙ s p)))

module _ (G : List Act → Bool) (D : Diamond G) (lines : ℕ → List Act) (w : List Act) (gw : G w ≡ true)
    (fits : (p : ℕ) → Beginning (part p w) (lines p))
    (stuck : (a : Act) (rest : List Act) → part a.party w ++ (a ∷ rest) ≡ lines a.party → G (w ++ (a ∷ [])) ≡ false) where
  -- an act that is next on its line after w, and granted after a beginning of w, would be granted after w
  next_refused : (u : List Act) (a : Act) (rest : List Act) → ((p : ℕ) → Beginning (part p u) (part p w))
      → part a.party u ≡ part a.party w → G (u ++ (a ∷ [])) ≡ true
      → part a.party u ++ (a ∷ rest) ≡ lines a.party → ⊥
  next_refused u a rest b same g on =
      let gu : G u ≡ true = D.beginning u (a ∷ []) g in
      let c : Completed G u w = complete G D u w gu gw b in
      let x : List Act = c.more in
      let none : part a.party x ≡ [] =
      append_cancel_left (part a.party u) (part a.party x) []
      (sym (part-++ a.party u x) ∙ c.parts a.party ∙ sym same ∙ sym (append-nil (part a.party u))) in
      let k : Moves (λ l. G (u ++ l)) a x =
      moves (λ l. G (u ++ l)) (after_all G D u gu) a x none g c.granted in
      let yes' : G (w ++ (a ∷ [])) ≡ true =
      sym (parts_decide G D w (u ++ x) c.granted gw c.parts (a ∷ []))
      ∙ ap G (append_assoc u x (a ∷ [])) ∙ k.later in
      true≢false (sym yes' ∙ stuck a rest (ap (λ (v : List Act). v ++ (a ∷ rest)) (sym same) ∙ on))

  -- one more act keeps within w
  one_more : (u : List Act) (a : Act) (rest : List Act) → ((p : ℕ) → Beginning (part p u) (part p w))
      → G (u ++ (a ∷ [])) ≡ true → part a.party u ++ (a ∷ rest) ≡ lines a.party
      → (p : ℕ) → Beginning (part p (u ++ (a ∷ []))) (part p w)
  one_more u a rest b g on p = elim (ℕ_discrete a.party p) [
    | no n ↦ (
      (b p).0,
      ap (λ (v : List Act). v ++ (b p).0)
          (part-++ p u (a ∷ []) ∙ ap (λ (v : List Act). part p u ++ v) (part-other p a [] n) ∙ append-nil (part p u))
          ∙ (b p).1,
    )
    | yes q ↦ go p q (b p).0 (b p).1
  ]
    where
      go : (p : ℕ) → a.party ≡ p → (r : List Act) → part p u ++ r ≡ part p w → Beginning (part p (u ++ (a ∷ []))) (part p w)
      go p q [] e = absurd (next_refused u a rest b
          (subst (λ (k : ℕ). part k u ≡ part k w) (sym q) (sym (append-nil (part p u)) ∙ e)) g on)
      go p q (c ∷ r) e =
          let f : Beginning (part p w) (lines p) = fits p in
          let same : c ≡ a = head-eq_of_cons-eq (append_cancel_left (part p u) (c ∷ (r ++ f.0)) (a ∷ rest)
          (sym (append_assoc (part p u) (c ∷ r) f.0)
          ∙ ap (λ (v : List Act). v ++ f.0) e
          ∙ f.1
          ∙ subst (λ (k : ℕ). lines k ≡ part k u ++ (a ∷ rest)) q (sym on))) in (
            r,
            ap (λ (v : List Act). v ++ r)
                (part-++ p u (a ∷ []) ∙ ap (λ (v : List Act). part p u ++ v) (part_own p a [] q))
                ∙ append_assoc (part p u) (a ∷ []) r
                ∙ ap (λ (y : Act). part p u ++ (y ∷ r)) (sym same)
                ∙ e,
          )

  along : (todo done : List Act) → G (done ++ todo) ≡ true → ((p : ℕ) → Beginning (part p (done ++ todo)) (lines p))
      → ((p : ℕ) → Beginning (part p done) (part p w)) → (p : ℕ) → Beginning (part p (done ++ todo)) (part p w)
  along [] done g on b p = subst (λ (v : List Act). Beginning (part p v) (part p w)) (sym (append-nil done)) (b p)
  along (a ∷ todo) done g on b p =
      let assoc : (done ++ (a ∷ [])) ++ todo ≡ done ++ (a ∷ todo) = append_assoc done (a ∷ []) todo in
      let g' : G ((done ++ (a ∷ [])) ++ todo) ≡ true = ap G assoc ∙ g in
      let r : List Act = (on a.party).0 in
      let next : part a.party done ++ (a ∷ (part a.party todo ++ r)) ≡ lines a.party =
      sym (append_assoc (part a.party done) (a ∷ part a.party todo) r)
      ∙ ap (λ (v : List Act). (part a.party done ++ v) ++ r) (sym (part_own a.party a todo refl))
      ∙ ap (λ (v : List Act). v ++ r) (sym (part-++ a.party done (a ∷ todo)))
      ∙ (on a.party).1 in
      let k : Beginning (part p ((done ++ (a ∷ [])) ++ todo)) (part p w) =
      along todo (done ++ (a ∷ [])) g'
      (λ q. subst (λ (v : List Act). Beginning (part q v) (lines q)) (sym assoc) (on q))
      (one_more done a (part a.party todo ++ r) b (D.beginning (done ++ (a ∷ [])) todo g') next) p in
      subst (λ (v : List Act). Beginning (part p v) (part p w)) assoc k

  pub within : (u : List Act) → G u ≡ true → ((p : ℕ) → Beginning (part p u) (lines p)) → (p : ℕ) → Beginning (part p u) (part p w)
  within u g on p = along u [] g on (λ q. (part q w, refl)) p

  pub no_longer : (u : List Act) → G u ≡ true → ((p : ℕ) → Beginning (part p u) (lines p)) → length u ≤ length w
  no_longer u g on =
      let c : Completed G u w = complete G D u w g gw (within u g on) in
      let e : length (u ++ c.more) ≡ length w = same_length w (u ++ c.more) c.parts in
      let f : length (u ++ c.more) ≡ length u + length c.more = length-append u c.more in
      omega arith

-- where no line can go on, the list is a longest one
pub stuck_longest : (G : List Act → Bool) → Diamond G → (c : Lines) (w : List Act) → Stuck G c w → Longest G c (length w)
stuck_longest G D c w s = record {
  order = w;
  granted = s.granted;
  along = s.along;
  size = refl;
  most = no_longer G D (line c) w s.granted s.along s.refused;
}
