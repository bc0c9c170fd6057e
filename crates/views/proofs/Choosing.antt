-- The best of the views that are looked at; and how many are left.
use Rattle.std.proofs.Common.{◌≡◌, ℕ, zero, suc, ◌+◌, ◌-◌, ◌<◌, ◌≤◌, Bool, true, false, cond, ◌&&◌, ◌==◌, eqb, ltb, List, [], ◌∷◌, length, get_or, drop, Some, None, Option, MatchOption, Iter, sym, refl, ap, ◌∙◌, subst, inl, inr, arith}
use Rattle.std.proofs.lemmas.List.FromFn.{length-enumerate_from, get_or-enumerate_from}
use Rattle.std.proofs.iter.Yields.{fronts}
use Rattle.std.proofs.lemmas.Iterator.{YieldsList, YieldsList-from_slice}
use Rattle.std.proofs.lemmas.Iterator.Consumers.{YieldsList-from_enumerate, YieldsList-at}
use Rattle.std.proofs.lemmas.Iterator.Adapters.{YieldsList-from_skip}
use Rattle.std.specs.Iterator.Adapters.{enumerate_source, enumerate_count, enumerate_steps, skip_source, skip_count, skip_steps}
use Rattle.std.specs.Slice.Iter.{iter_rest}
use Rattle.std.specs.declared.iter.Enumerate.{Enumerate}
use Rattle.std.specs.declared.iter.Skip.{Skip}
use Rattle.std.specs.List.{enumerate_from, filter}
use Rattle.std.specs.Option.{option_map}
use Rattle.std.specs.Ordering.{is_lt}
use Rattle.std.specs.declared.cmp.Ordering.{Ordering}
use Rattle.std.proofs.lemmas.Bool.{cases_Bool, cond-true, cond-false, eqb-true, eq-eqb, ne_eqb, lt-ltb, ltb-true, both_ways, false≢true}
use Rattle.acts.specs.declared.Act.{Act}
use Rattle.acts.specs.Order.{Leftmost, fields, Sooner}
use Rattle.acts.proofs.Ordering.{sooner_strict}
use Rattle.paths.specs.Moves.{After}
use Rattle.views.specs.declared.view.View.{View}
use Rattle.views.specs.Spelled.{root}
use Rattle.views.specs.Children.{act_at, Later, Best, comes, comes_after, left}
use Rattle.views.proofs.Least.{IsLeast, Kept, kept_each, kept_from}

-- the test of the order
comes_true : (u w : List ℕ) → comes u w ≡ true → Leftmost ◌<◌ u w
comes_true [] w h = absurd (false≢true h)
comes_true (x ∷ u) [] h = absurd (false≢true h)
comes_true (x ∷ u) (y ∷ w) h = elim (cases_Bool (eqb x y)) [
  | inl t ↦ inr (eqb-true x y t, comes_true u w (sym (cond-true (eqb x y) (comes u w) (ltb x y) t) ∙ h))
  | inr f ↦ inl (ltb-true x y (sym (cond-false (eqb x y) (comes u w) (ltb x y) f) ∙ h))
]

comes-from : (u w : List ℕ) → Leftmost ◌<◌ u w → comes u w ≡ true
comes-from [] w h = absurd h
comes-from (x ∷ u) [] h = absurd h
comes-from (x ∷ u) (y ∷ w) (inl l) = cond-false (eqb x y) (comes u w) (ltb x y) (ne_eqb x y (λ e. omega arith)) ∙ lt-ltb x y l
comes-from (x ∷ u) (y ∷ w) (inr l) = cond-true (eqb x y) (comes u w) (ltb x y) (eq-eqb x y l.0) ∙ comes-from u w l.1

pub after_true : (last : Option Act) (a : Act) → comes_after last a ≡ true → After last a
after_true None a h = tt
after_true (Some b) a h = comes_true (fields b) (fields a) h

pub after_from : (last : Option Act) (a : Act) → After last a → comes_after last a ≡ true
after_from None a h = refl
after_from (Some b) a h = comes-from (fields b) (fields a) h

-- the view lengthens the view `at` by an act of the party after the last one, as a test
abbrev pub is_later : (at party : ℕ) → Option Act → View → Bool
is_later at party last x = (x.lengthens == at) && ((x.act.party == party) && comes_after last x.act)

-- the views but the first, each with its number
abbrev pub numbered : List View → List (ℕ × View)
numbered nodes = drop 1 (enumerate_from 0 nodes)

pub numbered-length : (nodes : List View) → length (numbered nodes) ≡ length nodes - 1
numbered-length [] = refl
numbered-length (x ∷ xs) = let n = length-enumerate_from (0 + 1) xs in omega arith

pub numbered_at : (nodes : List View) (k : ℕ) (d : ℕ × View) → 0 < k → k < length nodes → get_or (numbered nodes) (k - 1) d ≡ (k, get_or nodes k d.1)
numbered_at [] k d p h = absurd (omega arith)
numbered_at (x ∷ xs) zero d p h = absurd (omega arith)
numbered_at (x ∷ xs) (suc k) d p h =
    let e : 0 + 1 + k ≡ suc k = omega arith in
    let m : suc k - 1 ≡ k = omega arith in
    ap (λ (i : ℕ). get_or (enumerate_from (0 + 1) xs) i d) m
    ∙ get_or-enumerate_from (0 + 1) xs k d (omega arith)
    ∙ ap (λ (i : ℕ). (i, get_or xs k d.1)) e

-- what `iter().enumerate().skip(1)` gives
pub later_views : (nodes : List View) {i : Iter View} {e : Enumerate (Iter View)} {s : Skip (Enumerate (Iter View))} → iter_rest i ≡ nodes → enumerate_source e ≡ i
    → enumerate_count e ≡ 0 → skip_source s ≡ e → skip_count s ≡ 1 → YieldsList (skip_steps (enumerate_steps fronts)) (λ p. (p.0, p.1.now)) s (numbered nodes)
later_views nodes rest source count from skipped =
    YieldsList-from_skip 1 (YieldsList-at from (YieldsList-from_enumerate (YieldsList-at source (YieldsList-from_slice nodes rest)) count)) skipped

-- a test that is passed passes both parts
parts : (a b : Bool) → (a && b) ≡ true → (a ≡ true) × (b ≡ true)
parts true b e = (refl, e)
parts false b e = absurd (false≢true e)

whole : (a b : Bool) → a ≡ true → b ≡ true → (a && b) ≡ true
whole true b e f = f
whole false b e f = absurd (false≢true e)

read : (nodes : List View) (k : ℕ) (d e : View) → k < length nodes → get_or nodes k d ≡ get_or nodes k e
read [] k d e h = absurd (omega arith)
read (x ∷ xs) zero d e h = refl
read (x ∷ xs) (suc k) d e h = read xs k d e (omega arith)

module _ (nodes : List View) (at party : ℕ) (last : Option Act) where
  abbrev test : ℕ × View → Bool
  test y = is_later at party last y.1

  passes_later : (y : ℕ × View) → Kept test (numbered nodes) y → (y.0 < length nodes) × Later nodes at party last y.0 × (act_at nodes y.0 ≡ y.1.act)
  passes_later y k =
      let n = numbered-length nodes in
      let b = k.below in
      let h : k.at + 1 < length nodes = omega arith in
      let m : k.at + 1 - 1 ≡ k.at = omega arith in
      let p : y ≡ (k.at + 1, get_or nodes (k.at + 1) y.1) =
      sym k.is ∙ ap (λ (i : ℕ). get_or (numbered nodes) i y) (sym m) ∙ numbered_at nodes (k.at + 1) y (omega arith) h in
      let z : y.0 ≡ k.at + 1 = ap (λ (q : ℕ × View). q.0) p in
      let l : y.0 < length nodes = omega arith in
      let r : get_or nodes y.0 root ≡ y.1 =
      read nodes y.0 root y.1 l ∙ ap (λ (i : ℕ). get_or nodes i y.1) z ∙ sym (ap (λ (q : ℕ × View). q.1) p) in
      let first = parts (y.1.lengthens == at) ((y.1.act.party == party) && comes_after last y.1.act) k.passes in
      let second = parts (y.1.act.party == party) (comes_after last y.1.act) first.1 in (
        l,
        record {
          child = record { later = omega arith; below = l; lengthens = ap (λ (x : View). x.lengthens) r ∙ eqb-true y.1.lengthens at first.0; act = refl };
          own = ap (λ (x : View). x.act.party) r ∙ eqb-true y.1.act.party party second.0;
          after = subst (λ (x : View). After last x.act) (sym r) (after_true last y.1.act second.1);
        },
        ap (λ (x : View). x.act) r,
      )

  later_passes : (k : ℕ) (d : View) → Later nodes at party last k → is_later at party last (get_or nodes k d) ≡ true
  later_passes k d l =
      let x = get_or nodes k root in
      ap (is_later at party last) (read nodes k d root l.child.below)
      ∙ whole (x.lengthens == at) ((x.act.party == party) && comes_after last x.act) (eq-eqb x.lengthens at l.child.lengthens)
      (whole (x.act.party == party) (comes_after last x.act) (eq-eqb x.act.party party l.own) (after_from last x.act l.after))

  -- what holds of each view that is kept holds of each later one
  each_later : (Q : ℕ × View → Type 0) (d : ℕ × View) → ((j : ℕ) → j < length (filter test (numbered nodes)) → Q (get_or (filter test (numbered nodes)) j d))
      → (k : ℕ) → k < length nodes → Later nodes at party last k → Q (k, get_or nodes k d.1)
  each_later Q d each k h l =
      let n = numbered-length nodes in
      let p = l.child.later in
      let e = numbered_at nodes k d p h in
      subst Q e (kept_each test Q (numbered nodes) d each (k - 1) (omega arith) (ap test e ∙ later_passes k d.1 l))

  pub best_none : filter test (numbered nodes) ≡ [] → Best nodes at party last (length nodes) None
  best_none e k h l = each_later (λ y. ⊥) (k, root) (λ j m. let n = ap length e in absurd (omega arith)) k h l

  pub best_some : (cmp : Act → Act → Ordering) → ((a b : Act) → Sooner a b → is_lt (cmp a b) ≡ true) → (y : ℕ × View)
      → IsLeast cmp (λ x. x.1.act) (filter test (numbered nodes)) y → Best nodes at party last (length nodes) (Some y.0)
  best_some cmp agrees y L =
      let P = passes_later y (kept_from test (numbered nodes) y L.at L.below L.is) in (
        P.0,
        P.1,
        λ k h l q.
            let f = each_later (λ z. is_lt (cmp z.1.act y.1.act) ≡ false) y L.least k h l in
            let a : (get_or nodes k y.1).act ≡ act_at nodes k = ap (λ (x : View). x.act) (read nodes k y.1 root h) in
            let g : is_lt (cmp (act_at nodes k) (act_at nodes y.0)) ≡ false =
            sym (ap (λ (b : Act). is_lt (cmp b (act_at nodes y.0))) a) ∙ ap (λ (b : Act). is_lt (cmp (get_or nodes k y.1).act b)) P.2 ∙ f in
            both_ways (is_lt (cmp (act_at nodes k) (act_at nodes y.0))) g (agrees (act_at nodes k) (act_at nodes y.0) q),
      )

  pub best_of : {A : Type 0} (v : A → ℕ × View) (cmp : Act → Act → Ordering) → ((a b : Act) → Sooner a b → is_lt (cmp a b) ≡ true) → (r : Option A) (o : Option ℕ)
      → MatchOption r (filter test (numbered nodes) ≡ []) (λ m. IsLeast cmp (λ x. x.1.act) (filter test (numbered nodes)) (v m))
      → o ≡ option_map (λ m. (v m).0) r → Best nodes at party last (length nodes) o
  best_of v cmp agrees None o h e = subst (Best nodes at party last (length nodes)) (sym e) (best_none h)
  best_of v cmp agrees (Some m) o h e = subst (Best nodes at party last (length nodes)) (sym e) (best_some cmp agrees (v m) h)

-- what comes after an act after the last one comes after the last one
onward : (last : Option Act) (a b : Act) → After last a → After (Some a) b → After last b
onward None a b x y = tt
onward (Some c) a b x y = sooner_strict.onward c a b x y

left_le : (xs : List View) (last : Option Act) (a : Act) → After last a → left xs (Some a) ≤ left xs last
left_le [] last a h = omega arith
left_le (x ∷ xs) last a h = go (comes_after (Some a) x.act) refl (comes_after last x.act) refl (left_le xs last a h)
  where
    go : (p : Bool) → comes_after (Some a) x.act ≡ p → (q : Bool) → comes_after last x.act ≡ q → left xs (Some a) ≤ left xs last
        → cond p (suc (left xs (Some a))) (left xs (Some a)) ≤ cond q (suc (left xs last)) (left xs last)
    go true e true f r = omega arith
    go true e false f r = absurd (both_ways (comes_after last x.act) f (after_from last x.act (onward last a x.act h (after_true (Some a) x.act e))))
    go false e true f r = omega arith
    go false e false f r = r

-- fewer are left after the act of a later view
pub left_less : (xs : List View) (last : Option Act) (k : ℕ) → k < length xs → After last (act_at xs k) → left xs (Some (act_at xs k)) < left xs last
left_less [] last k l h = absurd (omega arith)
left_less (x ∷ xs) last zero l h =
    let no : comes_after (Some x.act) x.act ≡ false = elim (cases_Bool (comes_after (Some x.act) x.act)) [
      | inr e ↦ e
      | inl e ↦ absurd (sooner_strict.never x.act (after_true (Some x.act) x.act e))
    ] in
    let a = cond-false (comes_after (Some x.act) x.act) (suc (left xs (Some x.act))) (left xs (Some x.act)) no in
    let b = cond-true (comes_after last x.act) (suc (left xs last)) (left xs last) (after_from last x.act h) in
    let c = left_le xs last x.act h in
    omega arith
left_less (x ∷ xs) last (suc k) l h = go (comes_after (Some a) x.act) refl (comes_after last x.act) refl (left_less xs last k (omega arith) h)
  where
    a : Act
    a = act_at xs k

    go : (p : Bool) → comes_after (Some a) x.act ≡ p → (q : Bool) → comes_after last x.act ≡ q → left xs (Some a) < left xs last
        → cond p (suc (left xs (Some a))) (left xs (Some a)) < cond q (suc (left xs last)) (left xs last)
    go true e true f r = omega arith
    go true e false f r = absurd (both_ways (comes_after last x.act) f (after_from last x.act (onward last a x.act h (after_true (Some a) x.act e))))
    go false e true f r = omega arith
    go false e false f r = r
