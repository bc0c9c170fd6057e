-- A line is entered act by act.
use Rattle.std.proofs.Common.{◌≡◌, ℕ, zero, suc, ◌<◌, ◌≤◌, Bool, true, false, cond, ◌||◌, List, [], ◌∷◌, ◌++◌, length, get_or, set, sym, refl, ap, ◌∙◌, subst, inl, inr, arith, length-set}
use lib.Bits.{bit_or}
use Rattle.std.proofs.lemmas.Bool.{cases_lt, cases_eq, cases_Bool, both_ways, cond-true, cond-false}
use Rattle.std.proofs.lemmas.List.{get_or_append_left, get_or_push, length_push, get_or-set_same, get_or-set_other}
use Rattle.acts.specs.declared.Act.{Act}
use Rattle.families.specs.Tests.{same_acts, begins_with}
use Rattle.numbering.specs.Numbering.{among, Apart, noted}
use Rattle.numbering.proofs.Same.{acts_differ, begins-push, longer_no, acts_same}
use Rattle.numbering.proofs.Noting.{apart_distinct, along_push, along_keeps, noted_there, noted_new}
use Rattle.views.specs.declared.view.View.{View}
use Rattle.views.specs.Spelled.{root, spelled}
use Rattle.views.specs.Building.{Grown, in_chart, completing, Masked, Bare, with_bit, Entered, Entering}
use Rattle.views.proofs.Spelling.{spelled-length, spelled-first}
use Rattle.views.proofs.Growing.{remasked_each, remasked}

-- a list stays where it stands when others are noted
noted-at : (vs : List (List Act)) (v : List Act) (j : ℕ) → j < length vs → get_or (noted vs v) j [] ≡ get_or vs j []
noted-at vs v j h = elim (cases_Bool (among vs v)) [
  | inl e ↦ ap (λ (ws : List (List Act)). get_or ws j []) (noted_there vs v e)
  | inr e ↦ ap (λ (ws : List (List Act)). get_or ws j []) (noted_new vs v e) ∙ get_or_append_left vs (v ∷ []) [] j h
]

-- a new list is the noted one, and it was not there
noted_past : (vs : List (List Act)) (v : List Act) (j : ℕ) → length vs ≤ j → j < length (noted vs v) → (get_or (noted vs v) j [] ≡ v) × (among vs v ≡ false)
noted_past vs v j g l = elim (cases_Bool (among vs v)) [
  | inl e ↦ let n = ap length (noted_there vs v e) in absurd (omega arith)
  | inr e ↦
      let n = ap length (noted_new vs v e) in
      let m = length_push vs v in
      (ap (λ (ws : List (List Act)). get_or ws j []) (noted_new vs v e) ∙ get_or_push vs v [] j (omega arith), e)
]

-- masks after a view was noted: the old ones stay, and a new one has none
module _ (nodes more : List View) (v : List Act) (g : Grown nodes more) (is : spelled more ≡ noted (spelled nodes) v) where
  grown_masks : (get : View → ℕ) (t : List Act → ℕ)
      → ((j : ℕ) → length nodes ≤ j → j < length more → get (get_or more j root) ≡ 0)
      → (among (spelled nodes) v ≡ false → t v ≡ 0)
      → Masked get t nodes → Masked get t more
  grown_masks get t new bare M j h = elim (cases_lt j (length nodes)) [
    | inl l ↦
        let n = spelled-length nodes in
        ap get (g.old j l) ∙ M j l ∙ ap t (sym (ap (λ (ws : List (List Act)). get_or ws j []) is ∙ noted-at (spelled nodes) v j (omega arith)))
    | inr l ↦
        let n = spelled-length nodes in
        let m = spelled-length more in
        let k = ap length is in
        let p = noted_past (spelled nodes) v j (omega arith) (omega arith) in
        new j l h ∙ sym (bare p.1) ∙ ap t (sym (ap (λ (ws : List (List Act)). get_or ws j []) is ∙ p.0))
  ]

-- a bit more in the mask of one view
module _ (nodes : List View) (A : Apart (spelled nodes)) (at : ℕ) (h : at < length nodes) (get : View → ℕ) (y : View) (bit : ℕ)
    (same-lengthens : y.lengthens ≡ (get_or nodes at root).lengthens) (same_act_lem : y.act ≡ (get_or nodes at root).act) where
  new : List View
  new = set nodes at y

  pub bit_spelled : spelled (set nodes at y) ≡ spelled nodes
  bit_spelled = remasked nodes at y (remasked_each nodes at h (get_or nodes at root) (own nodes at h) y same-lengthens same_act_lem)
    where
      own : (xs : List View) (k : ℕ) → k < length xs → get_or xs k root ≡ get_or xs k (get_or xs k root)
      own [] k l = absurd (omega arith)
      own (x ∷ xs) zero l = refl
      own (x ∷ xs) (suc k) l = own xs k (omega arith)

  -- at another view the mask is as before
  pub bit_masks : (t u : List Act → ℕ) → Masked get t nodes → get y ≡ u (get_or (spelled nodes) at [])
      → ((v : List Act) → (v ≡ get_or (spelled nodes) at [] → ⊥) → u v ≡ t v) → Masked get u (set nodes at y)
  bit_masks t u M here other j l = elim (cases_eq j at) [
    | inl e ↦
        ap (λ (k : ℕ). get (get_or (set nodes at y) k root)) e
        ∙ ap get (get_or-set_same nodes at y root h)
        ∙ here
        ∙ ap (λ (vs : List (List Act)). u (get_or vs at [])) (sym bit_spelled)
        ∙ ap (λ (k : ℕ). u (get_or (spelled (set nodes at y)) k [])) (sym e)
    | inr n ↦
        let s = length-set nodes at y in
        let q = spelled-length nodes in
        ap get (get_or-set_other nodes at j y root n)
        ∙ M j (omega arith)
        ∙ sym (other (get_or (spelled nodes) j []) (λ e. n (apart_distinct (spelled nodes) A j at (omega arith) (omega arith) e)))
        ∙ ap (λ (vs : List (List Act)). u (get_or vs j [])) (sym bit_spelled)
  ]

  pub bit_same : (t : List Act → ℕ) → Masked get t nodes → get y ≡ get (get_or nodes at root) → Masked get t (set nodes at y)
  bit_same t M e = bit_masks t t M (e ∙ M at h) (λ v n. refl)

with_yes : (test : List Act → Bool) (bit : ℕ) (t : List Act → ℕ) (v : List Act) → test v ≡ true → with_bit test bit t v ≡ bit_or (t v) bit
with_yes test bit t v e = cond-true (test v) (bit_or (t v) bit) (t v) e

with_no : (test : List Act → Bool) (bit : ℕ) (t : List Act → ℕ) (v : List Act) → test v ≡ false → with_bit test bit t v ≡ t v
with_no test bit t v e = cond-false (test v) (bit_or (t v) bit) (t v) e

-- a beginning of the line so far is one of the line with an act more, and only the longer line itself is new
begins_same : (v done : List Act) (a : Act) → (v ≡ done ++ (a ∷ []) → ⊥) → begins_with v (done ++ (a ∷ [])) ≡ begins_with v done
begins_same v done a n =
    begins-push v done a ∙ ap (λ (b : Bool). begins_with v done || b) (acts_differ v (done ++ (a ∷ [])) n) ∙ or-none (begins_with v done)
  where
    or-none : (b : Bool) → (b || false) ≡ b
    or-none true = refl
    or-none false = refl

begins_new : (done : List Act) (a : Act) → (begins_with (done ++ (a ∷ [])) done ≡ false) × (begins_with (done ++ (a ∷ [])) (done ++ (a ∷ [])) ≡ true)
begins_new done a =
    let n = length_push done a in
    (longer_no (done ++ (a ∷ [])) done (omega arith), begins-push (done ++ (a ∷ [])) done a ∙ or-all (begins_with (done ++ (a ∷ [])) done) (acts_same (done ++ (a ∷ []))))
  where
    or-all : (b : Bool) {x : Bool} → x ≡ true → (b || x) ≡ true
    or-all true e = refl
    or-all false e = e

-- nothing is entered yet but the empty view
pub entering_none : (nodes : List View) → 0 < length nodes → Apart (spelled nodes) → (bit : ℕ)
    → Entering nodes [] bit 0 (set nodes 0 (in_chart (get_or nodes 0 root) bit))
entering_none nodes some A bit =
    let y = in_chart (get_or nodes 0 root) bit in
    let first = spelled-first nodes in
    record {
      views = bit_spelled nodes A 0 some (λ x. x.charts) y bit refl refl;
      few = (let n = length-set nodes 0 y in omega arith);
      below = (let n = length-set nodes 0 y in omega arith);
      here = ap (λ (vs : List (List Act)). get_or vs 0 []) (bit_spelled nodes A 0 some (λ x. x.charts) y bit refl refl) ∙ first;
      charts = λ t M B. bit_masks nodes A 0 some (λ x. x.charts) y bit refl refl t (with_bit (λ v. begins_with v []) bit t) M
          (ap (λ (m : ℕ). bit_or m bit) (M 0 some ∙ ap t first) ∙ sym (ap (with_bit (λ v. begins_with v []) bit t) first))
          (λ v n. with_no (λ u. begins_with u []) bit t v (longer_no v [] (positive v (λ e. n (e ∙ sym first)))));
      complete = λ t M B. bit_same nodes A 0 some (λ x. x.complete) y bit refl refl t M refl;
    }
  where
    positive : (v : List Act) → (v ≡ [] → ⊥) → 0 < length v
    positive [] n = absurd (n refl)
    positive (a ∷ v) n = omega arith

-- one act more
module _ (start : List View) (done : List Act) (a : Act) (bit at : ℕ) (nodes : List View) (E : Entering start done bit at nodes) (more : List View) (k : ℕ)
    (below : k < length more) (A : Apart (spelled more)) (g : Grown nodes more)
    (is : get_or (spelled more) k [] ≡ get_or (spelled nodes) at [] ++ (a ∷ []))
    (views : spelled more ≡ noted (spelled nodes) (get_or (spelled nodes) at [] ++ (a ∷ []))) where
  y : View
  y = in_chart (get_or more k root) bit

  now_at : get_or (spelled more) k [] ≡ done ++ (a ∷ [])
  now_at = is ∙ ap (λ (v : List Act). v ++ (a ∷ [])) E.here

  noted_now : spelled more ≡ noted (spelled nodes) (done ++ (a ∷ []))
  noted_now = views ∙ ap (λ (v : List Act). noted (spelled nodes) (v ++ (a ∷ []))) E.here

  -- a list that was no view of the table at the start has no charts
  bare_now : (t : List Act → ℕ) → Bare t start → among (spelled nodes) (done ++ (a ∷ [])) ≡ false → t (done ++ (a ∷ [])) ≡ 0
  bare_now t B e = B (done ++ (a ∷ [])) (elim (cases_Bool (among (spelled start) (done ++ (a ∷ [])))) [
    | inr x ↦ x
    | inl x ↦
        absurd (both_ways (among (spelled nodes) (done ++ (a ∷ []))) e
        (subst (λ (vs : List (List Act)). among vs (done ++ (a ∷ [])) ≡ true) (sym E.views) (along_keeps (spelled start) [] done (done ++ (a ∷ [])) x)))
  ])

  pub entering_more : Entering start (done ++ (a ∷ [])) bit k (set more k (in_chart (get_or more k root) bit))
  entering_more =
      let n = length-set more k (in_chart (get_or more k root) bit) in
      let m = length_push done a in
      record {
        views = bit_spelled more A k below (λ x. x.charts) (in_chart (get_or more k root) bit) bit refl refl
            ∙ noted_now
            ∙ ap (λ (vs : List (List Act)). noted vs (done ++ (a ∷ []))) E.views
            ∙ sym (along_push (spelled start) [] done a);
        few = (let f = E.few in let w = g.few in omega arith);
        below = omega arith;
        here = ap (λ (vs : List (List Act)). get_or vs k []) (bit_spelled more A k below (λ x. x.charts) (in_chart (get_or more k root) bit) bit refl refl) ∙ now_at;
        charts = charts;
        complete = λ t M B. bit_same more A k below (λ x. x.complete) (in_chart (get_or more k root) bit) bit refl refl t
            (grown_masks nodes more (done ++ (a ∷ [])) g noted_now (λ x. x.complete) t (λ j l h. (g.new j l h).1) (bare_now t B) (E.complete t M B)) refl;
      }
    where
      old : (List Act → ℕ) → List Act → ℕ
      old t = with_bit (λ v. begins_with v done) bit t

      charts : (t : List Act → ℕ) → Masked (λ x. x.charts) t start → Bare t start
          → Masked (λ x. x.charts) (with_bit (λ v. begins_with v (done ++ (a ∷ []))) bit t) (set more k (in_chart (get_or more k root) bit))
      charts t M B =
          let z = begins_new done a in
          let was : old t (done ++ (a ∷ [])) ≡ t (done ++ (a ∷ [])) = with_no (λ v. begins_with v done) bit t (done ++ (a ∷ [])) z.0 in
          let masks : Masked (λ x. x.charts) (old t) more =
          grown_masks nodes more (done ++ (a ∷ [])) g noted_now (λ x. x.charts) (old t) (λ j l h. (g.new j l h).0) (λ e. was ∙ bare_now t B e) (E.charts t M B) in
          let u = with_bit (λ v. begins_with v (done ++ (a ∷ []))) bit t in
          bit_masks more A k below (λ x. x.charts) (in_chart (get_or more k root) bit) bit refl refl (old t) u masks
          (ap (λ (x : ℕ). bit_or x bit) (masks k below ∙ ap (old t) now_at ∙ was)
          ∙ sym (ap u now_at ∙ with_yes (λ v. begins_with v (done ++ (a ∷ []))) bit t (done ++ (a ∷ [])) z.1))
          (λ v n. ap (λ (b : Bool). cond b (bit_or (t v) bit) (t v)) (begins_same v done a (λ e. n (e ∙ sym now_at))))

-- the whole line
pub entering_all : (start : List View) (l : List Act) (bit at : ℕ) (nodes : List View) → Entering start l bit at nodes → Apart (spelled nodes)
    → Entered start l bit (set nodes at (completing (get_or nodes at root) bit))
entering_all start l bit at nodes E A =
    let y = completing (get_or nodes at root) bit in
    let n = length-set nodes at y in
    record {
      views = bit_spelled nodes A at E.below (λ x. x.complete) y bit refl refl ∙ E.views;
      few = (let f = E.few in omega arith);
      charts = λ t M B. bit_same nodes A at E.below (λ x. x.charts) y bit refl refl (with_bit (λ v. begins_with v l) bit t) (E.charts t M B) refl;
      complete = λ t M B.
          let masks = E.complete t M B in
          let u = with_bit (λ v. same_acts v l) bit t in
          bit_masks nodes A at E.below (λ x. x.complete) y bit refl refl t u masks
          (ap (λ (x : ℕ). bit_or x bit) (masks at E.below ∙ ap t E.here) ∙ sym (ap u E.here ∙ with_yes (λ v. same_acts v l) bit t l (acts_same l)))
          (λ v f. with_no (λ w. same_acts w l) bit t v (acts_differ v l (λ e. f (e ∙ sym E.here))));
    }
