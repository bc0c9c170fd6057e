-- What a play asks of the tables: how many charts agree, which chart is named, and the views with one act more.
use Rattle.std.proofs.Common.{◌≡◌, ℕ, ◌<◌, Bool, true, false, List, [], ◌∷◌, ◌++◌, length, get_or, Some, None, Option, sym, refl, ap, ◌∙◌, subst, inl, inr, arith}
use lib.Count.{ones, count_trailing_zeros}
use Rattle.std.proofs.lemmas.Bool.{cases_lt, cases_eq, both_ways, false≢true}
use Rattle.acts.specs.declared.Act.{Act}
use Rattle.acts.specs.Acts.{part, Lines, line}
use Rattle.conversation.specs.Conversations.{Conversation}
use Rattle.families.specs.Judgement.{Charts, View as ViewOf, Local, HeldConversation, Judgeable}
use Rattle.families.specs.Tests.{same_acts, passes, agrees, equals}
use Rattle.families.proofs.Ranges.{past_end}
use Rattle.families.proofs.Agreement.{held_weaker, few_parties, local-none}
use Rattle.families.proofs.Testing.{same_tells, all_tells}
use Rattle.families.proofs.Kinding.{exact_tells}
use Rattle.numbering.specs.Numbering.{among, place, Apart}
use Rattle.numbering.proofs.Masks.{mask_ones}
use Rattle.numbering.proofs.Noting.{placed, place_is, stands_among}
use Rattle.histories.specs.Right.{agreeing, WithLines}
use Rattle.tuples.specs.Tuples.{numbers}
use Rattle.tuples.proofs.Moving.{part_last, part-kept}
use Rattle.views.specs.declared.view.View.{View}
use Rattle.views.specs.Spelled.{spelled, Earlier, Child, NoChild}
use Rattle.views.specs.Parties.{table_at}
use Rattle.views.proofs.Spelling.{spelled-length, child_spells, childless}
use Rattle.room.specs.Tables.{views_in}
use Rattle.room.specs.Joining.{joined}
use Rattle.judging.specs.Judging.{AllShown, PartsShown, LeastPassing}
use Rattle.judging.proofs.Masking.{mask_positive, least_bit}
use Rattle.judging.proofs.Shown.{shown_listing, table_view, views_shown}
use Rattle.judging.proofs.Joints.{joined_charts, joined_complete}

module _ (f : Charts) (ts : List (List View)) (S : AllShown f ts) (w : List Act) (P : PartsShown ts w) where
  -- the bits of the joined mask are the charts that agree
  pub agreeing_ones : ones (joined (λ x. x.charts) ts (numbers (views_in ts) w) (length ts)) ≡ agreeing f w
  unfolding agreeing
  agreeing_ones = ap ones (joined_charts f ts S w P) ∙ mask_ones (λ i. passes (agrees w) (f i)) 8

  -- the lowest bit names the least chart whose lines are the parts
  pub named_id : 0 < joined (λ x. x.complete) ts (numbers (views_in ts) w) (length ts)
      → LeastPassing (λ i. passes (equals w) (f i)) 8 (count_trailing_zeros 8 (joined (λ x. x.complete) ts (numbers (views_in ts) w) (length ts)))
  named_id h =
      let e = joined_complete f ts S w P in
      subst (λ (m : ℕ). LeastPassing (λ i. passes (equals w) (f i)) 8 (count_trailing_zeros 8 m)) (sym e)
      (least_bit (λ i. passes (equals w) (f i)) 8 (subst (λ (m : ℕ). 0 < m) e h))

module _ (G : List Act → Bool) (n : ℕ) (f : Charts) (J : Judgeable G n f) (ts : List (List View)) (S : AllShown f ts)
    (w : List Act) (l : Local G f w) where
  -- a held conversation is named by some bit
  pub held_named : HeldConversation G f w → 0 < joined (λ x. x.complete) ts (numbers (views_in ts) w) (length ts)
  held_named c =
      let t = (exact_tells G n f J w l).1 (held_weaker f (λ c. Conversation G c w) (λ c. (p : ℕ) → part p w ≡ line c p) (λ c v. v.lines) c) in
      let e = joined_complete f ts S w (views_shown G n f J ts S w l.views) in
      subst (λ (m : ℕ). 0 < m) (sym e) (mask_positive (λ i. passes (equals w) (f i)) 8 t)

  -- the lines of a chart that passes are the parts, past six parties too
  pub named_lines : (id : ℕ) → passes (equals w) (f id) ≡ true → WithLines f w id
  named_lines id h = go (f id) refl h
    where
      go : (o : Option Lines) → f id ≡ o → passes (equals w) o ≡ true → WithLines f w id
      go None e x = absurd (false≢true x)
      go (Some c) e x = record {
        chart = c;
        held_there = e;
        lines = λ p. elim (cases_lt p 6) [
          | inl k ↦ (all_tells 6 (λ q. same_acts (part q w) (line c q)) (λ q. part q w ≡ line c q) (λ q. same_tells (part q w) (line c q))).0 x p k
          | inr k ↦
              let m = few_parties G n f J in
              local-none G n f J w l p (omega arith) ∙ sym (past_end c n p (J.parties id c e) (omega arith))
        ];
      }

-- one act more after a view with a number
module _ (nodes : List View) (E : Earlier nodes) (A : Apart (spelled nodes)) (v : List Act) (here : among (spelled nodes) v ≡ true)
    (k : ℕ) (is : place (spelled nodes) v ≡ k) (a : Act) where
  at : get_or (spelled nodes) k [] ≡ v
  at = ap (λ (i : ℕ). get_or (spelled nodes) i []) (sym is) ∙ (placed (spelled nodes) v here).is

  below : k < length nodes
  below = let b = (placed (spelled nodes) v here).below in let n = spelled-length nodes in omega arith

  child_at : (j : ℕ) → Child nodes k a j → get_or (spelled nodes) j [] ≡ v ++ (a ∷ [])
  child_at j c = child_spells nodes E A k below a j c ∙ ap (λ (u : List Act). u ++ (a ∷ [])) at

  pub child_view : (j : ℕ) → Child nodes k a j → among (spelled nodes) (v ++ (a ∷ [])) ≡ true
  child_view j c =
      let n = spelled-length nodes in
      let b = c.below in
      stands_among (spelled nodes) (v ++ (a ∷ [])) (record { at = j; below = omega arith; is = child_at j c })

  pub child_number : (j : ℕ) → Child nodes k a j → place (spelled nodes) (v ++ (a ∷ [])) ≡ j
  child_number j c =
      let n = spelled-length nodes in
      let b = c.below in
      place_is (spelled nodes) (v ++ (a ∷ [])) A j (omega arith) (child_at j c)

  pub childless_view : NoChild nodes k a → among (spelled nodes) (v ++ (a ∷ [])) ≡ false
  childless_view none =
      ap (λ (u : List Act). among (spelled nodes) (u ++ (a ∷ []))) (sym at) ∙ childless nodes E A k below a none

-- one act more after a list whose parts are views
module _ (f : Charts) (ts : List (List View)) (S : AllShown f ts) (w : List Act) (P : PartsShown ts w)
    (a : Act) (p : ℕ) (own : a.party ≡ p) (h : p < length ts) (E : Earlier (table_at ts p)) where
  apart : Apart (spelled (table_at ts p))
  apart = (shown_listing f p (table_at ts p) (S.each p (let e = S.six in omega arith))).apart

  -- the other parties keep their views
  pub kept-number : (q : ℕ) → (q ≡ p → ⊥) → numbers (views_in ts) (w ++ (a ∷ [])) q ≡ numbers (views_in ts) w q
  kept-number q n = ap (place (spelled (table_at ts q))) (part-kept q w a (λ e. n (sym e ∙ own)))

  module _ (k : ℕ) (is : numbers (views_in ts) w p ≡ k) where
    pub stepped_number : (j : ℕ) → Child (table_at ts p) k a j → numbers (views_in ts) (w ++ (a ∷ [])) p ≡ j
    stepped_number j c =
        ap (place (spelled (table_at ts p))) (part_last p w a own) ∙ child_number (table_at ts p) E apart (part p w) (P p h) k is a j c

    pub stepped_shown : (j : ℕ) → Child (table_at ts p) k a j → PartsShown ts (w ++ (a ∷ []))
    stepped_shown j c q l = elim (cases_eq q p) [
      | inl e ↦ subst (λ (i : ℕ). among (spelled (table_at ts i)) (part i (w ++ (a ∷ []))) ≡ true) (sym e)
          (ap (among (spelled (table_at ts p))) (part_last p w a own) ∙ child_view (table_at ts p) E apart (part p w) (P p h) k is a j c)
      | inr n ↦ ap (among (spelled (table_at ts q))) (part-kept q w a (λ e. n (sym e ∙ own))) ∙ P q l
    ]

module _ (G : List Act → Bool) (n : ℕ) (f : Charts) (J : Judgeable G n f) (ts : List (List View)) (S : AllShown f ts)
    (p : ℕ) (h : p < length ts) (E : Earlier (table_at ts p)) (v : List Act) (V : ViewOf f p v)
    (k : ℕ) (is : place (spelled (table_at ts p)) v ≡ k) (a : Act) where
  there : among (spelled (table_at ts p)) v ≡ true
  there = (table_view G n f J ts S p h v).1 V

  single : Apart (spelled (table_at ts p))
  single = (shown_listing f p (table_at ts p) (S.each p (let e = S.six in omega arith))).apart

  -- a view lengthened to its child is a view, and with no child it is none
  pub step_is_view : (j : ℕ) → Child (table_at ts p) k a j → ViewOf f p (v ++ (a ∷ []))
  step_is_view j c = (table_view G n f J ts S p h (v ++ (a ∷ []))).0 (child_view (table_at ts p) E single v there k is a j c)

  pub step_is_none : NoChild (table_at ts p) k a → ViewOf f p (v ++ (a ∷ [])) → ⊥
  step_is_none none x =
      both_ways (among (spelled (table_at ts p)) (v ++ (a ∷ []))) (childless_view (table_at ts p) E single v there k is a none)
      ((table_view G n f J ts S p h (v ++ (a ∷ []))).1 x)
