-- A table shows the charts whose lines were entered, one chart more each time.
use Rattle.std.proofs.Common.{◌≡◌, ℕ, zero, suc, ◌+◌, ◌*◌, ◌^◌, ◌<◌, Bool, true, false, cond, List, [], ◌∷◌, get_or, Some, None, Option, sym, refl, ap, ◌∙◌, subst, inl, inr, append-nil, zero-mul, arith}
use lib.Bits.{bit_or}
use Rattle.std.proofs.lemmas.Bool.{cases_Bool, both_ways, false≢true}
use Rattle.acts.specs.declared.Act.{Act}
use Rattle.acts.specs.Acts.{Lines, line}
use Rattle.families.specs.Judgement.{Charts}
use Rattle.families.specs.Tests.{same_acts, begins_with, passes}
use Rattle.numbering.specs.Numbering.{among, noted_line, views_below, views_of}
use Rattle.numbering.specs.Masks.{one, mask, begins, completes}
use Rattle.numbering.proofs.Same.{same_acts_lem, begins_of}
use Rattle.numbering.proofs.Noting.{below_has}
use Rattle.numbering.proofs.Masks.{mask_or, mask-none}
use Rattle.views.specs.declared.view.View.{View}
use Rattle.views.specs.Spelled.{root, spelled}
use Rattle.views.specs.Building.{Entered}
use Rattle.views.specs.Tables.{ShowsBelow, Shows}

-- before any chart
pub shows_none : (f : Charts) (p : ℕ) → ShowsBelow f p 0 (root ∷ [])
shows_none f p = record { views = refl; charts = λ j h. zeros j (λ x. x.charts) refl; complete = λ j h. zeros j (λ x. x.complete) refl }
  where
    zeros : (j : ℕ) (get : View → ℕ) → get root ≡ 0 → get (get_or (root ∷ []) j root) ≡ 0
    zeros zero get e = e
    zeros (suc j) get e = e

module _ (f : Charts) (p k : ℕ) (nodes : List View) (S : ShowsBelow f p k nodes) where
  same_masks : (t : ℕ → Bool) → t k ≡ false → mask t k ≡ mask t (suc k)
  same_masks t e = let z = zero-mul (2 ^ k) in let o : one (t k) * 2 ^ k ≡ 0 * 2 ^ k = ap (λ (b : Bool). one b * 2 ^ k) e in omega arith

  -- no chart under this id
  pub shows_empty : f k ≡ None → ShowsBelow f p (suc k) nodes
  shows_empty e = record {
    views = S.views ∙ ap (λ (o : Option Lines). noted_line p o (views_below p f k)) (sym e);
    charts = λ j h. let v = get_or (spelled nodes) j [] in S.charts j h ∙ same_masks (begins f p v) (ap (passes (λ c. begins_with v (line c p))) e);
    complete = λ j h. let v = get_or (spelled nodes) j [] in S.complete j h ∙ same_masks (completes f p v) (ap (passes (λ c. same_acts v (line c p))) e);
  }

  -- a list that is no view of the charts so far is a beginning of none of their lines
  no_begins : (v : List Act) → among (spelled nodes) v ≡ false → (i : ℕ) → i < k → begins f p v i ≡ false
  no_begins v h i l = elim (cases_Bool (begins f p v i)) [
    | inr e ↦ e
    | inl e ↦ absurd (both_ways (among (spelled nodes) v) h (subst (λ (vs : List (List Act)). among vs v ≡ true) (sym S.views) (below_has p f k i v l e)))
  ]

  no_completes : (v : List Act) → among (spelled nodes) v ≡ false → (i : ℕ) → i < k → completes f p v i ≡ false
  no_completes v h i l = elim (cases_Bool (completes f p v i)) [
    | inr e ↦ e
    | inl e ↦ absurd (both_ways (begins f p v i) (no_begins v h i l) (whole (f i) e))
  ]
    where
      whole : (o : Option Lines) → passes (λ c. same_acts v (line c p)) o ≡ true → passes (λ c. begins_with v (line c p)) o ≡ true
      whole None x = absurd (false≢true x)
      whole (Some c) x = begins_of v (line c p) ([], append-nil v ∙ same_acts_lem v (line c p) x)

  with_mask : (t : ℕ → Bool) (b : Bool) → t k ≡ b → cond b (bit_or (mask t k) (2 ^ k)) (mask t k) ≡ mask t (suc k)
  with_mask t true e = mask_or t k ∙ ap (λ (x : Bool). one x * 2 ^ k + mask t k) (sym e)
  with_mask t false e = same_masks t e

  -- a chart under this id
  pub shows_chart : (c : Lines) → f k ≡ Some c → (bit : ℕ) → bit ≡ 2 ^ k → (more : List View) → Entered nodes (line c p) bit more
      → ShowsBelow f p (suc k) more
  shows_chart c e bit is more E = record {
    views = E.views ∙ ap (λ (vs : List (List Act)). noted_line p (Some c) vs) S.views ∙ ap (λ (o : Option Lines). noted_line p o (views_below p f k)) (sym e);
    charts = λ j h.
        let v = get_or (spelled more) j [] in
        E.charts (λ u. mask (begins f p u) k) S.charts (λ u n. mask-none (begins f p u) k (no_begins u n)) j h
        ∙ ap (λ (b : ℕ). cond (begins_with v (line c p)) (bit_or (mask (begins f p v) k) b) (mask (begins f p v) k)) is
        ∙ with_mask (begins f p v) (begins_with v (line c p)) (ap (passes (λ d. begins_with v (line d p))) e);
    complete = λ j h.
        let v = get_or (spelled more) j [] in
        E.complete (λ u. mask (completes f p u) k) S.complete (λ u n. mask-none (completes f p u) k (no_completes u n)) j h
        ∙ ap (λ (b : ℕ). cond (same_acts v (line c p)) (bit_or (mask (completes f p v) k) b) (mask (completes f p v) k)) is
        ∙ with_mask (completes f p v) (same_acts v (line c p)) (ap (passes (λ d. same_acts v (line d p))) e);
  }

pub shows_all : (f : Charts) (p : ℕ) (nodes : List View) → ShowsBelow f p 8 nodes → Shows f p nodes
unfolding views_of
shows_all f p nodes S = record { views = S.views; charts = S.charts; complete = S.complete }
