-- The numbered lists of a party are its views.
use Rattle.std.proofs.Common.{◌≡◌, ℕ, ◌<◌, ◌≤◌, Bool, true, List, [], ◌∷◌, ◌++◌, length, get_or, Some, None, Option, sym, refl, ap, ◌∙◌, subst, inl, inr, append_assoc}
use Rattle.std.specs.List.{AllByRecursion}
use Rattle.std.proofs.lemmas.Bool.{false≢true}
use Rattle.acts.specs.declared.Act.{Act}
use Rattle.acts.specs.Acts.{InRange, Lines, line}
use Rattle.families.specs.Judgement.{Charts, View, Judgeable}
use Rattle.families.specs.Tests.{begins_with, passes}
use Rattle.families.proofs.Ranges.{all_left, all_right}
use Rattle.families.proofs.Kinding.{start_view}
use Rattle.numbering.specs.Numbering.{among, views_of}
use Rattle.numbering.proofs.Same.{begins_of, begins_beginning}
use Rattle.numbering.proofs.Noting.{Listing, below_listing, below_has, below_only, below_length, at-among, Placed, placed}

pub views_listing : (p : ℕ) (f : Charts) → Listing (views_of p f)
unfolding views_of
views_listing p f = below_listing p f 8

-- what holds of a view holds of the view that it lengthens
pub view_before : (f : Charts) (p : ℕ) (u x : List Act) → View f p (u ++ x) → View f p u
view_before f p u x v = record {
  id = v.id;
  chart = v.chart;
  held = v.held;
  fits = (x ++ v.fits.0, sym (append_assoc u x v.fits.0) ∙ v.fits.1);
}

module _ (G : List Act → Bool) (n : ℕ) (f : Charts) (J : Judgeable G n f) where
  pub view_among : (p : ℕ) (v : List Act) → View f p v → among (views_of p f) v ≡ true
  unfolding views_of
  view_among p v x =
      below_has p f 8 x.id v (J.ids x.id x.chart x.held)
      (ap (passes (λ c. begins_with v (line c p))) x.held ∙ begins_of v (line x.chart p) x.fits)

  pub among_view : (p : ℕ) (v : List Act) → among (views_of p f) v ≡ true → View f p v
  unfolding views_of
  among_view p v h = elim (below_only p f 8 v h) [
    | inl e ↦ subst (View f p) (sym e) (start_view G n f J p)
    | inr x ↦ go x.0 (f x.0) refl x.2
  ]
    where
      go : (i : ℕ) (o : Option Lines) → f i ≡ o → passes (λ c. begins_with v (line c p)) o ≡ true → View f p v
      go i None e b = absurd (false≢true b)
      go i (Some c) e b = record { id = i; chart = c; held = e; fits = begins_beginning v (line c p) b }

  -- a view stands at its number
  pub view_placed : (p : ℕ) (v : List Act) → View f p v → Placed (views_of p f) v
  view_placed p v x = placed (views_of p f) v (view_among p v x)

  pub view_at_lem : (p k : ℕ) → k < length (views_of p f) → View f p (get_or (views_of p f) k [])
  view_at_lem p k h = among_view p (get_or (views_of p f) k []) (at-among (views_of p f) k h)

  -- the acts of a view are in range and the party's own
  pub view_acts : (p : ℕ) (v : List Act) → View f p v → AllByRecursion (λ a. InRange n a × (a.party ≡ p)) v
  view_acts p v x =
      all_left (λ a. InRange n a × (a.party ≡ p)) v x.fits.0
      (subst (AllByRecursion (λ a. InRange n a × (a.party ≡ p))) (sym x.fits.1)
      (subst (λ (m : ℕ). AllByRecursion (λ a. InRange m a × (a.party ≡ p)) (line x.chart p)) (J.parties x.id x.chart x.held)
      ((J.lined x.id x.chart x.held).fine p).acts))

  pub view_act : (p : ℕ) (u : List Act) (a : Act) → View f p (u ++ (a ∷ [])) → InRange n a × (a.party ≡ p)
  view_act p u a x = (all_right (λ b. InRange n b × (b.party ≡ p)) u (a ∷ []) (view_acts p (u ++ (a ∷ [])) x)).0

  -- there are at most 257 of them
  pub views_few : (p : ℕ) → length (views_of p f) ≤ 257
  unfolding views_of
  views_few p = below_length p f 8 (λ i c e. ((J.lined i c e).fine p).short)
