-- A table with one view more, and with other masks.
use Rattle.std.proofs.Common.{◌≡◌, ℕ, zero, suc, ◌<◌, ◌≤◌, ◌⊎◌, List, [], ◌∷◌, ◌++◌, length, get_or, set, sym, refl, ap, ◌∙◌, subst, inl, inr, arith, length-set}
use Rattle.std.proofs.lemmas.Bool.{cases_lt, cases_eq}
use Rattle.std.proofs.lemmas.List.{get_or_append_left, get_or_push, length_push, get_or-set_same, get_or-set_other, get_or_read}
use Rattle.acts.specs.declared.Act.{Act}
use Rattle.numbering.specs.Numbering.{Apart, noted}
use Rattle.numbering.proofs.Noting.{Listing, listing_push, noted_new, noted_there, stands_among}
use Rattle.views.specs.declared.view.View.{View}
use Rattle.views.specs.declared.party_views.PartyViews.{PartyViews}
use Rattle.views.specs.Parties.{nodes_in}
use Rattle.views.specs.Spelled.{root, spelled, Earlier, Child, NoChild}
use Rattle.views.specs.Building.{Grown}
use Rattle.views.proofs.Spelling.{spelled-push, spelled-length, spelled-first, same_spelling, child_spells, childless}

-- other masks at a view
module _ (nodes : List View) (at : ℕ) (h : at < length nodes) (x : View) (is : x ≡ get_or nodes at x) (y : View)
    (same-lengthens : y.lengthens ≡ x.lengthens) (same_act_lem : y.act ≡ x.act) where
  here : x ≡ get_or nodes at root
  here = get_or_read nodes at x h is root

  pub remasked_each : (k : ℕ) → ((get_or (set nodes at y) k root).lengthens ≡ (get_or nodes k root).lengthens) × ((get_or (set nodes at y) k root).act ≡ (get_or nodes k root).act)
  remasked_each k = elim (cases_eq k at) [
    | inl e ↦
        let g : get_or (set nodes at y) k root ≡ y = ap (λ (i : ℕ). get_or (set nodes at y) i root) e ∙ get_or-set_same nodes at y root h in
        let o : get_or nodes k root ≡ x = ap (λ (i : ℕ). get_or nodes i root) e ∙ sym here in
        (ap (λ (v : View). v.lengthens) g ∙ same-lengthens ∙ ap (λ (v : View). v.lengthens) (sym o), ap (λ (v : View). v.act) g ∙ same_act_lem ∙ ap (λ (v : View). v.act) (sym o))
    | inr n ↦
        let g : get_or (set nodes at y) k root ≡ get_or nodes k root = get_or-set_other nodes at k y root n in
        (ap (λ (v : View). v.lengthens) g, ap (λ (v : View). v.act) g)
  ]

  pub remasked_earlier : Earlier nodes → Earlier (set nodes at y)
  remasked_earlier E k p l =
      let n : length (set nodes at y) ≡ length nodes = length-set nodes at y in
      subst (λ (m : ℕ). m < k) (sym (remasked_each k).0) (E k p (omega arith))

-- the masks do not matter to the lists
pub remasked : (nodes : List View) (at : ℕ) (y : View)
    → ((k : ℕ) → ((get_or (set nodes at y) k root).lengthens ≡ (get_or nodes k root).lengthens) × ((get_or (set nodes at y) k root).act ≡ (get_or nodes k root).act))
    → spelled (set nodes at y) ≡ spelled nodes
remasked [] at y e = refl
remasked (z ∷ xs) zero y e = refl
remasked (z ∷ xs) (suc at) y e = same_spelling ([] ∷ []) (set xs at y) xs (length-set xs at y) (λ k l. e (suc k))

-- what every table keeps
pub record Sound (nodes : List View) : Type 0 where
  pub some : 0 < length nodes
  pub earlier : Earlier nodes
  pub apart : Apart (spelled nodes)
  pub short : (k : ℕ) → length (get_or (spelled nodes) k []) ≤ 32

pub sound : (v : PartyViews) → Sound (nodes_in v)
sound v = let n = v.views.ok.0 in let z = v.some in record { some = omega arith; earlier = v.earlier; apart = v.apart; short = v.short }

-- other masks at a view
pub remasked_sound : (nodes : List View) → Sound nodes → (at : ℕ) → at < length nodes → (x : View) → x ≡ get_or nodes at x
    → (y : View) → y.lengthens ≡ x.lengthens → y.act ≡ x.act → Sound (set nodes at y)
remasked_sound nodes S at h x is y l a =
    let same = remasked nodes at y (remasked_each nodes at h x is y l a) in
    record {
      some = (let n = length-set nodes at y in omega arith);
      earlier = remasked_earlier nodes at h x is y l a S.earlier;
      apart = subst Apart (sym same) S.apart;
      short = λ k. subst (λ (vs : List (List Act)). length (get_or vs k []) ≤ 32) (sym same) (S.short k);
    }

-- a view that lengthens another, of no chart
abbrev pub fresh : ℕ → Act → View
fresh at a = record { lengthens = at; act = a; charts = 0; complete = 0 }

-- the view k of the table `more` lengthens the view `at` by the act a, and the table is the one before with that view noted
pub record Lengthened (nodes : List View) (at : ℕ) (a : Act) (k : ℕ) (more : List View) : Type 0 where
  pub below : k < length more
  pub is : get_or (spelled more) k [] ≡ get_or (spelled nodes) at [] ++ (a ∷ [])
  pub views : spelled more ≡ noted (spelled nodes) (get_or (spelled nodes) at [] ++ (a ∷ []))
  pub grown : Grown nodes more

module _ (nodes : List View) (S : Sound nodes) (at : ℕ) (below : at < length nodes) (a : Act) where
  longer : List Act
  longer = get_or (spelled nodes) at [] ++ (a ∷ [])

  -- the view is there already
  pub found : (k : ℕ) → Child nodes at a k → Lengthened nodes at a k nodes
  unfolding longer
  found k c =
      let n = spelled-length nodes in
      let b = c.below in
      let is = child_spells nodes S.earlier S.apart at below a k c in
      record {
        below = c.below;
        is = is;
        views = sym (noted_there (spelled nodes) longer (stands_among (spelled nodes) longer (record { at = k; below = omega arith; is = is })));
        grown = record { longer = omega arith; few = omega arith; old = λ j l. refl; new = λ j g l. absurd (omega arith) };
      }

  -- one view more
  x : View
  x = fresh at a

  pushed_spelled : spelled (nodes ++ (x ∷ [])) ≡ spelled nodes ++ (longer ∷ [])
  unfolding longer x
  pushed_spelled = spelled-push nodes x S.some

  pushed_grown : Grown nodes (nodes ++ (x ∷ []))
  unfolding x
  pushed_grown =
      let n = length_push nodes x in
      record {
        longer = omega arith;
        few = omega arith;
        old = λ j l. get_or_append_left nodes (x ∷ []) root j l;
        new = λ j g l.
            let e : get_or (nodes ++ (x ∷ [])) j root ≡ x = get_or_push nodes x root j (omega arith) in
            (ap (λ (y : View). y.charts) e, ap (λ (y : View). y.complete) e);
      }

  module _ (none : NoChild nodes at a) where
    pub pushed : Lengthened nodes at a (length nodes) (nodes ++ (fresh at a ∷ []))
    unfolding longer x
    pushed = record {
      below = (let n = length_push nodes x in omega arith);
      is = ap (λ (vs : List (List Act)). get_or vs (length nodes) []) pushed_spelled ∙ get_or_push (spelled nodes) longer [] (length nodes) (spelled-length nodes);
      views = pushed_spelled ∙ sym (noted_new (spelled nodes) longer (childless nodes S.earlier S.apart at below a none));
      grown = pushed_grown;
    }

    listing : Listing (spelled nodes)
    listing = record { some = (let n = spelled-length nodes in let z = S.some in omega arith); first = spelled-first nodes; apart = S.apart }

    short_push : length (get_or (spelled nodes) at []) < 32 → (k : ℕ) → length (get_or (spelled nodes ++ (longer ∷ [])) k []) ≤ 32
    unfolding longer
    short_push l k = go (cases_lt k (length (spelled nodes)))
      where
        past : (vs : List (List Act)) (i : ℕ) → length vs ≤ i → get_or vs i [] ≡ []
        past [] i h = refl
        past (z ∷ vs) zero h = absurd (omega arith)
        past (z ∷ vs) (suc i) h = past vs i (omega arith)

        go : (k < length (spelled nodes)) ⊎ (length (spelled nodes) ≤ k) → length (get_or (spelled nodes ++ (longer ∷ [])) k []) ≤ 32
        go (inl g) = subst (λ (w : List Act). length w ≤ 32) (sym (get_or_append_left (spelled nodes) (longer ∷ []) [] k g)) (S.short k)
        go (inr g) = elim (cases_eq k (length (spelled nodes))) [
          | inl e ↦
              let n = length_push (get_or (spelled nodes) at []) a in
              subst (λ (w : List Act). length w ≤ 32) (sym (get_or_push (spelled nodes) longer [] k (sym e))) (omega arith)
          | inr n ↦
              let m = length_push (spelled nodes) longer in
              subst (λ (w : List Act). length w ≤ 32) (sym (past (spelled nodes ++ (longer ∷ [])) k (omega arith))) (omega arith)
        ]

    pub pushed_sound : length (get_or (spelled nodes) at []) < 32 → Sound (nodes ++ (fresh at a ∷ []))
    unfolding longer x
    pushed_sound l =
        let n = length_push nodes x in
        record {
          some = omega arith;
          earlier = λ k p h. elim (cases_lt k (length nodes)) [
            | inl g ↦ subst (λ (y : View). y.lengthens < k) (sym (get_or_append_left nodes (x ∷ []) root k g)) (S.earlier k p g)
            | inr g ↦ subst (λ (y : View). y.lengthens < k) (sym (get_or_push nodes x root k (omega arith))) (omega arith)
          ];
          apart = subst Apart (sym pushed_spelled) (listing_push (spelled nodes) longer listing (childless nodes S.earlier S.apart at below a none)).apart;
          short = λ k. subst (λ (vs : List (List Act)). length (get_or vs k []) ≤ 32) (sym pushed_spelled) (short_push l k);
        }
