-- Tables that show the charts give the charts' machine file.
use Rattle.std.proofs.Common.{◌≡◌, ℕ, zero, suc, ◌<◌, Bool, true, false, cond, ◌||◌, List, [], ◌∷◌, ◌++◌, length, get_or, sym, refl, ap, ◌∙◌, subst, inl, inr, zero-add, arith}
use Rattle.std.proofs.lemmas.Bool.{cases_eq, cases_Bool}
use Rattle.acts.specs.declared.Act.{Act}
use Rattle.families.specs.Judgement.{Charts}
use Rattle.families.specs.Tests.{some_below, is_last}
use Rattle.numbering.specs.Numbering.{place, views_of}
use Rattle.numbering.specs.Masks.{mask, completes}
use Rattle.numbering.proofs.Masks.{mask_zero, mask-none}
use Rattle.numbering.proofs.Noting.{place_is}
use Rattle.machines.specs.Files.{move_bytes, move_to, last_bytes, last_at, each_from, party_bytes, parties_below, machine_file_bytes}
use Rattle.machines.proofs.Ending.{move_push}
use Rattle.machines.proofs.Views.{views_listing}
use Rattle.views.specs.declared.view.View.{View}
use Rattle.views.specs.declared.party_views.PartyViews.{PartyViews}
use Rattle.views.specs.Spelled.{root, Earlier}
use Rattle.views.specs.Tables.{Shows}
use Rattle.views.specs.Parties.{tables_in, table_at}
use Rattle.views.proofs.Spelling.{spelled-length, spelled_later}
use Rattle.filing.specs.Filed.{move_of, last_if, last_of, each_view, table_bytes, tables_below, tables_file, Shown}
use Rattle.filing.proofs.Rows.{row_same}

-- a mask is 0 where no id passes
some-none : (t : ℕ → Bool) (k : ℕ) → ((i : ℕ) → i < k → t i ≡ false) → some_below k t ≡ false
some-none t zero h = refl
some-none t (suc k) h =
    ap (λ (b : Bool). b || t k) (some-none t k (λ i l. h i (omega arith))) ∙ h k (omega arith)

none-some : (t : ℕ → Bool) (k : ℕ) → some_below k t ≡ false → (i : ℕ) → i < k → t i ≡ false
none-some t zero h i l = absurd (omega arith)
none-some t (suc k) h i l =
    let r = parts (some_below k t) (t k) h in
    elim (cases_eq i k) [
      | inl e ↦ ap t e ∙ r.1
      | inr n ↦ none-some t k r.0 i (omega arith)
    ]
  where
    parts : (a b : Bool) → (a || b) ≡ false → (a ≡ false) × (b ≡ false)
    parts true b e = absurd (let z : ◌≡◌ {A = ℕ} 0 1 = cc in omega arith)
    parts false b e = (refl, e)

-- the mask and the test say the same of a view
last_same : (t : ℕ → Bool) (j m : ℕ) → m ≡ mask t 8 → last_if m j ≡ cond (some_below 8 t) (last_bytes j) []
last_same t j zero e = sym (ap (λ (b : Bool). cond b (last_bytes j) []) (some-none t 8 (mask_zero t 8 (sym e))))
last_same t j (suc m) e = elim (cases_Bool (some_below 8 t)) [
  | inl y ↦ sym (ap (λ (b : Bool). cond b (last_bytes j) []) y)
  | inr n ↦ let z = mask-none t 8 (none-some t 8 n) in absurd (omega arith)
]

-- every table lengthens earlier views
pub tables_earlier : (ps : List PartyViews) (p : ℕ) → Earlier (table_at (tables_in ps) p)
tables_earlier [] p k l h = absurd (omega arith)
tables_earlier (x ∷ ps) zero k l h = x.earlier k l h
tables_earlier (x ∷ ps) (suc p) k l h = tables_earlier ps p k l h

module _ (f : Charts) (p : ℕ) (nodes : List View) (E : Earlier nodes) (S : Shows f p nodes) where
  many : length nodes ≡ length (views_of p f)
  many = sym (spelled-length nodes) ∙ ap length S.views

  move_same : (j : ℕ) → j < length nodes → move_of j (get_or nodes j root) ≡ move_to (views_of p f) j (get_or (views_of p f) j [])
  move_same zero h = sym (ap (move_to (views_of p f) 0) (views_listing p f).first)
  move_same (suc j) h =
      let vs = views_of p f in
      let x = get_or nodes (suc j) root in
      let u = get_or vs x.lengthens [] in
      let is : get_or vs (suc j) [] ≡ u ++ (x.act ∷ []) =
      subst (λ (ws : List (List Act)). get_or ws (suc j) [] ≡ get_or ws x.lengthens [] ++ (x.act ∷ [])) S.views (spelled_later nodes E (suc j) (omega arith) h) in
      let low : x.lengthens < length vs = let a = E (suc j) (omega arith) h in let b = many in omega arith in
      let at : place vs u ≡ x.lengthens = place_is vs u (views_listing p f).apart x.lengthens low refl in
      sym (ap (move_to vs (suc j)) is ∙ move_push vs (suc j) u x.act ∙ ap (λ (i : ℕ). move_bytes i (suc j) x.act) at)

  view_last : (j : ℕ) → j < length nodes → last_of j (get_or nodes j root) ≡ last_at (is_last f p) j (get_or (views_of p f) j [])
  view_last j h =
      last_same (completes f p (get_or (views_of p f) j [])) j (get_or nodes j root).complete
      (S.complete j h ∙ ap (λ (ws : List (List Act)). mask (completes f p (get_or ws j [])) 8) S.views)

  moves_same : each_view move_of 0 nodes ≡ each_from (move_to (views_of p f)) 0 (views_of p f)
  moves_same =
      row_same move_of (move_to (views_of p f)) 0 nodes (views_of p f) many
      (λ j h. subst (λ (i : ℕ). move_of i (get_or nodes j root) ≡ move_to (views_of p f) i (get_or (views_of p f) j [])) (sym (zero-add j)) (move_same j h))

  lasts_same : each_view last_of 0 nodes ≡ each_from (last_at (is_last f p)) 0 (views_of p f)
  lasts_same =
      row_same last_of (last_at (is_last f p)) 0 nodes (views_of p f) many
      (λ j h. subst (λ (i : ℕ). last_of i (get_or nodes j root) ≡ last_at (is_last f p) i (get_or (views_of p f) j [])) (sym (zero-add j)) (view_last j h))

  pub table_same : table_bytes p nodes ≡ party_bytes f p
  table_same =
      ap (λ (l : List ℕ). 80 ∷ p ∷ (l ++ each_view last_of 0 nodes)) moves_same
      ∙ ap (λ (l : List ℕ). 80 ∷ p ∷ (each_from (move_to (views_of p f)) 0 (views_of p f) ++ l)) lasts_same

pub tables_same : (f : Charts) (ps : List PartyViews) (n : ℕ) → Shown f n (tables_in ps) → tables_below (tables_in ps) n ≡ parties_below f n
tables_same f ps zero S = refl
tables_same f ps (suc n) S =
    ap (λ (l : List ℕ). l ++ table_bytes n (table_at (tables_in ps) n)) (tables_same f ps n (λ p h. S p (omega arith)))
    ∙ ap (λ (l : List ℕ). parties_below f n ++ l) (table_same f n (table_at (tables_in ps) n) (tables_earlier ps n) (S n (omega arith)))

pub file_same : (f : Charts) (ps : List PartyViews) (code n : ℕ) → Shown f n (tables_in ps) → tables_file code n (tables_in ps) ≡ machine_file_bytes code n f
file_same f ps code n S = ap (λ (l : List ℕ). 75 ∷ code ∷ n ∷ (l ++ (90 ∷ []))) (tables_same f ps n S)
