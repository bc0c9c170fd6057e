-- The table of charts in a book: its reads, its writes, how many it holds.
use Rattle.std.proofs.Common.{◌≡◌, ℕ, ◌<◌, Bool, cond, eqb, List, length, get_or, set, is_some, Some, None, Option, sym, refl, ap, ◌∙◌, inl, inr}
use Rattle.std.proofs.lemmas.List.{get_or-set_same, get_or-set_other, get_or_default}
use Rattle.std.proofs.lemmas.Bool.{cases_Bool, cond-true, cond-false, eqb-true, eqb-false}
use Rattle.acts.specs.Acts.{Lines}
use Rattle.chart.specs.declared.chart.Chart.{Chart}
use Rattle.book.specs.History.{put}
use Rattle.book.specs.Past.{shown, table_of}

shown-some : (o : Option Chart) → is_some (shown o) ≡ is_some o
shown-some None = refl
shown-some (Some c) = refl

-- what was read at a place
read : (cs : List (Option Chart)) (i : ℕ) (q : Option Chart) → i < length cs → q ≡ get_or cs i q → table_of cs i ≡ shown q
read cs i q h e = ap shown (get_or_default cs i None q h ∙ sym e)

-- whether a chart stands under an id is known from its place
pub known_place : (cs : List (Option Chart)) (i k : ℕ) (q : Option Chart) (t : Bool) → k ≡ i → k < length cs → q ≡ get_or cs k q → is_some q ≡ t
    → is_some (table_of cs i) ≡ t
known_place cs i k q t at h e f = ap (λ (j : ℕ). is_some (table_of cs j)) (sym at) ∙ ap is_some (read cs k q h e) ∙ shown-some q ∙ f

pub some_same : {X : Type 0} (x y : X) → Some x ≡ Some y → x ≡ y
some_same x y e = cc

-- a written place
pub written : (cs : List (Option Chart)) (i : ℕ) (x : Option Chart) → i < length cs → (j : ℕ) → table_of (set cs i x) j ≡ put i (shown x) (table_of cs) j
written cs i x h j = elim (cases_Bool (eqb i j)) [
  | inl e ↦
      ap (λ (k : ℕ). table_of (set cs i x) k) (sym (eqb-true i j e))
      ∙ ap shown (get_or-set_same cs i x None h)
      ∙ sym (cond-true (eqb i j) (shown x) (table_of cs j) e)
  | inr e ↦
      ap shown (get_or-set_other cs i j x None (λ k. eqb-false i j e (sym k)))
      ∙ sym (cond-false (eqb i j) (shown x) (table_of cs j) e)
]

-- the same by the place of an id
pub put-at : (i k : ℕ) (x : Option Lines) (f t : ℕ → Option Lines) → k ≡ i → ((j : ℕ) → t j ≡ put k x f j) → (j : ℕ) → t j ≡ put i x f j
put-at i k x f t at e j = e j ∙ ap (λ (n : ℕ). put n x f j) at

pub put_same : (i : ℕ) (x : Option Lines) (f k : ℕ → Option Lines) → ((j : ℕ) → f j ≡ k j) → (j : ℕ) → put i x f j ≡ put i x k j
put_same i x f k e j = ap (λ (y : Option Lines). cond (eqb i j) x y) (e j)
