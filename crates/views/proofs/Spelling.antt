-- How a table spells its views.
use Rattle.std.proofs.Common.{◌≡◌, ℕ, zero, suc, ◌+◌, ◌<◌, false, List, [], ◌∷◌, ◌++◌, length, get_or, sym, refl, ap, ◌∙◌, inl, inr, arith}
use Rattle.std.proofs.lemmas.Bool.{cases_Bool}
use Rattle.std.proofs.lemmas.List.{get_or_append_left, get_or_push, length_push, same_from_push}
use Rattle.acts.specs.declared.Act.{Act}
use Rattle.numbering.specs.Numbering.{among, Apart}
use Rattle.numbering.proofs.Noting.{among_stands, apart_distinct}
use Rattle.views.specs.declared.view.View.{View}
use Rattle.views.specs.Spelled.{root, spelled_from, spelled, Earlier, Child, NoChild}

-- one view more
abbrev pub lengthening : List (List Act) → View → List Act
lengthening vs x = get_or vs x.lengthens [] ++ (x.act ∷ [])

pub from-push : (vs : List (List Act)) (xs : List View) (x : View)
    → spelled_from vs (xs ++ (x ∷ [])) ≡ spelled_from vs xs ++ (lengthening (spelled_from vs xs) x ∷ [])
from-push vs [] x = refl
from-push vs (y ∷ xs) x = from-push (vs ++ (lengthening vs y ∷ [])) xs x

pub spelled-push : (nodes : List View) (x : View) → 0 < length nodes
    → spelled (nodes ++ (x ∷ [])) ≡ spelled nodes ++ (lengthening (spelled nodes) x ∷ [])
spelled-push [] x h = absurd (omega arith)
spelled-push (y ∷ xs) x h = from-push ([] ∷ []) xs x

pub from-length : (vs : List (List Act)) (xs : List View) → length (spelled_from vs xs) ≡ length vs + length xs
from-length vs [] = omega arith
from-length vs (x ∷ xs) =
    let r = from-length (vs ++ (lengthening vs x ∷ [])) xs in
    let n = length_push vs (lengthening vs x) in
    omega arith

pub spelled-length : (nodes : List View) → length (spelled nodes) ≡ length nodes
spelled-length [] = refl
spelled-length (x ∷ xs) = let r = from-length ([] ∷ []) xs in omega arith

-- what stands before stays
pub from_front : (vs : List (List Act)) (xs : List View) (k : ℕ) → k < length vs → get_or (spelled_from vs xs) k [] ≡ get_or vs k []
from_front vs [] k h = refl
from_front vs (x ∷ xs) k h =
    let n = length_push vs (lengthening vs x) in
    from_front (vs ++ (lengthening vs x ∷ [])) xs k (omega arith) ∙ get_or_append_left vs (lengthening vs x ∷ []) [] k h

pub spelled-first : (nodes : List View) → get_or (spelled nodes) 0 [] ≡ []
spelled-first [] = refl
spelled-first (x ∷ xs) = from_front ([] ∷ []) xs 0 (omega arith)

-- every later view is the list of the view that it lengthens, and its act
from_later : (vs : List (List Act)) (xs : List View) (j : ℕ) → j < length xs
    → ((i : ℕ) → i < length xs → (get_or xs i root).lengthens < length vs + i)
    → get_or (spelled_from vs xs) (length vs + j) [] ≡ get_or (spelled_from vs xs) (get_or xs j root).lengthens [] ++ ((get_or xs j root).act ∷ [])
from_later vs [] j h e = absurd (omega arith)
from_later vs (x ∷ xs) zero h e =
    let v = lengthening vs x in
    let n = length_push vs v in
    let z : length vs + 0 ≡ length vs = omega arith in
    let l : x.lengthens < length vs = let a = e 0 (omega arith) in omega arith in
    ap (λ (k : ℕ). get_or (spelled_from (vs ++ (v ∷ [])) xs) k []) z
    ∙ from_front (vs ++ (v ∷ [])) xs (length vs) (omega arith)
    ∙ get_or_push vs v [] (length vs) refl
    ∙ ap (λ (u : List Act). u ++ (x.act ∷ [])) (sym (from_front vs (x ∷ xs) x.lengthens l))
from_later vs (x ∷ xs) (suc j) h e =
    let v = lengthening vs x in
    let n : length (vs ++ (v ∷ [])) ≡ length vs + 1 = length_push vs v in
    let z : length vs + suc j ≡ length (vs ++ (v ∷ [])) + j = omega arith in
    ap (λ (k : ℕ). get_or (spelled_from (vs ++ (v ∷ [])) xs) k []) z
    ∙ from_later (vs ++ (v ∷ [])) xs j (omega arith) (λ i l. let a = e (suc i) (omega arith) in omega arith)

pub spelled_later : (nodes : List View) → Earlier nodes → (k : ℕ) → 0 < k → k < length nodes
    → get_or (spelled nodes) k [] ≡ get_or (spelled nodes) (get_or nodes k root).lengthens [] ++ ((get_or nodes k root).act ∷ [])
spelled_later [] E k p h = absurd (omega arith)
spelled_later (x ∷ xs) E zero p h = absurd (omega arith)
spelled_later (x ∷ xs) E (suc k) p h =
    let z : suc k ≡ 1 + k = omega arith in
    ap (λ (i : ℕ). get_or (spelled_from ([] ∷ []) xs) i []) z
    ∙ from_later ([] ∷ []) xs k (omega arith) (λ i l. let a = E (suc i) (omega arith) (omega arith) in omega arith)

-- changing a view's masks changes no list
pub same_spelling : (vs : List (List Act)) (xs ys : List View) → length xs ≡ length ys
    → ((k : ℕ) → k < length xs → ((get_or xs k root).lengthens ≡ (get_or ys k root).lengthens) × ((get_or xs k root).act ≡ (get_or ys k root).act))
    → spelled_from vs xs ≡ spelled_from vs ys
same_spelling vs [] [] n e = refl
same_spelling vs [] (y ∷ ys) n e = absurd (omega arith)
same_spelling vs (x ∷ xs) [] n e = absurd (omega arith)
same_spelling vs (x ∷ xs) (y ∷ ys) n e =
    let h = e 0 (omega arith) in
    let v : lengthening vs x ≡ lengthening vs y = cc (h.0, h.1) in
    ap (λ (u : List Act). spelled_from (vs ++ (u ∷ [])) xs) v
    ∙ same_spelling (vs ++ (lengthening vs y ∷ [])) xs ys (omega arith) (λ k l. e (suc k) (omega arith))

-- the place of a child
module _ (nodes : List View) (E : Earlier nodes) (A : Apart (spelled nodes)) (at : ℕ) (below : at < length nodes) (a : Act) where
  pub child_spells : (k : ℕ) → Child nodes at a k → get_or (spelled nodes) k [] ≡ get_or (spelled nodes) at [] ++ (a ∷ [])
  child_spells k c =
      spelled_later nodes E k c.later c.below
      ∙ ap (λ (i : ℕ). get_or (spelled nodes) i [] ++ ((get_or nodes k root).act ∷ [])) c.lengthens
      ∙ ap (λ (b : Act). get_or (spelled nodes) at [] ++ (b ∷ [])) c.act

  pub spells_child : (k : ℕ) → k < length nodes → get_or (spelled nodes) k [] ≡ get_or (spelled nodes) at [] ++ (a ∷ []) → Child nodes at a k
  spells_child zero h e =
      let x = ap length (sym (spelled-first nodes) ∙ e) in
      let n = length_push (get_or (spelled nodes) at []) a in
      absurd (omega arith)
  spells_child (suc k) h e =
      let p = (get_or nodes (suc k) root).lengthens in
      let s = same_from_push (get_or (spelled nodes) p []) (get_or (spelled nodes) at []) (get_or nodes (suc k) root).act a
      (sym (spelled_later nodes E (suc k) (omega arith) h) ∙ e) in
      let n = spelled-length nodes in
      let l : p < suc k = E (suc k) (omega arith) h in
      record { later = omega arith; below = h; lengthens = apart_distinct (spelled nodes) A p at (omega arith) (omega arith) s.0; act = s.1 }

  pub childless : NoChild nodes at a → among (spelled nodes) (get_or (spelled nodes) at [] ++ (a ∷ [])) ≡ false
  childless none = elim (cases_Bool (among (spelled nodes) (get_or (spelled nodes) at [] ++ (a ∷ [])))) [
    | inr e ↦ e
    | inl e ↦
        let s = among_stands (spelled nodes) (get_or (spelled nodes) at [] ++ (a ∷ [])) e in
        let n = spelled-length nodes in
        let b = s.below in
        absurd (none s.at (spells_child s.at (omega arith) s.is))
  ]
