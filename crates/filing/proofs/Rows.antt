-- What is made of each view of a table: one view more, and how many bytes it is.
use Rattle.std.proofs.Common.{◌≡◌, ℕ, zero, suc, ◌+◌, ◌-◌, ◌*◌, ◌<◌, ◌≤◌, Bool, cond, not, ◌==◌, List, [], ◌∷◌, ◌++◌, length, get_or, take, sym, refl, ap, ◌∙◌, inl, inr, append_assoc, append-nil, arith, length-append}
use Rattle.std.proofs.lemmas.List.{take_more, length-take-le, get_or-map}
use Rattle.std.proofs.lemmas.Bool.{cases_eq, ne_eqb}
use Rattle.std.specs.List.{filter}
use Rattle.machines.specs.Files.{move_bytes, last_bytes, each_from}
use Rattle.acts.specs.declared.Act.{Act}
use Rattle.views.specs.declared.view.View.{View}
use Rattle.views.specs.declared.party_views.PartyViews.{PartyViews}
use Rattle.views.specs.Spelled.{root}
use Rattle.views.specs.Parties.{nodes_in, tables_in, table_at}
use Rattle.filing.specs.Filed.{move_of, last_if, last_of, each_view, table_bytes, tables_below, tables_file}

module _ (g : ℕ → View → List ℕ) where
  push : (k : ℕ) (xs : List View) (x : View) → each_view g k (xs ++ (x ∷ [])) ≡ each_view g k xs ++ g (k + length xs) x
  push k [] x =
      let e : k ≡ k + 0 = omega arith in
      append-nil (g k x) ∙ ap (λ (j : ℕ). g j x) e
  push k (y ∷ xs) x =
      let e : suc k + length xs ≡ k + suc (length xs) = omega arith in
      ap (λ (l : List ℕ). g k y ++ l) (push (suc k) xs x ∙ ap (λ (j : ℕ). each_view g (suc k) xs ++ g j x) e)
      ∙ sym (append_assoc (g k y) (each_view g (suc k) xs) (g (k + suc (length xs)) x))

  -- the step of a loop over the views
  pub row_more : (xs : List View) (i : ℕ) (d : View) → i < length xs
      → each_view g 0 (take (i + 1) xs) ≡ each_view g 0 (take i xs) ++ g i (get_or xs i d)
  row_more xs i d h =
      let e : 0 + length (take i xs) ≡ i = let n = length-take-le i xs (omega arith) in omega arith in
      ap (each_view g 0) (take_more xs i d h) ∙ push 0 (take i xs) (get_or xs i d)
      ∙ ap (λ (j : ℕ). each_view g 0 (take i xs) ++ g j (get_or xs i d)) e

  front : (k i : ℕ) (xs : List View) → length (each_view g k (take i xs)) ≤ length (each_view g k xs)
  front k zero xs = omega arith
  front k (suc i) [] = omega arith
  front k (suc i) (x ∷ xs) =
      let r = front (suc k) i xs in
      let a = length-append (g k x) (each_view g (suc k) (take i xs)) in
      let b = length-append (g k x) (each_view g (suc k) xs) in
      omega arith

  -- what comes next has room where all of it has
  pub row_room : (xs : List View) (i : ℕ) (d : View) → i < length xs
      → length (each_view g 0 (take i xs)) + length (g i (get_or xs i d)) ≤ length (each_view g 0 xs)
  row_room xs i d h =
      let a = ap length (row_more xs i d h) in
      let b = length-append (each_view g 0 (take i xs)) (g i (get_or xs i d)) in
      let c = front 0 (i + 1) xs in
      omega arith

  -- the same is made of the views and of the lists that they are
  pub row_same : (h : ℕ → List Act → List ℕ) (k : ℕ) (xs : List View) (vs : List (List Act)) → length xs ≡ length vs
      → ((j : ℕ) → j < length xs → g (k + j) (get_or xs j root) ≡ h (k + j) (get_or vs j [])) → each_view g k xs ≡ each_from h k vs
  row_same h k [] [] n e = refl
  row_same h k [] (v ∷ vs) n e = absurd (omega arith)
  row_same h k (x ∷ xs) [] n e = absurd (omega arith)
  row_same h k (x ∷ xs) (v ∷ vs) n e =
      let z : k ≡ k + 0 = omega arith in
      let first : g k x ≡ h k v = ap (λ (j : ℕ). g j x) z ∙ e 0 (omega arith) ∙ ap (λ (j : ℕ). h j v) (sym z) in
      let rest = row_same h (suc k) xs vs (omega arith) (λ j l.
      let s : suc k + j ≡ k + suc j = omega arith in
      ap (λ (i : ℕ). g i (get_or xs j root)) s ∙ e (suc j) (omega arith) ∙ ap (λ (i : ℕ). h i (get_or vs j [])) (sym s)) in
      ap (λ (l : List ℕ). l ++ each_view g (suc k) xs) first ∙ ap (λ (l : List ℕ). h k v ++ l) rest

-- the move to a view that is not the first
pub move_later : (k : ℕ) (x : View) → 0 < k → move_of k x ≡ move_bytes x.lengthens k x.act
move_later zero x h = absurd (omega arith)
move_later (suc k) x h = refl

moves_full : (k : ℕ) (xs : List View) → length (each_view move_of (suc k) xs) ≡ 7 * length xs
moves_full k [] = refl
moves_full k (x ∷ xs) = let r = moves_full (suc k) xs in omega arith

pub moves_size : (xs : List View) → length (each_view move_of 0 xs) ≡ 7 * (length xs - 1)
moves_size [] = refl
moves_size (x ∷ xs) = let r = moves_full 0 xs in omega arith

-- a view whose mask is not 0, and one whose mask is
pub last_yes : (k : ℕ) (x : View) → (x.complete ≡ 0 → ⊥) → last_of k x ≡ last_bytes k
last_yes k x h = go x.complete h
  where
    go : (m : ℕ) → (m ≡ 0 → ⊥) → last_if m k ≡ last_bytes k
    go zero h = absurd (h refl)
    go (suc m) h = refl

pub last_no : (k : ℕ) (x : View) → x.complete ≡ 0 → last_of k x ≡ []
last_no k x e = ap (λ (m : ℕ). last_if m k) e

-- the views that are last ones
abbrev pub is_last_view : View → Bool
is_last_view x = not (x.complete == 0)

pub lasts_size : (k : ℕ) (xs : List View) → length (each_view last_of k xs) ≡ 3 * length (filter is_last_view xs)
lasts_size k [] = refl
lasts_size k (x ∷ xs) =
    let r = lasts_size (suc k) xs in
    let a = length-append (last_of k x) (each_view last_of (suc k) xs) in
    let b = one x.complete in
    omega arith
  where
    one : (m : ℕ) → length (last_if m k) + 3 * length (filter is_last_view xs) ≡ 3 * length (cond (not (m == 0)) (x ∷ filter is_last_view xs) (filter is_last_view xs))
    one zero = omega arith
    one (suc m) =
        let e = ap (λ (b : Bool). 3 * length (cond (not b) (x ∷ filter is_last_view xs) (filter is_last_view xs))) (ne_eqb (suc m) 0 (λ e. omega arith)) in
        omega arith

lasts_few : (k : ℕ) (xs : List View) → length (each_view last_of k xs) ≤ 3 * length xs
lasts_few k [] = omega arith
lasts_few k (x ∷ xs) =
    let r = lasts_few (suc k) xs in
    let a = length-append (last_of k x) (each_view last_of (suc k) xs) in
    let b = one x.complete in
    omega arith
  where
    one : (m : ℕ) → length (last_if m k) ≤ 3
    one zero = omega arith
    one (suc m) = omega arith

pub table_size : (p : ℕ) (xs : List View) → length (table_bytes p xs) ≡ 2 + (7 * (length xs - 1) + length (each_view last_of 0 xs))
table_size p xs =
    let a = length-append (each_view move_of 0 xs) (each_view last_of 0 xs) in
    let b = moves_size xs in
    omega arith

-- a party has not too many bytes
pub table_few : (p : ℕ) (xs : List View) → length xs ≤ 257 → length (table_bytes p xs) ≤ 2565
table_few p xs h = let a = table_size p xs in let b = lasts_few 0 xs in omega arith

-- one party more
pub tables_more : (ts : List (List View)) (n : ℕ) → tables_below ts (n + 1) ≡ tables_below ts n ++ table_bytes n (table_at ts n)
tables_more ts n =
    let e : n + 1 ≡ suc n = omega arith in
    ap (tables_below ts) e

pub tables_size : (ts : List (List View)) (n : ℕ) → length (tables_below ts (n + 1)) ≡ length (tables_below ts n) + length (table_bytes n (table_at ts n))
tables_size ts n = ap length (tables_more ts n) ∙ length-append (tables_below ts n) (table_bytes n (table_at ts n))

-- fewer parties have no more bytes
pub tables_upto : (ts : List (List View)) (k n : ℕ) → k ≤ n → length (tables_below ts k) ≤ length (tables_below ts n)
tables_upto ts k zero h =
    let z : k ≡ 0 = omega arith in
    let e = ap (λ (j : ℕ). length (tables_below ts j)) z in
    omega arith
tables_upto ts k (suc n) h = elim (cases_eq k (suc n)) [
  | inl e ↦ let a = ap (λ (j : ℕ). length (tables_below ts j)) e in omega arith
  | inr e ↦
      let a = tables_upto ts k n (omega arith) in
      let b = length-append (tables_below ts n) (table_bytes n (table_at ts n)) in
      omega arith
]

pub file_size : (code n : ℕ) (ts : List (List View)) → length (tables_file code n ts) ≡ 4 + length (tables_below ts n)
file_size code n ts = let a = length-append (tables_below ts n) (90 ∷ []) in omega arith

-- the table of a party at its place
pub table_read : (ps : List PartyViews) (p : ℕ) (x : PartyViews) → p < length ps → x ≡ get_or ps p x → nodes_in x ≡ table_at (tables_in ps) p
table_read ps p x h e = ap nodes_in e ∙ sym (get_or-map nodes_in ps p x [] h)
