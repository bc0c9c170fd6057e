-- The files as they are put into an output, piece by piece.
use Rattle.std.proofs.Common.{◌≡◌, ℕ, Iter, ◌+◌, ◌-◌, ◌<◌, ◌≤◌, List, [], ◌∷◌, ◌++◌, length, get_or, take, sym, ap, ◌∙◌, subst, append-nil, arith, length-append}
use Rattle.std.proofs.lemmas.List.{take_all, length-take-le}
use Rattle.std.proofs.lemmas.List.FromFn.{length-range_with_len, get_or-range_with_len}
use Rattle.std.proofs.lemmas.Slice.Zip.{length-zip, get_or-zip}
use Rattle.std.proofs.iter.Yields.{fronts, nat_range_steps}
use Rattle.std.proofs.lemmas.Iterator.{YieldsList, YieldsList-from_slice, YieldsList-from_range, YieldsList-from_zip, zips}
use Rattle.std.specs.Iterator.Adapters.{zip_first, zip_second}
use Rattle.std.specs.Slice.Iter.{iter_rest}
use Rattle.std.specs.declared.iter.Zip.{Zip}
use Rattle.std.specs.declared.ops.Range.{Range}
use Rattle.std.specs.List.{zip, range_with_len}
use Rattle.acts.specs.declared.Act.{Act}
use Rattle.chart.specs.declared.output.Output.{Output}
use Rattle.chart.specs.Putting.{Fits, Puts}
use Rattle.chart.proofs.Putting.{puts-more, puts-room}
use Rattle.machines.specs.Files.{move_bytes, told_bytes, list_file_bytes}
use Rattle.machines.proofs.Growing.{told_more}
use Rattle.machines.proofs.Sizes.{told_size}
use Rattle.views.specs.declared.view.View.{View}
use Rattle.views.specs.declared.party_views.PartyViews.{PartyViews}
use Rattle.views.specs.Parties.{nodes_in, tables_in, table_at}
use Rattle.filing.specs.Filed.{move_of, last_of, each_view, table_bytes, tables_below, tables_file}
use Rattle.views.proofs.Choosing.{numbered, numbered-length, numbered_at}
use Rattle.filing.proofs.Rows.{row_more, row_room, move_later, tables_more, tables_size, tables_upto, file_size, table_read}

-- what is made of one view more
module _ (g : ℕ → View → List ℕ) (a b : Output) (i : ℕ) (xs : List View) (d : View) (h : i < length xs) (room : Fits a (each_view g 0 xs))
    (p : Puts a (each_view g 0 (take i xs)) b) where
  pub row_fits : Fits b (g i (get_or xs i d))
  row_fits = let r = row_room g xs i d h in puts-room a b (each_view g 0 (take i xs)) (length (g i (get_or xs i d))) (omega arith) p

  pub row_puts : (c : Output) → Puts b (g i (get_or xs i d)) c → Puts a (each_view g 0 (take (i + 1) xs)) c
  row_puts c q =
      let r = row_room g xs i d h in
      subst (λ (l : List ℕ). Puts a l c) (sym (row_more g xs i d h))
      (puts-more a b c (each_view g 0 (take i xs)) (g i (get_or xs i d)) (omega arith) p q)

  -- nothing is made of it
  pub row_none : g i (get_or xs i d) ≡ [] → Puts a (each_view g 0 (take (i + 1) xs)) b
  row_none e =
      subst (λ (l : List ℕ). Puts a l b)
      (sym (append-nil (each_view g 0 (take i xs)))
      ∙ ap (λ (l : List ℕ). each_view g 0 (take i xs) ++ l) (sym e)
      ∙ sym (row_more g xs i d h)) p

-- a view that comes with its number after i later ones
pub record Comes (xs : List View) (i k : ℕ) (x : View) : Type 0 where
  pub number : k ≡ i + 1
  pub below : k < length xs
  pub is : get_or xs k x ≡ x

pub comes : (xs : List View) (i k : ℕ) (x : View) → i < length (numbered xs) → ◌≡◌ {A = ℕ × View} (k, x) (get_or (numbered xs) i (k, x)) → Comes xs i k x
comes xs i k x h e =
    let n = numbered-length xs in
    let m : i + 1 - 1 ≡ i = omega arith in
    let f = e ∙ ap (λ (j : ℕ). get_or (numbered xs) j (k, x)) (sym m) ∙ numbered_at xs (i + 1) (k, x) (omega arith) (omega arith) in
    let z : k ≡ i + 1 = ap (λ (y : ℕ × View). y.0) f in
    record { number = z; below = omega arith; is = ap (λ (j : ℕ). get_or xs j x) z ∙ sym (ap (λ (y : ℕ × View). y.1) f) }

-- the move to it
module _ (a b : Output) (i k : ℕ) (xs : List View) (x : View) (C : Comes xs i k x) (room : Fits a (each_view move_of 0 xs))
    (p : Puts a (each_view move_of 0 (take (i + 1) xs)) b) where
  so_far : Puts a (each_view move_of 0 (take k xs)) b
  so_far = subst (λ (j : ℕ). Puts a (each_view move_of 0 (take j xs)) b) (sym C.number) p

  here : move_of k (get_or xs k x) ≡ move_bytes x.lengthens k x.act
  here = let z = C.number in ap (move_of k) C.is ∙ move_later k x (omega arith)

  pub move_fits : Fits b (move_bytes x.lengthens k x.act)
  move_fits = subst (Fits b) here (row_fits move_of a b k xs x C.below room so_far)

  pub move_puts : (c : Output) (n : ℕ) → n ≡ k → Puts b (move_bytes x.lengthens k x.act) c → Puts a (each_view move_of 0 (take (n + 1) xs)) c
  move_puts c n e q =
      subst (λ (j : ℕ). Puts a (each_view move_of 0 (take (j + 1) xs)) c) (sym e)
      (row_puts move_of a b k xs x C.below room so_far c (subst (λ (l : List ℕ). Puts b l c) (sym here) q))

-- a party: its moves behind its number, its last views behind them
module _ (a b : Output) (p : ℕ) (xs : List View) (room : Fits a (table_bytes p xs)) (f : Puts a (80 ∷ p ∷ []) b) where
  module _ (c : Output) (m : Puts b (each_view move_of 0 xs) c) where
    moved : Puts a (80 ∷ p ∷ each_view move_of 0 xs) c
    moved =
        let n = length-append (each_view move_of 0 xs) (each_view last_of 0 xs) in
        puts-more a b c (80 ∷ p ∷ []) (each_view move_of 0 xs) (omega arith) f m

    pub party_puts : (d : Output) → Puts c (each_view last_of 0 xs) d → Puts a (table_bytes p xs) d
    party_puts d l =
        let n = length-append (each_view move_of 0 xs) (each_view last_of 0 xs) in
        puts-more a c d (80 ∷ p ∷ each_view move_of 0 xs) (each_view last_of 0 xs) (omega arith) moved l

-- what the parties' numbers and the parties give side by side
pub numbered_parties : (ps : List PartyViews) (n : ℕ) {s : Zip (Range ℕ) (Iter PartyViews)} → zip_first s ≡ record { start = 0; end = n } → iter_rest (zip_second s) ≡ ps
    → YieldsList (zips nat_range_steps fronts) (λ p. (p.0, p.1.now)) s (zip (range_with_len 0 n) ps)
numbered_parties ps n first second = YieldsList-from_zip (YieldsList-from_range 0 n n first (omega arith)) (YieldsList-from_slice ps second)

-- a party that comes with its number after i others
pub record IsParty (ps : List PartyViews) (n i p : ℕ) (x : PartyViews) : Type 0 where
  pub number : p ≡ i
  pub below : i < n
  pub is : nodes_in x ≡ table_at (tables_in ps) i

pub is_party : (ps : List PartyViews) (n i p : ℕ) (x : PartyViews) → n ≤ length ps → i < length (zip (range_with_len 0 n) ps)
    → ◌≡◌ {A = ℕ × PartyViews} (p, x) (get_or (zip (range_with_len 0 n) ps) i (p, x)) → IsParty ps n i p x
is_party ps n i p x w h e =
    let l = length-zip (range_with_len 0 n) ps in
    let r = length-range_with_len 0 n in
    let b : i < n = omega arith in
    let f = e ∙ get_or-zip (range_with_len 0 n) ps i (p, x) (omega arith) (omega arith) in
    let z = ap (λ (y : ℕ × PartyViews). y.0) f ∙ get_or-range_with_len 0 n i p b in
    record { number = omega arith; below = b; is = table_read ps i x (omega arith) (ap (λ (y : ℕ × PartyViews). y.1) f) }

-- all parties came
pub parties_all : (ps : List PartyViews) (n i : ℕ) → n ≤ length ps → i ≡ length (zip (range_with_len 0 n) ps) → i ≡ n
parties_all ps n i w e =
    let l = length-zip (range_with_len 0 n) ps in
    let r = length-range_with_len 0 n in
    omega arith

-- the machine file so far: its front and the first parties
abbrev pub front : (code n : ℕ) → List (List View) → ℕ → List ℕ
front code n ts i = 75 ∷ code ∷ n ∷ tables_below ts i

module _ (ts : List (List View)) (code n : ℕ) (a b : Output) (i : ℕ) (room : Fits a (tables_file code n ts)) (p : Puts a (front code n ts i) b) where
  -- one party more
  module _ (party : ℕ) (xs : List View) (number : party ≡ i) (h : i < n) (is : xs ≡ table_at ts i) where
    same : table_bytes party xs ≡ table_bytes i (table_at ts i)
    same = ap (λ (k : ℕ). table_bytes k xs) number ∙ ap (table_bytes i) is

    pub table_fits : Fits b (table_bytes party xs)
    table_fits =
        let s = tables_size ts i in
        let u = tables_upto ts (i + 1) n (omega arith) in
        let e = file_size code n ts in
        subst (Fits b) (sym same) (puts-room a b (front code n ts i) (length (table_bytes i (table_at ts i))) (omega arith) p)

    pub table_puts : (c : Output) (k : ℕ) → k ≡ i + 1 → Puts b (table_bytes party xs) c → Puts a (front code n ts k) c
    table_puts c k f q =
        let u = tables_upto ts i n (omega arith) in
        let e = file_size code n ts in
        subst (λ (l : List ℕ). Puts a (75 ∷ code ∷ n ∷ l) c) (sym (tables_more ts i) ∙ ap (tables_below ts) (sym f))
        (puts-more a b c (front code n ts i) (table_bytes i (table_at ts i)) (omega arith) p (subst (λ (l : List ℕ). Puts b l c) same q))

  -- the whole file
  module _ (h : i ≡ n) where
    whole : Puts a (front code n ts n) b
    whole = subst (λ (k : ℕ). Puts a (front code n ts k) b) h p

    pub last_fits : Fits b (90 ∷ [])
    last_fits = let e = file_size code n ts in puts-room a b (front code n ts n) 1 (omega arith) whole

    pub file_puts : (c : Output) → Puts b (90 ∷ []) c → Puts a (tables_file code n ts) c
    file_puts c q = let e = file_size code n ts in puts-more a b c (front code n ts n) (90 ∷ []) (omega arith) whole q

-- the list file so far: its front and the first acts
module _ (kind : ℕ) (acts : List Act) (a b : Output) (i : ℕ) (room : Fits a (list_file_bytes kind acts)) (p : Puts a (87 ∷ kind ∷ told_bytes (take i acts)) b) where
  -- one act more
  module _ (d : Act) (h : i < length acts) where
    sizes : length (told_bytes (take i acts)) + 4 ≤ length (told_bytes acts)
    sizes =
        let m = told_size acts in
        let l = told_size (take i acts) in
        let t = length-take-le i acts (omega arith) in
        omega arith

    pub act_fits : Fits b (told_bytes (get_or acts i d ∷ []))
    act_fits =
        let s = sizes in
        let e = length-append (told_bytes acts) (90 ∷ []) in
        puts-room a b (87 ∷ kind ∷ told_bytes (take i acts)) 4 (omega arith) p

    pub act_puts : (c : Output) → Puts b (told_bytes (get_or acts i d ∷ [])) c → Puts a (87 ∷ kind ∷ told_bytes (take (i + 1) acts)) c
    act_puts c q =
        let s = sizes in
        let e = length-append (told_bytes acts) (90 ∷ []) in
        subst (λ (l : List ℕ). Puts a (87 ∷ kind ∷ l) c) (sym (told_more acts i d h))
        (puts-more a b c (87 ∷ kind ∷ told_bytes (take i acts)) (told_bytes (get_or acts i d ∷ [])) (omega arith) p q)

  -- the whole list
  module _ (h : length acts ≤ i) where
    told : Puts a (87 ∷ kind ∷ told_bytes acts) b
    told = subst (λ (l : List Act). Puts a (87 ∷ kind ∷ told_bytes l) b) (take_all i acts h) p

    pub list_puts : (c : Output) → Puts b (90 ∷ []) c → Puts a (list_file_bytes kind acts) c
    list_puts c q =
        let e = length-append (told_bytes acts) (90 ∷ []) in
        puts-more a b c (87 ∷ kind ∷ told_bytes acts) (90 ∷ []) (omega arith) told q
