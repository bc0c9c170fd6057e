-- One act more along the lines, whatever decides which acts may be done.
use Rattle.std.proofs.Common.{◌≡◌, ℕ, zero, suc, ◌+◌, ◌-◌, ◌<◌, ◌≤◌, Bool, true, false, cond, Some, None, Option, is_some, List, [], ◌∷◌, ◌++◌, length, get_or, map, take, drop, set, sym, refl, ap, ◌∙◌, subst, inl, inr, append-nil, arith, lit≤, length-append}
use native.Mathlib.Decide.{ℕ_discrete}
use Rattle.std.proofs.lemmas.List.{take-append-drop, take_more, take_all, drop_more, get_or-set_same, get_or-set_other, get_or_at, get_or_past, length-take, length-take-le}
use Rattle.std.proofs.lemmas.List.Sums.{sum_by-set}
use Rattle.std.proofs.lemmas.Option.{slice_get_within, slice_get_read, get_or_from_slice_get}
use Rattle.std.proofs.lemmas.Bool.{cases_lt, false≢true}
use Rattle.acts.specs.declared.Act.{Act}
use Rattle.acts.specs.Acts.{part, Lines, line, Own, Along}
use Rattle.acts.proofs.Parts.{part_own, part-other, part-++}
use Rattle.acts.proofs.Running.{own_act}
use Rattle.lines.specs.declared.act_list.ActList.{ActList}
use Rattle.lines.specs.declared.sheet.Sheet.{Sheet}
use Rattle.lines.specs.Of.{acts_of, lines_of}
use Rattle.lines.specs.Progress.{Within, so_far, next_act, passed, left}
use Rattle.lines.proofs.Sheets.{count}

-- no next act of the party's line passes the test
abbrev pub Halted : (Act → Bool) → Lines → List ℕ → ℕ → Type 0
Halted t c done p = (a : Act) (rest : List Act) → so_far c done p ++ (a ∷ rest) ≡ line c p → t a ≡ false

-- the next act of a line stands between those done and the rest
pub next_on : (l : List Act) (d : ℕ) (a : Act) → d < length l → get_or l d a ≡ a → take d l ++ (a ∷ drop (d + 1) l) ≡ l
next_on l d a h is =
    ap (λ (x : Act). take d l ++ (x ∷ drop (d + 1) l)) (sym is)
    ∙ ap (λ (x : List Act). take d l ++ x) (sym (drop_more l d a h))
    ∙ take-append-drop d l

-- and what stands there is the next one
pub next_is : (c : Lines) (done : List ℕ) (p : ℕ) (a : Act) (rest : List Act) → so_far c done p ++ (a ∷ rest) ≡ line c p → next_act c done p ≡ Some a
next_is c done p a rest e =
    let k : ℕ = get_or done p 0 in
    let l : List Act = line c p in
    let n = ap length e in
    let f = length-append (take k l) (a ∷ rest) in
    let g = length-take k l in
    let h : k < length l = elim (cases_lt k (length l)) [ inl h ↦ h | inr h ↦ absurd (let x = ap length (take_all k l h) in omega arith) ] in
    slice_get_read l (length l) k a refl h
    (sym (get_or_at (take k l) a rest a k (length-take-le k l (omega arith))) ∙ ap (λ (x : List Act). get_or x k a) e)

-- a line whose next act does not pass, or that is done, halts
pub halts : (t : Act → Bool) (c : Lines) (done : List ℕ) (p : ℕ) → ((a : Act) → next_act c done p ≡ Some a → t a ≡ false) → Halted t c done p
halts t c done p never a rest e = never a (next_is c done p a rest e)

-- every line of a sheet is short
pub short_lines : (items : List (ActList 32)) (k p : ℕ) → length (line (take k (map acts_of items)) p) ≤ 32
short_lines [] zero p = lit≤ tt
short_lines [] (suc k) p = lit≤ tt
short_lines (x ∷ items) zero p = lit≤ tt
short_lines (x ∷ items) (suc k) zero = let f = x.few in let e = x.acts.ok in omega arith
short_lines (x ∷ items) (suc k) (suc p) = short_lines items k p

-- the party p does its next act a
module _ (c : Lines) (done : List ℕ) (p : ℕ) (a : Act) (hp : p < length done) (is : next_act c done p ≡ Some a) where
  pub passed_is : passed c done p ≡ set done p (get_or done p 0 + 1)
  passed_is = ap (λ x. cond (is_some x) (set done p (get_or done p 0 + 1)) done) is

  pub within_more : Within c done → Within c (set done p (get_or done p 0 + 1))
  within_more W q =
      let hd = slice_get_within (line c p) (get_or done p 0) a is in
      elim (ℕ_discrete p q) [
        | yes e ↦ subst (λ (x : ℕ). get_or (set done p (get_or done p 0 + 1)) x 0 ≤ length (line c x)) e
            (let f = get_or-set_same done p (get_or done p 0 + 1) 0 hp in omega arith)
        | no n ↦ let f = get_or-set_other done p q (get_or done p 0 + 1) 0 (λ e. n (sym e)) in let g = W q in omega arith
      ]

  pub parts_more : Own c → (w : List Act) → ((q : ℕ) → part q w ≡ so_far c done q)
      → (q : ℕ) → part q (w ++ (a ∷ [])) ≡ so_far c (set done p (get_or done p 0 + 1)) q
  parts_more O w g q =
      let l : List Act = line c p in
      let d : ℕ = get_or done p 0 in
      let hd : d < length l = slice_get_within l d a is in
      let here : get_or l d a ≡ a = get_or_from_slice_get l d a a is in
      let whole : take d l ++ (a ∷ drop (d + 1) l) ≡ l = next_on l d a hd here in
      let own : a.party ≡ p = own_act p (take d l) a (drop (d + 1) l) (ap (part p) whole ∙ O p ∙ sym whole) in
      elim (ℕ_discrete p q) [
        | yes e ↦
            part-++ q w (a ∷ [])
            ∙ ap (λ (x : List Act). part q w ++ x) (part_own q a [] (own ∙ e))
            ∙ ap (λ (x : List Act). x ++ (a ∷ [])) (g q)
            ∙ ap (λ (x : ℕ). so_far c done x ++ (a ∷ [])) (sym e)
            ∙ ap (λ (x : Act). take d l ++ (x ∷ [])) (sym here)
            ∙ sym (take_more l d a hd)
            ∙ ap (λ (x : ℕ). take x l) (sym (get_or-set_same done p (d + 1) 0 hp))
            ∙ ap (so_far c (set done p (d + 1))) e
        | no n ↦
            part-++ q w (a ∷ [])
            ∙ ap (λ (x : List Act). part q w ++ x) (part-other q a [] (λ e. n (sym own ∙ e)))
            ∙ append-nil (part q w)
            ∙ g q
            ∙ ap (λ (x : ℕ). take x (line c q)) (sym (get_or-set_other done p q (d + 1) 0 (λ e. n (sym e))))
      ]

  pub less_left : length (line c p) ≤ 32 → left (set done p (get_or done p 0 + 1)) < left done
  less_left short =
      let hd = slice_get_within (line c p) (get_or done p 0) a is in
      let e = sum_by-set (λ d. 32 - d) done p (get_or done p 0 + 1) 0 hp in
      omega arith

some_act : (o : Option Act) → is_some o ≡ true → (a : Act) × (o ≡ Some a)
some_act (Some a) e = (a, refl)
some_act None e = absurd (false≢true e)

-- what the code of one act more has, at an index that is the party's number
pub record More (c : Lines) (done : List ℕ) (i : ℕ) : Type 0 where
  pub within : Within c (set done i (get_or done i 0 + 1))
  pub fits : get_or done i 0 < 32
  pub less : left (set done i (get_or done i 0 + 1)) < left done

pub more : (s : Sheet) (done : List ℕ) (i p : ℕ) → i ≡ p → is_some (next_act (lines_of s) done p) ≡ true → length done ≡ 6
    → Within (lines_of s) done → More (lines_of s) done i
more s done i p e some six W =
    let c : Lines = lines_of s in
    let k = count acts_of s.lines s.begun (omega (arith, s.six)) in
    let x = some_act (next_act c done p) some in
    let hd = slice_get_within (line c p) (get_or done p 0) x.0 x.1 in
    let hp : p < length done = elim (cases_lt p (length c)) [
      | inl h ↦ omega (arith, s.within, s.few)
      | inr h ↦ absurd (let n = ap length (get_or_past c p [] h) in omega arith)
    ] in
    let short = short_lines s.lines s.begun p in
    let m : More c done p = record { within = within_more c done p x.0 hp x.1 W; fits = omega arith; less = less_left c done p x.0 hp x.1 short } in
    subst (More c done) (sym e) m

-- a list that has brought every party so far goes along the lines
pub parts_along : (c : Lines) (done : List ℕ) (w : List Act) → ((p : ℕ) → part p w ≡ so_far c done p) → Along c w
parts_along c done w g p =
    (drop (get_or done p 0) (line c p), ap (λ (x : List Act). x ++ drop (get_or done p 0) (line c p)) (g p) ∙ take-append-drop (get_or done p 0) (line c p))
