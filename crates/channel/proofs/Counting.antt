-- How many of each name a list counts, and how many in all.
use Rattle.std.proofs.Common.{◌≡◌, ℕ, zero, suc, pred, ◌+◌, ◌-◌, ◌<◌, ◌≤◌, true, cond, eqb, List, [], ◌∷◌, length, take, set, replicate, sum, sym, refl, ap, ◌∙◌, inl, inr, add-one, sub-one, arith}
use mathlib.Core.Path.{fun_ext}
use Rattle.std.proofs.lemmas.List.{get_or_past, get_or-set_same, get_or-set_other, length-set, take_all}
use Rattle.std.proofs.lemmas.List.Sums.{sum_by-cons, sum_by_more, sum_by-set, get_or-le-sum_by}
use Rattle.std.proofs.lemmas.Bool.{eqb-true, eqb-false, ltb-true, cond-true, cond-false, cases_Bool, cases_lt}
use Rattle.acts.specs.declared.Letter.{Letter}
use Rattle.acts.specs.declared.Letter.TheVariants.{Send, Receive}
use Rattle.channel.specs.Pairs.{allows, change, total, in_any_order}
use Rattle.channel.specs.Places.{counted}

-- the total of all names is the sum of the list
total-take : (xs : List ℕ) (n : ℕ) → n ≤ length xs → total n (counted xs) ≡ sum (take n xs)
total-take xs zero h = refl
total-take xs (suc n) h =
    let e = total-take xs n (omega arith) in
    let f = sum_by_more (λ x. x) xs n 0 (omega arith) in
    let g = ap (λ (k : ℕ). sum (take k xs)) (add-one n) in
    omega arith

pub total_sum : (xs : List ℕ) (n : ℕ) → length xs ≡ n → total n (counted xs) ≡ sum xs
total_sum xs n e = total-take xs n (omega arith) ∙ ap sum (take_all n xs (omega arith))

pub counted_none : (n : ℕ) → counted (replicate n 0) ≡ in_any_order.none
counted_none n = fun_ext (zeros n)
  where
    zeros : (n m : ℕ) → counted (replicate n 0) m ≡ 0
    zeros zero m = refl
    zeros (suc n) zero = refl
    zeros (suc n) (suc m) = zeros n m

-- none of any name, and none in all
none_sum : (xs : List ℕ) → ((m : ℕ) → counted xs m ≡ 0) → sum xs ≡ 0
none_sum [] z = refl
none_sum (x ∷ xs) z =
    let e = none_sum xs (λ m. z (suc m)) in
    let f = sum_by-cons (λ x. x) x xs in
    let g = z 0 in
    omega arith

module _ (xs : List ℕ) (n : ℕ) (size : length xs ≡ n) where
  pub none-total : ((m : ℕ) → counted xs m ≡ 0) → total n (counted xs) ≡ 0
  none-total z = total_sum xs n size ∙ none_sum xs z

  pub total-none : total n (counted xs) ≡ 0 → (m : ℕ) → counted xs m ≡ 0
  total-none e m = elim (cases_lt m (length xs)) [
    | inl h ↦
        let f = get_or-le-sum_by (λ x. x) xs m 0 h in
        let g = total_sum xs n size in
        omega arith
    | inr h ↦ get_or_past xs m 0 h
  ]

  count-≤ : (m : ℕ) → m < n → counted xs m ≤ total n (counted xs)
  count-≤ m h =
      let f = get_or-le-sum_by (λ x. x) xs m 0 (omega arith) in
      let g = total_sum xs n size in
      omega arith

  -- one count changed, and the total with it
  pub put-total : (m : ℕ) → m < n → total n (counted xs) + 1 ≡ total n (counted (set xs m (counted xs m + 1)))
  put-total m h =
      let v : ℕ = counted xs m + 1 in
      let e = sum_by-set (λ x. x) xs m v 0 (omega arith) in
      let f = total_sum xs n size in
      let g = total_sum (set xs m v) n (length-set xs m v ∙ size) in
      omega arith

  pub take-total : (m : ℕ) → m < n → 0 < counted xs m → total n (counted xs) - 1 ≡ total n (counted (set xs m (counted xs m - 1)))
  take-total m h k =
      let v : ℕ = counted xs m - 1 in
      let e = sum_by-set (λ x. x) xs m v 0 (omega arith) in
      let f = total_sum xs n size in
      let g = total_sum (set xs m v) n (length-set xs m v ∙ size) in
      let i = count-≤ m h in
      omega arith

-- a send finds room, and a receive finds its name
pub sent_few : (xs : List ℕ) (l : Letter) (m : ℕ) → l ≡ Send → allows in_any_order l m (counted xs) ≡ true → total 32 (counted xs) < 32
sent_few xs l m e k = ltb-true (total 32 (counted xs)) 32 (ap (λ (j : Letter). allows in_any_order j m (counted xs)) (sym e) ∙ k)

pub sent_room : (xs : List ℕ) (l : Letter) (m : ℕ) → length xs ≡ 32 → m < 32 → l ≡ Send → allows in_any_order l m (counted xs) ≡ true
    → counted xs m < 32
sent_room xs l m n h e k =
    let f = sent_few xs l m e k in
    let g = count-≤ xs 32 n m h in
    omega arith

pub received_count : (xs : List ℕ) (l : Letter) (m : ℕ) → l ≡ Receive → allows in_any_order l m (counted xs) ≡ true → 0 < counted xs m
received_count xs l m e h = ltb-true 0 (counted xs m) (ap (λ (k : Letter). allows in_any_order k m (counted xs)) (sym e) ∙ h)

counted_set : (xs : List ℕ) (k v : ℕ) (f : ℕ → ℕ) → k < length xs → v ≡ f (counted xs k)
    → counted (set xs k v) ≡ (λ m. cond (eqb k m) (f (counted xs m)) (counted xs m))
counted_set xs k v f h e = fun_ext (λ m. elim (cases_Bool (eqb k m)) [
  | inl t ↦
      let same : k ≡ m = eqb-true k m t in
      ap (counted (set xs k v)) (sym same)
      ∙ get_or-set_same xs k v 0 h
      ∙ e
      ∙ ap (λ (j : ℕ). f (counted xs j)) same
      ∙ sym (cond-true (eqb k m) (f (counted xs m)) (counted xs m) t)
  | inr t ↦ get_or-set_other xs k m v 0 (λ q. eqb-false k m t (sym q)) ∙ sym (cond-false (eqb k m) (f (counted xs m)) (counted xs m) t)
])

pub counted-put : (xs : List ℕ) (l : Letter) (m : ℕ) → m < length xs → l ≡ Send
    → counted (set xs m (counted xs m + 1)) ≡ change in_any_order l m (counted xs)
counted-put xs l m h e =
    counted_set xs m (counted xs m + 1) suc h (add-one (counted xs m))
    ∙ ap (λ (k : Letter). change in_any_order k m (counted xs)) (sym e)

pub counted-take : (xs : List ℕ) (l : Letter) (m : ℕ) → m < length xs → l ≡ Receive
    → counted (set xs m (counted xs m - 1)) ≡ change in_any_order l m (counted xs)
counted-take xs l m h e =
    counted_set xs m (counted xs m - 1) pred h (sub-one (counted xs m))
    ∙ ap (λ (k : Letter). change in_any_order k m (counted xs)) (sym e)
