-- How many bytes the files have.
use Rattle.std.proofs.Common.{◌≡◌, ℕ, zero, suc, ◌+◌, ◌-◌, ◌*◌, ◌<◌, ◌≤◌, Bool, true, false, cond, ◌||◌, List, [], ◌∷◌, length, get_or, take, Some, None, count_by, Option, sym, refl, ap, ◌∙◌, inl, inr, arith, length-append}
use Rattle.std.proofs.lemmas.List.{length-take-le, get_or-take}
use Rattle.std.proofs.lemmas.List.Sums.{sum_by-cons}
use Rattle.std.proofs.lemmas.Bool.{cases_Bool, cond-true, cond-false}
use Rattle.acts.specs.declared.Act.{Act}
use Rattle.acts.specs.Acts.{Lines, line}
use Rattle.families.specs.Judgement.{Charts}
use Rattle.families.specs.Tests.{same_acts, passes, some_below, is_last}
use Rattle.numbering.specs.Numbering.{views_of}
use Rattle.numbering.proofs.Same.{same_acts_lem, acts_differ}
use Rattle.numbering.proofs.Noting.{Listing, Distinct, apart_distinct}
use Rattle.machines.specs.Files.{move_to, last_bytes, last_at, each_from, party_bytes, parties_below, machine_file_bytes, told_bytes, list_file_bytes}
use Rattle.machines.proofs.Ending.{ended, move_push}
use Rattle.machines.proofs.Views.{views_listing}

-- seven bytes for the move to a view that is not empty
move_size : (views : List (List Act)) (k : ℕ) (v : List Act) → (v ≡ [] → ⊥) → length (move_to views k v) ≡ 7
move_size views k v h = elim (ended v) [
  | inl e ↦ absurd (h e)
  | inr e ↦ ap (λ (x : List Act). length (move_to views k x)) e.is ∙ ap length (move_push views k e.before e.act)
]

moves_full : (views : List (List Act)) (k : ℕ) (vs : List (List Act)) → ((j : ℕ) → j < length vs → get_or vs j [] ≡ [] → ⊥)
    → length (each_from (move_to views) k vs) ≡ 7 * length vs
moves_full views k [] h = refl
moves_full views k (v ∷ vs) h =
    let a = length-append (move_to views k v) (each_from (move_to views) (suc k) vs) in
    let b = move_size views k v (h 0 (omega arith)) in
    let c = moves_full views (suc k) vs (λ j l. h (suc j) (omega arith)) in
    omega arith

-- seven bytes for every view but the first, which is empty
moves_but_one : (views vs : List (List Act)) → get_or vs 0 [] ≡ [] → ((j : ℕ) → 0 < j → j < length vs → get_or vs j [] ≡ [] → ⊥)
    → length (each_from (move_to views) 0 vs) ≡ 7 * (length vs - 1)
moves_but_one views [] e h = refl
moves_but_one views (v ∷ vs) e h =
    let a = length-append (move_to views 0 v) (each_from (move_to views) 1 vs) in
    let b : length (move_to views 0 v) ≡ 0 = ap (λ (x : List Act). length (move_to views 0 x)) e in
    let c = moves_full views 1 vs (λ j l. h (suc j) (omega arith) (omega arith)) in
    omega arith

pub moves_size_upto : (views vs : List (List Act)) (i : ℕ) → Listing vs → i ≤ length vs
    → length (each_from (move_to views) 0 (take i vs)) ≡ 7 * (i - 1)
moves_size_upto views vs i L h =
    moves_but_one views (take i vs) (front i) later ∙ ap (λ (k : ℕ). 7 * (k - 1)) (length-take-le i vs h)
  where
    front : (i : ℕ) → get_or (take i vs) 0 [] ≡ []
    front zero = refl
    front (suc i) = get_or-take (suc i) vs 0 [] (omega arith) ∙ L.first

    later : (j : ℕ) → 0 < j → j < length (take i vs) → get_or (take i vs) j [] ≡ [] → ⊥
    later j l b e =
        let n = length-take-le i vs h in
        let z : j ≡ 0 = apart_distinct vs L.apart j 0 (omega arith) L.some (sym (get_or-take i vs j [] (omega arith)) ∙ e ∙ sym L.first) in
        omega arith

pub moves_size : (views vs : List (List Act)) → Listing vs → length (each_from (move_to views) 0 vs) ≡ 7 * (length vs - 1)
moves_size views vs L =
    moves_but_one views vs L.first (λ j l b e. let z : j ≡ 0 = apart_distinct vs L.apart j 0 b L.some (e ∙ sym L.first) in omega arith)

-- three bytes for every last view
count_cons : (t : List Act → Bool) (v : List Act) (vs : List (List Act)) → count_by t (v ∷ vs) ≡ cond (t v) 1 0 + count_by t vs
count_cons t v vs = sum_by-cons (λ x. cond (t x) 1 0) v vs

pub lasts_size : (t : List Act → Bool) (k : ℕ) (vs : List (List Act)) → length (each_from (last_at t) k vs) ≡ 3 * count_by t vs
lasts_size t k [] = refl
lasts_size t k (v ∷ vs) =
    let a = length-append (last_at t k v) (each_from (last_at t) (suc k) vs) in
    let b = lasts_size t (suc k) vs in
    let c = count_cons t v vs in
    let d = one (t v) in
    omega arith
  where
    one : (b : Bool) → length (cond b (last_bytes k) []) ≡ 3 * cond b 1 0
    one true = refl
    one false = refl

-- no more last views than ids
count_none : (t : List Act → Bool) (vs : List (List Act)) → ((j : ℕ) → j < length vs → t (get_or vs j []) ≡ false) → count_by t vs ≡ 0
count_none t [] h = refl
count_none t (v ∷ vs) h =
    let a = count_cons t v vs in
    let b : ◌≡◌ {A = ℕ} (cond (t v) 1 0) 0 = cond-false (t v) 1 0 (h 0 (omega arith)) in
    let c = count_none t vs (λ j l. h (suc j) (omega arith)) in
    omega arith

count_or : (t u : List Act → Bool) (vs : List (List Act)) → count_by (λ v. t v || u v) vs ≤ count_by t vs + count_by u vs
count_or t u [] = omega arith
count_or t u (v ∷ vs) =
    let a = count_cons (λ x. t x || u x) v vs in
    let b = count_cons t v vs in
    let c = count_cons u v vs in
    let d = count_or t u vs in
    let e = one (t v) (u v) in
    omega arith
  where
    one : (x y : Bool) → cond (x || y) 1 0 ≤ cond x 1 0 + cond y 1 0
    one true y = omega arith
    one false y = omega arith

tail_distinct : (v : List Act) (vs : List (List Act)) → Distinct (v ∷ vs) → Distinct vs
tail_distinct v vs D j k hj hk e = let z = D (suc j) (suc k) (omega arith) (omega arith) e in omega arith

-- a list that stands at one place at most is counted once at most
count_one : (l : List Act) (vs : List (List Act)) → Distinct vs → count_by (λ v. same_acts v l) vs ≤ 1
count_one l [] D = omega arith
count_one l (v ∷ vs) D =
    let a = count_cons (λ x. same_acts x l) v vs in
    elim (cases_Bool (same_acts v l)) [
      | inl e ↦
          let b : ◌≡◌ {A = ℕ} (cond (same_acts v l) 1 0) 1 = cond-true (same_acts v l) 1 0 e in
          let c = count_none (λ x. same_acts x l) vs (λ j h. acts_differ (get_or vs j []) l (λ q.
          let z = D (suc j) 0 (omega arith) (omega arith) (q ∙ sym (same_acts_lem v l e)) in omega arith)) in
          omega arith
      | inr e ↦
          let b : ◌≡◌ {A = ℕ} (cond (same_acts v l) 1 0) 0 = cond-false (same_acts v l) 1 0 e in
          let c = count_one l vs (tail_distinct v vs D) in
          omega arith
    ]

count_held : (p : ℕ) (o : Option Lines) (vs : List (List Act)) → Distinct vs → count_by (λ v. passes (λ c. same_acts v (line c p)) o) vs ≤ 1
count_held p None vs D = let a = count_none (λ v. false) vs (λ j h. refl) in omega arith
count_held p (Some c) vs D = count_one (line c p) vs D

count_below : (f : Charts) (p k : ℕ) (vs : List (List Act)) → Distinct vs
    → count_by (λ v. some_below k (λ i. passes (λ c. same_acts v (line c p)) (f i))) vs ≤ k
count_below f p zero vs D = let a = count_none (λ v. false) vs (λ j h. refl) in omega arith
count_below f p (suc k) vs D =
    let a = count_or (λ v. some_below k (λ i. passes (λ c. same_acts v (line c p)) (f i))) (λ v. passes (λ c. same_acts v (line c p)) (f k)) vs in
    let b = count_below f p k vs D in
    let c = count_held p (f k) vs D in
    omega arith

pub lasts_few : (f : Charts) (p : ℕ) → count_by (is_last f p) (views_of p f) ≤ 8
lasts_few f p = count_below f p 8 (views_of p f) (apart_distinct (views_of p f) (views_listing p f).apart)

-- a party, the parties, the files
pub party_size : (f : Charts) (p : ℕ)
    → length (party_bytes f p) ≡ 2 + 7 * (length (views_of p f) - 1) + 3 * count_by (is_last f p) (views_of p f)
party_size f p =
    let vs = views_of p f in
    let a = length-append (each_from (move_to vs) 0 vs) (each_from (last_at (is_last f p)) 0 vs) in
    let b = moves_size vs vs (views_listing p f) in
    let c = lasts_size (is_last f p) 0 vs in
    omega arith

pub parties-size : (f : Charts) (n : ℕ) → length (parties_below f (n + 1)) ≡ length (parties_below f n) + length (party_bytes f n)
parties-size f n =
    let e : n + 1 ≡ suc n = omega arith in
    ap (λ (k : ℕ). length (parties_below f k)) e ∙ length-append (parties_below f n) (party_bytes f n)

pub file_size : (code n : ℕ) (f : Charts) → length (machine_file_bytes code n f) ≡ 4 + length (parties_below f n)
file_size code n f = let a = length-append (parties_below f n) (90 ∷ []) in omega arith

pub told_size : (w : List Act) → length (told_bytes w) ≡ 4 * length w
told_size [] = refl
told_size (a ∷ w) = let r = told_size w in omega arith

pub list_size : (kind : ℕ) (w : List Act) → length (list_file_bytes kind w) ≡ 3 + 4 * length w
list_size kind w = let a = length-append (told_bytes w) (90 ∷ []) in let b = told_size w in omega arith
