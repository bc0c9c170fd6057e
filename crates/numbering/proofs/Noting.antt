-- What stands among the noted lists, and at which place.
use Rattle.std.proofs.Common.{◌≡◌, ℕ, zero, suc, ◌+◌, ◌*◌, ◌<◌, ◌≤◌, Bool, true, false, ◌||◌, ◌⊎◌, List, [], ◌∷◌, ◌++◌, length, get_or, Some, None, Option, sym, refl, ap, ◌∙◌, subst, inl, inr, append_assoc, append-nil, arith}
use Rattle.std.proofs.lemmas.Bool.{or_cases, or_left, or_right, false≢true, both_ways, cases_Bool, cases_lt, cases_eq, cond-true, cond-false, cond_both}
use Rattle.std.proofs.lemmas.List.{get_or_append_left, get_or_push, length_push}
use Rattle.acts.specs.declared.Act.{Act}
use Rattle.acts.specs.Acts.{Lines, line, Beginning}
use Rattle.families.specs.Judgement.{Charts}
use Rattle.families.specs.Tests.{same_acts, begins_with, passes}
use Rattle.numbering.specs.Numbering.{among, place, Apart, noted, noted_along, noted_line, views_below}
use Rattle.numbering.specs.Masks.{begins}
use Rattle.numbering.proofs.Same.{same_acts_lem, acts_same, begins_of, begins_beginning}

-- where a list stands
pub record Stands (vs : List (List Act)) (v : List Act) : Type 0 where
  pub at : ℕ
  pub below : at < length vs
  pub is : get_or vs at [] ≡ v

pub among_stands : (vs : List (List Act)) (v : List Act) → among vs v ≡ true → Stands vs v
among_stands [] v h = absurd (false≢true h)
among_stands (x ∷ vs) v h = elim (or_cases (same_acts x v) (among vs v) h) [
  | inl e ↦ record { at = 0; below = omega arith; is = same_acts_lem x v e }
  | inr e ↦ let s = among_stands vs v e in record { at = suc s.at; below = (let b = s.below in omega arith); is = s.is }
]

pub at-among : (vs : List (List Act)) (k : ℕ) → k < length vs → among vs (get_or vs k []) ≡ true
at-among [] k h = absurd (omega arith)
at-among (x ∷ vs) zero h = or_left (same_acts x x) (among vs x) (acts_same x)
at-among (x ∷ vs) (suc k) h = or_right (same_acts x (get_or vs k [])) (among vs (get_or vs k [])) (at-among vs k (omega arith))

pub stands_among : (vs : List (List Act)) (v : List Act) → Stands vs v → among vs v ≡ true
stands_among vs v s = subst (λ (x : List Act). among vs x ≡ true) s.is (at-among vs s.at s.below)

-- the place of a list that stands there
pub record Placed (vs : List (List Act)) (v : List Act) : Type 0 where
  pub below : place vs v < length vs
  pub is : get_or vs (place vs v) [] ≡ v

pub placed : (vs : List (List Act)) (v : List Act) → among vs v ≡ true → Placed vs v
placed [] v h = absurd (false≢true h)
placed (x ∷ vs) v h = elim (cases_Bool (same_acts x v)) [
  | inl e ↦
      let z : place (x ∷ vs) v ≡ 0 = cond-true (same_acts x v) 0 (suc (place vs v)) e in
      record { below = omega arith; is = ap (λ (k : ℕ). get_or (x ∷ vs) k []) z ∙ same_acts_lem x v e }
  | inr e ↦
      let z : place (x ∷ vs) v ≡ suc (place vs v) = cond-false (same_acts x v) 0 (suc (place vs v)) e in
      let r = placed vs v (rest (same_acts x v) (among vs v) e h) in
      record { below = (let b = r.below in omega arith); is = ap (λ (k : ℕ). get_or (x ∷ vs) k []) z ∙ r.is }
]
  where
    rest : (a b : Bool) → a ≡ false → (a || b) ≡ true → b ≡ true
    rest true b e h = absurd (false≢true (sym e))
    rest false b e h = h

-- the same of two places
abbrev pub Distinct : List (List Act) → Type 0
Distinct vs = (j k : ℕ) → j < length vs → k < length vs → get_or vs j [] ≡ get_or vs k [] → j ≡ k

pub distinct_apart : (vs : List (List Act)) → Distinct vs → Apart vs
distinct_apart vs D k h = let p = placed vs (get_or vs k []) (at-among vs k h) in D (place vs (get_or vs k [])) k p.below h p.is

pub apart_distinct : (vs : List (List Act)) → Apart vs → Distinct vs
apart_distinct vs A j k hj hk e = sym (A j hj) ∙ ap (place vs) e ∙ A k hk

pub place_is : (vs : List (List Act)) (v : List Act) → Apart vs → (k : ℕ) → k < length vs → get_or vs k [] ≡ v → place vs v ≡ k
place_is vs v A k h e = ap (place vs) (sym e) ∙ A k h

-- the first list is the empty one, and no list stands twice
pub record Listing (vs : List (List Act)) : Type 0 where
  pub some : 0 < length vs
  pub first : get_or vs 0 [] ≡ []
  pub apart : Apart vs

pub among-push : (vs : List (List Act)) (x v : List Act) → among (vs ++ (x ∷ [])) v ≡ (among vs v || same_acts x v)
among-push [] x v = or_false (same_acts x v)
  where
    or_false : (b : Bool) → (b || false) ≡ b
    or_false true = refl
    or_false false = refl
among-push (y ∷ vs) x v = ap (λ (b : Bool). same_acts y v || b) (among-push vs x v) ∙ assoc (same_acts y v) (among vs v) (same_acts x v)
  where
    assoc : (a b c : Bool) → (a || (b || c)) ≡ ((a || b) || c)
    assoc true b c = refl
    assoc false b c = refl

pub noted_there : (vs : List (List Act)) (v : List Act) → among vs v ≡ true → noted vs v ≡ vs
noted_there vs v h = cond-true (among vs v) vs (vs ++ (v ∷ [])) h

pub noted_new : (vs : List (List Act)) (v : List Act) → among vs v ≡ false → noted vs v ≡ vs ++ (v ∷ [])
noted_new vs v h = cond-false (among vs v) vs (vs ++ (v ∷ [])) h

pub noted_keeps : (vs : List (List Act)) (x v : List Act) → among vs v ≡ true → among (noted vs x) v ≡ true
noted_keeps vs x v h =
    cond_both (among vs x) vs (vs ++ (x ∷ [])) (λ ws. among ws v ≡ true) (λ e. h)
    (λ e. among-push vs x v ∙ or_left (among vs v) (same_acts x v) h)

pub noted_has : (vs : List (List Act)) (x : List Act) → among (noted vs x) x ≡ true
noted_has vs x = elim (cases_Bool (among vs x)) [
  | inl e ↦ subst (λ (ws : List (List Act)). among ws x ≡ true) (sym (noted_there vs x e)) e
  | inr e ↦
      subst (λ (ws : List (List Act)). among ws x ≡ true) (sym (noted_new vs x e))
      (among-push vs x x ∙ or_right (among vs x) (same_acts x x) (acts_same x))
]

pub noted_only : (vs : List (List Act)) (x v : List Act) → among (noted vs x) v ≡ true → (among vs v ≡ true) ⊎ (v ≡ x)
noted_only vs x v h = elim (cases_Bool (among vs x)) [
  | inl e ↦ inl (ap (λ (ws : List (List Act)). among ws v) (sym (noted_there vs x e)) ∙ h)
  | inr e ↦ elim (or_cases (among vs v) (same_acts x v) (sym (among-push vs x v) ∙ ap (λ (ws : List (List Act)). among ws v) (sym (noted_new vs x e)) ∙ h)) [
    | inl g ↦ inl g
    | inr g ↦ inr (sym (same_acts_lem x v g))
  ]
]

-- a list that does not stand there comes to the end
pub listing_push : (vs : List (List Act)) (v : List Act) → Listing vs → among vs v ≡ false → Listing (vs ++ (v ∷ []))
listing_push vs v L h = record {
  some = (let n = length_push vs v in let s = L.some in omega arith);
  first = get_or_append_left vs (v ∷ []) [] 0 L.some ∙ L.first;
  apart = distinct_apart (vs ++ (v ∷ [])) apart;
}
  where
    n : length (vs ++ (v ∷ [])) ≡ length vs + 1
    n = length_push vs v

    new : get_or (vs ++ (v ∷ [])) (length vs) [] ≡ v
    new = get_or_push vs v [] (length vs) refl

    never : (k : ℕ) → k < length vs → get_or vs k [] ≡ v → ⊥
    never k l e = both_ways (among vs v) h (stands_among vs v (record { at = k; below = l; is = e }))

    old : (k : ℕ) → k < length vs → get_or (vs ++ (v ∷ [])) k [] ≡ get_or vs k []
    old k l = get_or_append_left vs (v ∷ []) [] k l

    apart : Distinct (vs ++ (v ∷ []))
    apart j k hj hk e = elim (cases_lt j (length vs)) [
      | inl lj ↦ elim (cases_lt k (length vs)) [
        | inl lk ↦ apart_distinct vs L.apart j k lj lk (sym (old j lj) ∙ e ∙ old k lk)
        | inr gk ↦
            let q : k ≡ length vs = let m = n in omega arith in
            absurd (never j lj (sym (old j lj) ∙ e ∙ ap (λ (i : ℕ). get_or (vs ++ (v ∷ [])) i []) q ∙ new))
      ]
      | inr gj ↦ elim (cases_lt k (length vs)) [
        | inl lk ↦
            let q : j ≡ length vs = let m = n in omega arith in
            absurd (never k lk (sym (old k lk) ∙ sym e ∙ ap (λ (i : ℕ). get_or (vs ++ (v ∷ [])) i []) q ∙ new))
        | inr gk ↦ let m = n in omega arith
      ]
    ]

pub listing_noted : (vs : List (List Act)) (v : List Act) → Listing vs → Listing (noted vs v)
listing_noted vs v L = cond_both (among vs v) vs (vs ++ (v ∷ [])) Listing (λ e. L) (λ e. listing_push vs v L e)

pub listing_along : (vs : List (List Act)) (v l : List Act) → Listing vs → Listing (noted_along vs v l)
listing_along vs v [] L = L
listing_along vs v (a ∷ l) L = listing_along (noted vs (v ++ (a ∷ []))) (v ++ (a ∷ [])) l (listing_noted vs (v ++ (a ∷ [])) L)

pub along_push : (vs : List (List Act)) (v l : List Act) (a : Act)
    → noted_along vs v (l ++ (a ∷ [])) ≡ noted (noted_along vs v l) ((v ++ l) ++ (a ∷ []))
along_push vs v [] a = ap (λ (x : List Act). noted vs (x ++ (a ∷ []))) (sym (append-nil v))
along_push vs v (b ∷ l) a =
    along_push (noted vs (v ++ (b ∷ []))) (v ++ (b ∷ [])) l a
    ∙ ap (λ (x : List Act). noted (noted_along (noted vs (v ++ (b ∷ []))) (v ++ (b ∷ [])) l) (x ++ (a ∷ []))) (append_assoc v (b ∷ []) l)

pub along_keeps : (vs : List (List Act)) (v l u : List Act) → among vs u ≡ true → among (noted_along vs v l) u ≡ true
along_keeps vs v [] u h = h
along_keeps vs v (a ∷ l) u h = along_keeps (noted vs (v ++ (a ∷ []))) (v ++ (a ∷ [])) l u (noted_keeps vs (v ++ (a ∷ [])) u h)

-- every beginning of the line stands there, from v on
pub along_has : (vs : List (List Act)) (v b rest : List Act) → among vs v ≡ true → among (noted_along vs v (b ++ rest)) (v ++ b) ≡ true
along_has vs v [] rest h = along_keeps vs v rest (v ++ []) (subst (λ (x : List Act). among vs x ≡ true) (sym (append-nil v)) h)
along_has vs v (a ∷ b) rest h =
    subst (λ (x : List Act). among (noted_along (noted vs (v ++ (a ∷ []))) (v ++ (a ∷ [])) (b ++ rest)) x ≡ true) (append_assoc v (a ∷ []) b)
    (along_has (noted vs (v ++ (a ∷ []))) (v ++ (a ∷ [])) b rest (noted_has vs (v ++ (a ∷ []))))

pub along_only : (vs : List (List Act)) (v l u : List Act) → among (noted_along vs v l) u ≡ true
    → (among vs u ≡ true) ⊎ ((b : List Act) × Beginning b l × (u ≡ v ++ b))
along_only vs v [] u h = inl h
along_only vs v (a ∷ l) u h = elim (along_only (noted vs (v ++ (a ∷ []))) (v ++ (a ∷ [])) l u h) [
  | inl g ↦ elim (noted_only vs (v ++ (a ∷ [])) u g) [
    | inl k ↦ inl k
    | inr k ↦ inr (a ∷ [], (l, refl), k)
  ]
  | inr g ↦ inr (a ∷ g.0, (g.1.0, ap (λ (x : List Act). a ∷ x) g.1.1), g.2 ∙ append_assoc v (a ∷ []) g.0)
]

pub along_length : (vs : List (List Act)) (v l : List Act) → length (noted_along vs v l) ≤ length vs + length l
along_length vs v [] = omega arith
along_length vs v (a ∷ l) =
    let x = v ++ (a ∷ []) in
    let r = along_length (noted vs x) x l in
    let s : length (noted vs x) ≤ length vs + 1 =
    cond_both (among vs x) vs (vs ++ (x ∷ [])) (λ ws. length ws ≤ length vs + 1) (λ e. omega arith) (λ e. let n = length_push vs x in omega arith) in
    omega arith

-- the views of a party, chart by chart
pub below_listing : (p : ℕ) (f : Charts) (k : ℕ) → Listing (views_below p f k)
below_listing p f zero = record { some = omega arith; first = refl; apart = distinct_apart ([] ∷ []) (λ j k hj hk e. omega arith) }
below_listing p f (suc k) = go (f k) (below_listing p f k)
  where
    go : (o : Option Lines) → Listing (views_below p f k) → Listing (noted_line p o (views_below p f k))
    go None L = L
    go (Some c) L = listing_along (views_below p f k) [] (line c p) L

pub none_there : (vs : List (List Act)) → Listing vs → among vs [] ≡ true
none_there vs L = stands_among vs [] (record { at = 0; below = L.some; is = L.first })

-- a beginning of a line stands among the views
pub below_has : (p : ℕ) (f : Charts) (k i : ℕ) (v : List Act) → i < k → begins f p v i ≡ true → among (views_below p f k) v ≡ true
below_has p f zero i v h b = absurd (omega arith)
below_has p f (suc k) i v h b = elim (cases_eq i k) [
  | inl e ↦ here (f k) (subst (λ (j : ℕ). passes (λ c. begins_with v (line c p)) (f j) ≡ true) e b)
  | inr n ↦ there (f k) (below_has p f k i v (omega arith) b)
]
  where
    here : (o : Option Lines) → passes (λ c. begins_with v (line c p)) o ≡ true → among (noted_line p o (views_below p f k)) v ≡ true
    here None x = absurd (false≢true x)
    here (Some c) x =
        let y = begins_beginning v (line c p) x in
        subst (λ (l : List Act). among (noted_along (views_below p f k) [] l) v ≡ true) y.1
        (along_has (views_below p f k) [] v y.0 (none_there (views_below p f k) (below_listing p f k)))

    there : (o : Option Lines) → among (views_below p f k) v ≡ true → among (noted_line p o (views_below p f k)) v ≡ true
    there None x = x
    there (Some c) x = along_keeps (views_below p f k) [] (line c p) v x

-- and what stands there is the empty list or a beginning of a line
pub below_only : (p : ℕ) (f : Charts) (k : ℕ) (v : List Act) → among (views_below p f k) v ≡ true
    → (v ≡ []) ⊎ ((i : ℕ) × (i < k) × (begins f p v i ≡ true))
below_only p f zero v h = elim (or_cases (same_acts [] v) false h) [
  | inl e ↦ inl (sym (same_acts_lem [] v e))
  | inr e ↦ absurd (false≢true e)
]
below_only p f (suc k) v h = go (f k) refl (below_only p f k v) h
  where
    more : (v ≡ []) ⊎ ((i : ℕ) × (i < k) × (begins f p v i ≡ true)) → (v ≡ []) ⊎ ((i : ℕ) × (i < suc k) × (begins f p v i ≡ true))
    more (inl e) = inl e
    more (inr x) = inr (x.0, (let l = x.1 in omega arith), x.2)

    go : (o : Option Lines) → f k ≡ o
        → (among (views_below p f k) v ≡ true → (v ≡ []) ⊎ ((i : ℕ) × (i < k) × (begins f p v i ≡ true)))
        → among (noted_line p o (views_below p f k)) v ≡ true
        → (v ≡ []) ⊎ ((i : ℕ) × (i < suc k) × (begins f p v i ≡ true))
    go None e r x = more (r x)
    go (Some c) e r x = elim (along_only (views_below p f k) [] (line c p) v x) [
      | inl y ↦ more (r y)
      | inr y ↦ inr (
        k,
        omega arith,
        ap (passes (λ d. begins_with v (line d p))) e ∙ begins_of v (line c p) (subst (λ (u : List Act). Beginning u (line c p)) (sym y.2) y.1),
      )
    ]

-- there are at most so many
pub below_length : (p : ℕ) (f : Charts) (k : ℕ) → ((i : ℕ) (c : Lines) → f i ≡ Some c → length (line c p) ≤ 32) → length (views_below p f k) ≤ 1 + 32 * k
below_length p f zero h = omega arith
below_length p f (suc k) h = go (f k) refl (below_length p f k h)
  where
    go : (o : Option Lines) → f k ≡ o → length (views_below p f k) ≤ 1 + 32 * k → length (noted_line p o (views_below p f k)) ≤ 1 + 32 * suc k
    go None e r = omega arith
    go (Some c) e r = let s = along_length (views_below p f k) [] (line c p) in let t = h k c e in omega arith
