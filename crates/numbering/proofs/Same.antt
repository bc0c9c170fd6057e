-- The tests of equal lists and beginnings tell.
use Rattle.std.proofs.Common.{◌≡◌, ◌+◌, ◌<◌, ◌≤◌, Bool, true, false, ◌&&◌, ◌||◌, eqb, List, [], ◌∷◌, ◌++◌, length, sym, refl, ap, ◌∙◌, subst, inl, inr, arith, length-append}
use Rattle.std.proofs.lemmas.Bool.{and_parts, and_from, eqb-true, eq-eqb, false≢true, both_ways, cases_Bool}
use Rattle.acts.specs.declared.Act.{Act}
use Rattle.acts.specs.declared.Letter.{Letter}
use Rattle.acts.specs.declared.Letter.TheVariants.{Send, Receive}
use Rattle.acts.specs.Acts.{Beginning}
use Rattle.acts.specs.Order.{rank}
use Rattle.families.specs.Tests.{same_act, same_acts, begins_with}

rank_same : (x y : Letter) → rank x ≡ rank y → x ≡ y
rank_same Send Send e = refl
rank_same Send Receive e = absurd (omega arith)
rank_same Receive Send e = absurd (omega arith)
rank_same Receive Receive e = refl

pub same_act_lem : (a b : Act) → same_act a b ≡ true → a ≡ b
same_act_lem a b h =
    let x = and_parts (eqb a.party b.party) _ h in
    let y = and_parts (eqb (rank a.letter) (rank b.letter)) _ x.1 in
    let z = and_parts (eqb a.peer b.peer) _ y.1 in
    let e1 : a.party ≡ b.party = eqb-true a.party b.party x.0 in
    let e2 : a.letter ≡ b.letter = rank_same a.letter b.letter (eqb-true (rank a.letter) (rank b.letter) y.0) in
    let e3 : a.peer ≡ b.peer = eqb-true a.peer b.peer z.0 in
    let e4 : a.name ≡ b.name = eqb-true a.name b.name z.1 in
    λ i. record { party = e1 i; letter = e2 i; peer = e3 i; name = e4 i }

pub act_same : (a : Act) → same_act a a ≡ true
act_same a =
    and_from (eqb a.party a.party) _ (eq-eqb a.party a.party refl)
    (and_from (eqb (rank a.letter) (rank a.letter)) _ (eq-eqb (rank a.letter) (rank a.letter) refl)
    (and_from (eqb a.peer a.peer) _ (eq-eqb a.peer a.peer refl) (eq-eqb a.name a.name refl)))

pub same_acts_lem : (u w : List Act) → same_acts u w ≡ true → u ≡ w
same_acts_lem [] [] h = refl
same_acts_lem [] (b ∷ w) h = absurd (false≢true h)
same_acts_lem (a ∷ u) [] h = absurd (false≢true h)
same_acts_lem (a ∷ u) (b ∷ w) h =
    let x = and_parts (same_act a b) (same_acts u w) h in
    let e = same_act_lem a b x.0 in
    let r = same_acts_lem u w x.1 in
    λ i. e i ∷ r i

pub acts_same : (u : List Act) → same_acts u u ≡ true
acts_same [] = refl
acts_same (a ∷ u) = and_from (same_act a a) (same_acts u u) (act_same a) (acts_same u)

pub acts_equal : (u w : List Act) → u ≡ w → same_acts u w ≡ true
acts_equal u w e = subst (λ (x : List Act). same_acts u x ≡ true) e (acts_same u)

pub acts_differ : (u w : List Act) → (u ≡ w → ⊥) → same_acts u w ≡ false
acts_differ u w n = elim (cases_Bool (same_acts u w)) [ inl h ↦ absurd (n (same_acts_lem u w h)) | inr h ↦ h ]

pub differ_acts : (u w : List Act) → same_acts u w ≡ false → u ≡ w → ⊥
differ_acts u w h e = both_ways (same_acts u w) h (acts_equal u w e)

pub begins_beginning : (v l : List Act) → begins_with v l ≡ true → Beginning v l
begins_beginning [] l h = (l, refl)
begins_beginning (a ∷ v) [] h = absurd (false≢true h)
begins_beginning (a ∷ v) (b ∷ l) h =
    let x = and_parts (same_act a b) (begins_with v l) h in
    let r = begins_beginning v l x.1 in
    let e = same_act_lem a b x.0 in
    (r.0, λ i. e i ∷ r.1 i)

pub beginning_begins : (v x : List Act) → begins_with v (v ++ x) ≡ true
beginning_begins [] x = refl
beginning_begins (a ∷ v) x = and_from (same_act a a) (begins_with v (v ++ x)) (act_same a) (beginning_begins v x)

pub begins_of : (v l : List Act) → Beginning v l → begins_with v l ≡ true
begins_of v l b = subst (λ (y : List Act). begins_with v y ≡ true) b.1 (beginning_begins v b.0)

pub begins-length : (v l : List Act) → begins_with v l ≡ true → length v ≤ length l
begins-length v l h =
    let b = begins_beginning v l h in
    let e : length v + length b.0 ≡ length l = sym (length-append v b.0) ∙ ap length b.1 in
    omega arith

-- a longer list is no beginning
pub longer_no : (v l : List Act) → length l < length v → begins_with v l ≡ false
longer_no v l h = elim (cases_Bool (begins_with v l)) [
  | inl e ↦ let k = begins-length v l e in absurd (omega arith)
  | inr e ↦ e
]

-- a beginning of a list with one act more is a beginning of the list, or all of it
pub begins-push : (v l : List Act) (a : Act) → begins_with v (l ++ (a ∷ [])) ≡ (begins_with v l || same_acts v (l ++ (a ∷ [])))
begins-push [] l a = refl
begins-push (b ∷ []) [] a = refl
begins-push (b ∷ c ∷ v) [] a = refl
begins-push (b ∷ v) (c ∷ l) a = go (same_act b c) (begins_with v l) (same_acts v (l ++ (a ∷ []))) (begins_with v (l ++ (a ∷ []))) (begins-push v l a)
  where
    go : (x y z r : Bool) → r ≡ (y || z) → (x && r) ≡ ((x && y) || (x && z))
    go true y z r e = e
    go false y z r e = refl
