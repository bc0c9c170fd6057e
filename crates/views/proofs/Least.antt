-- The least item of a chain by a key, and the items that a filter keeps.
use Rattle.std.proofs.Common.{◌≡◌, ℕ, zero, suc, ◌<◌, Bool, true, false, cond, List, [], ◌∷◌, length, get_or, map, Some, None, Option, MatchOption, IfSome, Bor, sym, refl, ap, ◌∙◌, subst, arith}
use Rattle.std.proofs.lemmas.Bool.{false≢true}
use Rattle.std.proofs.lemmas.List.{get_or-map, length-map, nil_from_length}
use Rattle.std.proofs.lemmas.Iterator.{YieldsList, items_from_drains}
use Rattle.std.proofs.lemmas.Iterator.Consumers.{YieldsList-at}
use Rattle.std.specs.Fn.{CalledAt}
use Rattle.std.specs.Iterator.Runs.{Run, YieldsRun, WholeRun, AnyItem, NoKeyBeyond, CallKeepsClosure}
use Rattle.std.specs.List.{filter}
use Rattle.std.specs.Option.{option_map, IsSomeAnd}
use Rattle.std.specs.Ordering.{is_lt}
use Rattle.std.specs.declared.cmp.Ordering.{Ordering}
use denote.Param.Members.{Mut}

-- y is in the list, and no element's key is less than its own
pub record IsLeast {B K : Type 0} (cmp : K → K → Ordering) (key : B → K) (all : List B) (y : B) : Type 0 where
  pub at : ℕ
  pub below : at < length all
  pub is : get_or all at y ≡ y
  pub least : (j : ℕ) → j < length all → is_lt (cmp (key (get_or all j y)) (key y)) ≡ false

same : {A : Type 0} (o : Option A) → option_map (λ y. y) o ≡ o
same None = refl
same (Some x) = refl

-- a whole run of a chain gives the chain's list
module _ {S A B : Type 0} {steps : S → Option A → S → Type 0} {v : A → B} {s : S} {all : List B} (p : Run steps) (from : p.from ≡ s) (whole : p.whole ≡ true)
    (road : YieldsList steps v s all) where
  items_all : map v p.items ≡ all
  unfolding YieldsRun
  items_all = let d = p.gave.0 in items_from_drains p.items (d.0, d.1, λ w. d.2 whole) (YieldsList-at from road)

  long : length all ≡ p.len
  long = ap length (sym items_all) ∙ length-map p.items v ∙ sym p.long

  read : (k : ℕ) (d : A) → k < p.len → p.at k ≡ Some (get_or p.items k d)
  read k d h = sym (same (p.at k)) ∙ p.reads k d h

  item : (k : ℕ) (d : A) → k < p.len → get_or all k (v d) ≡ v (get_or p.items k d)
  item k d h = let n = p.long in ap (λ (l : List B). get_or l k (v d)) (sym items_all) ∙ get_or-map v p.items k d (v d) (omega arith)

-- what `min_by_key` answers
pub least_of : {S A B F K : Type 0} {steps : S → Option A → S → Type 0} {v : A → B} {s : S} {all : List B} (g : Mut F (Bor A × Unit {0}) K) (cmp : K → K → Ordering)
    (key : B → K) {f : F} (r : Option A)
    → WholeRun steps s (λ p. MatchOption r (p.len ≡ 0) (λ m. AnyItem p (λ x. x ≡ m) × NoKeyBeyond p g f is_lt cmp m))
    → YieldsList steps v s all → ((x : A) (k : K) (q : F) → CalledAt g f x k q → (q ≡ f) × (k ≡ key (v x)))
    → MatchOption r (all ≡ []) (λ m. IsLeast cmp key all (v m))
least_of {all = all} g cmp key None (p, from, whole, none) road keys = nil_from_length all (long p from whole road ∙ none)
least_of {A = A} {v = v} {all = all} g cmp key {f = f} (Some m) (p, from, whole, (any, beyond)) road keys =
    let n = long p from whole road in
    let k = any.0 in
    let is : get_or p.items k m ≡ m = subst (λ (o : Option A). IsSomeAnd o (λ x. x ≡ m)) (read p from whole road k m any.1) any.2 in
    let keeps : CallKeepsClosure g f = λ a r q c. (keys a.0.now r q (record { shown = a.0; shows = refl; called = c })).0 in
    let b = beyond keeps in
    let mine = (keys m b.0 f b.1).1 in
    record {
      at = k;
      below = let h = any.1 in omega arith;
      is = item p from whole road k m any.1 ∙ ap v is;
      least = λ j l.
          let h : j < p.len = omega arith in
          let c = subst (λ (o : Option A). IfSome o (λ x. (i : _) × CalledAt g f x i f × (is_lt (cmp i b.0) ≡ false))) (read p from whole road j m h) (b.2 j) in
          ap (λ i. is_lt (cmp (key i) (key (v m)))) (item p from whole road j m h)
          ∙ sym (ap (λ i. is_lt (cmp i (key (v m)))) (keys (get_or p.items j m) c.0 f c.1).1)
          ∙ sym (ap (λ i. is_lt (cmp c.0 i)) mine)
          ∙ c.2;
    }

-- what holds of each element that is kept holds of each that passes
pub kept_each : {B : Type 0} (t : B → Bool) (Q : B → Type 0) (xs : List B) (d : B) → ((j : ℕ) → j < length (filter t xs) → Q (get_or (filter t xs) j d))
    → (i : ℕ) → i < length xs → t (get_or xs i d) ≡ true → Q (get_or xs i d)
kept_each t Q [] d h i l e = absurd (omega arith)
kept_each {B = B} t Q (x ∷ xs) d h i l e = go (t x) refl h (kept_each t Q xs d) i l e
  where
    Each : List B → Type 0
    Each ys = (j : ℕ) → j < length ys → Q (get_or ys j d)

    go : (b : Bool) → t x ≡ b → Each (cond b (x ∷ filter t xs) (filter t xs)) → (Each (filter t xs) → (i : ℕ) → i < length xs → t (get_or xs i d) ≡ true → Q (get_or xs i d))
        → (i : ℕ) → i < length (x ∷ xs) → t (get_or (x ∷ xs) i d) ≡ true → Q (get_or (x ∷ xs) i d)
    go true p h r zero l e = h 0 (omega arith)
    go false p h r zero l e = absurd (false≢true (sym p ∙ e))
    go true p h r (suc i) l e = r (λ j m. h (suc j) (omega arith)) i (omega arith) e
    go false p h r (suc i) l e = r h i (omega arith) e

-- an element that is kept is one that passes
pub record Kept {B : Type 0} (t : B → Bool) (xs : List B) (y : B) : Type 0 where
  pub at : ℕ
  pub below : at < length xs
  pub is : get_or xs at y ≡ y
  pub passes : t y ≡ true

pub kept_from : {B : Type 0} (t : B → Bool) (xs : List B) (y : B) (j : ℕ) → j < length (filter t xs) → get_or (filter t xs) j y ≡ y → Kept t xs y
kept_from t [] y j l e = absurd (omega arith)
kept_from t (x ∷ xs) y j l e = go (t x) refl (kept_from t xs y) j l e
  where
    later : Kept t xs y → Kept t (x ∷ xs) y
    later k = record { at = suc k.at; below = (let b = k.below in omega arith); is = k.is; passes = k.passes }

    go : (b : Bool) → t x ≡ b → ((j : ℕ) → j < length (filter t xs) → get_or (filter t xs) j y ≡ y → Kept t xs y)
        → (j : ℕ) → j < length (cond b (x ∷ filter t xs) (filter t xs)) → get_or (cond b (x ∷ filter t xs) (filter t xs)) j y ≡ y → Kept t (x ∷ xs) y
    go true p r zero l e = record { at = 0; below = omega arith; is = e; passes = ap t (sym e) ∙ p }
    go true p r (suc j) l e = later (r j (omega arith) e)
    go false p r j l e = later (r j l e)
