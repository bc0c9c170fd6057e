-- What a chain over the slots of a book gives: how many charts there are, and the first that has another number of parties.
use Rattle.std.proofs.Common.{◌≡◌, ℕ, zero, suc, ◌+◌, ◌≤◌, Bool, true, false, cond, not, eqb, List, [], ◌∷◌, length, map, is_some, Some, None, Option, MatchBool, MatchOption, sym, refl, ap, ◌∙◌, subst, arith}
use Rattle.std.proofs.lemmas.Option.{none-some}
use Rattle.std.proofs.lemmas.Bool.{eqb-true, eqb-false}
use Rattle.std.specs.List.{find, flat_map}
use Rattle.std.specs.Option.{option_to_list, option_copied}
use Rattle.std.specs.Iterator.Adapters.{option_iter_item, option_iter_done, option_iter_steps}
use Rattle.std.proofs.lemmas.Iterator.{YieldsList}
use Rattle.std.proofs.lemmas.Iterator.Consumers.{YieldsList-from_shown}
use denote.Ref.{Bor}
use Rattle.acts.specs.Acts.{Lines}
use Rattle.chart.specs.declared.chart.Chart.{Chart}
use Rattle.chart.specs.Of.{lines_in}
use Rattle.book.specs.History.{counted}
use Rattle.book.specs.Past.{shown, table_of}
use Rattle.book.specs.Finding.{AsMany, NotAsMany}
use Rattle.book.proofs.Tables.{some_same}

spent : {A : Type 0} (b : Bool) (i : Option A) → MatchBool b (◌≡◌ {A = Option (Bor A)} None None) (None ≡ i) → length (cond b [] (option_to_list i)) ≡ 0
spent true i k = refl
spent false None k = refl
spent false (Some a) k = absurd cc

gave : {A : Type 0} (b d : Bool) (i : Option A) (x : Bor A) (l : List A) → d ≡ true → MatchBool b (Some x ≡ None) (option_copied (Some x) ≡ i)
    → cond b [] (option_to_list i) ≡ x.now ∷ cond d [] l
gave true d i x l e k = absurd cc
gave false d i x l e k = ap option_to_list (sym k) ∙ ap (λ (q : Bool). x.now ∷ cond q [] l) (sym e)

-- an iterator over an option gives its value
pub one : {A : Type 0} → {s : _} (o : Option A) → option_iter_item s ≡ o → option_iter_done s ≡ false
    → YieldsList option_iter_steps (λ y. y.now) s (option_to_list o)
one {A} {s} o e d =
    let all = YieldsList-from_shown option_iter_steps (λ y. y.now) (λ t. cond (option_iter_done t) [] (option_to_list (option_iter_item t)))
    (λ t u k. spent (option_iter_done t) (option_iter_item t) k.1)
    (λ t x u k. gave (option_iter_done t) (option_iter_done u) (option_iter_item t) x (option_to_list (option_iter_item u)) k.0 k.1) s in
    subst (YieldsList option_iter_steps (λ y. y.now) s) (ap (λ (b : Bool). cond b [] (option_to_list (option_iter_item s))) d ∙ ap option_to_list e) all

-- the first id apart
counted-front : (k : ℕ) (f : ℕ → Option Lines) → counted (suc k) f ≡ cond (is_some (f 0)) 1 0 + counted k (λ j. f (suc j))
counted-front zero f = omega arith
counted-front (suc k) f = let h = counted-front k f in omega arith

-- no more charts than slots
pub few-slots : (cs : List (Option Chart)) → length (flat_map option_to_list cs) ≤ length cs
few-slots [] = omega arith
few-slots (None ∷ cs) = let h = few-slots cs in omega arith
few-slots (Some c ∷ cs) = let h = few-slots cs in omega arith

-- as many as are counted under the ids
pub counted-slots : (cs : List (Option Chart)) → length (flat_map option_to_list cs) ≡ counted (length cs) (table_of cs)
counted-slots [] = refl
counted-slots (None ∷ cs) = let h = counted-slots cs in let f = counted-front (length cs) (table_of (None ∷ cs)) in omega arith
counted-slots (Some c ∷ cs) = let h = counted-slots cs in let f = counted-front (length cs) (table_of (Some c ∷ cs)) in omega arith

module _ (c : Lines) where
  -- what a search for another number of parties says
  abbrev pub Others : Option ℕ → List (Option Chart) → Type 0
  Others r cs = MatchOption r (AsMany (table_of cs) c) (λ m. NotAsMany (table_of cs) c m)

  -- one slot in front
  past : (x : Option Chart) (cs : List (Option Chart)) → ((d : Lines) → shown x ≡ Some d → length d ≡ length c) → (r : Option ℕ) → Others r cs → Others r (x ∷ cs)
  past x cs h None s = go
    where
      go : AsMany (table_of (x ∷ cs)) c
      go zero d k = h d k
      go (suc i) d k = s i d k
  past x cs h (Some m) s = record { id = suc s.id; other = s.other; there = s.there; parties = s.parties; differ = s.differ }

  pub others : (n : ℕ) → n ≡ length c → (cs : List (Option Chart)) → Others (find (λ m. not (eqb m n)) (map (λ (d : Chart). length (lines_in d)) (flat_map option_to_list cs))) cs
  others n e [] = λ i d k. absurd (none-some d k)
  others n e (None ∷ cs) = past None cs (λ d k. absurd (none-some d k)) _ (others n e cs)
  others n e (Some b ∷ cs) = go (eqb (length (lines_in b)) n) refl _ (others n e cs)
    where
      go : (t : Bool) → eqb (length (lines_in b)) n ≡ t → (r : Option ℕ) → Others r cs → Others (cond (not t) (Some (length (lines_in b))) r) (Some b ∷ cs)
      go true t r s = past (Some b) cs (λ d k. ap length (sym (some_same (lines_in b) d k)) ∙ eqb-true (length (lines_in b)) n t ∙ e) r s
      go false t r s = record { id = 0; other = lines_in b; there = refl; parties = refl; differ = λ q. eqb-false (length (lines_in b)) n t (q ∙ sym e) }
