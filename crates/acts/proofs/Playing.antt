-- The playing orders are the causal lists, and keep the laws of a language.
use Rattle.std.proofs.Common.{◌≡◌, ℕ, suc, ◌≤◌, Bool, true, false, cond, ◌&&◌, ◌||◌, ltb, ◌≢◌, List, [], ◌∷◌, ◌++◌, sym, refl, ap, ◌∙◌, subst, inl, inr, append_assoc, append-nil, arith}
use Rattle.std.proofs.lemmas.Bool.{ltb-true, lt-ltb, cases_Bool, and_parts, and_from, and_left, and_right, or_cases, or_left, or_right}
use Rattle.acts.specs.declared.Act.{Act}
use Rattle.acts.specs.declared.Letter.{Letter}
use Rattle.acts.specs.declared.Letter.TheVariants.{Send, Receive}
use Rattle.acts.specs.Acts.{tally, send_of, receive_of, is_send, sends, receives}
use Rattle.acts.specs.Language.{Diamond, Causal, ready, orderly, plays}
use Rattle.acts.proofs.Counts.{receiver}

-- every test counts the same in both lists
abbrev pub SameCounts : List Act → List Act → Type 0
SameCounts u w = (t : Act → Bool) → tally t u ≡ tally t w

counts_cons : (a : Act) (u w : List Act) → SameCounts u w → SameCounts (a ∷ u) (a ∷ w)
counts_cons a u w e t = ap (λ (n : ℕ). cond (t a) (suc n) n) (e t)

counts_swap : (a b : Act) (w : List Act) → SameCounts (a ∷ b ∷ w) (b ∷ a ∷ w)
counts_swap a b w t = go (t a) (t b) (tally t w)
  where
    go : (x y : Bool) (n : ℕ) → cond x (suc (cond y (suc n) n)) (cond y (suc n) n) ≡ cond y (suc (cond x (suc n) n)) (cond x (suc n) n)
    go true true n = refl
    go true false n = refl
    go false true n = refl
    go false false n = refl

-- an act counts the same at the front and further on
counts_moved : (a : Act) (u v : List Act) → SameCounts (a ∷ (u ++ v)) (u ++ (a ∷ v))
counts_moved a [] v t = refl
counts_moved a (b ∷ u) v t = counts_swap a b (u ++ v) t ∙ counts_cons b (a ∷ (u ++ v)) (u ++ (a ∷ v)) (counts_moved a u v) t

-- the counts of a list decide what is ready after it, and what is orderly after it
pub ready_same : (u w : List Act) → SameCounts u w → (a : Act) → ready u a ≡ ready w a
ready_same u w e a = λ i.
    is_send a.letter || ltb (e (receive_of a.peer a.party a.name) i) (e (send_of a.peer a.party a.name) i)

pub orderly_same : (u w : List Act) → SameCounts u w → (l : List Act) → orderly u l ≡ orderly w l
orderly_same u w e [] = refl
orderly_same u w e (a ∷ l) = λ i. ready_same u w e a i && orderly_same (a ∷ u) (a ∷ w) (counts_cons a u w e) l i

and_assoc : (x y z : Bool) → (x && (y && z)) ≡ ((x && y) && z)
and_assoc true y z = refl
and_assoc false y z = refl

-- two lists in a row are orderly where the first is, and the second is after it
pub orderly-++ : (before u v : List Act) → orderly before (u ++ v) ≡ (orderly before u && orderly (before ++ u) v)
orderly-++ before [] v = ap (λ (x : List Act). orderly x v) (sym (append-nil before))
orderly-++ before (a ∷ u) v =
    ap (λ (b : Bool). ready before a && b)
    (orderly-++ (a ∷ before) u v
    ∙ ap (λ (b : Bool). orderly (a ∷ before) u && b)
    (orderly_same (a ∷ (before ++ u)) (before ++ (a ∷ u)) (counts_moved a before u) v))
    ∙ and_assoc (ready before a) (orderly (a ∷ before) u) (orderly (before ++ (a ∷ u)) v)

pub plays-++ : (u v : List Act) → plays (u ++ v) ≡ (plays u && orderly u v)
plays-++ u v = orderly-++ [] u v

-- a playing order in two parts
pub plays-front : (u v : List Act) → plays (u ++ v) ≡ true → plays u ≡ true
plays-front u v h = (and_parts (plays u) (orderly u v) (sym (plays-++ u v) ∙ h)).0

plays_back : (u v : List Act) → plays (u ++ v) ≡ true → orderly u v ≡ true
plays_back u v h = (and_parts (plays u) (orderly u v) (sym (plays-++ u v) ∙ h)).1

plays-from : (u v : List Act) → plays u ≡ true → orderly u v ≡ true → plays (u ++ v) ≡ true
plays-from u v h k = plays-++ u v ∙ and_from (plays u) (orderly u v) h k

-- one more act
pub plays-ready : (w : List Act) (a : Act) (v : List Act) → plays (w ++ (a ∷ v)) ≡ true → ready w a ≡ true
plays-ready w a v h = (and_parts (ready w a) (orderly (a ∷ w) v) (plays_back w (a ∷ v) h)).0

pub plays_more : (w : List Act) (a : Act) → plays w ≡ true → (ready w a ≡ true) → plays (w ++ (a ∷ [])) ≡ true
plays_more w a h k = plays-from w (a ∷ []) h (and_from (ready w a) true k refl)

pub plays_refused : (w : List Act) (a : Act) → ready w a ≡ false → plays (w ++ (a ∷ [])) ≡ false
plays_refused w a k = plays-++ w (a ∷ []) ∙ and_right (plays w) (orderly w (a ∷ [])) (and_left (ready w a) true k)

-- an act of another party does not change how often a party has received
other-receive : (a b : Act) → a.party ≢ b.party → receive_of b.peer b.party b.name a ≡ false
other-receive a b n = elim (cases_Bool (receive_of b.peer b.party b.name a)) [
  | inl e ↦ absurd (n (receiver b.peer b.party b.name a e))
  | inr e ↦ e
]

more_counted : (b : Bool) (n : ℕ) → n ≤ cond b (suc n) n
more_counted true n = omega arith
more_counted false n = omega arith

-- what is ready stays so after an act of another party
pub ready-kept : (w : List Act) (a b : Act) → a.party ≢ b.party → ready w b ≡ true → ready (a ∷ w) b ≡ true
ready-kept w a b n h = elim (or_cases (is_send b.letter) (ltb (got w) (sent w)) h) [
  | inl e ↦ or_left (is_send b.letter) (ltb (got (a ∷ w)) (sent (a ∷ w))) e
  | inr e ↦ or_right (is_send b.letter) (ltb (got (a ∷ w)) (sent (a ∷ w))) (lt-ltb (got (a ∷ w)) (sent (a ∷ w))
      (let h₁ = ltb-true (got w) (sent w) e in
      let h₂ : got (a ∷ w) ≡ got w = ap (λ (x : Bool). cond x (suc (got w)) (got w)) (other-receive a b n) in
      let h₃ : sent w ≤ sent (a ∷ w) = more_counted (send_of b.peer b.party b.name a) (sent w) in
      omega arith))
]
  where
    got : List Act → ℕ
    got w = receives b.peer b.party b.name w

    sent : List Act → ℕ
    sent w = sends b.peer b.party b.name w

-- two acts in a row that are both ready, of different parties
two_ready : (w : List Act) (a b : Act) → a.party ≢ b.party → ready w a ≡ true → ready w b ≡ true
    → (m : List Act) → orderly w (a ∷ b ∷ m) ≡ orderly (b ∷ a ∷ w) m
two_ready w a b n ha hb m =
    ap (λ (x : Bool). x && (ready (a ∷ w) b && orderly (b ∷ a ∷ w) m)) ha
    ∙ ap (λ (x : Bool). x && orderly (b ∷ a ∷ w) m) (ready-kept w a b n hb)

pub plays_diamond : Diamond plays
plays_diamond = record {
  empty = refl;
  beginning = plays-front;
  both = λ l a b n ha hb. plays-from l (a ∷ b ∷ []) (plays-front l (a ∷ []) ha)
      (two_ready l a b n (plays-ready l a [] ha) (plays-ready l b [] hb) []);
  either = λ l a b n ha hb m.
      plays-++ l (a ∷ b ∷ m)
      ∙ ap (λ (x : Bool). plays l && x)
      (two_ready l a b n (plays-ready l a [] ha) (plays-ready l b [] hb) m
      ∙ orderly_same (b ∷ a ∷ l) (a ∷ b ∷ l) (counts_swap b a l) m
      ∙ sym (two_ready l b a (λ e. n (sym e)) (plays-ready l b [] hb) (plays-ready l a [] ha) m))
      ∙ sym (plays-++ l (b ∷ a ∷ m));
}

-- a receive is ready where its message waits
receive-ready : (l : Letter) (b : Bool) → (l ≡ Receive → b ≡ true) → (is_send l || b) ≡ true
receive-ready Send b h = refl
receive-ready Receive b h = h refl

ready-receive : (l : Letter) (b : Bool) → l ≡ Receive → (is_send l || b) ≡ true → b ≡ true
ready-receive Send b e h = let z : ◌≡◌ {A = ℕ} 0 1 = cc in absurd (omega arith)
ready-receive Receive b e h = h

pub plays_causal : (w : List Act) → plays w ≡ true → Causal w
plays_causal w h u v a e r =
    let got : ℕ = receives a.peer a.party a.name u in
    let sent : ℕ = sends a.peer a.party a.name u in
    ltb-true got sent (ready-receive a.letter (ltb got sent) r (plays-ready u a v (ap plays e ∙ h)))

-- going along a causal list, all so far is a playing order
causal_from : (v u : List Act) → Causal (u ++ v) → plays u ≡ true → plays (u ++ v) ≡ true
causal_from [] u k h = ap plays (append-nil u) ∙ h
causal_from (a ∷ v) u k h =
    let got : ℕ = receives a.peer a.party a.name u in
    let sent : ℕ = sends a.peer a.party a.name u in
    let now : ready u a ≡ true = receive-ready a.letter (ltb got sent) (λ r. lt-ltb got sent (k u v a refl r)) in
    let same : (u ++ (a ∷ [])) ++ v ≡ u ++ (a ∷ v) = append_assoc u (a ∷ []) v in
    subst (λ (x : List Act). plays x ≡ true) same
    (causal_from v (u ++ (a ∷ [])) (subst Causal (sym same) k) (plays_more u a h now))

pub causal_plays : (w : List Act) → Causal w → plays w ≡ true
causal_plays w k = causal_from w [] k refl
