-- A run along the lines ends where no line can go on; how many acts the lines leave room for.
use Rattle.std.proofs.Common.{◌≡◌, ℕ, zero, suc, ◌+◌, ◌<◌, ◌≤◌, Bool, true, false, cond, ◌≢◌, List, [], ◌∷◌, ◌++◌, length, drop, Some, None, Option, sym, refl, ap, ◌∙◌, subst, inl, inr, append_assoc, append-nil, arith, length-append}
use native.Mathlib.Decide.{ℕ_discrete}
use Rattle.std.proofs.lemmas.List.{drop_at, get_or_past, nil_from_length}
use Rattle.std.proofs.lemmas.Bool.{cases_lt}
use Rattle.acts.specs.declared.Act.{Act}
use Rattle.acts.specs.Acts.{part, Beginning, Lines, line, Along, Own}
use Rattle.acts.specs.Language.{Diamond, Longest, headed, next, grantable, or_else, choice, maybe, run, size}
use Rattle.acts.specs.Theorems.{Stuck}
use Rattle.acts.proofs.Parts.{part_own, part-other, part-++}
use Rattle.acts.proofs.Diamond.{Completed, complete}
use Rattle.acts.proofs.Stuck.{same_length, stuck_longest}

-- the acts of one party hold none of another
part_apart : (p q : ℕ) → p ≢ q → (l : List Act) → part q (part p l) ≡ []
part_apart p q n [] = refl
part_apart p q n (a ∷ l) = elim (ℕ_discrete a.party p) [
  | yes e ↦ ap (part q) (part_own p a l e)
      ∙ part-other q a (part p l) (λ f. n (sym e ∙ f))
      ∙ part_apart p q n l
  | no m ↦ ap (part q) (part-other p a l m) ∙ part_apart p q n l
]

own-apart : (p q : ℕ) (l : List Act) → p ≢ q → part p l ≡ l → part q l ≡ []
own-apart p q l n e = ap (part q) (sym e) ∙ part_apart p q n l

-- all lines, one after another
abbrev pub joined_lines : Lines → List Act
joined_lines [] = []
joined_lines (l ∷ c) = l ++ joined_lines c

pub length-joined : (c : Lines) → length (joined_lines c) ≡ size c
length-joined [] = refl
length-joined (l ∷ c) = let e = length-joined c in length-append l (joined_lines c) ∙ omega arith

-- every line holds acts of its own party only, where the parties count from k
abbrev OwnFrom : ℕ → Lines → Type 0
OwnFrom k c = (p q : ℕ) → q ≡ k + p → part q (line c p) ≡ line c p

own_rest : (k : ℕ) (l : List Act) (c : Lines) → OwnFrom k (l ∷ c) → OwnFrom (suc k) c
own_rest k l c o p q e = o (suc p) q (omega arith)

joined-none : (k : ℕ) (c : Lines) → OwnFrom k c → (q : ℕ) → q < k → part q (joined_lines c) ≡ []
joined-none k [] o q h = refl
joined-none k (l ∷ c) o q h =
    part-++ q l (joined_lines c)
    ∙ ap (λ (x : List Act). x ++ part q (joined_lines c)) (own-apart k q l (λ e. omega arith) (o 0 k (omega arith)))
    ∙ joined-none (suc k) c (own_rest k l c o) q (omega arith)

joined-from : (k : ℕ) (c : Lines) → OwnFrom k c → (p q : ℕ) → q ≡ k + p → part q (joined_lines c) ≡ line c p
joined-from k [] o p q e = refl
joined-from k (l ∷ c) o zero q e =
    part-++ q l (joined_lines c)
    ∙ ap (λ (x : List Act). x ++ part q (joined_lines c)) (o zero q e)
    ∙ ap (λ (x : List Act). l ++ x) (joined-none (suc k) c (own_rest k l c o) q (omega arith))
    ∙ append-nil l
joined-from k (l ∷ c) o (suc p) q e =
    part-++ q l (joined_lines c)
    ∙ ap (λ (x : List Act). x ++ part q (joined_lines c)) (own-apart k q l (λ f. omega arith) (o 0 k (omega arith)))
    ∙ joined-from (suc k) c (own_rest k l c o) p q (omega arith)

-- the parts of all lines in a row are the lines
pub joined_parts : (c : Lines) → Own c → (p : ℕ) → part p (joined_lines c) ≡ line c p
joined_parts c o p =
    joined-from 0 c (λ r q e. subst (λ (x : ℕ). part x (line c r) ≡ line c r) (omega arith) (o r)) p p (omega arith)

pub full_size : (c : Lines) (w : List Act) → Own c → ((p : ℕ) → part p w ≡ line c p) → length w ≡ size c
full_size c w o e = same_length (joined_lines c) w (λ p. e p ∙ sym (joined_parts c o p)) ∙ length-joined c

-- what a list along the lines leaves
pub record Left (c : Lines) (w : List Act) : Type 0 where
  pub more : List Act
  pub parts : (p : ℕ) → part p (w ++ more) ≡ line c p
  pub room : length w + length more ≡ size c

-- it is completed in the language that grants every list
pub left : (c : Lines) (w : List Act) → Own c → Along c w → Left c w
left c w o b = record {
  more = k.more;
  parts = parts;
  room = sym (length-append w k.more) ∙ full_size c (w ++ k.more) o parts;
}
  where
    all : Diamond (λ l. true)
    all = record { empty = refl; beginning = λ l m h. refl; both = λ l a b n h k. refl; either = λ l a b n h k m. refl }

    k : Completed (λ l. true) w (joined_lines c)
    k = complete (λ l. true) all w (joined_lines c) refl refl
        (λ p. subst (λ (x : List Act). Beginning (part p w) x) (sym (joined_parts c o p)) (b p))

    parts : (p : ℕ) → part p (w ++ k.more) ≡ line c p
    parts p = k.parts p ∙ joined_parts c o p

-- a list along the lines has at most as many acts as the lines
pub along_size : (c : Lines) (w : List Act) → Own c → Along c w → length w ≤ size c
along_size c w o b = let e = (left c w o b).room in omega arith

-- and with as many it has done every line
pub full_parts : (c : Lines) (w : List Act) → Own c → Along c w → length w ≡ size c → (p : ℕ) → part p w ≡ line c p
full_parts c w o b e p =
    let k : Left c w = left c w o b in
    let none : k.more ≡ [] = nil_from_length k.more (let f = k.room in omega arith) in
    ap (part p) (sym (append-nil w) ∙ ap (λ (x : List Act). w ++ x) (sym none)) ∙ k.parts p

-- an act on the line of a party is an act of that party
pub own_act : (p : ℕ) (v : List Act) (a : Act) (rest : List Act) → part p (v ++ (a ∷ rest)) ≡ v ++ (a ∷ rest) → a.party ≡ p
own_act p v a rest e = elim (ℕ_discrete a.party p) [
  | yes q ↦ q
  | no n ↦
      let none : part a.party v ++ (a ∷ part a.party rest) ≡ [] =
      ap (λ (x : List Act). part a.party v ++ x) (sym (part_own a.party a rest refl))
      ∙ sym (part-++ a.party v (a ∷ rest))
      ∙ own-apart p a.party (v ++ (a ∷ rest)) (λ f. n (sym f)) e in
      let f = ap length none in
      let g = length-append (part a.party v) (a ∷ part a.party rest) in
      absurd (omega arith)
]

-- the act a comes next on its line after w
pub record Onward (c : Lines) (w : List Act) (a : Act) : Type 0 where
  pub rest : List Act
  pub on : part a.party w ++ (a ∷ rest) ≡ line c a.party

pub along_push : (c : Lines) (w : List Act) (a : Act) → Along c w → Onward c w a → Along c (w ++ (a ∷ []))
along_push c w a b k p = elim (ℕ_discrete a.party p) [
  | yes q ↦ (
    k.rest,
    ap (λ (x : List Act). x ++ k.rest)
        (part-++ p w (a ∷ []) ∙ ap (λ (x : List Act). part p w ++ x) (part_own p a [] q))
        ∙ append_assoc (part p w) (a ∷ []) k.rest
        ∙ subst (λ (x : ℕ). part x w ++ (a ∷ k.rest) ≡ line c x) q k.on,
  )
  | no n ↦ (
    (b p).0,
    ap (λ (x : List Act). x ++ (b p).0)
        (part-++ p w (a ∷ []) ∙ ap (λ (x : List Act). part p w ++ x) (part-other p a [] n) ∙ append-nil (part p w))
        ∙ (b p).1,
  )
]

no_act : {X : Type 0} (a : Act) → ◌≡◌ {A = Option Act} None (Some a) → X
no_act a e = let z : ◌≡◌ {A = ℕ} 0 1 = cc in absurd (omega arith)

-- what `next` finds, and that it finds it
drop_beginning : (v r l : List Act) → v ++ r ≡ l → drop (length v) l ≡ r
drop_beginning v r l e = ap (drop (length v)) (sym e) ∙ drop_at v r (length v) refl

pub next_onward : (c : Lines) (w : List Act) (p : ℕ) (a : Act) → Own c → Along c w → next c w p ≡ Some a → Onward c w a
next_onward c w p a o b h =
    go (b p).0 (b p).1 (ap headed (sym (drop_beginning (part p w) (b p).0 (line c p) (b p).1)) ∙ h)
  where
    go : (r : List Act) → part p w ++ r ≡ line c p → headed r ≡ Some a → Onward c w a
    go [] e f = no_act a f
    go (x ∷ r) e f =
        let same : x ≡ a = cc in
        let on : part p w ++ (a ∷ r) ≡ line c p = ap (λ (y : Act). part p w ++ (y ∷ r)) (sym same) ∙ e in
        let own : p ≡ a.party = sym (own_act p (part p w) a r (ap (part p) on ∙ o p ∙ sym on)) in
        record { rest = r; on = subst (λ (y : ℕ). part y w ++ (a ∷ r) ≡ line c y) own on }

pub onward_next : (c : Lines) (w : List Act) (a : Act) → Onward c w a → next c w a.party ≡ Some a
onward_next c w a k = ap headed (drop_beginning (part a.party w) (a ∷ k.rest) (line c a.party) k.on)

onward_party : (c : Lines) (w : List Act) (a : Act) → Onward c w a → a.party < length c
onward_party c w a k = elim (cases_lt a.party (length c)) [
  | inl h ↦ h
  | inr h ↦
      let e = ap length (k.on ∙ get_or_past c a.party [] h) in
      let f = length-append (part a.party w) (a ∷ k.rest) in
      absurd (omega arith)
]

-- a chosen act is the next one of some party, and granted
record Chosen (G : List Act → Bool) (c : Lines) (w : List Act) (a : Act) : Type 0 where
  pub who : ℕ
  pub comes : next c w who ≡ Some a
  pub granted : G (w ++ (a ∷ [])) ≡ true

grantable-some : (G : List Act → Bool) (c : Lines) (w : List Act) (p : ℕ) (a : Act) → grantable G w (next c w p) ≡ Some a
    → Chosen G c w a
grantable-some G c w p a h = go (next c w p) refl h
  where
    test : (x : Act) (b : Bool) → next c w p ≡ Some x → G (w ++ (x ∷ [])) ≡ b → cond b (Some x) None ≡ Some a → Chosen G c w a
    test x true e f k =
        let same : x ≡ a = cc in
        record { who = p; comes = e ∙ k; granted = ap (λ (y : Act). G (w ++ (y ∷ []))) (sym same) ∙ f }
    test x false e f k = no_act a k

    go : (y : Option Act) → next c w p ≡ y → grantable G w y ≡ Some a → Chosen G c w a
    go None e k = no_act a k
    go (Some x) e k = test x (G (w ++ (x ∷ []))) e refl k

choice-some : (G : List Act → Bool) (c : Lines) (w : List Act) (n : ℕ) (a : Act) → choice G c w n ≡ Some a → Chosen G c w a
choice-some G c w zero a h = no_act a h
choice-some G c w (suc n) a h = go (choice G c w n) (choice-some G c w n a) h
  where
    go : (x : Option Act) → (x ≡ Some a → Chosen G c w a) → or_else x (grantable G w (next c w n)) ≡ Some a → Chosen G c w a
    go None f k = grantable-some G c w n a k
    go (Some y) f k = f k

-- where there is no choice, no party below has a granted next act
choice-none : (G : List Act → Bool) (c : Lines) (w : List Act) (n : ℕ) → choice G c w n ≡ None → (p : ℕ) → p < n
    → grantable G w (next c w p) ≡ None
choice-none G c w zero h p l = absurd (omega arith)
choice-none G c w (suc n) h p l = go (choice G c w n) (choice-none G c w n) h
  where
    go : (x : Option Act) → (x ≡ None → (p : ℕ) → p < n → grantable G w (next c w p) ≡ None)
        → or_else x (grantable G w (next c w n)) ≡ None → grantable G w (next c w p) ≡ None
    go None f k = elim (cases_lt p n) [
      | inl m ↦ f refl p m
      | inr m ↦ subst (λ (q : ℕ). grantable G w (next c w q) ≡ None) (omega arith) k
    ]
    go (Some y) f k = no_act y (sym k)

refused_none : (b : Bool) (a : Act) → cond b (Some a) None ≡ None → b ≡ false
refused_none true a e = no_act a (sym e)
refused_none false a e = refl

choice_stuck : (G : List Act → Bool) (c : Lines) (w : List Act) → G w ≡ true → Along c w → choice G c w (length c) ≡ None → Stuck G c w
choice_stuck G c w g b h = record {
  granted = g;
  along = b;
  refused = λ a rest e.
      let k : Onward c w a = record { rest = rest; on = e } in
      refused_none (G (w ++ (a ∷ []))) a
      (ap (grantable G w) (sym (onward_next c w a k)) ∙ choice-none G c w (length c) h a.party (onward_party c w a k));
}

-- where every line is done, no line can go on
full_stuck : (G : List Act → Bool) (c : Lines) (w : List Act) → Own c → G w ≡ true → Along c w → length w ≡ size c → Stuck G c w
full_stuck G c w o g b e = record {
  granted = g;
  along = b;
  refused = λ a rest f.
      let h = ap length (f ∙ sym (full_parts c w o b e a.party)) in
      let k = length-append (part a.party w) (a ∷ rest) in
      absurd (omega arith);
}

-- a run from w on with steps for all acts that are left
run-from : (G : List Act → Bool) (c : Lines) → Own c → (k : ℕ) (w : List Act) → G w ≡ true → Along c w
    → length w + k ≡ size c → Stuck G c (run G c k w)
run-from G c o zero w g b e = full_stuck G c w o g b (omega arith)
run-from G c o (suc k) w g b e = go (choice G c w (length c)) refl (run-from G c o k)
  where
    go : (x : Option Act) → choice G c w (length c) ≡ x
        → ((v : List Act) → G v ≡ true → Along c v → length v + k ≡ size c → Stuck G c (run G c k v))
        → Stuck G c (maybe w (λ a. run G c k (w ++ (a ∷ []))) x)
    go None h on = choice_stuck G c w g b h
    go (Some a) h on =
        let f : Chosen G c w a = choice-some G c w (length c) a h in
        on (w ++ (a ∷ [])) f.granted (along_push c w a b (next_onward c w f.who a o b f.comes))
        (let l = length-append w (a ∷ []) in omega arith)

pub run_stuck : (G : List Act → Bool) → Diamond G → (c : Lines) → Own c → Stuck G c (run G c (size c) [])
run_stuck G D c o = run-from G c o (size c) [] D.empty (λ p. (line c p, refl)) (omega arith)

pub run-longest : (G : List Act → Bool) → Diamond G → (c : Lines) → Own c → Longest G c (length (run G c (size c) []))
run-longest G D c o = stuck_longest G D c (run G c (size c) []) (run_stuck G D c o)

-- two longest lists are as long as each other
pub longest_same : (G : List Act → Bool) (c : Lines) (j k : ℕ) → Longest G c j → Longest G c k → j ≡ k
longest_same G c j k J K =
    let e = J.size in
    let f = K.size in
    let g = J.most K.order K.granted K.along in
    let h = K.most J.order J.granted J.along in
    omega arith
