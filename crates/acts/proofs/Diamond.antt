-- What follows from the diamond: the parts of a granted list decide what is granted after it.
use Rattle.std.proofs.Common.{◌≡◌, ℕ, suc, Bool, true, ◌≢◌, List, [], ◌∷◌, ◌++◌, length, sym, refl, ap, ◌∙◌, append_assoc}
use mathlib.Core.List.{cons-ne-nil}
use Rattle.acts.specs.declared.Act.{Act}
use Rattle.acts.specs.Acts.{part, SameParts, Beginning}
use Rattle.acts.specs.Language.{Diamond}
use Rattle.acts.proofs.Parts.{part_own, part-other, part-cons, part-uncons, parts_uncons, no_parts, First, first, moved_parts, length_moved}

pub after : (G : List Act → Bool) → Diamond G → (a : Act) → G (a ∷ []) ≡ true → Diamond (λ l. G (a ∷ l))
after G D a h = record {
  empty = h;
  beginning = λ l m. D.beginning (a ∷ l) m;
  both = λ l. D.both (a ∷ l);
  either = λ l. D.either (a ∷ l);
}

pub after_all : (G : List Act → Bool) → Diamond G → (u : List Act) → G u ≡ true → Diamond (λ l. G (u ++ l))
after_all G D [] h = D
after_all G D (a ∷ u) h = after_all (λ l. G (a ∷ l)) (after G D a (D.beginning (a ∷ []) u h)) u h

-- an act that is granted at once moves to the front through acts of other parties
pub record Moves (G : List Act → Bool) (a : Act) (u : List Act) : Type 0 where
  pub later : G (u ++ (a ∷ [])) ≡ true
  pub same : (m : List Act) → G (u ++ (a ∷ m)) ≡ G (a ∷ (u ++ m))

pub moves : (G : List Act → Bool) → Diamond G → (a : Act) (u : List Act) → part a.party u ≡ [] → G (a ∷ []) ≡ true
    → G u ≡ true → Moves G a u
moves G D a [] e h g = record { later = h; same = λ m. refl }
moves G D a (b ∷ u) e h g =
    let hb : G (b ∷ []) ≡ true = D.beginning (b ∷ []) u g in
    let n : b.party ≢ a.party = λ q. cons-ne-nil b (part a.party u) (sym (part_own a.party b u q) ∙ e) in
    let k : Moves (λ l. G (b ∷ l)) a u =
    moves (λ l. G (b ∷ l)) (after G D b hb) a u (sym (part-other a.party b u n) ∙ e) (D.both [] b a n hb h) g in
    record { later = k.later; same = λ m. k.same m ∙ D.either [] b a n hb h (u ++ m) }

-- a list whose party begins with the act a is as good as one that begins with a
pub record Pulled (G : List Act → Bool) (a : Act) (u : List Act) : Type 0 where
  pub rest : List Act
  pub granted : G (a ∷ rest) ≡ true
  pub parts : (p : ℕ) → part p u ≡ part p (a ∷ rest)
  pub same : (l : List Act) → G (u ++ l) ≡ G (a ∷ (rest ++ l))
  pub size : length u ≡ suc (length rest)

pub pull : (G : List Act → Bool) → Diamond G → (a : Act) (u tail : List Act) → part a.party u ≡ a ∷ tail
    → G (a ∷ []) ≡ true → G u ≡ true → Pulled G a u
pull G D a u tail e h g =
    let f : First a u = first a u tail e in
    let b : List Act = f.before in
    let c : List Act = f.after in
    let gw : G (b ++ (a ∷ c)) ≡ true = ap G f.whole ∙ g in
    let k : Moves G a b = moves G D a b f.none h (D.beginning b (a ∷ c) gw) in
    record {
      rest = b ++ c;
      granted = sym (k.same c) ∙ gw;
      parts = λ p. ap (part p) (sym f.whole) ∙ moved_parts p a b c f.none;
      same = λ l.
          ap (λ (v : List Act). G (v ++ l)) (sym f.whole)
          ∙ ap G (append_assoc b (a ∷ c) l)
          ∙ k.same (c ++ l)
          ∙ ap (λ (v : List Act). G (a ∷ v)) (sym (append_assoc b c l));
      size = ap (length {A = Act}) (sym f.whole) ∙ length_moved a b c;
    }

-- the parts of a granted list decide what is granted after it
pub parts_decide : (G : List Act → Bool) → Diamond G → (w u : List Act) → G u ≡ true → G w ≡ true → SameParts u w
    → (l : List Act) → G (u ++ l) ≡ G (w ++ l)
parts_decide G D [] u gu gw s l = ap (λ (v : List Act). G (v ++ l)) (no_parts u s)
parts_decide G D (a ∷ w) u gu gw s l =
    let h : G (a ∷ []) ≡ true = D.beginning (a ∷ []) w gw in
    let k : Pulled G a u = pull G D a u (part a.party w) (s a.party ∙ part_own a.party a w refl) h gu in
    k.same l
    ∙ parts_decide (λ l. G (a ∷ l)) (after G D a h) w k.rest k.granted gw
    (λ p. parts_uncons p a k.rest w (sym (k.parts p) ∙ s p)) l

-- a granted list whose parts are beginnings of another's goes on to the other's parts
pub record Completed (G : List Act → Bool) (w u : List Act) : Type 0 where
  pub more : List Act
  pub granted : G (w ++ more) ≡ true
  pub parts : SameParts (w ++ more) u

pub complete : (G : List Act → Bool) → Diamond G → (w u : List Act) → G w ≡ true → G u ≡ true
    → ((p : ℕ) → Beginning (part p w) (part p u)) → Completed G w u
complete G D [] u gw gu b = record { more = u; granted = gu; parts = λ p. refl }
complete G D (a ∷ w) u gw gu b =
    let h : G (a ∷ []) ≡ true = D.beginning (a ∷ []) w gw in
    let r : List Act = (b a.party).0 in
    let e : part a.party u ≡ a ∷ (part a.party w ++ r) =
    sym (b a.party).1 ∙ ap (λ (v : List Act). v ++ r) (part_own a.party a w refl) in
    let k : Pulled G a u = pull G D a u (part a.party w ++ r) e h gu in
    let c : Completed (λ l. G (a ∷ l)) w k.rest =
    complete (λ l. G (a ∷ l)) (after G D a h) w k.rest gw k.granted
    (λ p. ((b p).0, part-uncons p a w k.rest (b p).0 ((b p).1 ∙ k.parts p))) in
    record {
      more = c.more;
      granted = c.granted;
      parts = λ p. part-cons p a (w ++ c.more) k.rest (c.parts p) ∙ sym (k.parts p);
    }
