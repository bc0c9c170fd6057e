-- What a granted call says of the history before it.
use Rattle.std.proofs.Common.{◌≡◌, ℕ, ◌≤◌, Bool, true, false, List, [], ◌∷◌, ◌++◌, length, is_some, Some, None, Ok, Err, Option, refl, inl, inr, arith}
use Rattle.std.proofs.lemmas.Bool.{cases_lt, cases_eq}
use Rattle.fault.specs.declared.Fault.{Fault}
use Rattle.acts.specs.declared.Act.{Act}
use Rattle.acts.specs.Acts.{part, Quiet, Lines}
use Rattle.files.specs.Rules.{is_act}
use Rattle.conversation.specs.Conversations.{Talks}
use Rattle.families.specs.Judgement.{View}
use Rattle.histories.specs.History.{add, withdraw, judge, begin, act, end, Reply, named, Answer, History, held, playing, carried_by, standing, act_of}
use Rattle.histories.specs.Right.{Right, HasEqualChart, HoldsNothing, Judged, WithLines}

pub none-some : {X : Type 0} (y : X) → None ≡ Some y → ⊥
none-some y e = let z : ◌≡◌ {A = ℕ} 0 1 = cc in omega arith

pub some_same : {X : Type 0} (x y : X) → Some x ≡ Some y → x ≡ y
some_same x y e = cc

-- a granted call was not refused
not_refused : (r : Reply) (x : Fault) → ◌≡◌ {A = Answer} (Ok r) (Err x) → ⊥
not_refused r x e = let z : ◌≡◌ {A = ℕ} 0 1 = cc in omega arith

reply_same : (r s : Reply) → ◌≡◌ {A = Answer} (Ok r) (Ok s) → r ≡ s
reply_same r s e = cc

-- nothing is played at rest
at_rest : {X : Type 0} (o : Option X) → (is_some o ≡ true → ⊥) → o ≡ None
at_rest None h = refl
at_rest (Some x) h = absurd (h refl)

on_play : (b : Bool) → (b ≡ false → ⊥) → b ≡ true
on_play true h = refl
on_play false h = absurd (h refl)

-- a granted add
pub record Added (G : List Act → Bool) (h : History) (i : ℕ) (c : Lines) : Type 0 where
  pub rest : playing h ≡ None
  pub low : i ≤ 7
  pub same : (j : ℕ) (d : Lines) → held h j ≡ Some d → length d ≡ length c
  pub apart : (j : ℕ) → HasEqualChart h c j → ⊥
  pub talk : Talks G c

-- a granted judge
pub record Judging (G : List Act → Bool) (code : ℕ) (h : History) (r : Reply) (output : ℕ) : Type 0 where
  pub rest : playing h ≡ None
  pub some : HoldsNothing (held h) → ⊥
  pub judged : Judged G code (held h) output (Ok r)

-- a granted act
pub record Acted (G : List Act → Bool) (h : History) (p l e m : ℕ) : Type 0 where
  pub on : is_some (playing h) ≡ true
  pub letter : is_act l ≡ true
  pub view : View (held h) p (part p (carried_by (playing h)) ++ (act_of p l e m ∷ []))
  pub granted : G (carried_by (playing h) ++ (act_of p l e m ∷ [])) ≡ true

-- a granted end
pub record Ending (h : History) (r : Reply) : Type 0 where
  pub quiet : Quiet (carried_by (playing h))
  pub id : ℕ
  pub lines : WithLines (held h) (carried_by (playing h)) id
  pub is : r ≡ named id (length (carried_by (playing h)))

module _ (G : List Act → Bool) (code : ℕ) (h : History) (r : Reply) where
  pub added : (i : ℕ) (c : Lines) → Right G code h (add i c) (Ok r) → Added G h i c
  added i c (inl x) = absurd (not_refused r _ x.1)
  added i c (inr (p, inl x)) = absurd (not_refused r _ x.1)
  added i c (inr (p, inr (a, inl x))) = absurd (not_refused r _ x.1)
  added i c (inr (p, inr (a, inr (t, inl x)))) = absurd (not_refused r _ x.1.2)
  added i c (inr (p, inr (a, inr (t, inr (o, inl x))))) = absurd (not_refused r _ x.1.2)
  added i c (inr (p, inr (a, inr (t, inr (o, inr (q, inl x)))))) = absurd (not_refused r _ x.1.2)
  added i c (inr (p, inr (a, inr (t, inr (o, inr (q, inr x)))))) = record {
    rest = at_rest (playing h) p;
    low = elim (cases_lt 7 i) [ inl g ↦ absurd (a g) | inr g ↦ g ];
    same = λ j d e. elim (cases_eq (length d) (length c)) [
      | inl g ↦ g
      | inr g ↦ absurd (o (length d, record { id = j; other = d; held_there = e; parties = refl; differ = g }))
    ];
    apart = λ j e. q (j, e);
    talk = x.1.0;
  }

  pub withdrawn : (i : ℕ) → Right G code h (withdraw i) (Ok r) → playing h ≡ None
  withdrawn i (inl x) = absurd (not_refused r _ x.1)
  withdrawn i (inr (p, x)) = at_rest (playing h) p

  pub judging : (cells output : ℕ) → Right G code h (judge cells output) (Ok r) → Judging G code h r output
  judging cells output (inl x) = absurd (not_refused r _ x.1)
  judging cells output (inr (p, inl x)) = absurd (not_refused r _ x.1)
  judging cells output (inr (p, inr (s, inl x))) = absurd (not_refused r _ x.1)
  judging cells output (inr (p, inr (s, inr (t, inl x)))) = absurd (not_refused r _ x.1.2)
  judging cells output (inr (p, inr (s, inr (t, inr (o, x))))) = record { rest = at_rest (playing h) p; some = s; judged = x }

  pub begun : Right G code h begin (Ok r) → standing h ≡ true
  begun (inl x) = absurd (not_refused r _ x.1)
  begun (inr (p, inl x)) = absurd (not_refused r _ x.1)
  begun (inr (p, inr (s, x))) = on_play (standing h) s

  pub acted : (p l e m : ℕ) → Right G code h (act p l e m) (Ok r) → Acted G h p l e m
  acted p l e m (inl x) = absurd (not_refused r _ x.1)
  acted p l e m (inr (o, inl x)) = absurd (not_refused r _ x.1)
  acted p l e m (inr (o, inr (a, inl x))) = absurd (not_refused r _ x.1)
  acted p l e m (inr (o, inr (a, inr (b, inl x)))) = absurd (not_refused r _ x.1)
  acted p l e m (inr (o, inr (a, inr (b, inr (c, inl x))))) = absurd (not_refused r _ x.1)
  acted p l e m (inr (o, inr (a, inr (b, inr (c, inr (d, inl x)))))) = absurd (not_refused r _ x.1)
  acted p l e m (inr (o, inr (a, inr (b, inr (c, inr (d, inr (v, inl x))))))) = absurd (not_refused r _ x.1)
  acted p l e m (inr (o, inr (a, inr (b, inr (c, inr (d, inr (v, inr (g, x)))))))) = record {
    on = on_play (is_some (playing h)) o;
    letter = on_play (is_act l) b;
    view = x.0;
    granted = on_play (G (carried_by (playing h) ++ (act_of p l e m ∷ []))) g;
  }

  pub ending : Right G code h end (Ok r) → Ending h r
  ending (inl x) = absurd (not_refused r _ x.1)
  ending (inr (o, inl x)) = absurd (not_refused r _ x.1.2)
  ending (inr (o, inr (a, inl x))) = absurd (not_refused r _ x.1)
  ending (inr (o, inr (a, inr (q, x)))) = record {
    quiet = x.0;
    id = x.1.0;
    lines = x.1.1;
    is = reply_same r _ x.1.2;
  }
