-- What is due to a judge, and what a standing judge of kind 0 says.
use Rattle.std.proofs.Common.{◌≡◌, ℕ, ◌<◌, Bool, true, ◌⊎◌, List, Some, None, Ok, Err, Option, sym, refl, ◌∙◌, subst, inl, inr, arith}
use Rattle.std.proofs.lemmas.Bool.{false≢true, or_cases, eqb-true}
use Rattle.acts.specs.declared.Act.{Act}
use Rattle.acts.specs.Acts.{Lines}
use Rattle.acts.proofs.Ordering.{before_strict}
use Rattle.channel.specs.Meaning.{Lawful}
use Rattle.families.specs.Judgement.{Charts, HeldChart, NothingBreaks, Broken, of_cc2, of_cc3, Upto, Told, Judgeable}
use Rattle.families.specs.Tests.{some_held}
use Rattle.families.proofs.Testing.{told_or_not, held_tells}
use Rattle.machines.specs.Files.{machine_file_bytes, list_file_bytes}
use Rattle.verdicts.specs.Verdict.{Verdict, told_list}
use Rattle.verdicts.proofs.Telling.{right_verdict}
use Rattle.histories.specs.History.{add, withdraw, judge, begin, act, end, abandon, Reply, count, verdict, named, History, start, then, held, standing, is_kind_none, parties}
use Rattle.histories.specs.Right.{AllRight, HoldsNothing, Due, machines, told}
use Rattle.histories.specs.Law.{HoldingLaw}
use Rattle.histories.proofs.Granting.{Judging, judging}
use Rattle.histories.proofs.Holding.{holding_law}

-- where a chart is held, what is held can be judged
pub judgeable : (G : List Act → Bool) → Lawful G → (h : History) → HoldingLaw G h → (i : ℕ) (c : Lines) → held h i ≡ Some c
    → Judgeable G (parties (held h)) (held h)
judgeable G lawful h L i c e = record {
  lawful = lawful;
  ids = λ j d k. let low = L.ids j d k in omega arith;
  lined = λ j d k. (L.charts j d k).lined;
  parties = L.same_parties;
  talk = L.talk;
  some = record { id = i; chart = c; held = e; fits = L.same_parties i c e };
}

-- some chart is held, or none is
pub held_or_none : (f : Charts) → ((i : ℕ) (c : Lines) → f i ≡ Some c → i < 8) → HeldChart f (λ c. Unit {0}) ⊎ HoldsNothing f
held_or_none f ids =
    elim (told_or_not (some_held f (λ c. true)) (HeldChart f (λ c. Unit {0})) (held_tells f ids (λ c. true) (λ c. Unit {0}) (λ c. (λ e. tt, λ u. refl)))) [
      | inl x ↦ inl x
      | inr n ↦ inr (λ i c e. n (record { id = i; chart = c; held = e; fits = tt }))
    ]

pub judgeable_some : (G : List Act → Bool) → Lawful G → (h : History) → HoldingLaw G h → (HoldsNothing (held h) → ⊥)
    → Judgeable G (parties (held h)) (held h)
judgeable_some G lawful h L some =
    elim (held_or_none (held h) (λ i c e. let low = L.ids i c e in omega arith)) [
      | inl x ↦ judgeable G lawful h L x.id x.chart x.held
      | inr n ↦ absurd (some n)
    ]

-- what breaks has kind 1 or 2, and one kind only
module _ (G : List Act → Bool) (f : Charts) where
  pub broken_kind : (k : ℕ) (w : List Act) → Broken G f k w → k ≡ 0 → ⊥
  broken_kind k w (of_cc2 e b) z = omega arith
  broken_kind k w (of_cc3 e n b) z = omega arith

  pub unbroken_not : NothingBreaks G f → (k : ℕ) (w : List Act) → Broken G f k w → ⊥
  unbroken_not ok k w (of_cc2 e b) = (ok w).0 b
  unbroken_not ok k w (of_cc3 e n b) = (ok w).1 b

  one_kind : (j k : ℕ) (w : List Act) → Broken G f j w → Broken G f k w → j ≡ k
  one_kind j k w (of_cc2 e b) (of_cc2 d a) = e ∙ sym d
  one_kind j k w (of_cc2 e b) (of_cc3 d n a) = absurd (n b)
  one_kind j k w (of_cc3 e n b) (of_cc2 d a) = absurd (n a)
  one_kind j k w (of_cc3 e n b) (of_cc3 d m a) = e ∙ sym d

  upto_same : (u w : List Act) → Upto u w → Upto w u → u ≡ w
  upto_same u w (inl e) y = e
  upto_same u w (inr b) (inl e) = sym e
  upto_same u w (inr b) (inr a) = absurd (before_strict.never u (before_strict.onward u w u b a))

  -- one list is told, with one kind
  pub told_only : (j k : ℕ) (u w : List Act) → Told G f j u → Told G f k w → (j ≡ k) × (u ≡ w)
  told_only j k u w s t =
      let e : u ≡ w = upto_same u w (s.least w k t.broken) (t.least u j s.broken) in
      (one_kind j k w (subst (Broken G f j) e s.broken) t.broken, e)

  -- one file is due, with one kind
  pub due_only : (code j k : ℕ) (x y : List ℕ) → Due G code f j x → Due G code f k y → (j ≡ k) × (x ≡ y)
  due_only code j k x y (machines ok e p) (machines fine d q) = (e ∙ sym d, p ∙ sym q)
  due_only code j k x y (machines ok e p) (told w t q) = absurd (unbroken_not ok k w t.broken)
  due_only code j k x y (told w t q) (machines ok e p) = absurd (unbroken_not ok j w t.broken)
  due_only code j k x y (told u s p) (told w t q) =
      let e : (j ≡ k) × (u ≡ w) = told_only j k u w s t in
      (e.0, p ∙ (λ i. list_file_bytes (e.0 i) (e.1 i)) ∙ sym q)

  pub due_unbroken : (code kind : ℕ) (file : List ℕ) → Due G code f kind file → kind ≡ 0 → NothingBreaks G f
  due_unbroken code kind file (machines ok e p) z = ok
  due_unbroken code kind file (told w t p) z = absurd (broken_kind kind w t.broken z)

-- some file is due
pub record SomeDue (G : List Act → Bool) (code : ℕ) (f : Charts) : Type 0 where
  pub kind : ℕ
  pub file : List ℕ
  pub due : Due G code f kind file

pub some_due : (G : List Act → Bool) (code n : ℕ) (f : Charts) → Judgeable G n f → SomeDue G code f
some_due G code n f J = by (told_list G f) refl
  where
    by : (o : Option Verdict) → told_list G f ≡ o → SomeDue G code f
    by None e = record {
      kind = 0;
      file = machine_file_bytes code (parties f) f;
      due = machines ((right_verdict G n f J).untold e) refl refl;
    }
    by (Some v) e = record {
      kind = v.kind;
      file = list_file_bytes v.kind v.acts;
      due = told v.acts ((right_verdict G n f J).told v e) refl;
    }

-- charts that can be judged, of which nothing breaks
pub record Sound (G : List Act → Bool) (f : Charts) : Type 0 where
  pub judged : Judgeable G (parties f) f
  pub unbroken : NothingBreaks G f

-- what is due to a granted judge
pub record Answered (G : List Act → Bool) (code : ℕ) (f : Charts) (kind : ℕ) (file : List ℕ) : Type 0 where
  pub judged : Judgeable G (parties f) f
  pub due : Due G code f kind file

module _ (G : List Act → Bool) (lawful : Lawful G) (code : ℕ) where
  pub verdict_due : (h : History) (output kind : ℕ) (file : List ℕ) → HoldingLaw G h
      → Judging G code h (verdict kind file) output → Answered G code (held h) kind file
  verdict_due h output kind file L J =
      let e : verdict J.judged.kind J.judged.file ≡ verdict kind file = cc J.judged.is in
      let k : J.judged.kind ≡ kind = cc in
      let d : J.judged.file ≡ file = cc in
      record {
        judged = judgeable_some G lawful h L J.some;
        due = subst (λ (y : List ℕ). Due G code (held h) kind y) d
            (subst (λ (x : ℕ). Due G code (held h) x J.judged.file) k J.judged.due);
      }

  -- a granted judge of kind 0
  judged_sound : (h : History) (output : ℕ) (r : Reply) → HoldingLaw G h → Judging G code h r output → is_kind_none r ≡ true
      → Sound G (held h)
  judged_sound h output (count n) L J e = absurd (false≢true e)
  judged_sound h output (named i n) L J e = absurd (false≢true e)
  judged_sound h output (verdict kind file) L J e =
      let A : Answered G code (held h) kind file = verdict_due h output kind file L J in
      record { judged = A.judged; unbroken = due_unbroken G (held h) code kind file A.due (eqb-true kind 0 e) }

  -- where a judge of kind 0 stands, nothing breaks
  pub standing_sound : (h : History) → AllRight G code h → standing h ≡ true → Sound G (held h)
  standing_sound start R e = absurd (false≢true e)
  standing_sound (then h k (Err x)) R e = standing_sound h R.0 e
  standing_sound (then h (add i c) (Ok r)) R e = absurd (false≢true e)
  standing_sound (then h (withdraw i) (Ok r)) R e = absurd (false≢true e)
  standing_sound (then h (judge x y) (Ok r)) R e = elim (or_cases (is_kind_none r) (standing h) e) [
    | inl k ↦ judged_sound h y r (holding_law G code h R.0) (judging G code h r x y R.2) k
    | inr k ↦ standing_sound h R.0 k
  ]
  standing_sound (then h begin (Ok r)) R e = standing_sound h R.0 e
  standing_sound (then h (act p l q m) (Ok r)) R e = standing_sound h R.0 e
  standing_sound (then h end (Ok r)) R e = standing_sound h R.0 e
  standing_sound (then h abandon (Ok r)) R e = standing_sound h R.0 e
