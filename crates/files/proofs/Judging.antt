-- The lines that a complete file holds: `judged` gives the one answer to them.
use Rattle.std.proofs.Common.{◌≡◌, ℕ, zero, suc, ◌/◌, ◌%◌, ◌<◌, Bool, true, false, cond, eqb, List, length, Some, None, Ok, Err, Option, sym, refl, ap, ◌∙◌, subst, inl, inr, arith}
use Rattle.std.proofs.lemmas.Bool.{both_ways, eqb-true, eqb-false, eq-eqb, ne_eqb, cases_lt, cases_order, cond-true, cond-false}
use Rattle.fault.specs.declared.ChartCause.TheVariants.{NotPaired, NotPlayable}
use Rattle.acts.specs.declared.Message.{Message}
use Rattle.acts.specs.Acts.{sends, receives, Lines, line, rank_of, Known}
use Rattle.acts.specs.Language.{plays, size}
use Rattle.acts.proofs.Playing.{plays_diamond}
use Rattle.acts.proofs.Running.{run-longest, longest_same}
use Rattle.lines.specs.Charts.{Lined, Pairs, Paired, FirstUnpaired, LongestOrder, IsChart}
use Rattle.files.specs.Bytes.{file_of}
use Rattle.files.specs.Answers.{chart_fault, not_paired, not_playable, Answers}
use Rattle.files.specs.Reading.{pairs, earlier, unpaired, longest, played, judged}
use Rattle.files.proofs.Lined.{begun_own, all_paired, longest-orders, longest-plays, playable_from, not_playable_from, longest_below}

-- the message with the number k
abbrev message_at : ℕ → Message
message_at k = record { sender = k / 192; receiver = k / 32 % 6; name = k % 32 }

known_at : (k : ℕ) → k < 1152 → Known (message_at k)
known_at k h = record { sender = omega arith; receiver = omega arith; name = omega arith }

rank-at : (k : ℕ) → rank_of (message_at k) ≡ k
rank-at k = omega arith

rank_below : (t : Message) → Known t → rank_of t < 1152
rank_below t h = omega arith

at-rank : (t : Message) → Known t → message_at (rank_of t) ≡ t
at-rank t h =
    let s : (message_at (rank_of t)).sender ≡ t.sender = omega arith in
    let r : (message_at (rank_of t)).receiver ≡ t.receiver = omega arith in
    let n : (message_at (rank_of t)).name ≡ t.name = omega arith in
    λ i. record { sender = s i; receiver = r i; name = n i }

-- the test of a message, and the same by its number
abbrev test : Lines → Message → Bool
test c t =
    eqb (sends t.sender t.receiver t.name (line c t.sender)) (receives t.sender t.receiver t.name (line c t.receiver))

test_at : (c : Lines) (t : Message) → Known t → pairs c (rank_of t) ≡ test c t
test_at c t h = ap (test c) (at-rank t h)

test_true : (c : Lines) (t : Message) → test c t ≡ true → Pairs c t.sender t.receiver t.name
test_true c t e = eqb-true _ _ e

true_test : (c : Lines) (t : Message) → Pairs c t.sender t.receiver t.name → test c t ≡ true
true_test c t e = eq-eqb _ _ e

-- the number j is the least below k of a message that is not paired
record Least (c : Lines) (k j : ℕ) : Type 0 where
  pub below : j < k
  pub unpaired : pairs c j ≡ false
  pub least : (i : ℕ) → i < j → pairs c i ≡ true

-- what the search among the numbers below k has found
abbrev Found : Lines → ℕ → Option ℕ → Type 0
Found c k None = (j : ℕ) → j < k → pairs c j ≡ true
Found c k (Some j) = Least c k j

found : (c : Lines) (k : ℕ) → Found c k (unpaired c k)
found c zero = λ j h. absurd (omega arith)
found c (suc k) = go (unpaired c k) (found c k) (pairs c k) refl
  where
    go : (o : Option ℕ) → Found c k o → (b : Bool) → pairs c k ≡ b → Found c (suc k) (earlier o b k)
    go (Some j) f b e = record { below = let h = f.below in omega arith; unpaired = f.unpaired; least = f.least }
    go None f true e = λ j h. elim (cases_lt j k) [
      | inl g ↦ f j g
      | inr g ↦ let same : k ≡ j = omega arith in subst (λ (x : ℕ). pairs c x ≡ true) same e
    ]
    go None f false e = record { below = omega arith; unpaired = e; least = f }

least-unpaired : (c : Lines) (j : ℕ) → Least c 1152 j → FirstUnpaired c j
least-unpaired c j l = record {
  message = message_at j;
  known = known_at j l.below;
  number = rank-at j;
  unpaired = λ e. both_ways (pairs c j) l.unpaired (true_test c (message_at j) e);
  least = λ t h g. test_true c t (sym (test_at c t h) ∙ l.least (rank_of t) g);
}

-- the message of a first unpaired number fails the test
fails : (c : Lines) (j : ℕ) → FirstUnpaired c j → pairs c j ≡ true → ⊥
fails c j u e =
    u.unpaired (test_true c u.message
    (sym (test_at c u.message u.known) ∙ ap (pairs c) u.number ∙ e))

only_least : (c : Lines) (j : ℕ) → FirstUnpaired c j → (o : Option ℕ) → Found c 1152 o → o ≡ Some j
only_least c j u None f =
    let h = rank_below u.message u.known in
    let e = u.number in
    absurd (fails c j u (f j (omega arith)))
only_least c j u (Some i) l = elim (cases_order i j) [
  | inl e ↦ ap Some e
  | inr (inl h) ↦
      let e = rank-at i in
      absurd (both_ways (pairs c i) l.unpaired
      (true_test c (message_at i) (u.least (message_at i) (known_at i l.below) (omega arith))))
  | inr (inr h) ↦ absurd (fails c j u (l.least j h))
]

none_found : (c : Lines) → Paired c → (o : Option ℕ) → Found c 1152 o → o ≡ None
none_found c p None f = refl
none_found c p (Some i) l =
    absurd (both_ways (pairs c i) l.unpaired (true_test c (message_at i) (p (i / 192) (i / 32 % 6) (i % 32))))

longest_is : (c : Lines) → Lined c → LongestOrder c (longest c)
longest_is c d = longest-orders c (longest c) (run-longest plays plays_diamond c (begun_own (length c) c d))

played_answers : (file : List ℕ) (c : Lines) → Lined c → file_of c ≡ file → Paired c → (b : Bool) → eqb (longest c) (size c) ≡ b
    → Answers file (cond b (Ok c) (Err (chart_fault NotPlayable (longest c))))
played_answers file c d w p true e = record {
  chart = record {
    lined = d;
    paired = p;
    playable = playable_from c d (subst (LongestOrder c) (eqb-true (longest c) (size c) e) (longest_is c d));
  };
  bytes = w;
}
played_answers file c d w p false e = not_playable (record {
  lines = c;
  lined = d;
  whole = w;
  paired = p;
  acts = longest c;
  longest = longest_is c d;
  fewer =
      let h = longest_below c (longest c) d (longest_is c d) in
      let n = eqb-false (longest c) (size c) e in
      omega arith;
  fault = refl;
})

judged_answers : (file : List ℕ) (c : Lines) → Lined c → file_of c ≡ file → (o : Option ℕ) → Found c 1152 o → Answers file (judged c o)
judged_answers file c d w (Some j) l = not_paired (record {
  lines = c;
  lined = d;
  whole = w;
  number = j;
  least = least-unpaired c j l;
  fault = refl;
})
judged_answers file c d w None f =
    played_answers file c d w (all_paired c d (λ t h. test_true c t (sym (test_at c t h) ∙ f (rank_of t) (rank_below t h))))
    (eqb (longest c) (size c)) refl

-- what `judged` answers is right
pub judged_right : (file : List ℕ) (c : Lines) → Lined c → file_of c ≡ file → Answers file (judged c (unpaired c 1152))
judged_right file c d w = judged_answers file c d w (unpaired c 1152) (found c 1152)

-- and it answers whatever is right
pub judged-unpaired : (c : Lines) (j : ℕ) → FirstUnpaired c j → judged c (unpaired c 1152) ≡ Err (chart_fault NotPaired j)
judged-unpaired c j u = ap (judged c) (only_least c j u (unpaired c 1152) (found c 1152))

judged_paired : (c : Lines) → Paired c → judged c (unpaired c 1152) ≡ played c
judged_paired c p = ap (judged c) (none_found c p (unpaired c 1152) (found c 1152))

pub judged_stuck : (c : Lines) (k : ℕ) → Lined c → Paired c → LongestOrder c k → k < size c
    → judged c (unpaired c 1152) ≡ Err (chart_fault NotPlayable k)
judged_stuck c k d p l h =
    let e : longest c ≡ k = longest_same plays c (longest c) k (longest-plays c (longest c) (longest_is c d)) (longest-plays c k l) in
    judged_paired c p
    ∙ cond-false (eqb (longest c) (size c)) (Ok c) (Err (chart_fault NotPlayable (longest c))) (ne_eqb (longest c) (size c) (λ f. omega arith))
    ∙ ap (λ (n : ℕ). Err (chart_fault NotPlayable n)) e

pub judged_chart : (c : Lines) → IsChart c → judged c (unpaired c 1152) ≡ Ok c
judged_chart c i =
    let l : LongestOrder c (longest c) = longest_is c i.lined in
    let h = longest_below c (longest c) i.lined l in
    let n : longest c < size c → ⊥ = λ f. not_playable_from c (longest c) i.lined l f i.playable in
    let e : longest c ≡ size c = elim (cases_lt (longest c) (size c)) [ inl f ↦ absurd (n f) | inr f ↦ omega arith ] in
    judged_paired c i.paired
    ∙ cond-true (eqb (longest c) (size c)) (Ok c) (Err (chart_fault NotPlayable (longest c))) (eq-eqb (longest c) (size c) e)
