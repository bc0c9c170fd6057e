-- The right answer to a call is the computed one.
use Rattle.std.proofs.Common.{◌≡◌, ℕ, ◌<◌, ◌≤◌, Bool, true, false, cond, not, eqb, ltb, List, [], length, is_some, Some, None, Ok, Option, sym, refl, ap, ◌∙◌, inl, inr, append-nil, arith}
use Rattle.std.proofs.lemmas.Bool.{cond-true, cond-false, lt-ltb, le-ltb, ne_eqb, not_from_false, not-true, eqb-false, cases_lt, false≢true}
use Rattle.fault.specs.declared.BookCause.TheVariants.{OtherParties, EqualChart, NoConversation}
use Rattle.acts.specs.declared.Act.{Act}
use Rattle.acts.specs.Acts.{part, Lines, Own}
use Rattle.acts.specs.Language.{Longest, run, size}
use Rattle.acts.proofs.Running.{run-longest, run_stuck, longest_same, full_size, along_size}
use Rattle.channel.specs.Meaning.{Lawful}
use Rattle.conversation.specs.Conversations.{Talks}
use Rattle.conversation.specs.Running.{Ran}
use Rattle.conversation.proofs.Steps.{ended}
use Rattle.lines.specs.Charts.{Paired}
use Rattle.book.specs.History.{add, withdraw, Answer, History, held, put, number}
use Rattle.book.specs.Right.{Right, refusal, HasOtherParties}
use Rattle.book.specs.Law.{Law}
use Rattle.answering.specs.Answering.{passes, least, found, parties_of, equal_lines, most_acts, answered}
use Rattle.answering.proofs.Least.{none-least, Found, some-least, same_lines, lines_same}

not_some : (o : Option Lines) → (is_some o ≡ true → ⊥) → is_some o ≡ false
not_some None h = refl
not_some (Some c) h = absurd (h refl)

-- a test that passes, passes at a chart
passed : (t : Lines → Bool) (o : Option Lines) → passes t o ≡ true → (d : Lines) × (o ≡ Some d) × (t d ≡ true)
passed t None h = absurd (false≢true h)
passed t (Some d) h = (d, refl, h)

-- the charts of a history that is lawful
module _ (G : List Act → Bool) (L : Lawful G) (h : History) (W : Law G h) (i : ℕ) (c : Lines) (O : Own c) (P : Paired c) where
  other : ℕ → Bool
  other j = passes (λ d. not (eqb (length d) (length c))) (held h j)

  equal : ℕ → Bool
  equal j = passes (λ d. equal_lines d c) (held h j)

  no_other : ((n : ℕ) × HasOtherParties h c n → ⊥) → least 8 other ≡ None
  unfolding other
  no_other no' = none-least 8 other (λ j g e.
      let p = passed (λ d. not (eqb (length d) (length c))) (held h j) e in
      no' (
        length p.0,
        record {
          id = j;
          other = p.0;
          held_there = p.1;
          parties = refl;
          differ = eqb-false (length p.0) (length c) (not-true (eqb (length p.0) (length c)) p.2);
        },
      ))

  some-other : (n : ℕ) → HasOtherParties h c n → (r : Answer) → found (least 8 other) (λ j. refusal OtherParties (parties_of (held h j))) r ≡ refusal OtherParties n
  unfolding other
  some-other n o r =
      let low = W.ids o.id o.other o.held_there in
      let F : Found 8 other = some-least 8 other o.id (omega arith)
      (ap (passes (λ d. not (eqb (length d) (length c)))) o.held_there ∙ not_from_false (eqb (length o.other) (length c)) (ne_eqb (length o.other) (length c) o.differ)) in
      let p = passed (λ d. not (eqb (length d) (length c))) (held h F.at) F.passes in
      ap (λ (x : Option ℕ). found x (λ j. refusal OtherParties (parties_of (held h j))) r) F.is
      ∙ ap (λ (x : Option Lines). refusal OtherParties (parties_of x)) p.1
      ∙ ap (refusal OtherParties) (W.parties F.at o.id p.0 o.other p.1 o.held_there ∙ o.parties)

  no_equal : ((j : ℕ) × (held h j ≡ Some c) → ⊥) → least 8 equal ≡ None
  unfolding equal
  no_equal no' = none-least 8 equal (λ j g e.
      let p = passed (λ d. equal_lines d c) (held h j) e in
      no' (j, p.1 ∙ ap Some (same_lines p.0 c p.2)))

  some_equal : (j : ℕ) → held h j ≡ Some c → (r : Answer) → found (least 8 equal) (λ k. refusal EqualChart k) r ≡ refusal EqualChart j
  unfolding equal
  some_equal j e r =
      let low = W.ids j c e in
      let F : Found 8 equal = some-least 8 equal j (omega arith) (ap (passes (λ d. equal_lines d c)) e ∙ lines_same c) in
      let p = passed (λ d. equal_lines d c) (held h F.at) F.passes in
      ap (λ (x : Option ℕ). found x (λ k. refusal EqualChart k) r) F.is
      ∙ ap (refusal EqualChart) (W.apart F.at j c (p.1 ∙ ap Some (same_lines p.0 c p.2)) e)

  most : Longest G c (most_acts G c)
  most = run-longest G L.diamond c O

  all_talk : Talks G c → ltb (most_acts G c) (size c) ≡ false
  all_talk t =
      let e = full_size c t.0 O t.1.lines in
      let b = most.most t.0 t.1.granted (λ p. ([], append-nil (part p t.0) ∙ t.1.lines p)) in
      le-ltb (most_acts G c) (size c) (omega arith)

  not_all : (Talks G c → ⊥) → ltb (most_acts G c) (size c) ≡ true
  not_all no' =
      let w : List Act = run G c (size c) [] in
      let R : Ran G c w (length w) = ended G c w L O P (run_stuck G L.diamond c O) in
      let b = along_size c w O R.stuck.along in
      elim (cases_lt (most_acts G c) (size c)) [
        | inl g ↦ lt-ltb (most_acts G c) (size c) g
        | inr g ↦ absurd (no' (w, R.whole (omega arith)))
      ]

  -- what is answered where no row but the last applies, and where none before the equal charts does
  abbrev by-talk : Answer
  by-talk = cond (ltb (most_acts G c) (size c)) (refusal NoConversation (most_acts G c)) (Ok (number (put i (Some c) (held h))))

  abbrev by_equal : Answer
  by_equal = found (least 8 equal) (λ j. refusal EqualChart j) by-talk

  -- the first two rows do not apply
  past_id : (7 < i → ⊥) → (is_some (held h i) ≡ true → ⊥) → answered G (held h) (add i c)
      ≡ found (least 8 other) (λ j. refusal OtherParties (parties_of (held h j))) by_equal
  unfolding other equal
  past_id n m = cond-false (ltb 7 i) _ _ (le-ltb 7 i (small n)) ∙ cond-false (is_some (held h i)) _ _ (not_some (held h i) m)
    where
      small : (7 < i → ⊥) → i ≤ 7
      small n = elim (cases_lt 7 i) [ inl g ↦ absurd (n g) | inr g ↦ g ]

  past_other : (7 < i → ⊥) → (is_some (held h i) ≡ true → ⊥) → ((n : ℕ) × HasOtherParties h c n → ⊥) → answered G (held h) (add i c) ≡ by_equal
  past_other n m o = past_id n m ∙ ap (λ (x : Option ℕ). found x (λ j. refusal OtherParties (parties_of (held h j))) by_equal) (no_other o)

  past_equal : (7 < i → ⊥) → (is_some (held h i) ≡ true → ⊥) → ((n : ℕ) × HasOtherParties h c n → ⊥) → ((j : ℕ) × (held h j ≡ Some c) → ⊥)
      → answered G (held h) (add i c) ≡ by-talk
  past_equal n m o q = past_other n m o ∙ ap (λ (x : Option ℕ). found x (λ j. refusal EqualChart j) by-talk) (no_equal q)

  pub only_add : (r : Answer) → Right G h (add i c) r → r ≡ answered G (held h) (add i c)
  only_add r (inl x) = absurd (false≢true x.0)
  only_add r (inr (a, inl x)) = x.1 ∙ sym (cond-true (ltb 7 i) _ _ (lt-ltb 7 i x.0))
  only_add r (inr (a, inr (n, inl x))) =
      x.1 ∙ sym (cond-false (ltb 7 i) _ _ (le-ltb 7 i (elim (cases_lt 7 i) [ inl g ↦ absurd (n g) | inr g ↦ g ])) ∙ cond-true (is_some (held h i)) _ _ x.0)
  only_add r (inr (a, inr (n, inr (m, inl x)))) = x.1.2 ∙ sym (past_id n m ∙ some-other x.1.0 x.1.1 by_equal)
  only_add r (inr (a, inr (n, inr (m, inr (o, inl x))))) = x.1.2 ∙ sym (past_other n m o ∙ some_equal x.1.0 x.1.1 by-talk)
  only_add r (inr (a, inr (n, inr (m, inr (o, inr (q, inl x)))))) =
      x.1.2
      ∙ ap (refusal NoConversation) (longest_same G c x.1.0 (most_acts G c) x.1.1 most)
      ∙ sym (past_equal n m o q ∙ cond-true (ltb (most_acts G c) (size c)) _ _ (not_all x.0))
  only_add r (inr (a, inr (n, inr (m, inr (o, inr (q, inr (t, x))))))) =
      x.1 ∙ sym (past_equal n m o q ∙ cond-false (ltb (most_acts G c) (size c)) _ _ (all_talk x.0))

pub only_withdraw : (G : List Act → Bool) (h : History) (i : ℕ) (r : Answer) → Right G h (withdraw i) r → r ≡ answered G (held h) (withdraw i)
only_withdraw G h i r (inl x) = absurd (false≢true x.0)
only_withdraw G h i r (inr (a, inl x)) = x.1 ∙ sym (cond-true (ltb 7 i) _ _ (lt-ltb 7 i x.0))
only_withdraw G h i r (inr (a, inr (n, inl x))) =
    x.1 ∙ sym (cond-false (ltb 7 i) _ _ (le-ltb 7 i (elim (cases_lt 7 i) [ inl g ↦ absurd (n g) | inr g ↦ g ])) ∙ cond-false (is_some (held h i)) _ _ x.0)
only_withdraw G h i r (inr (a, inr (n, inr (m, x)))) =
    x ∙ sym (cond-false (ltb 7 i) _ _ (le-ltb 7 i (elim (cases_lt 7 i) [ inl g ↦ absurd (n g) | inr g ↦ g ]))
    ∙ cond-true (is_some (held h i)) _ _ (some_is (held h i) m))
  where
    some_is : (o : Option Lines) → (is_some o ≡ false → ⊥) → is_some o ≡ true
    some_is None f = absurd (f refl)
    some_is (Some d) f = refl
