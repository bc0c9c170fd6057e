-- How a past goes on by a call.
use Rattle.std.proofs.Common.{◌≡◌, ℕ, ◌<◌, ◌≤◌, Bool, true, false, List, [], is_some, Some, Ok, Option, sym, refl, ap, ◌∙◌, subst, inl, inr, arith}
use mathlib.Core.Path.{fun_ext}
use Rattle.std.proofs.lemmas.Bool.{both_ways, false≢true}
use Rattle.fault.specs.declared.BookCause.TheVariants.{IdTaken, OtherParties, NoConversation}
use Rattle.acts.specs.declared.Act.{Act}
use Rattle.acts.specs.Acts.{Lines, Own}
use Rattle.acts.specs.Language.{size}
use Rattle.acts.proofs.Running.{along_size}
use Rattle.channel.specs.Meaning.{Meaning, cleared}
use Rattle.conversation.specs.Conversations.{Talks, Reached}
use Rattle.conversation.specs.Running.{Ran}
use Rattle.conversation.proofs.Steps.{reached_clear}
use Rattle.book.specs.History.{Call, add, Answer, History, then, held, in_play, put, number}
use Rattle.book.specs.Right.{Right, refusal, HasOtherParties, HasEqualChart}
use Rattle.book.specs.Past.{Standing, Past}
use Rattle.book.specs.Finding.{AsMany, NotAsMany, Nowhere}
use Rattle.book.proofs.Tables.{put_same}

-- an answer that is right, and the past that goes on by it
abbrev pub Kept : (List Act → Bool) → History → Call → Answer → Standing → Type 0
Kept G h k r b = Right G h k r × Past G (then h k r) b

-- the same answer in other words
pub answered : (G : List Act → Bool) (h : History) (k : Call) (r q : Answer) (b : Standing) → r ≡ q → Kept G h k q b → Kept G h k r b
answered G h k r q b e x = subst (λ (y : Answer). Kept G h k y b) (sym e) x

module _ (G : List Act → Bool) (h : History) (b : Standing) (P : Past G h b) where
  not_playing : in_play h ≡ true → ⊥
  not_playing e = false≢true e

  -- a cleared channel
  at_rest : (k : Meaning) → k ≡ cleared b.channel → Reached G k []
  at_rest k e = subst (λ (x : Meaning). Reached G x []) (sym e) (reached_clear G b.channel P.rest.clearly P.rest.granted)

  module _ (i : ℕ) (low : i ≤ 7) where
    not_above : 7 < i → ⊥
    not_above g = omega arith

    pub add_taken : (c : Lines) → is_some (b.charts i) ≡ true → Kept G h (add i c) (refusal IdTaken i) b
    add_taken c taken =
        let R : Right G h (add i c) (refusal IdTaken i) = inr (not_playing, inr (not_above, inl (sym (ap is_some (P.holds i)) ∙ taken, refl))) in
        (R, record { right = (P.right, R); holds = P.holds; rest = P.rest })

    module _ (c : Lines) (free : is_some (b.charts i) ≡ false) where
      not_taken : is_some (held h i) ≡ true → ⊥
      not_taken e = both_ways (is_some (held h i)) (sym (ap is_some (P.holds i)) ∙ free) e

      pub add_others : (n : ℕ) → NotAsMany b.charts c n → Kept G h (add i c) (refusal OtherParties n) b
      add_others n N =
          let O : HasOtherParties h c n = record {
            id = N.id;
            other = N.other;
            held_there = sym (P.holds N.id) ∙ N.there;
            parties = N.parties;
            differ = N.differ;
          } in
          let R : Right G h (add i c) (refusal OtherParties n) = inr (not_playing, inr (not_above, inr (not_taken, inl ((n, O), (n, O, refl))))) in
          (R, record { right = (P.right, R); holds = P.holds; rest = P.rest })

      module _ (same : AsMany b.charts c) (none : Nowhere b.charts c) where
        no_other : (n : ℕ) × HasOtherParties h c n → ⊥
        no_other x = x.1.differ (same x.1.id x.1.other (P.holds x.1.id ∙ x.1.held_there))

        no_equal : (j : ℕ) × HasEqualChart h c j → ⊥
        no_equal x = none x.0 (P.holds x.0 ∙ x.1)

        -- the run of the chart, as the call has it
        module _ (w : List Act) (most : ℕ) (now : Standing) (ran : Ran b.channel.clearly c w most) (clear : now.channel ≡ cleared b.channel) where
          ran_here : Ran G c w most
          ran_here = subst (λ (F : List Act → Bool). Ran F c w most) P.rest.clearly ran

          pub add_mute : most < size c → now.charts ≡ b.charts → Kept G h (add i c) (refusal NoConversation most) now
          add_mute less stay =
              let mute : Talks G c → ⊥ = λ x. ran_here.short less x.0 x.1 in
              let R : Right G h (add i c) (refusal NoConversation most) =
              inr (not_playing, inr (not_above, inr (not_taken, inr (no_other, inr (no_equal, inl (mute, (most, ran_here.most, refl))))))) in
              (R, record { right = (P.right, R); holds = λ j. ap (λ (f : ℕ → Option Lines). f j) stay ∙ P.holds j; rest = at_rest now.channel clear })

          pub add_granted : (n : ℕ) → Own c → size c ≤ most → ((j : ℕ) → now.charts j ≡ put i (Some c) b.charts j) → n ≡ number now.charts
              → Kept G h (add i c) (Ok n) now
          add_granted n own all new num =
              let L = ran_here.most in
              let few = along_size c L.order own L.along in
              let len = L.size in
              let whole : most ≡ size c = omega arith in
              let T : Talks G c = (w, ran_here.whole whole) in
              let now-held : (j : ℕ) → now.charts j ≡ put i (Some c) (held h) j = λ j. new j ∙ put_same i (Some c) b.charts (held h) P.holds j in
              let R : Right G h (add i c) (Ok n) =
              inr (not_playing, inr (not_above, inr (not_taken, inr (no_other, inr (no_equal, inr (λ f. f T, (T, ap Ok (num ∙ ap number (fun_ext now-held))))))))) in
              (R, record { right = (P.right, R); holds = now-held; rest = at_rest now.channel clear })
