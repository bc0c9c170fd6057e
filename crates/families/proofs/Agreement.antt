-- What local lists are like: in range, told by agreement, and alike where their parts are.
use Rattle.std.proofs.Common.{◌≡◌, ℕ, ◌≤◌, Bool, true, List, [], ◌++◌, Some, sym, ap, ◌∙◌, subst, arith}
use Rattle.std.specs.List.{AllByRecursion}
use Rattle.acts.specs.declared.Act.{Act}
use Rattle.acts.specs.Acts.{InRange, part, SameParts, Along, Lines, line}
use Rattle.acts.proofs.Parts.{part-++}
use Rattle.acts.proofs.Counts.{same_quiet}
use Rattle.acts.proofs.Diamond.{Completed, complete, parts_decide}
use Rattle.channel.specs.Meaning.{Lawful}
use Rattle.conversation.specs.Conversations.{Conversation, Talks}
use Rattle.families.specs.Judgement.{Charts, HeldChart, View, LastView, Local, HeldConversation, BeginsHeld, BreaksCc2, BreaksCc3, Broken, of_cc2, of_cc3, Judgeable}
use Rattle.families.proofs.Ranges.{past_end, none-begins, all_left, all_parts, line_range}

-- a property that every held chart with another one has
pub held_weaker : (f : Charts) (P Q : Lines → Type 0) → ((c : Lines) → P c → Q c) → HeldChart f P → HeldChart f Q
held_weaker f P Q g h = record { id = h.id; chart = h.chart; held = h.held; fits = g h.chart h.fits }

-- the way to the parts of a list does not matter
module _ (G : List Act → Bool) (f : Charts) (lawful : Lawful G) where
  same_conversation : (c : Lines) (u w : List Act) → G w ≡ true → SameParts u w → Conversation G c u → Conversation G c w
  same_conversation c u w g s v = record {
    granted = g;
    quiet = same_quiet w u (λ p. sym (s p)) v.quiet;
    lines = λ p. sym (s p) ∙ v.lines p;
  }

  pub same_held : (u w : List Act) → G w ≡ true → SameParts u w → HeldConversation G f u → HeldConversation G f w
  same_held u w g s =
      held_weaker f (λ c. Conversation G c u) (λ c. Conversation G c w) (λ c. same_conversation c u w g s)

  pub same_begins : (u w : List Act) → G u ≡ true → G w ≡ true → SameParts u w → BeginsHeld G f u → BeginsHeld G f w
  same_begins u w gu gw s b =
      let x : List Act = b.0 in (
        x,
        same_held (u ++ x) (w ++ x)
            (sym (parts_decide G lawful.diamond w u gu gw s x) ∙ b.1.fits.granted)
            (λ p. part-++ p u x ∙ ap (λ (v : List Act). v ++ part p x) (s p) ∙ sym (part-++ p w x))
            b.1,
      )

  module _ (u w : List Act) (lu : Local G f u) (lw : Local G f w) (s : SameParts u w) where
    back : SameParts w u
    back p = sym (s p)

    pub same_cc2 : BreaksCc2 G f u → BreaksCc2 G f w
    same_cc2 b = record {
      local = lw;
      quiet = same_quiet w u back b.quiet;
      last = λ p. subst (LastView f p) (s p) (b.last p);
      broken = λ h. b.broken (same_held w u lu.granted back h);
    }

    pub same_cc3 : BreaksCc3 G f u → BreaksCc3 G f w
    same_cc3 b = record { local = lw; broken = λ h. b.broken (same_begins w u lw.granted lu.granted back h) }

  pub same_broken : (u w : List Act) → Local G f u → Local G f w → SameParts u w → (k : ℕ) → Broken G f k u → Broken G f k w
  same_broken u w lu lw s k (of_cc2 e b) = of_cc2 e (same_cc2 u w lu lw s b)
  same_broken u w lu lw s k (of_cc3 e n b) =
      of_cc3 e (λ x. n (same_cc2 w u lw lu (λ p. sym (s p)) x)) (same_cc3 u w lu lw s b)

module _ (G : List Act → Bool) (n : ℕ) (f : Charts) (J : Judgeable G n f) where
  -- a chart has at most six parties
  pub few_parties : n ≤ 6
  few_parties =
      let c = J.some in
      let h = (J.lined c.id c.chart c.held).high in
      let e = c.fits in
      omega arith

  -- past the parties a local list has no acts, and all its acts are in range
  pub local-none : (w : List Act) → Local G f w → (p : ℕ) → n ≤ p → part p w ≡ []
  local-none w l p h =
      let v : View f p (part p w) = l.views p in
      none-begins (part p w) (line v.chart p) v.fits (past_end v.chart n p (J.parties v.id v.chart v.held) h)

  pub held_range : (i : ℕ) (c : Lines) → f i ≡ Some c → (p : ℕ) → AllByRecursion (InRange n) (line c p)
  held_range i c e p = line_range n c (J.lined i c e) (J.parties i c e) p

  pub local_range : (w : List Act) → Local G f w → AllByRecursion (InRange n) w
  local_range w l = all_parts (InRange n) w λ p.
      let v : View f p (part p w) = l.views p in
      all_left (InRange n) (part p w) v.fits.0
      (subst (AllByRecursion (InRange n)) (sym v.fits.1) (held_range v.id v.chart v.held p))

  -- a local list begins a held conversation exactly where one held chart agrees with all its parts
  pub begins-agrees : (w : List Act) → BeginsHeld G f w → HeldChart f (λ c. Along c w)
  begins-agrees w b =
      held_weaker f (λ c. Conversation G c (w ++ b.0)) (λ c. Along c w)
      (λ c v p. (part p b.0, sym (part-++ p w b.0) ∙ v.lines p)) b.1

  pub agrees-begins : (w : List Act) → G w ≡ true → HeldChart f (λ c. Along c w) → BeginsHeld G f w
  agrees-begins w g h =
      let t : Talks G h.chart = J.talk h.id h.chart h.held in
      let u : List Act = t.0 in
      let v : Conversation G h.chart u = t.1 in
      let k : Completed G w u =
      complete G J.lawful.diamond w u g v.granted (λ p. ((h.fits p).0, (h.fits p).1 ∙ sym (v.lines p))) in (
        k.more,
        record {
          id = h.id;
          chart = h.chart;
          held = h.held;
          fits = record {
            granted = k.granted;
            quiet = same_quiet (w ++ k.more) u k.parts v.quiet;
            lines = λ p. k.parts p ∙ v.lines p;
          };
        },
      )
