-- The computed kind of a local list is its kind.
use Rattle.std.proofs.Common.{◌≡◌, ℕ, ◌<◌, ◌≤◌, Bool, true, false, cond, not, ◌&&◌, ◌⊎◌, ◌↔◌, List, [], ◌++◌, Some, sym, refl, ap, ◌∙◌, subst, inl, inr, arith}
use Rattle.std.proofs.lemmas.Bool.{cases_lt, and_parts, and_from}
use Rattle.acts.specs.declared.Act.{Act}
use Rattle.acts.specs.Acts.{part, Quiet, SameParts, Beginning, Along, Lines, line}
use Rattle.acts.proofs.Counts.{same_quiet}
use Rattle.conversation.specs.Conversations.{Conversation}
use Rattle.families.specs.Judgement.{Charts, HeldChart, View, LastView, Local, HeldConversation, BeginsHeld, BreaksCc2, BreaksCc3, Broken, of_cc2, of_cc3, Judgeable}
use Rattle.families.specs.Tests.{begins_with, same_acts, quiet, all_below, some_held, is_view, is_last, is_local, all_last, agrees, equals, agreeing, exact, kind_of}
use Rattle.families.specs.Theorems.{JudgeTests}
use Rattle.families.proofs.Ranges.{past_end, none_past, granted_range}
use Rattle.families.proofs.Agreement.{held_weaker, few_parties, local-none, begins-agrees, agrees-begins}
use Rattle.families.proofs.Testing.{Tells, told_no, told_or_not, tells_and, tells_not, tells_same, same_tells, begins_tells, quiet_tells, all_tells, held_tells}

-- a kind from two tests
module _ (G : List Act → Bool) (f : Charts) (w : List Act) where
  kind_by_lem : (b a : Bool) → Tells b (BreaksCc2 G f w) → Tells (not a) (BreaksCc3 G f w) → (k : ℕ)
      → Broken G f k w → (cond b 1 (cond a 0 2) ≡ k) × (0 < k)
  kind_by_lem true a x y k (of_cc2 e m) = (sym e, omega arith)
  kind_by_lem true a x y k (of_cc3 e n m) = absurd (n (x.0 refl))
  kind_by_lem false a x y k (of_cc2 e m) = absurd (told_no false (BreaksCc2 G f w) x refl m)
  kind_by_lem false true x y k (of_cc3 e n m) = absurd (told_no false (BreaksCc3 G f w) y refl m)
  kind_by_lem false false x y k (of_cc3 e n m) = (sym e, omega arith)

  by_kind : (b a : Bool) → Tells b (BreaksCc2 G f w) → Tells (not a) (BreaksCc3 G f w) → (k : ℕ)
      → cond b 1 (cond a 0 2) ≡ k → 0 < k → Broken G f k w
  by_kind true a x y k e h = of_cc2 (sym e) (x.0 refl)
  by_kind false true x y k e h = absurd (omega arith)
  by_kind false false x y k e h = of_cc3 (sym e) (told_no false (BreaksCc2 G f w) x refl) (y.0 refl)

  sound_by : (b a : Bool) → Tells b (BreaksCc2 G f w) → Tells (not a) (BreaksCc3 G f w)
      → ◌≡◌ {A = ℕ} (cond b 1 (cond a 0 2)) 0 → (¬ BreaksCc2 G f w) × (¬ BreaksCc3 G f w)
  sound_by true a x y e = absurd (omega arith)
  sound_by false true x y e = (told_no false (BreaksCc2 G f w) x refl, told_no false (BreaksCc3 G f w) y refl)
  sound_by false false x y e = absurd (omega arith)

  by_sound : (b a : Bool) → Tells b (BreaksCc2 G f w) → Tells (not a) (BreaksCc3 G f w)
      → (¬ BreaksCc2 G f w) × (¬ BreaksCc3 G f w) → ◌≡◌ {A = ℕ} (cond b 1 (cond a 0 2)) 0
  by_sound true a x y n = absurd (n.0 (x.0 refl))
  by_sound false true x y n = refl
  by_sound false false x y n = absurd (n.1 (y.0 refl))

-- lists with the same parts have the same kind
pub same_kind : (f : Charts) (u w : List Act) → SameParts u w → kind_of f u ≡ kind_of f w
same_kind f u w s =
    let q : quiet u ≡ quiet w = tells_same (quiet u) (quiet w) (Quiet u) (Quiet w) (quiet_tells u) (quiet_tells w)
    (same_quiet w u (λ p. sym (s p))) (same_quiet u w s) in
    λ i.
    cond (q i && (all_below 6 (λ p. is_last f p (s p i)) && not (some_held f (λ c. all_below 6 (λ p. same_acts (s p i) (line c p)))))) 1
    (cond (some_held f (λ c. all_below 6 (λ p. begins_with (s p i) (line c p)))) 0 2)

module _ (f : Charts) (ids : (i : ℕ) (c : Lines) → f i ≡ Some c → i < 8) where
  pub view_tells : (p : ℕ) (v : List Act) → Tells (is_view f p v) (View f p v)
  view_tells p v = held_tells f ids (λ c. begins_with v (line c p)) (λ c. Beginning v (line c p)) (λ c. begins_tells v (line c p))

  pub last_tells : (p : ℕ) (v : List Act) → Tells (is_last f p v) (LastView f p v)
  last_tells p v = held_tells f ids (λ c. same_acts v (line c p)) (λ c. v ≡ line c p) (λ c. same_tells v (line c p))

module _ (G : List Act → Bool) (n : ℕ) (f : Charts) (J : Judgeable G n f) where
  -- the empty list is a view of every party
  pub start_view : (p : ℕ) → View f p []
  start_view p = record {
    id = J.some.id;
    chart = J.some.chart;
    held = J.some.held;
    fits = (line J.some.chart p, refl);
  }

  pub local_tells : (w : List Act) → Tells (is_local G f w) (Local G f w)
  local_tells w =
      let t = all_tells 6 (λ p. is_view f p (part p w)) (λ p. View f p (part p w)) (λ p. view_tells f J.ids p (part p w)) in (
        λ h.
            let k = and_parts (G w) (all_below 6 (λ p. is_view f p (part p w))) h in
            record {
              granted = k.0;
              views = λ p. elim (cases_lt p 6) [
                | inl b ↦ t.0 k.1 p b
                | inr b ↦ subst (View f p) (sym (none_past 6 p w (granted_range G J.lawful w k.0) b)) (start_view p)
              ];
            },
        λ l. and_from (G w) (all_below 6 (λ p. is_view f p (part p w))) l.granted (t.1 (λ p b. l.views p)),
      )

  module _ (w : List Act) (l : Local G f w) where
    -- six parties are all: past them the parts of w are empty, and so are the lines
    none : (p : ℕ) → 6 ≤ p → part p w ≡ []
    none p h = local-none G n f J w l p (let k = few_parties G n f J in omega arith)

    all_last_lem : Tells (all_last f w) ((p : ℕ) → LastView f p (part p w))
    all_last_lem =
        let t = all_tells 6 (λ p. is_last f p (part p w)) (λ p. LastView f p (part p w)) (λ p. last_tells f J.ids p (part p w)) in (
          λ h p. elim (cases_lt p 6) [
            | inl k ↦ t.0 h p k
            | inr k ↦ record {
              id = J.some.id;
              chart = J.some.chart;
              held = J.some.held;
              fits = none p k ∙ sym (past_end J.some.chart n p J.some.fits (let m = few_parties G n f J in omega arith));
            }
          ],
          λ x. t.1 (λ p k. x p),
        )

    along_tells : (c : Lines) → Tells (agrees w c) (Along c w)
    along_tells c =
        let t = all_tells 6 (λ p. begins_with (part p w) (line c p)) (λ p. Beginning (part p w) (line c p))
        (λ p. begins_tells (part p w) (line c p)) in (
          λ h p. elim (cases_lt p 6) [
            | inl k ↦ t.0 h p k
            | inr k ↦ (line c p, ap (λ (v : List Act). v ++ line c p) (none p k))
          ],
          λ x. t.1 (λ p k. x p),
        )

    pub agreeing_tells : Tells (agreeing f w) (HeldChart f (λ c. Along c w))
    agreeing_tells = held_tells f J.ids (agrees w) (λ c. Along c w) along_tells

    pub exact_tells : Tells (exact f w) (HeldChart f (λ c. (p : ℕ) → part p w ≡ line c p))
    exact_tells =
        let t = held_tells f J.ids (equals w) (λ c. (p : ℕ) → p < 6 → part p w ≡ line c p)
        (λ c. all_tells 6 (λ p. same_acts (part p w) (line c p)) (λ p. part p w ≡ line c p) (λ p. same_tells (part p w) (line c p))) in (
          λ h. whole (t.0 h),
          λ x. t.1 (held_weaker f (λ c. (p : ℕ) → part p w ≡ line c p) (λ c. (p : ℕ) → p < 6 → part p w ≡ line c p) (λ c y p k. y p) x),
        )
      where
        whole : HeldChart f (λ c. (p : ℕ) → p < 6 → part p w ≡ line c p) → HeldChart f (λ c. (p : ℕ) → part p w ≡ line c p)
        whole x = record {
          id = x.id;
          chart = x.chart;
          held = x.held;
          fits = λ p. elim (cases_lt p 6) [
            | inl k ↦ x.fits p k
            | inr k ↦ none p k ∙ sym (past_end x.chart n p (J.parties x.id x.chart x.held) (let m = few_parties G n f J in omega arith))
          ];
        }

    pub Cc3Tells : Tells (not (agreeing f w)) (BreaksCc3 G f w)
    Cc3Tells =
        let t = tells_not (agreeing f w) (HeldChart f (λ c. Along c w)) agreeing_tells in (
          λ h. record { local = l; broken = λ b. t.0 h (begins-agrees G n f J w b) },
          λ b. t.1 (λ x. b.broken (agrees-begins G n f J w l.granted x)),
        )

    -- a held chart with exactly these parts is what makes a conversation of it
    abbrev Exact : Type 0
    Exact = HeldChart f (λ c. (p : ℕ) → part p w ≡ line c p)

    exact-held : Quiet w → Exact → HeldConversation G f w
    exact-held q = held_weaker f (λ c. (p : ℕ) → part p w ≡ line c p) (λ c. Conversation G c w)
        (λ c e. record { granted = l.granted; quiet = q; lines = e })

    held-exact : HeldConversation G f w → Exact
    held-exact = held_weaker f (λ c. Conversation G c w) (λ c. (p : ℕ) → part p w ≡ line c p) (λ c v. v.lines)

    not_exact : Quiet w → ((p : ℕ) → LastView f p (part p w)) → ¬ Exact → BreaksCc2 G f w
    not_exact q k m = record { local = l; quiet = q; last = k; broken = λ x. m (held-exact x) }

    pub Cc2Tells : Tells (quiet w && (all_last f w && not (exact f w))) (BreaksCc2 G f w)
    Cc2Tells =
        let Last : Type 0 = (p : ℕ) → LastView f p (part p w) in
        let u = tells_and (all_last f w) (not (exact f w)) Last (¬ Exact) all_last_lem (tells_not (exact f w) Exact exact_tells) in
        let t = tells_and (quiet w) (all_last f w && not (exact f w)) (Quiet w) (Last × (¬ Exact)) (quiet_tells w) u in (
          λ h. not_exact (t.0 h).0 (t.0 h).1.0 (t.0 h).1.1,
          λ b. t.1 (b.quiet, (b.last, λ x. b.broken (exact-held b.quiet x))),
        )

    -- what breaks is decided
    pub held_or_cc2 : Quiet w → ((p : ℕ) → LastView f p (part p w)) → HeldConversation G f w ⊎ BreaksCc2 G f w
    held_or_cc2 q k = elim (told_or_not (exact f w) Exact exact_tells) [
      | inl x ↦ inl (exact-held q x)
      | inr m ↦ inr (not_exact q k m)
    ]

    pub begins_or_cc3 : BeginsHeld G f w ⊎ BreaksCc3 G f w
    begins_or_cc3 = elim (told_or_not (agreeing f w) (HeldChart f (λ c. Along c w)) agreeing_tells) [
      | inl x ↦ inl (agrees-begins G n f J w l.granted x)
      | inr m ↦ inr (record { local = l; broken = λ b. m (begins-agrees G n f J w b) })
    ]

    pub Cc2OrNot : BreaksCc2 G f w ⊎ (¬ BreaksCc2 G f w)
    Cc2OrNot = told_or_not (quiet w && (all_last f w && not (exact f w))) (BreaksCc2 G f w) Cc2Tells

    pub broken_or_sound : Broken G f 1 w ⊎ (Broken G f 2 w ⊎ ((¬ BreaksCc2 G f w) × (¬ BreaksCc3 G f w)))
    broken_or_sound = go Cc2OrNot (told_or_not (not (agreeing f w)) (BreaksCc3 G f w) Cc3Tells)
      where
        go : BreaksCc2 G f w ⊎ (¬ BreaksCc2 G f w) → BreaksCc3 G f w ⊎ (¬ BreaksCc3 G f w)
            → Broken G f 1 w ⊎ (Broken G f 2 w ⊎ ((¬ BreaksCc2 G f w) × (¬ BreaksCc3 G f w)))
        go (inl x) y = inl (of_cc2 refl x)
        go (inr m) (inl y) = inr (inl (of_cc3 refl m y))
        go (inr m) (inr o) = inr (inr (m, o))

    pub kind_tells : (k : ℕ) → Broken G f k w ↔ ((kind_of f w ≡ k) × (0 < k))
    kind_tells k = (
      kind_by_lem G f w (quiet w && (all_last f w && not (exact f w))) (agreeing f w) Cc2Tells Cc3Tells k,
      λ h. by_kind G f w (quiet w && (all_last f w && not (exact f w))) (agreeing f w) Cc2Tells Cc3Tells k h.0 h.1,
    )

    pub sound_tells : (kind_of f w ≡ 0) ↔ ((¬ BreaksCc2 G f w) × (¬ BreaksCc3 G f w))
    sound_tells = (
      sound_by G f w (quiet w && (all_last f w && not (exact f w))) (agreeing f w) Cc2Tells Cc3Tells,
      by_sound G f w (quiet w && (all_last f w && not (exact f w))) (agreeing f w) Cc2Tells Cc3Tells,
    )

  pub judge_tests : JudgeTests G f
  judge_tests = record { view = view_tells f J.ids; last = last_tells f J.ids; local = local_tells; kind = kind_tells; sound = sound_tells }
