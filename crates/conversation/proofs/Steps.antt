-- A chart's lines run over a channel: one act, no act, the end.
use Rattle.std.proofs.Common.{◌≡◌, ℕ, ◌+◌, ◌<◌, ◌≤◌, Bool, true, false, cond, ◌&&◌, eqb, List, [], ◌∷◌, ◌++◌, length, slice_index, Some, None, sym, refl, ap, ◌∙◌, subst, inl, inr, append_assoc, append-nil, arith}
use Rattle.std.proofs.lemmas.Bool.{and_parts, cases_lt, eqb-true, lt-ltb}
use Rattle.std.proofs.lemmas.List.{get_or_past}
use Rattle.std.proofs.lemmas.Option.{slice_get_within}
use Rattle.acts.specs.declared.Act.{Act}
use Rattle.acts.specs.declared.Letter.{Letter}
use Rattle.acts.specs.declared.Letter.TheVariants.{Send, Receive}
use Rattle.acts.specs.Acts.{part, sends, receives, send_of, receive_of, is_receive, tally, Quiet, Lines, line, Own}
use Rattle.acts.specs.Language.{Longest}
use Rattle.acts.specs.Theorems.{Stuck}
use Rattle.acts.proofs.Counts.{tally-part, sender, receiver}
use Rattle.acts.proofs.Running.{full_parts, full_size}
use Rattle.acts.proofs.Stuck.{stuck_longest}
use Rattle.lines.specs.Charts.{Paired}
use Rattle.lines.specs.Of.{acts_of, lines_of}
use Rattle.lines.specs.Progress.{Within, next_act, passed}
use Rattle.lines.specs.declared.sheet.Sheet.{Sheet}
use Rattle.lines.proofs.Sheets.{count}
use Rattle.lines.proofs.Steps.{passed_is, within_more, parts_more, less_left, halts, parts_along}
use Rattle.lines.proofs.Tallies.{tally-push}
use Rattle.channel.specs.Meaning.{Meaning, Lawful, cleared, carried}
use Rattle.conversation.specs.Conversations.{Reached}
use Rattle.conversation.specs.Running.{Moved, Stepped, Ran, noted}

-- clear brings a channel to the empty list
pub reached_clear : (G : List Act → Bool) (m : Meaning) → m.clearly ≡ G → G [] ≡ true → Reached G (cleared m) []
reached_clear G m e h = record {
  granted = h;
  clearly = e;
  onward = λ l. ap (λ (F : List Act → Bool). F l) e;
  waits = λ s r k. omega arith;
}

is_receive_lem : (l : Letter) → is_receive l ≡ true → l ≡ Receive
is_receive_lem Send e = let z : ◌≡◌ {A = ℕ} 0 1 = cc in absurd (omega arith)
is_receive_lem Receive e = refl

-- a granted receive takes a message that was sent and not received: one of those that wait
receivable : (G : List Act → Bool) → Lawful G → (w : List Act) (a : Act) → G (w ++ (a ∷ [])) ≡ true → (s r k x : ℕ)
    → x + receives s r k w ≡ sends s r k w → receives s r k (a ∷ []) ≤ x
receivable G L w a h s r k x q = go (receive_of s r k a) refl
  where
    go : (b : Bool) → receive_of s r k a ≡ b → cond {A = ℕ} b 1 0 ≤ x
    go false e = omega arith
    go true e =
        let e₁ = and_parts (is_receive a.letter) (eqb a.party r && (eqb a.peer s && eqb a.name k)) e in
        let e₂ = and_parts (eqb a.party r) (eqb a.peer s && eqb a.name k) e₁.1 in
        let e₃ = and_parts (eqb a.peer s) (eqb a.name k) e₂.1 in
        let h₀ = L.waits w a h (is_receive_lem a.letter e₁.0) in
        let h₁ = subst (λ (i : ℕ). receives i a.party a.name w < sends i a.party a.name w) (eqb-true a.peer s e₃.0) h₀ in
        let h₂ = subst (λ (i : ℕ). receives s i a.name w < sends s i a.name w) (eqb-true a.party r e₂.0) h₁ in
        let h₃ = subst (λ (i : ℕ). receives s r i w < sends s r i w) (eqb-true a.name k e₃.1) h₂ in
        omega arith

added : (b : Bool) (n : ℕ) → cond b (n + 1) n ≡ n + cond b 1 0
added true n = refl
added false n = omega arith

tally-one : (t : Act → Bool) (w : List Act) (a : Act) → tally t (w ++ (a ∷ [])) ≡ tally t w + tally t (a ∷ [])
tally-one t w a = tally-push t w a ∙ added (t a) (tally t w)

-- one carried act further
pub reached_on : (G : List Act → Bool) (m : Meaning) (w : List Act) (a : Act) → Lawful G → m.grants (a ∷ []) ≡ true
    → Reached G m w → Reached G (carried a m) (w ++ (a ∷ []))
reached_on G m w a L h R =
    let g : G (w ++ (a ∷ [])) ≡ true = sym (R.onward (a ∷ [])) ∙ h in
    record {
      granted = g;
      clearly = R.clearly;
      onward = λ l. R.onward (a ∷ l) ∙ ap G (sym (append_assoc w (a ∷ []) l));
      waits = λ s r k.
          let e₁ = tally-one (send_of s r k) w a in
          let e₂ = tally-one (receive_of s r k) w a in
          let e₃ = R.waits s r k in
          let e₄ = receivable G L w a g s r k (m.waits s r k) e₃ in
          omega arith;
    }

-- no party past the sixth has a next act
pub among_six : (s : Sheet) (done : List ℕ) (p : ℕ) (a : Act) → next_act (lines_of s) done p ≡ Some a → p < 6
among_six s done p a is =
    let c : Lines = lines_of s in
    let n = count acts_of s.lines s.begun (omega (arith, s.six)) in
    let h = slice_get_within (line c p) (slice_index done p) a is in
    elim (cases_lt p (length c)) [
      | inl k ↦ omega (arith, s.within, s.few)
      | inr k ↦ absurd (let e = ap length (get_or_past c p [] k) in omega arith)
    ]

-- the party p does its next act a
pub moved : (c : Lines) (m n : Meaning) (done : List ℕ) (p : ℕ) (a : Act) → p < length done → next_act c done p ≡ Some a → length (line c p) ≤ 32
    → Within c done → m.grants (a ∷ []) ≡ true → n ≡ carried a m → Stepped c m done (Some a) n (passed c done p)
moved c m n done p a hp is short W yes' after = subst (Moved c m done a n) (sym (passed_is c done p a hp is)) (record {
  within = within_more c done p a hp is W;
  less = less_left c done p a hp is short;
  on = λ O G L w g. record {
    reached = subst (λ (y : Meaning). Reached G y (w ++ (a ∷ []))) (sym after) (reached_on G m w a L yes' g.reached);
    parts = parts_more c done p a hp is O w g.parts;
  };
})

-- no line can go on
pub stood : (c : Lines) (m : Meaning) (done : List ℕ) → ((p : ℕ) (a : Act) → next_act c done p ≡ Some a → m.grants (a ∷ []) ≡ false)
    → Stepped c m done None m done
stood c m done none = record {
  same = refl;
  meaning = refl;
  stuck = λ G w g. record {
    granted = g.reached.granted;
    along = parts_along c done w g.parts;
    refused = λ a rest k.
        sym (g.reached.onward (a ∷ []))
        ∙ halts (λ b. m.grants (b ∷ [])) c done a.party (none a.party) a rest (ap (λ (y : List Act). y ++ (a ∷ rest)) (sym (g.parts a.party)) ∙ k);
  };
}

-- where all acts are done, a paired chart leaves nothing waiting
quiet : (c : Lines) (w : List Act) → Paired c → ((p : ℕ) → part p w ≡ line c p) → Quiet w
quiet c w P g s r m =
    tally-part (send_of s r m) s (sender s r m) w
    ∙ ap (sends s r m) (g s)
    ∙ P s r m
    ∙ ap (receives s r m) (sym (g r))
    ∙ sym (tally-part (receive_of s r m) r (receiver s r m) w)

-- the end of a run
pub ended : (G : List Act → Bool) (c : Lines) (w : List Act) → Lawful G → Own c → Paired c → Stuck G c w → Ran G c w (length w)
ended G c w L O P S =
    let most : Longest G c (length w) = stuck_longest G L.diamond c w S in
    record {
      count = refl;
      stuck = S;
      most = most;
      whole = λ e.
          let all : (p : ℕ) → part p w ≡ line c p = full_parts c w O S.along e in
          record { granted = S.granted; quiet = quiet c w P all; lines = all };
      short = λ h v k.
          let e = full_size c v O k.lines in
          let b = most.most v k.granted (λ p. ([], append-nil (part p v) ∙ k.lines p)) in
          omega arith;
    }

-- one act more noted, where there was room
pub noted_more : (w v : List Act) (a : Act) (k : ℕ) → length w ≡ k → k < 192 → v ≡ noted w a → v ≡ w ++ (a ∷ [])
noted_more w v a k e h f =
    f ∙ ap (λ (b : Bool). cond b (w ++ (a ∷ [])) w) (lt-ltb (length w) 192 (omega arith))
