-- What lines of two to six parties keep: their own acts, the pairing of all messages, and how far they can be played.
use Rattle.std.proofs.Common.{◌≡◌, ℕ, suc, ◌<◌, ◌≤◌, Bool, true, cond, ◌&&◌, eqb, List, [], ◌∷◌, length, sym, refl, ap, ◌∙◌, inl, inr, arith}
use Rattle.std.specs.List.{AllByRecursion}
use Rattle.std.proofs.lemmas.Bool.{eqb-true, and_parts, cases_lt, cases_Bool}
use Rattle.acts.specs.declared.Act.{Act}
use Rattle.acts.specs.Acts.{InRange, part, tally, send_of, receive_of, is_send, is_receive, sends, receives, Lines, line, Own}
use Rattle.acts.specs.Language.{plays, Longest, size}
use Rattle.acts.proofs.Parts.{part_own}
use Rattle.acts.proofs.Playing.{plays_causal, causal_plays}
use Rattle.acts.proofs.Running.{along_size, full_parts, full_size}
use Rattle.lines.specs.Charts.{Begun, Lined, Pairs, Paired, KnownPaired, FirstUnpaired, Playable, LongestOrder}

-- what is required of every act on the line of the party p among n
abbrev pub RightAct : ℕ → ℕ → Act → Type 0
RightAct n p a = InRange n a × (a.party ≡ p)

own-all : (n p : ℕ) (l : List Act) → AllByRecursion (RightAct n p) l → part p l ≡ l
own-all n p [] h = refl
own-all n p (a ∷ l) h = part_own p a l h.0.1 ∙ ap (λ (x : List Act). a ∷ x) (own-all n p l h.1)

pub begun_own : (n : ℕ) (c : Lines) → Begun n c → Own c
begun_own n c b p = own-all n p (line c p) (b.fine p).acts

-- a test that no act on the line passes counts nothing
tally-none : (n p : ℕ) (t : Act → Bool) → ((a : Act) → RightAct n p a → t a ≡ true → ⊥) → (l : List Act)
    → AllByRecursion (RightAct n p) l → tally t l ≡ 0
tally-none n p t no_one [] h = refl
tally-none n p t no_one (a ∷ l) h = elim (cases_Bool (t a)) [
  | inl e ↦ absurd (no_one a h.0 e)
  | inr e ↦ ap (λ (b : Bool). cond b (suc (tally t l)) (tally t l)) e ∙ tally-none n p t no_one l h.1
]

-- an act that sends or receives a message tells its party, peer and name
record Tells (a : Act) (p e m : ℕ) : Type 0 where
  pub party : a.party ≡ p
  pub peer : a.peer ≡ e
  pub name : a.name ≡ m

tells : (a : Act) (b : Bool) (p e m : ℕ) → (b && (eqb a.party p && (eqb a.peer e && eqb a.name m))) ≡ true → Tells a p e m
tells a b p e m h =
    let x = (and_parts b (eqb a.party p && (eqb a.peer e && eqb a.name m)) h).1 in
    let y = and_parts (eqb a.party p) (eqb a.peer e && eqb a.name m) x in
    let z = and_parts (eqb a.peer e) (eqb a.name m) y.1 in
    record {
      party = eqb-true a.party p y.0;
      peer = eqb-true a.peer e z.0;
      name = eqb-true a.name m z.1;
    }

-- a message that is not between two of six parties, or has no name, is neither sent nor received
module _ (c : Lines) (d : Lined c) (s r m : ℕ) (no-message : s < 6 → r < 6 → m < 32 → ⊥) where
  no_sends : sends s r m (line c s) ≡ 0
  no_sends = tally-none (length c) s (send_of s r m) none (line c s) (d.fine s).acts
    where
      none : (a : Act) → RightAct (length c) s a → send_of s r m a ≡ true → ⊥
      none a h e =
          let t : Tells a s r m = tells a (is_send a.letter) s r m e in
          let f = d.high in
          let i : InRange (length c) a = h.0 in
          no-message (omega arith) (omega arith) (omega arith)

  no_receives : receives s r m (line c r) ≡ 0
  no_receives = tally-none (length c) r (receive_of s r m) none (line c r) (d.fine r).acts
    where
      none : (a : Act) → RightAct (length c) r a → receive_of s r m a ≡ true → ⊥
      none a h e =
          let t : Tells a r s m = tells a (is_receive a.letter) r s m e in
          let f = d.high in
          let i : InRange (length c) a = h.0 in
          no-message (omega arith) (omega arith) (omega arith)

  none_paired : Pairs c s r m
  none_paired = no_sends ∙ sym no_receives

pub all_paired : (c : Lines) → Lined c → KnownPaired c → Paired c
all_paired c d k s r m = elim (cases_lt s 6) [
  | inr h ↦ none_paired c d s r m (λ x y z. omega arith)
  | inl h ↦ elim (cases_lt r 6) [
    | inr g ↦ none_paired c d s r m (λ x y z. omega arith)
    | inl g ↦ elim (cases_lt m 32) [
      | inr f ↦ none_paired c d s r m (λ x y z. omega arith)
      | inl f ↦ k (record { sender = s; receiver = r; name = m }) (record { sender = h; receiver = g; name = f })
    ]
  ]
]

pub unpaired_not : (c : Lines) (k : ℕ) → FirstUnpaired c k → Paired c → ⊥
unpaired_not c k u p = u.unpaired (p u.message.sender u.message.receiver u.message.name)

-- the playing orders are the lists that `plays` grants
pub longest-orders : (c : Lines) (k : ℕ) → Longest plays c k → LongestOrder c k
longest-orders c k l = record {
  order = l.order;
  playing = record { causal = plays_causal l.order l.granted; along = l.along };
  acts = l.size;
  most = λ w p. l.most w (causal_plays w p.causal) p.along;
}

pub longest-plays : (c : Lines) (k : ℕ) → LongestOrder c k → Longest plays c k
longest-plays c k l = record {
  order = l.order;
  granted = causal_plays l.order l.playing.causal;
  along = l.playing.along;
  size = l.acts;
  most = λ w g b. l.most w (record { causal = plays_causal w g; along = b });
}

pub playable_from : (c : Lines) → Lined c → LongestOrder c (size c) → Playable c
playable_from c d l = record {
  order = l.order;
  playing = l.playing;
  all = full_parts c l.order (begun_own (length c) c d) l.playing.along l.acts;
}

pub not_playable_from : (c : Lines) (k : ℕ) → Lined c → LongestOrder c k → k < size c → Playable c → ⊥
not_playable_from c k d l h p =
    let e = full_size c p.order (begun_own (length c) c d) p.all in
    let f = l.most p.order p.playing in
    omega arith

pub longest_below : (c : Lines) (k : ℕ) → Lined c → LongestOrder c k → k ≤ size c
longest_below c k d l =
    let e = along_size c l.order (begun_own (length c) c d) l.playing.along in
    let f = l.acts in
    omega arith
