-- A run along the lines without a channel, step by step and at its end.
use Rattle.std.proofs.Common.{◌≡◌, ℕ, ◌<◌, ◌≤◌, true, false, ◌||◌, ltb, List, ◌∷◌, ◌++◌, length, Some, sym, refl, ap, ◌∙◌, subst}
use Rattle.std.proofs.lemmas.Bool.{true≢false, false≢true}
use Rattle.acts.specs.declared.Act.{Act}
use Rattle.acts.specs.Acts.{sends, receives, is_send, send_of, receive_of, Lines, line}
use Rattle.acts.specs.Language.{plays, ready, Longest}
use Rattle.acts.specs.Theorems.{Stuck}
use Rattle.acts.proofs.Counts.{tally-part, sender, receiver}
use Rattle.acts.proofs.Playing.{plays_more, plays_refused, plays_diamond, plays_causal, causal_plays}
use Rattle.acts.proofs.Stuck.{stuck_longest}
use Rattle.lines.specs.Charts.{LongestOrder}
use Rattle.lines.specs.Playing.{ready_by, Going, Advanced}
use Rattle.lines.specs.Progress.{Within, so_far, next_act, passed}
use Rattle.lines.proofs.Steps.{passed_is, within_more, parts_more, less_left, halts, parts_along}

-- how far the parties have come tells what can be played next
pub ready_here : (c : Lines) (done : List ℕ) (w : List Act) → Going c done w → (a : Act) → ready w a ≡ ready_by c done a
ready_here c done w g a =
    let s : ℕ = a.peer in
    let r : ℕ = a.party in
    let m : ℕ = a.name in
    let es : sends s r m w ≡ sends s r m (so_far c done s) = tally-part (send_of s r m) s (sender s r m) w ∙ ap (sends s r m) (g.parts s) in
    let er : receives s r m w ≡ receives s r m (so_far c done r) = tally-part (receive_of s r m) r (receiver s r m) w ∙ ap (receives s r m) (g.parts r) in
    ap (λ (k : ℕ). is_send a.letter || ltb k (sends s r m w)) er
    ∙ ap (λ (k : ℕ). is_send a.letter || ltb (receives s r m (so_far c done r)) k) es

-- one step of the run: a is the next act of the party p
pub moved : (c : Lines) (done : List ℕ) (p : ℕ) (a : Act) → p < length done → next_act c done p ≡ Some a → length (line c p) ≤ 32 → Within c done
    → ready_by c done a ≡ true → Advanced c done true (passed c done p)
moved c done p a hp is short W r = subst (Advanced c done true) (sym (passed_is c done p a hp is)) (record {
  within = within_more c done p a hp is W;
  less = λ _. less_left c done p a hp is short;
  on = λ O _ w g. (
    a,
    record {
      playing = plays_more w a g.playing (ready_here c done w g a ∙ r);
      parts = parts_more c done p a hp is O w g.parts;
    },
  );
  stands = λ O f. absurd (true≢false f);
})

-- where every line halts, the playing order is stuck
pub stood : (c : Lines) (done : List ℕ) → Within c done → ((p : ℕ) (a : Act) → next_act c done p ≡ Some a → ready_by c done a ≡ false) → Advanced c done false done
stood c done W none = record {
  within = W;
  less = λ f. absurd (false≢true f);
  on = λ O f. absurd (false≢true f);
  stands = λ O _ w g. record {
    granted = g.playing;
    along = parts_along c done w g.parts;
    refused = λ a rest e. plays_refused w a
        (ready_here c done w g a ∙ halts (ready_by c done) c done a.party (none a.party) a rest (ap (λ (x : List Act). x ++ (a ∷ rest)) (sym (g.parts a.party)) ∙ e));
  };
}

-- at the end the playing order is a longest one
pub ended : (c : Lines) (w : List Act) → Stuck plays c w → LongestOrder c (length w)
ended c w s =
    let L : Longest plays c (length w) = stuck_longest plays plays_diamond c w s in
    record {
      order = w;
      playing = record { causal = plays_causal w s.granted; along = s.along };
      acts = refl;
      most = λ u o. L.most u (causal_plays u o.causal) o.along;
    }
