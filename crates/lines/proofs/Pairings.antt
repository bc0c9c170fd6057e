-- Messages by their numbers.
use Rattle.std.proofs.Common.{◌≡◌, ℕ, ◌<◌, ◌≤◌, Some, None, Option, MatchOption, sym, refl, subst, ◌∙◌, arith}
use Rattle.acts.specs.declared.Message.{Message}
use Rattle.acts.specs.Acts.{Known, rank_of, Lines}
use Rattle.lines.specs.Charts.{Pairs, FirstUnpaired, KnownPaired}

-- a message's number tells it from all others
pub rank_same : (t u : Message) → Known t → Known u → rank_of t ≡ rank_of u → t ≡ u
rank_same t u k j e =
    let s : t.sender ≡ u.sender = omega arith in
    let r : t.receiver ≡ u.receiver = omega arith in
    let m : t.name ≡ u.name = omega arith in
    λ i. record { sender = s i; receiver = r i; name = m i }

-- the message with this number is not paired, or it is
pub record UnpairedAt (c : Lines) (k : ℕ) : Type 0 where
  pub message : Message
  pub known : Known message
  pub number : k < 1152 → rank_of message ≡ k
  pub unpaired : Pairs c message.sender message.receiver message.name → ⊥

abbrev pub PairedAt : Lines → ℕ → Type 0
PairedAt c k = (t : Message) → Known t → rank_of t ≡ k → Pairs c t.sender t.receiver t.name

pub paired_at : (c : Lines) (k : ℕ) (t : Message) → Known t → (k < 1152 → rank_of t ≡ k) → Pairs c t.sender t.receiver t.name → PairedAt c k
paired_at c k t j e p u i f =
    let s = i.sender in let r = i.receiver in let m = i.name in
    subst (λ (v : Message). Pairs c v.sender v.receiver v.name) (sym (rank_same u t i j (f ∙ sym (e (omega arith))))) p

-- the first number below 1152 whose message is not paired
pub first_of : (c : Lines) (r : Option ℕ)
    → MatchOption r ((k : ℕ) → 0 ≤ k → k < 1152 → PairedAt c k) (λ i. (0 ≤ i) × (i < 1152) × UnpairedAt c i × ((k : ℕ) → 0 ≤ k → k < i → PairedAt c k))
    → MatchOption r (KnownPaired c) (λ k. FirstUnpaired c k)
first_of c None h = λ t j. h (rank_of t) (omega arith) (let s = j.sender in let r = j.receiver in let m = j.name in omega arith) t j refl
first_of c (Some i) h =
    let u = h.2 in
    record {
      message = u.message;
      known = u.known;
      number = u.number h.1;
      unpaired = u.unpaired;
      least = λ t j l. h.3 (rank_of t) (omega arith) l t j refl;
    }
