-- Channels whose messages wait from each sender to each receiver apart: in order, and in any order.
use Rattle.std.specs.Prelude.{ℕ, zero, suc, pred, ◌+◌, Bool, true, false, cond, not, ◌&&◌, List, [], ◌∷◌, ◌++◌, length, ◌==◌, nat_lt}
use mathlib.Core.List.{tail}
use Rattle.acts.specs.declared.Act.{Act}
use Rattle.acts.specs.declared.Letter.{Letter}
use Rattle.acts.specs.declared.Letter.TheVariants.{Send, Receive}
use Rattle.acts.specs.Acts.{from, to}
use Rattle.channel.specs.Meaning.{Meaning}

-- the lists granted from a state on, one act after another
abbrev pub granted : {Q : Type 0} → (Q → Act → Bool) → (Q → Act → Q) → Q → List Act → Bool
granted may carry q [] = true
granted may carry q (a ∷ l) = may q a && granted may carry (carry q a) l

-- the act is in range for six parties
abbrev pub in_range : Act → Bool
in_range a = nat_lt a.party 6 && (nat_lt a.peer 6 && (not (a.peer == a.party) && nat_lt a.name 32))

-- how names wait between one sender and one receiver: none, one more, one less, room for one more, one ready
pub record Way : Type 1 where
  pub Waiting : Type 0
  pub none : Waiting
  pub put : ℕ → Waiting → Waiting
  pub take : ℕ → Waiting → Waiting
  pub room : Waiting → Bool
  pub ready : ℕ → Waiting → Bool
  pub count : Waiting → ℕ → ℕ

-- a send needs room, a receive needs its name to be ready
abbrev pub allows : (W : Way) → Letter → ℕ → W.Waiting → Bool
allows W Send m x = W.room x
allows W Receive m x = W.ready m x

abbrev pub change : (W : Way) → Letter → ℕ → W.Waiting → W.Waiting
change W Send m x = W.put m x
change W Receive m x = W.take m x

-- what waits from each sender to each receiver
abbrev pub State : Way → Type 0
State W = ℕ → ℕ → W.Waiting

abbrev pub clear : (W : Way) → State W
clear W s r = W.none

abbrev pub may : (W : Way) → State W → Act → Bool
may W q a =
    in_range a && allows W a.letter a.name (q (from a.letter a.party a.peer) (to a.letter a.party a.peer))

-- the act concerns the messages from s to r
abbrev pub between : Act → ℕ → ℕ → Bool
between a s r = from a.letter a.party a.peer == s && to a.letter a.party a.peer == r

abbrev pub carry : (W : Way) → State W → Act → State W
carry W q a s r = cond (between a s r) (change W a.letter a.name (q s r)) (q s r)

-- what such a channel means in a state
abbrev pub meaning_of : (W : Way) → State W → Meaning
meaning_of W q = record {
  clearly = granted (may W) (carry W) (clear W);
  grants = granted (may W) (carry W) q;
  waits = λ s r m. W.count (q s r) m;
}

-- at most so many messages wait from one sender to one receiver
abbrev pub capacity : ℕ
capacity = 32

-- in order: the names in the order sent, of which the first is received
abbrev pub is_first : ℕ → List ℕ → Bool
is_first m [] = false
is_first m (k ∷ x) = k == m

abbrev pub times : ℕ → List ℕ → ℕ
times m [] = 0
times m (k ∷ x) = cond (k == m) 1 0 + times m x

abbrev pub in_order : Way
in_order = record {
  Waiting = List ℕ;
  none = [];
  put = λ m x. x ++ (m ∷ []);
  take = λ m x. tail x;
  room = λ x. nat_lt (length x) capacity;
  ready = is_first;
  count = λ x m. times m x;
}

-- in any order: how many of each name wait, of which any is received
abbrev pub total : ℕ → (ℕ → ℕ) → ℕ
total zero x = 0
total (suc n) x = total n x + x n

abbrev pub in_any_order : Way
in_any_order = record {
  Waiting = ℕ → ℕ;
  none = λ k. 0;
  put = λ m x k. cond (m == k) (suc (x k)) (x k);
  take = λ m x k. cond (m == k) (pred (x k)) (x k);
  room = λ x. nat_lt (total 32 x) capacity;
  ready = λ m x. nat_lt 0 (x m);
  count = λ x m. x m;
}
