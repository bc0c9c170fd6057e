-- What holds after every history whose answers were right.
use Rattle.std.specs.Prelude.{◌≡◌, ℕ, ◌≤◌, Bool, List, length, Some, Ok, Err, ◌≢◌}
use Rattle.acts.specs.declared.Act.{Act}
use Rattle.acts.specs.Acts.{Lines}
use Rattle.conversation.specs.Conversations.{Talks}
use Rattle.book.specs.History.{Call, add, withdraw, History, then, held}

-- the last granted call that names the id, if it is an add, added this chart
pub data LastAdded : History → ℕ → Lines → Type 0 where
  -- the last call is that add
  now_added : {h : History} {i : ℕ} {c : Lines} {n : ℕ} → LastAdded (then h (add i c) (Ok n)) i c
  -- the last call was refused
  past_refused : {h : History} {k : Call} {i : ℕ} {c : Lines} {e : _} → LastAdded h i c → LastAdded (then h k (Err e)) i c
  -- the last call was granted and names another id
  past_add : {h : History} {i j : ℕ} {c d : Lines} {n : ℕ} → (j ≢ i) → LastAdded h i c → LastAdded (then h (add j d) (Ok n)) i c
  past_withdraw : {h : History} {i j : ℕ} {c : Lines} {n : ℕ} → (j ≢ i) → LastAdded h i c → LastAdded (then h (withdraw j) (Ok n)) i c

-- the law over histories: held charts have ids up to 7, the same number of parties, and a conversation each; no two are equal; a held id
-- names the chart of its last granted add
pub record Law (G : List Act → Bool) (h : History) : Type 0 where
  pub ids : (i : ℕ) (c : Lines) → held h i ≡ Some c → i ≤ 7
  pub parties : (i j : ℕ) (c d : Lines) → held h i ≡ Some c → held h j ≡ Some d → length c ≡ length d
  pub apart : (i j : ℕ) (c : Lines) → held h i ≡ Some c → held h j ≡ Some c → i ≡ j
  pub talk : (i : ℕ) (c : Lines) → held h i ≡ Some c → Talks G c
  pub named : (i : ℕ) (c : Lines) → held h i ≡ Some c → LastAdded h i c
