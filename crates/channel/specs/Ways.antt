-- What a way keeps, so that a channel which waits that way is lawful.
use Rattle.std.specs.Prelude.{◌≡◌, ℕ, ◌+◌, true, cond, ◌==◌}
use Rattle.channel.specs.Pairs.{Way}

-- putting and taking between one sender and one receiver do not hinder each other
pub record WayCrossing (W : Way) : Type 0 where
  pub put-take : (x : W.Waiting) (k m : ℕ) → W.ready m x ≡ true → W.take m (W.put k x) ≡ W.put k (W.take m x)
  pub put-ready : (x : W.Waiting) (k m : ℕ) → W.ready m x ≡ true → W.ready m (W.put k x) ≡ true
  pub take_room : (x : W.Waiting) (m : ℕ) → W.ready m x ≡ true → W.room x ≡ true → W.room (W.take m x) ≡ true

-- and the counts follow: a put adds one of its name, and a take takes one of it away
pub record WayLawful (W : Way) : Type 0 where
  pub crossing : WayCrossing W
  pub count_none : (m : ℕ) → W.count W.none m ≡ 0
  pub count_put : (x : W.Waiting) (k m : ℕ) → W.count (W.put k x) m ≡ cond (k == m) 1 0 + W.count x m
  pub count_take : (x : W.Waiting) (k m : ℕ) → W.ready k x ≡ true → W.count x m ≡ cond (k == m) 1 0 + W.count (W.take k x) m
