use Rattle.acts.proofs.Playing.{plays_diamond, plays_causal, causal_plays}
use Rattle.acts.proofs.playing_orders.Goals as goal

pub returns : goal.returns
returns c = (plays_diamond, λ w. (plays_causal w, causal_plays w))
