-- What waits in a pile and in a queue.
use Rattle.std.specs.Prelude.{ℕ, List}
use Rattle.std.specs.VecDeque.{deque_items}
use Rattle.channel.specs.declared.pile.Pile.{Pile}
use Rattle.channel.specs.declared.queue.Queue.{Queue}
use Rattle.channel.specs.Places.{counted}

abbrev pub piled : Pile → ℕ → ℕ
piled p = counted p.counts

abbrev pub queued : Queue → List ℕ
queued q = deque_items q.names
