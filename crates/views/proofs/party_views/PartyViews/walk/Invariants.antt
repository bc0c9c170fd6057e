use Rattle.std.proofs.Common.{◌≡◌, ◌+◌, ◌<◌, ◌≤◌, List, [], length, get_or, take, vec_items, vec_len}
use Rattle.views.specs.declared.view.View.{View}
use Rattle.views.specs.Spelled.{spelled}
use Rattle.views.specs.Building.{Entering}
use Rattle.views.proofs.party_views.PartyViews.walk.Given as goal

abbrev pub invariant-loop-act : goal.invariant-loop-act
invariant-loop-act l =
    (l.at < vec_len l.self.views)
    × (vec_len l.self.views ≤ vec_len l.initial.self.views + l.act-index)
    × (length (get_or (spelled (vec_items l.self.views)) l.at []) ≡ l.act-index)
    × ((start : List View) → Entering start [] l.bit 0 (vec_items l.initial.self.views)
    → Entering start (take l.act-index l.line) l.bit l.at (vec_items l.self.views))
