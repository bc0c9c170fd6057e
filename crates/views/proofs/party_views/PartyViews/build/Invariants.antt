use Rattle.std.proofs.Common.{◌+◌, ◌*◌, ◌≤◌, vec_items, vec_len}
use Rattle.views.specs.Tables.{table_of, ShowsBelow}
use Rattle.views.proofs.party_views.PartyViews.build.Given as goal

abbrev pub invariant-loop-id : goal.invariant-loop-id
invariant-loop-id l =
    (vec_len l.self.views ≤ 1 + 32 * l.id) × ShowsBelow (table_of l.charts) l.party l.id (vec_items l.self.views)
