-- The tables of all parties.
use Rattle.std.specs.Prelude.{ℕ, List, [], map, vec_items, slice_index_or}
use Rattle.views.specs.declared.view.View.{View}
use Rattle.views.specs.declared.party_views.PartyViews.{PartyViews}

-- the views of a party, by number
abbrev pub nodes_in : PartyViews → List View
nodes_in v = vec_items v.views

-- the tables of the parties from 0 up
abbrev pub tables_in : List PartyViews → List (List View)
tables_in ps = map nodes_in ps

-- the table of a party
abbrev pub table_at : List (List View) → ℕ → List View
table_at ts p = slice_index_or ts p []
