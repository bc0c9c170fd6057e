-- The machine file as tables of views give it.
use Rattle.std.specs.Prelude.{ℕ, zero, suc, ◌<◌, List, [], ◌∷◌, ◌++◌}
use Rattle.families.specs.Judgement.{Charts}
use Rattle.machines.specs.Files.{move_bytes, last_bytes}
use Rattle.views.specs.declared.view.View.{View}
use Rattle.views.specs.Parties.{table_at}
use Rattle.views.specs.Tables.{Shows}

-- the move to the view with the number k; view 0 has none
abbrev pub move_of : (k : ℕ) → View → List ℕ
move_of zero x = []
move_of (suc k) x = move_bytes x.lengthens (suc k) x.act

-- F and the number k, where the mask of the charts whose line it is has a bit
abbrev pub last_if : (mask k : ℕ) → List ℕ
last_if zero k = []
last_if (suc mask) k = last_bytes k

abbrev pub last_of : (k : ℕ) → View → List ℕ
last_of k x = last_if x.complete k

-- what g makes of each view of a table, numbered from k on
abbrev pub each_view : (g : ℕ → View → List ℕ) (k : ℕ) → List View → List ℕ
each_view g k [] = []
each_view g k (x ∷ xs) = g k x ++ each_view g (suc k) xs

-- a party: P, the party, the moves to its views and its last views
abbrev pub table_bytes : (party : ℕ) → List View → List ℕ
table_bytes party nodes = 80 ∷ party ∷ (each_view move_of 0 nodes ++ each_view last_of 0 nodes)

-- the parties 0 to n - 1
abbrev pub tables_below : List (List View) → ℕ → List ℕ
tables_below ts zero = []
tables_below ts (suc n) = tables_below ts n ++ table_bytes n (table_at ts n)

-- K, the channel's code, the number of parties, the parties, Z
abbrev pub tables_file : (code n : ℕ) → List (List View) → List ℕ
tables_file code n ts = 75 ∷ code ∷ n ∷ (tables_below ts n ++ (90 ∷ []))

-- the tables of the parties 0 to n - 1 show the charts
abbrev pub Shown : Charts → ℕ → List (List View) → Type 0
Shown f n ts = (p : ℕ) → p < n → Shows f p (table_at ts p)
