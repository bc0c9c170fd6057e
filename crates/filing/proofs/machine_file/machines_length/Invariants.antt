use Rattle.std.proofs.Common.{◌≡◌, ◌+◌, ◌*◌, ◌≤◌, length}
use Rattle.views.specs.Parties.{tables_in}
use Rattle.filing.specs.Filed.{tables_below}
use Rattle.filing.proofs.machine_file.machines_length.Given as goal

abbrev pub invariant-loop-views : goal.invariant-loop-views
invariant-loop-views l =
    (l.length ≡ 4 + length (tables_below (tables_in l.parties) l.views-index)) × (l.length ≤ 4 + 2565 * l.views-index)
