use Rattle.std.proofs.Common.{refl}
use Rattle.numbering.specs.Numbering.{views_of}
use Rattle.machines.proofs.worked_files.Goals as goal

pub returns : goal.returns
unfolding views_of
returns c = record { one_chart = refl; read_back = refl; four_parties = refl; two_orders = refl; told_list_lem = refl }
