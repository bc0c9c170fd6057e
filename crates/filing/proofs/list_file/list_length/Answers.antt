use Rattle.std.proofs.Common.{arith}
use Rattle.machines.proofs.Sizes.{list_size}
use Rattle.filing.proofs.list_file.list_length.Goals as goal

pub returns : goal.returns
returns c kind = let e = list_size kind c.args.acts.now in omega arith
