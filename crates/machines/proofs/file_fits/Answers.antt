use Rattle.machines.proofs.Fitting.{file_fits}
use Rattle.machines.proofs.file_fits.Goals as goal

pub returns : goal.returns
returns c = λ G n f J code h. file_fits G n f J code h
