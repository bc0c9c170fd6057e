use Rattle.files.proofs.Long.{long_files}
use Rattle.files.proofs.long_files_by_their_front.Goals as goal

pub returns : goal.returns
returns c = long_files
