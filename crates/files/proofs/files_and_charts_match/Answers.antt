use Rattle.files.proofs.Matching.{matching}
use Rattle.files.proofs.files_and_charts_match.Goals as goal

pub returns : goal.returns
returns c = matching
