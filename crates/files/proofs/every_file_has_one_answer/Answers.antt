use Rattle.files.proofs.Matching.{every_file}
use Rattle.files.proofs.every_file_has_one_answer.Goals as goal

pub returns : goal.returns
returns c = every_file
