use Rattle.families.proofs.Testing.{same_tells, begins_tells, quiet_tells}
use Rattle.families.proofs.Kinding.{judge_tests}
use Rattle.families.proofs.tests_decide.Goals as goal

pub returns : goal.returns
returns c = (record { same = same_tells; beginning = begins_tells; nothing_waits = quiet_tells }, judge_tests)
