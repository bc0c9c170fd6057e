-- The answer to a file, computed.
use Rattle.std.specs.Prelude.{ℕ, zero, suc, ◌+◌, ◌/◌, ◌%◌, Bool, cond, List, [], ◌∷◌, length, drop, Some, None, Ok, Err, Option, Result, ◌==◌, slice_index}
use Rattle.fault.specs.declared.Fault.{Fault}
use Rattle.fault.specs.declared.FileCause.TheVariants.{Ends, GoesOn}
use Rattle.fault.specs.declared.ChartCause.TheVariants.{NotPaired, NotPlayable}
use Rattle.acts.specs.Acts.{Lines, line, sends, receives}
use Rattle.acts.specs.Language.{plays, run, size}
use Rattle.files.specs.Rules.{Stage, outset, operands, wrong, grown}
use Rattle.files.specs.Answers.{file_fault, chart_fault}

-- whether the message with the number k is paired: sender and receiver are digits to the base 6, the name one to the base 32
abbrev pub pairs : Lines → ℕ → Bool
pairs c k =
    (sends (k / 192) (k / 32 % 6) (k % 32) (line c (k / 192)) == receives (k / 192) (k / 32 % 6) (k % 32) (line c (k / 32 % 6)))

-- the number found earlier, or else this one where it is not paired
abbrev pub earlier : Option ℕ → Bool → ℕ → Option ℕ
earlier (Some j) paired k = Some j
earlier None paired k = cond paired None (Some k)

-- the least number below k of a message that is not paired
abbrev pub unpaired : Lines → ℕ → Option ℕ
unpaired c zero = None
unpaired c (suc k) = earlier (unpaired c k) (pairs c k) k

-- how many acts the longest playing order has
abbrev pub longest : Lines → ℕ
longest c = length (run plays c (size c) [])

abbrev pub played : Lines → Result Lines Fault
played c = cond (longest c == size c) (Ok c) (Err (chart_fault NotPlayable (longest c)))

-- lines that a complete file holds: paired first, then played
abbrev pub judged : Lines → Option ℕ → Result Lines Fault
judged c (Some k) = Err (chart_fault NotPaired k)
judged c None = played c

-- behind Z nothing more may stand
abbrev pub ended : Lines → (at : ℕ) → List ℕ → Result Lines Fault
ended c at [] = judged c (unpaired c 1152)
ended c at (b ∷ rest) = Err (file_fault GoesOn at)

-- a fault where there is one, or else what follows
abbrev pub unless : Option Fault → Result Lines Fault → Result Lines Fault
unless (Some f) r = Err f
unless None r = r

-- command after command from a stage on, so many at most
abbrev pub scan : ℕ → Stage → (size at : ℕ) → List ℕ → Result Lines Fault
scan zero s size at rest = Err (file_fault Ends size)
scan (suc k) s size at rest =
    unless (wrong s size at rest)
    (cond (slice_index rest 0 == 90) (ended s.lines (at + 1) (drop 1 rest))
    (scan k (grown s (slice_index rest 0) (slice_index rest 1) (slice_index rest 2)) size (at + (1 + operands (slice_index rest 0))) (drop (1 + operands (slice_index rest 0)) rest)))

abbrev pub reading : List ℕ → Result Lines Fault
reading file = scan (suc (length file)) outset (length file) 0 file
