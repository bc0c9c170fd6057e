-- The number of every refusal.
use Rattle.std.specs.Prelude.{ℕ}
use Rattle.fault.specs.declared.FileCause.TheVariants.{Ends, NotAllowed, OutOfRange, LineFull, GoesOn}
use Rattle.fault.specs.declared.ChartCause.TheVariants.{NotPaired, NotPlayable}
use Rattle.fault.specs.declared.ChannelCause.TheVariants.{Denied}
use Rattle.fault.specs.declared.BookCause.TheVariants.{InPlay, IdAbove, IdTaken, OtherParties, EqualChart, NoConversation, IdFree, NothingHeld, TooManyTuples, OutputShort, NoVerdict, AtRest, OperandOutOfRange, NoView, NotAtEnd}
use Rattle.fault.specs.declared.SessionCause.TheVariants.{UnknownLetter, CutShort}
use Rattle.fault.specs.declared.Layer.{Layer}
use Rattle.fault.specs.declared.Layer.TheVariants.{File, Chart, Channel, Book, Session}

-- 1 to 5 are the file's, 6 and 7 the chart's, 22 the channel's, 24 and 25 the session's, the others the book's
abbrev pub number_of : Layer → ℕ
number_of (File Ends) = 1
number_of (File NotAllowed) = 2
number_of (File OutOfRange) = 3
number_of (File LineFull) = 4
number_of (File GoesOn) = 5
number_of (Chart NotPaired) = 6
number_of (Chart NotPlayable) = 7
number_of (Book InPlay) = 8
number_of (Book IdAbove) = 9
number_of (Book IdTaken) = 10
number_of (Book OtherParties) = 11
number_of (Book EqualChart) = 12
number_of (Book NoConversation) = 13
number_of (Book IdFree) = 14
number_of (Book NothingHeld) = 15
number_of (Book TooManyTuples) = 16
number_of (Book OutputShort) = 17
number_of (Book NoVerdict) = 18
number_of (Book AtRest) = 19
number_of (Book OperandOutOfRange) = 20
number_of (Book NoView) = 21
number_of (Book NotAtEnd) = 23
number_of (Channel Denied) = 22
number_of (Session UnknownLetter) = 24
number_of (Session CutShort) = 25
