-- Every refusal in words.
use Rattle.std.specs.Prelude.{ℕ, List, ◌++◌, codes, decimal}
use Rattle.fault.specs.declared.FileCause.TheVariants.{Ends, NotAllowed, OutOfRange, LineFull, GoesOn}
use Rattle.fault.specs.declared.ChartCause.TheVariants.{NotPaired, NotPlayable}
use Rattle.fault.specs.declared.ChannelCause.TheVariants.{Denied}
use Rattle.fault.specs.declared.BookCause.TheVariants.{InPlay, IdAbove, IdTaken, OtherParties, EqualChart, NoConversation, IdFree, NothingHeld, TooManyTuples, OutputShort, NoVerdict, AtRest, OperandOutOfRange, NoView, NotAtEnd}
use Rattle.fault.specs.declared.SessionCause.TheVariants.{UnknownLetter, CutShort}
use Rattle.fault.specs.declared.Layer.{Layer}
use Rattle.fault.specs.declared.Layer.TheVariants.{File, Chart, Channel, Book, Session}
use Rattle.fault.specs.declared.Fault.{Fault}
use Rattle.fault.specs.Numbers.{number_of}

-- what a layer found
abbrev pub layer_words : Layer → List ℕ
layer_words (File Ends) = codes "the file ends where more is due"
layer_words (File NotAllowed) = codes "this command is not allowed here"
layer_words (File OutOfRange) = codes "this operand is out of range"
layer_words (File LineFull) = codes "this would be the 33rd act of its line"
layer_words (File GoesOn) = codes "the chart is complete, and bytes follow"
layer_words (Chart NotPaired) = codes "a message is not sent as often as it is received"
layer_words (Chart NotPlayable) = codes "no playing order holds all acts"
layer_words (Channel Denied) = codes "the channel does not grant the act"
layer_words (Book InPlay) = codes "a play is on"
layer_words (Book IdAbove) = codes "the id is above 7"
layer_words (Book IdTaken) = codes "the id names a held chart"
layer_words (Book OtherParties) = codes "a held chart has another number of parties"
layer_words (Book EqualChart) = codes "an equal chart is held"
layer_words (Book NoConversation) = codes "the chart has no conversation over the channel"
layer_words (Book IdFree) = codes "the id names no held chart"
layer_words (Book NothingHeld) = codes "no chart is held"
layer_words (Book TooManyTuples) = codes "there are too many tuples of views"
layer_words (Book OutputShort) = codes "the output is too short"
layer_words (Book NoVerdict) = codes "no judge of kind 0 stands"
layer_words (Book AtRest) = codes "no play is on"
layer_words (Book OperandOutOfRange) = codes "an operand is out of range"
layer_words (Book NoView) = codes "the party's acts make no view"
layer_words (Book NotAtEnd) = codes "the play is not at an end"
layer_words (Session UnknownLetter) = codes "no command has this letter"
layer_words (Session CutShort) = codes "the session ends inside a command"

-- a refusal: its number, its place, and what was found
abbrev pub fault_words : Fault → List ℕ
fault_words f = codes "refused with " ++ (decimal (number_of f.layer) ++ (codes " at " ++ (decimal f.place ++ (codes ": " ++ layer_words f.layer))))
