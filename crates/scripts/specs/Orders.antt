-- What a line of the script asks for.
use Rattle.lines.specs.declared.line.Line.{Line}
use Rattle.lines.specs.declared.line.Line.TheVariants.{Heading, Operation, End, Single, Bad}
use Rattle.lines.specs.Words.{of_row}
use Rattle.scripts.specs.declared.command.Call.{Call as A-call}
use Rattle.scripts.specs.declared.command.Command.{Command}
use Rattle.scripts.specs.declared.command.Command.TheVariants.{Nothing as NoCommand, Bytes as SomeBytes, Call, What as NoShape}
use Rattle.scripts.specs.declared.order.Deed.TheVariants.{Single as SingleDeed}
use Rattle.scripts.specs.declared.order.Order.{Order}
use Rattle.scripts.specs.declared.order.Order.TheVariants.{Nothing, What, Bytes, Wait, Deed}
use Rattle.scripts.specs.Commands.{line_of, shorter_of}
use Rattle.scripts.specs.Table.{rows}

-- what a keyword that is none of the log's asks for. The numbers of a call end in e
unfoldable pub keyed : A-call → Order
keyed k = of_row (λ r. r.reads k.a k.b k.c k.d k.e) What rows k.word

-- an act whose record is a single line is named by that line's words, and its place behind them
abbrev pub acted : A-call → Line → Order
acted k (Heading i p s) = keyed k
acted k (Operation o) = keyed k
acted k (End n) = keyed k
acted k (Single a) = Deed (SingleDeed a k.e)
acted k Bad = keyed k

-- an operation is named by its line's words, and goes into the waiting transaction
abbrev pub ordered : A-call → Line → Order
ordered k (Heading i p s) = acted k (shorter_of k)
ordered k (Operation o) = Wait o
ordered k (End n) = acted k (shorter_of k)
ordered k (Single a) = acted k (shorter_of k)
ordered k Bad = acted k (shorter_of k)

unfoldable pub called : A-call → Order
called k = ordered k (line_of k)

unfoldable pub order_of : Command → Order
order_of NoCommand = Nothing
order_of NoShape = What
order_of (SomeBytes from) = Bytes from
order_of (Call k) = called k
