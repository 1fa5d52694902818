-- The command that a line of the script is.
use Rattle.std.specs.Prelude.{ℕ, zero, suc, ◌+◌, cond, Option, None, Some, List, eqb, get_or}
use Rattle.lines.specs.declared.line.Line.{Line}
use Rattle.lines.specs.declared.machine.Scan.TheVariants.{Word as InWord, Number as InNumber}
use Rattle.lines.specs.Words.{code}
use Rattle.lines.specs.Line.{finish}
use Rattle.scripts.specs.declared.run.Span.{Span}
use Rattle.scripts.specs.declared.command.Call.{Call as A-call}
use Rattle.scripts.specs.declared.command.Command.{Command}
use Rattle.scripts.specs.declared.command.Command.TheVariants.{Nothing as NoCommand, Bytes, Call, What}
use Rattle.scripts.specs.declared.command.Next.{Next}
use Rattle.scripts.specs.declared.command.Next.TheVariants.{Number, Nothing, Bad}
use Rattle.scripts.specs.Runs.{word_at, text_of}
use Rattle.scripts.specs.Numbers.{number_of, keyword_of}
use Rattle.scripts.specs.Table.{takes, bytes_text}

-- no command has more numbers
abbrev pub most_numbers : ℕ
most_numbers = 5

-- a keyword with no number yet
abbrev pub begun : ℕ → A-call
begun w = record { word = w; count = 0; a = 0; b = 0; c = 0; d = 0; e = 0 }

-- one number more
abbrev pub pushed : A-call → ℕ → A-call
pushed k v = record { word = k.word; count = k.count + 1; a = k.b; b = k.c; c = k.d; d = k.e; e = v }

-- a command, where its keyword takes as many numbers as there are
abbrev pub fitting : A-call → Option ℕ → Command
fitting k None = What
fitting k (Some n) = cond (eqb n k.count) (Call k) What

unfoldable pub complete : A-call → Command
complete k = fitting k (takes k.word)

-- a word that is a number, with the place after it
abbrev pub found : Option ℕ → ℕ → Next
found (Some v) to = Number v to
found None to = Bad

-- a word as a number
abbrev pub numbered : List ℕ → Option Span → Next
numbered line None = Nothing
numbered line (Some w) = found (number_of (text_of line w)) w.to

-- the next word as a number
unfoldable pub next_number : List ℕ → ℕ → Next
next_number line at = numbered line (word_at line at)

-- a line ends, or goes on with a number; with any other word it is no command
abbrev pub onwards : Next → Command → (ℕ → ℕ → Command) → Command
onwards Nothing c f = c
onwards Bad c f = What
onwards (Number v to) c f = f v to

-- the command whose numbers, n more at most, stand from a place of the line on
unfoldable pub numbers_from : ℕ → List ℕ → ℕ → A-call → Command
numbers_from zero line at k = onwards (next_number line at) (complete k) (λ v to. What)
numbers_from (suc n) line at k = onwards (next_number line at) (complete k) (λ v to. numbers_from n line to (pushed k v))

-- of a line whose first word is no remark
abbrev pub worded : List ℕ → ℕ → Option ℕ → Command
worded line to None = What
worded line to (Some w) = cond (eqb w (code 0 bytes_text)) (Bytes to) (numbers_from most_numbers line to (begun w))

-- a line without a word, or whose first word begins with #, is nothing
abbrev pub led : List ℕ → Option Span → Command
led line None = NoCommand
led line (Some w) = cond (eqb (get_or line w.from 0) 35) NoCommand (worded line w.to (keyword_of (text_of line w)))

unfoldable pub command_of : List ℕ → Command
command_of line = led line (word_at line 0)

-- the log's line of the same words
unfoldable pub line_of : A-call → Line
line_of k = finish (InNumber (record { word = k.word; left = 0; a = k.a; b = k.b; c = k.c; d = k.d }) k.e)

-- and of the same words less the last number
unfoldable pub shorter_of : A-call → Line
shorter_of k =
    finish
    (cond (eqb k.count 1) (InWord k.word) (InNumber (record { word = k.word; left = 0; a = 0; b = k.a; c = k.b; d = k.c }) k.d))
