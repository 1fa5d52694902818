-- The report: its bytes, as a definition of the log.
use Rattle.std.specs.Prelude.{ℕ, zero, suc, ◌+◌, ◌*◌, ◌/◌, ◌%◌, Bool, cond, List, [], ◌∷◌, ◌++◌, leb, ltb, length, Option, Some, None}
use Rattle.loops.specs.Loop.{both}
use Rattle.kinds.specs.Names.{most_partitions, most_slots}
use Rattle.kinds.specs.Answers.{Verdict}
use Rattle.std.specs.Prelude.{Ok, Err}
use Rattle.lines.specs.declared.cursor.Step.{Step}
use Rattle.lines.specs.declared.cursor.Step.TheVariants.{Line as ALine, Tail}
use Rattle.lines.specs.declared.line.Line.{Line}
use Rattle.lines.specs.declared.line.Line.TheVariants.{Heading, Operation, End, Single as SingleLine, Bad}
use Rattle.lines.specs.Cursor.{step_of, limit_of}
use Rattle.lines.specs.Decimal.{decimal}
use Rattle.model.specs.Acts.{used}
use Rattle.model.specs.Image.{Image, front, stride, payload, phase, get, size}
use Rattle.model.specs.Judge.{in_limits}
use Rattle.journal.specs.Recover.{Recovered, recover_of, byte_of}
use Rattle.writer.specs.Record.{Rule, rule, terms_of}
use Rattle.writer.specs.Write.{Wrote, wrote, splice}
use Rattle.reporting.specs.declared.asked.Asked.{Asked}

-- a log of more bytes is too long
abbrev pub most_bytes : ℕ
most_bytes = 32768

-- the words of the largest image
abbrev pub most_words : ℕ
most_words = front + stride * (most_partitions * most_slots)

-- the bytes that a report is lent; none has more
abbrev pub room : ℕ
room = 65536

-- the most bytes of an object's line: its word, two digits of partition, three of slot, ten of payload, three spaces, the line end
abbrev pub object_bytes : ℕ
object_bytes = 25

-- a n s w e r
abbrev pub answer_word : List ℕ
answer_word = 97 ∷ 110 ∷ 115 ∷ 119 ∷ 101 ∷ 114 ∷ []

-- l i n e
abbrev pub line_word : List ℕ
line_word = 108 ∷ 105 ∷ 110 ∷ 101 ∷ []

-- b y t e
abbrev pub byte_word : List ℕ
byte_word = 98 ∷ 121 ∷ 116 ∷ 101 ∷ []

-- k e p t
abbrev pub kept_word : List ℕ
kept_word = 107 ∷ 101 ∷ 112 ∷ 116 ∷ []

-- p h a s e
abbrev pub phase_word : List ℕ
phase_word = 112 ∷ 104 ∷ 97 ∷ 115 ∷ 101 ∷ []

-- o b j e c t
abbrev pub object_word : List ℕ
object_word = 111 ∷ 98 ∷ 106 ∷ 101 ∷ 99 ∷ 116 ∷ []

-- t o o l o n g
abbrev pub toolong_word : List ℕ
toolong_word = 116 ∷ 111 ∷ 111 ∷ 108 ∷ 111 ∷ 110 ∷ 103 ∷ []

-- one space and a number
unfoldable pub spaced : ℕ → List ℕ
spaced n = 32 ∷ decimal n

-- numbers, and the line end
abbrev pub ending : List ℕ → List ℕ
ending [] = 10 ∷ []
ending (n ∷ ns) = spaced n ++ ending ns

-- a line: its word, its numbers, the line end
unfoldable pub row : List ℕ → List ℕ → List ℕ
row word ns = word ++ ending ns

-- the object at place j, slot j % S of partition j / S; a free slot has no line
unfoldable pub object_at : ℕ → Image → ℕ → List ℕ
object_at S y j = cond (used y j) (row object_word (j / S ∷ j % S ∷ get y (payload j) ∷ [])) []

-- the objects of the first n places, in partition then slot order
unfoldable pub objects : ℕ → Image → ℕ → List ℕ
objects S y zero = []
objects S y (suc j) = objects S y j ++ object_at S y j

-- a refusal: its number, its line and the byte within it, and no more
unfoldable pub refused_text : ℕ → ℕ → ℕ → List ℕ
refused_text n l b = row answer_word (n ∷ []) ++ (row line_word (l ∷ []) ++ row byte_word (b ∷ []))

-- an accepted log: the kept length, the phase, the objects in use
unfoldable pub kept_text : ℕ → ℕ → ℕ → Image → List ℕ
kept_text P S k y = row answer_word (0 ∷ []) ++ (row kept_word (k ∷ []) ++ (row phase_word (get y phase ∷ []) ++ objects S y (P * S)))

-- by the verdict, with the byte beside it
abbrev pub told : ℕ → ℕ → Verdict → ℕ → ℕ → Image → List ℕ
told P S (Ok _) b k y = kept_text P S k y
told P S (Err r) b k y = refused_text r.number r.extra b

-- what recovery answers of a log, of a heap of P partitions of S slots
unfoldable pub shown : ℕ → ℕ → List ℕ → Recovered → List ℕ
shown P S log r = told P S r.verdict (byte_of log r.verdict) r.kept r.image

-- S is at most what the edition decides, and P and S are within the limits
abbrev pub in_range : Rule → Bool
in_range h = both (leb h.S (terms_of h).slots) (in_limits h.P h.S)

-- a heading's P and S and the words of their image, where they are in its edition's range; else nothing
unfoldable pub heap_asked : Rule → Option Asked
heap_asked h = cond (in_range h) (Some (record { partitions = h.P; slots = h.S; words = size h.P h.S })) None

-- only a heading asks
abbrev pub asked_by : Line → Option Asked
asked_by (Heading e P S) = heap_asked (rule e P S)
asked_by (Operation o) = None
asked_by (End k) = None
asked_by (SingleLine a) = None
asked_by Bad = None

-- a log without a complete line asks for nothing
abbrev pub asked_at : Step → Option Asked
asked_at (ALine l next) = asked_by l
asked_at (Tail n) = None

-- a log asks for what its first line does
unfoldable pub asked_of : List ℕ → Option Asked
asked_of log = asked_at (step_of (limit_of log) log 0)

-- the words that are lent where so much is asked for; none where nothing is
abbrev pub words_of : Option Asked → ℕ
words_of None = 0
words_of (Some a) = a.words

-- the words that the report lends to recovery: as many as the heading asks for, so that it is refused with 2 for P or S alone
abbrev pub lent : List ℕ → ℕ
lent log = words_of (asked_of log)

-- what is said of a log that asks for so much, and of what recovery answers
abbrev pub shown_for : Option Asked → List ℕ → Recovered → List ℕ
shown_for None log r = shown 0 0 log r
shown_for (Some a) log r = shown a.partitions a.slots log r

-- what is said of a log that is not too long: what recovery answers into the words that are lent
unfoldable pub recovered_text : List ℕ → List ℕ
recovered_text log = shown_for (asked_of log) log (recover_of log (lent log))

-- THE REPORT of a log
unfoldable pub report_of : List ℕ → List ℕ
report_of log = cond (ltb most_bytes (length log)) (row toolong_word []) (recovered_text log)

-- the call: the report at the start of the lent bytes, and its length; nothing where fewer than `room` are lent
unfoldable pub reported : List ℕ → List ℕ → Wrote
reported log out = cond (leb room (length out)) (wrote (Some (length (report_of log))) (splice out 0 (report_of log))) (wrote None out)
