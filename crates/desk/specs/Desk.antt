-- What a line of a script leaves of the desk, of the image and of the log buffer, and what it is answered.
use Rattle.std.specs.Prelude.{ℕ, zero, suc, ◌+◌, ◌≤◌, Bool, true, false, cond, List, [], ◌∷◌, ◌++◌, ltb, leb, length, take, drop, set, replicate}
use Rattle.kinds.specs.declared.Operation.{Operation}
use Rattle.kinds.specs.declared.Single.TheVariants.{Open, Trace, Close, Local, Hold, Drop}
use Rattle.kinds.specs.Answers.{Verdict}
use Rattle.std.specs.Prelude.{Ok, Err}
use Rattle.loops.specs.Loop.{both}
use Rattle.model.specs.Image.{Image}
use Rattle.journal.specs.Recover.{Recovered as A-recovery, recover_of, byte_of}
use Rattle.recovery.specs.Answers.{Recovery, fault_from}
use Rattle.writer.specs.Write.{splice}
use Rattle.catalogue.specs.Call.{Outcome, outcome, format_of, commit_of, open_of, trace_of, close_of, local_of, hold_of, drop_of}
use Rattle.scripts.specs.declared.command.Next.{Next}
use Rattle.scripts.specs.declared.command.Next.TheVariants.{Number, Nothing as NoWord, Bad}
use Rattle.scripts.specs.declared.order.Look.{Look as A_look}
use Rattle.scripts.specs.declared.order.Look.TheVariants.{Read, Ask, Outlist, Digest, Show, Log, Help}
use Rattle.scripts.specs.declared.order.Deed.{Deed as A-deed}
use Rattle.scripts.specs.declared.order.Deed.TheVariants.{Word, Format, Commit, Single, Recover, Look}
use Rattle.scripts.specs.declared.order.Order.{Order}
use Rattle.scripts.specs.declared.order.Order.TheVariants.{Nothing, What, Image as Lend-words, Buffer as Lend-bytes, Bytes, Wait, Deed}
use Rattle.scripts.specs.Commands.{next_number}
use Rattle.desk.specs.declared.Desk.{Desk}
use Rattle.desk.specs.declared.Response.{Response}
use Rattle.desk.specs.declared.Response.TheVariants.{Nothing as Unanswered, What as Asked-what, Ok as Fine, Waits, Done, Closed, Freed, Recovered, Look as Seen}
use Rattle.desk.specs.declared.Turn.{Turn}

-- no more words and bytes are lent than there are
pub record Lent (d : Desk) (img log : List ℕ) : Type 0 where
  pub words : d.words ≤ length img
  pub bytes : d.bytes ≤ length log

abbrev pub desk : ℕ → ℕ → ℕ → Desk
desk m n k = record { words = m; bytes = n; waits = k }

abbrev pub turn : Desk → Response → Turn
turn d s = record { desk = d; said = s }

-- another form of the answer
abbrev pub answered : {A B : Type 0} → (A → B) → Outcome A → Outcome B
answered f o = outcome (f o.answer) o.image o.log

module _ {A : Type 0} where
  -- on the words and bytes that are lent; the others stay
  abbrev pub rejoined : Outcome A → List ℕ → List ℕ → Outcome A
  rejoined o ws bs = outcome o.answer (o.image ++ ws) (o.log ++ bs)

  abbrev pub on_lent : Desk → (Image → List ℕ → Outcome A) → Image → List ℕ → Outcome A
  on_lent d f img log = rejoined (f (take d.words img) (take d.bytes log)) (drop d.words img) (drop d.bytes log)

-- the answer of a recovery: the kept length, or the refusal with its byte
abbrev pub keeping : Verdict → ℕ → ℕ → Recovery
keeping (Ok _) k b = Ok k
keeping (Err r) k b = fault_from r b

-- recovery of the first n bytes of the log buffer
unfoldable pub recover_for : ℕ → Image → List ℕ → Outcome Response
recover_for n img log = cond (leb n (length log)) (recovered (recover_of (take n log) (length img))) (outcome Asked-what img log)
  where
    recovered : A-recovery → Outcome Response
    recovered r = outcome (Recovered (keeping r.verdict r.kept (byte_of (take n log) r.verdict))) r.image log

-- an answer beside the words or bytes that are left
pub record Put : Type 0 where
  pub said : Response
  pub list : List ℕ

abbrev pub put : Response → List ℕ → Put
put s xs = record { said = s; list = xs }

-- one word
unfoldable pub put_word : ℕ → ℕ → Image → Put
put_word i v img = cond (ltb i (length img)) (put Fine (set img i v)) (put Asked-what img)

-- `log` asks for more bytes than are lent
abbrev pub past : A_look → ℕ → Bool
past (Read n) lent = false
past (Ask n) lent = false
past (Outlist p) lent = false
past Digest lent = false
past Show lent = false
past (Log n) lent = ltb lent n
past Help lent = false

-- what is seen on a log buffer of so many bytes
unfoldable pub seen_for : A_look → ℕ → Response
seen_for l lent = cond (past l lent) Asked-what (Seen l)

-- A DEED, with these operations waiting
abbrev pub deed_of : A-deed → List Operation → Image → List ℕ → Outcome Response
deed_of (Word i v) ops img log = outcome (put_word i v img).said (put_word i v img).list log
deed_of (Format p s at) ops img log = answered Done (format_of img p s log at)
deed_of (Commit at) ops img log = answered Done (commit_of img ops log at)
deed_of (Single Open at) ops img log = answered Done (open_of img log at)
deed_of (Single (Trace p) at) ops img log = answered Done (trace_of img p log at)
deed_of (Single Close at) ops img log = answered Closed (close_of img log at)
deed_of (Single (Local p) at) ops img log = answered Freed (local_of img p log at)
deed_of (Single (Hold h o) at) ops img log = answered Done (hold_of img h o log at)
deed_of (Single (Drop h) at) ops img log = answered Done (drop_of img h log at)
deed_of (Recover k) ops img log = recover_for k img log
deed_of (Look l) ops img log = outcome (seen_for l (length log)) img log

-- the bytes that stand in a line from a place on
pub data Listed : Type 0 where
  list : List ℕ → Listed
  no_list : Listed

abbrev pub before : List ℕ → Listed → Listed
before xs (list ys) = list (xs ++ ys)
before xs no_list = no_list

abbrev pub onwards : Next → (ℕ → ℕ → Listed) → Listed
onwards NoWord f = list []
onwards Bad f = no_list
onwards (Number v to) f = f v to

-- n of them at most, each a number up to 255
unfoldable pub listed_from : ℕ → List ℕ → ℕ → Listed
listed_from zero line at = onwards (next_number line at) (λ v to. no_list)
listed_from (suc n) line at = onwards (next_number line at) (λ v to. cond (ltb 255 v) no_list (before (v ∷ []) (listed_from n line to)))

abbrev pub bytes_of : Listed → List ℕ
bytes_of (list xs) = xs
bytes_of no_list = []

-- a log buffer has no more bytes
abbrev pub most_bytes : ℕ
most_bytes = 65536

-- one byte or more from a place on, within the log
unfoldable pub put_at : ℕ → List ℕ → List ℕ → Put
put_at at xs log = cond (both (ltb 0 (length xs)) (leb (at + length xs) (length log))) (put Fine (splice log at xs)) (put Asked-what log)

-- `bytes`: the place, then the bytes
abbrev pub putting : Next → List ℕ → List ℕ → Put
putting NoWord line log = put Asked-what log
putting Bad line log = put Asked-what log
putting (Number at to) line log = put_at at (bytes_of (listed_from most_bytes line to)) log

unfoldable pub put_from : List ℕ → ℕ → List ℕ → Put
put_from line from log = putting (next_number line from) line log

-- the same on the first n bytes
abbrev pub put_on : ℕ → List ℕ → ℕ → List ℕ → Put
put_on n line from log = put (put_from line from (take n log)).said ((put_from line from (take n log)).list ++ drop n log)

-- what `image` and `buffer` answer, beside the words or bytes that are left: the first n become zeros, or bytes 46
pub record Lending : Type 0 where
  pub turn : Turn
  pub list : List ℕ

abbrev pub lending : Turn → List ℕ → Lending
lending t xs = record { turn = t; list = xs }

unfoldable pub lend_first : ℕ → ℕ → Desk → Desk → List ℕ → Lending
lend_first n x d e xs = cond (leb n (length xs)) (lending (turn e Fine) (replicate n x ++ drop n xs)) (lending (turn d Asked-what) xs)

abbrev pub words_for : ℕ → Desk → Image → Lending
words_for n d img = lend_first n 0 d (desk n d.bytes d.waits) img

abbrev pub bytes_for : ℕ → Desk → List ℕ → Lending
bytes_for n d log = lend_first n 46 d (desk d.words n d.waits) log

-- after a commit nothing waits
abbrev pub is_commit : A-deed → Bool
is_commit (Word i v) = false
is_commit (Format p s at) = false
is_commit (Commit at) = true
is_commit (Single a at) = false
is_commit (Recover n) = false
is_commit (Look l) = false

unfoldable pub after_deed : A-deed → Desk → Desk
after_deed x d = cond (is_commit x) (desk d.words d.bytes 0) d

-- the operations that are handed over: the first, as many as wait; where more wait than there are, none: a commit is refused for no operation as for too many
abbrev pub handed : ℕ → List Operation → List Operation
handed n ops = cond (ltb (length ops) n) [] (take n ops)

-- A LINE: what it asks for, and its bytes
unfoldable pub turn_of : Order → List ℕ → Desk → List Operation → Image → List ℕ → Outcome Turn
turn_of Nothing line d ops img log = outcome (turn d Unanswered) img log
turn_of What line d ops img log = outcome (turn d Asked-what) img log
turn_of (Lend-words n) line d ops img log = outcome (words_for n d img).turn (words_for n d img).list log
turn_of (Lend-bytes n) line d ops img log = outcome (bytes_for n d log).turn img (bytes_for n d log).list
turn_of (Bytes from) line d ops img log = outcome (turn d (put_on d.bytes line from log).said) img (put_on d.bytes line from log).list
turn_of (Wait o) line d ops img log = outcome (turn (desk d.words d.bytes (d.waits + 1)) (Waits (d.waits + 1))) img log
turn_of (Deed x) line d ops img log = answered (turn (after_deed x d)) (on_lent d (deed_of x (handed d.waits ops)) img log)
