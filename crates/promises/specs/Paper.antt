-- The paper's log, and what a table of numbers says: calls made one after the other, and what each replies.
use Rattle.std.specs.Prelude.{ℕ, ◌+◌, cond, List, [], ◌∷◌, ◌++◌, eqb, replicate}
use Rattle.kinds.specs.Names.{partition, named, session as handle-of}
use Rattle.kinds.specs.declared.Operation.{Operation}
use Rattle.kinds.specs.declared.Single.TheVariants.{Open, Trace, Close, Local, Hold, Drop}
use Rattle.model.specs.Image.{Image, allowance, get}
use Rattle.catalogue.specs.Answers.{Said, said, said_closing, said_freeing}
use Rattle.catalogue.specs.Call.{format_of, commit_of, open_of, trace_of, close_of, local_of, hold_of, drop_of}
use Rattle.promises.specs.Calls.{Call, commit_call, single_call, Made, formatting, calling}

-- the log of the paper's example, byte by byte, under a heading of edition e
abbrev pub paper_log : ℕ → List ℕ
paper_log e =
    -- heap e 2 4
    104 ∷ 101 ∷ 97 ∷ 112 ∷ 9 ∷ (48 + e) ∷ 9 ∷ 50 ∷ 9 ∷ 52 ∷ 10 ∷
    -- new 0 0 10
    110 ∷ 101 ∷ 119 ∷ 9 ∷ 48 ∷ 9 ∷ 48 ∷ 9 ∷ 49 ∷ 48 ∷ 10 ∷
    -- new 1 0 20
    110 ∷ 101 ∷ 119 ∷ 9 ∷ 49 ∷ 9 ∷ 48 ∷ 9 ∷ 50 ∷ 48 ∷ 10 ∷
    -- new 0 1 30
    110 ∷ 101 ∷ 119 ∷ 9 ∷ 48 ∷ 9 ∷ 49 ∷ 9 ∷ 51 ∷ 48 ∷ 10 ∷
    -- set 0 0 0 1 0
    115 ∷ 101 ∷ 116 ∷ 9 ∷ 48 ∷ 9 ∷ 48 ∷ 9 ∷ 48 ∷ 9 ∷ 49 ∷ 9 ∷ 48 ∷ 10 ∷
    -- set 1 0 0 0 1
    115 ∷ 101 ∷ 116 ∷ 9 ∷ 49 ∷ 9 ∷ 48 ∷ 9 ∷ 48 ∷ 9 ∷ 48 ∷ 9 ∷ 49 ∷ 10 ∷
    -- root 0 0 0
    114 ∷ 111 ∷ 111 ∷ 116 ∷ 9 ∷ 48 ∷ 9 ∷ 48 ∷ 9 ∷ 48 ∷ 10 ∷
    -- end 6
    101 ∷ 110 ∷ 100 ∷ 9 ∷ 54 ∷ 10 ∷
    -- open
    111 ∷ 112 ∷ 101 ∷ 110 ∷ 10 ∷
    -- trace 1
    116 ∷ 114 ∷ 97 ∷ 99 ∷ 101 ∷ 9 ∷ 49 ∷ 10 ∷
    -- trace 0
    116 ∷ 114 ∷ 97 ∷ 99 ∷ 101 ∷ 9 ∷ 48 ∷ 10 ∷
    -- trace 1
    116 ∷ 114 ∷ 97 ∷ 99 ∷ 101 ∷ 9 ∷ 49 ∷ 10 ∷
    -- trace 0
    116 ∷ 114 ∷ 97 ∷ 99 ∷ 101 ∷ 9 ∷ 48 ∷ 10 ∷
    -- close
    99 ∷ 108 ∷ 111 ∷ 115 ∷ 101 ∷ 10 ∷
    []

-- three objects in a chain from root 0, the phase shut; the last two are named from another partition; handle 31 holds the word w
abbrev pub three_holding : ℕ → List ℕ
three_holding w =
    -- P, S, phase, count, allowance
    2 ∷ 4 ∷ 0 ∷ 0 ∷ 0 ∷
    -- roots
    1 ∷ 0 ∷ 0 ∷ 0 ∷ 0 ∷ 0 ∷ 0 ∷ 0 ∷ 0 ∷ 0 ∷ 0 ∷ 0 ∷ 0 ∷ 0 ∷ 0 ∷ 0 ∷
    -- flags
    0 ∷ 0 ∷ 0 ∷ 0 ∷ 0 ∷ 0 ∷ 0 ∷ 0 ∷ 0 ∷ 0 ∷ 0 ∷ 0 ∷ 0 ∷ 0 ∷ 0 ∷ 0 ∷
    -- handles
    0 ∷ 0 ∷ 0 ∷ 0 ∷ 0 ∷ 0 ∷ 0 ∷ 0 ∷ 0 ∷ 0 ∷ 0 ∷ 0 ∷ 0 ∷ 0 ∷ 0 ∷ 0 ∷ 0 ∷ 0 ∷ 0 ∷ 0 ∷ 0 ∷ 0 ∷ 0 ∷ 0 ∷ 0 ∷ 0 ∷ 0 ∷ 0 ∷ 0 ∷ 0 ∷ 0 ∷ w ∷
    -- slot 0 of partition 0
    1 ∷ 10 ∷ 129 ∷ 0 ∷ 0 ∷ 0 ∷ 0 ∷
    -- slot 1 of partition 0
    1 ∷ 30 ∷ 0 ∷ 0 ∷ 0 ∷ 0 ∷ 1 ∷
    -- slot 2 of partition 0
    0 ∷ 0 ∷ 0 ∷ 0 ∷ 0 ∷ 0 ∷ 0 ∷
    -- slot 3 of partition 0
    0 ∷ 0 ∷ 0 ∷ 0 ∷ 0 ∷ 0 ∷ 0 ∷
    -- slot 0 of partition 1
    1 ∷ 20 ∷ 2 ∷ 0 ∷ 0 ∷ 0 ∷ 1 ∷
    -- slot 1 of partition 1
    0 ∷ 0 ∷ 0 ∷ 0 ∷ 0 ∷ 0 ∷ 0 ∷
    -- slot 2 of partition 1
    0 ∷ 0 ∷ 0 ∷ 0 ∷ 0 ∷ 0 ∷ 0 ∷
    -- slot 3 of partition 1
    0 ∷ 0 ∷ 0 ∷ 0 ∷ 0 ∷ 0 ∷ 0 ∷
    []

abbrev pub three_objects : List ℕ
three_objects = three_holding 0

-- what a call answers, in a table: done; an open with the allowance; a close with the traces counted and the number freed; a local with the number freed; or
-- refused, with the number and the extra answer
pub data Reply : Type 0 where
  done : Reply
  opened freed : ℕ → Reply
  closed : ℕ → ℕ → Reply
  refused : ℕ → ℕ → Reply

-- number 0 is accepted, and then the reply is r
abbrev pub reply : {A : Type 0} → Said A → Reply → Reply
reply s r = cond (eqb s.number 0) r (refused s.number s.extra)

-- a call's reply, logged at a place of a buffer; the allowance is word 4 of the image that an open leaves
abbrev replied : Image → Call → List ℕ → ℕ → Reply
replied img (commit_call ops) log at = reply (said (commit_of img ops log at).answer) done
replied img (single_call Open) log at = reply (said (open_of img log at).answer) (opened (get (open_of img log at).image allowance))
replied img (single_call (Trace p)) log at = reply (said (trace_of img p log at).answer) done
replied img (single_call Close) log at =
    let s = said_closing (close_of img log at).answer in
    reply s (closed s.value.count s.value.freed)
replied img (single_call (Local p)) log at =
    let s = said_freeing (local_of img p log at).answer in
    reply s (freed s.value.freed)
replied img (single_call (Hold h n)) log at = reply (said (hold_of img h n log at).answer) done
replied img (single_call (Drop h)) log at = reply (said (drop_of img h log at).answer) done

-- after some calls: what each replied, the image, the log buffer, and the byte where the last record ends
pub record Session : Type 0 where
  pub replies : List Reply
  pub image : Image
  pub log : List ℕ
  pub end : ℕ

abbrev pub after : List Reply → Reply → Made → ℕ → Session
after earlier r m at = record { replies = earlier ++ (r ∷ []); image = m.image; log = m.log; end = at + m.length }

-- two partitions of four slots are formatted, over words and bytes that are no zeros
abbrev pub begun : Session
begun =
    let img : Image = replicate 125 7 in
    let log : List ℕ = replicate 200 255 in
    after [] (reply (said (format_of img 2 4 log 0).answer) done) (formatting img 2 4 log 0) 0

-- the next call, logged where the last record ends
abbrev pub next : Session → Call → Session
next s c = after s.replies (replied s.image c s.log s.end) (calling s.image c s.log s.end) s.end

abbrev pub continued : Session → List Call → Session
continued s [] = s
continued s (c ∷ cs) = continued (next s c) cs

-- a formatting, and then these calls in turn
abbrev pub session : List Call → Session
session cs = continued begun cs

-- a commit of some operations; the opening and the closing of a phase; a trace and a local collection of a partition; a hold and a drop
abbrev pub committing : List Operation → Call
committing os = commit_call os

abbrev pub opening : Call
opening = single_call Open

abbrev pub closing : Call
closing = single_call Close

abbrev pub tracing : ℕ → Call
tracing p = single_call (Trace (partition p))

abbrev pub localizing : ℕ → Call
localizing p = single_call (Local (partition p))

abbrev pub holding : ℕ → ℕ → ℕ → Call
holding h p s = single_call (Hold (handle-of h) (named p s))

abbrev pub dropping : ℕ → Call
dropping h = single_call (Drop (handle-of h))
