-- The logged calls as one kind of thing, and what each makes of an image and a log buffer.
use Rattle.std.specs.Prelude.{ℕ, List}
use Rattle.kinds.specs.declared.Operation.{Operation}
use Rattle.kinds.specs.declared.Single.{Single}
use Rattle.kinds.specs.declared.Single.TheVariants.{Open, Trace, Close, Local, Hold, Drop}
use Rattle.model.specs.Image.{Image}
use Rattle.model.specs.Acts.{Act, commit, single}
use Rattle.writer.specs.Record.{ops_of}
use Rattle.journal.specs.Log.{Payloads}
use Rattle.catalogue.specs.Answers.{Answer, Closing, Freeing}
use Rattle.catalogue.specs.Answers.{Said, said, said_closing, said_freeing}
use Rattle.catalogue.specs.Call.{Outcome, format_of, commit_of, open_of, trace_of, close_of, local_of, hold_of, drop_of}

-- a call on a heap, with its arguments: a commit of operations, or an act whose record is a single line
pub data Call : Type 0 where
  commit_call : List Operation → Call
  single_call : Single → Call

-- the act that it is
abbrev pub act_of : Call → Act
act_of (commit_call ops) = commit ops
act_of (single_call a) = single a

-- payloads are 32-bit words (in code they always are)
abbrev pub Worded : Call → Type 0
Worded c = Payloads (ops_of (act_of c))

-- what a call answers, less what close and local count, and leaves: its number (0 is accepted), the length of its record, the image, the log buffer
pub record Made : Type 0 where
  pub number : ℕ
  pub length : ℕ
  pub image : Image
  pub log : List ℕ

-- by what its answer says, and which of the values there is the length
abbrev made_of : {A : Type 0} → Said A → (A → ℕ) → Image → List ℕ → Made
made_of s len img log = record { number = s.number; length = len s.value; image = img; log = log }

abbrev pub answered : Outcome Answer → Made
answered o = made_of (said o.answer) (λ n. n) o.image o.log

abbrev pub closed_up : Outcome Closing → Made
closed_up o = made_of (said_closing o.answer) (λ t. t.length) o.image o.log

abbrev pub freed_up : Outcome Freeing → Made
freed_up o = made_of (said_freeing o.answer) (λ y. y.length) o.image o.log

-- a formatting of the lent words, and a call on them, logged at a place of a buffer
abbrev pub formatting : Image → ℕ → ℕ → List ℕ → ℕ → Made
formatting img P S log at = answered (format_of img P S log at)

abbrev pub calling : Image → Call → List ℕ → ℕ → Made
calling img (commit_call ops) log at = answered (commit_of img ops log at)
calling img (single_call Open) log at = answered (open_of img log at)
calling img (single_call (Trace p)) log at = answered (trace_of img p log at)
calling img (single_call Close) log at = closed_up (close_of img log at)
calling img (single_call (Local p)) log at = freed_up (local_of img p log at)
calling img (single_call (Hold h n)) log at = answered (hold_of img h n log at)
calling img (single_call (Drop h)) log at = answered (drop_of img h log at)
