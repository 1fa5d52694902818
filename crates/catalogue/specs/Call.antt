-- What each public call answers and leaves: one definition of its inputs, accepted or refused.
use Rattle.std.specs.Prelude.{ℕ, ◌+◌, ◌*◌, cond, List, leb, length, Result, Ok, Err}
use Rattle.kinds.specs.declared.Name.{Name}
use Rattle.kinds.specs.declared.Handle.{Handle}
use Rattle.kinds.specs.declared.Partition.{Partition}
use Rattle.kinds.specs.declared.Operation.{Operation}
use Rattle.kinds.specs.declared.Single.{Single}
use Rattle.kinds.specs.declared.Single.TheVariants.{Open, Trace, Close, Local, Hold, Drop}
use Rattle.kinds.specs.declared.Refusal.{Refusal}
use Rattle.kinds.specs.Answers.{Verdict, Reason}
use Rattle.model.specs.Image.{Image, partitions, slots, count, get, length_of, blank, place}
use Rattle.model.specs.Acts.{Act, commit, single, unmarked, local_freed, apply}
use Rattle.model.specs.Judge.{check, judge, judge_format, judge_outlist, judge_name}
use Rattle.model.specs.Questions.{read_of, ask}
use Rattle.model.specs.Outlist.{outlist}
use Rattle.model.specs.Sound.{is_sound}
use Rattle.holding.specs.Finding.{Explained, explained, held_of}
use Rattle.writer.specs.Record.{record_of, newest, heading_of}
use Rattle.writer.specs.Write.{splice}
use Rattle.catalogue.specs.declared.Subject.{Subject}
use Rattle.catalogue.specs.declared.Subject.TheVariants.{Single as Acting, Outlist as Foreign, Object}
use Rattle.catalogue.specs.Answers.{Answer, Asked, Closing, Freeing, Listing, Reading, totals, yield}

-- 17, judged last
abbrev pub no_room : Refusal
no_room = record { number = 17; extra = 0 }

-- a logged call's answer, and the image and the log buffer that it leaves
pub record Outcome (A : Type 0) : Type 0 where
  pub answer : A
  pub image : Image
  pub log : List ℕ

module _ {A : Type 0} where
  abbrev pub outcome : A → Image → List ℕ → Outcome A
  outcome a img log = record { answer = a; image = img; log = log }

  -- refused: image and log buffer stay. Accepted: 17 where the record does not fit from the place, else the next image, and the record in its place
  unfoldable pub perform : (ℕ → A) → (Refusal → A) → Verdict → List ℕ → Image → Image → List ℕ → ℕ → Outcome A
  perform done refused (Err r) bytes next img log at = outcome (refused r) img log
  perform done refused (Ok _) bytes next img log at =
      cond (leb (at + length bytes) (length log)) (outcome (done (length bytes)) next (splice log at bytes))
      (outcome (refused no_room) img log)

-- P and S are words 0 and 1
abbrev pub judge_in : Image → Act → Verdict
judge_in img a = judge (get img partitions) (get img slots) img a

abbrev pub apply_in : Image → Act → Image
apply_in img a = apply (get img partitions) (get img slots) img a

-- 1 comes first
unfoldable pub judge_act : Image → Act → Verdict
judge_act img a = check (is_sound img) 1 0 (judge_in img a)

-- FORMAT 2, 17
unfoldable pub format_of : Image → ℕ → ℕ → List ℕ → ℕ → Outcome Answer
format_of img P S log at = perform Ok Err (judge_format P S (length_of img)) (heading_of (newest P S)) (blank P S) img log at

-- an act's call, whatever the form of its answer: 1, the act's own list, 17
module _ {A : Type 0} where
  unfoldable pub call_by : (ℕ → A) → (Refusal → A) → Image → Act → List ℕ → ℕ → Outcome A
  call_by done refused img a log at = perform done refused (judge_act img a) (record_of a) (apply_in img a) img log at

-- where the length of its record is all that it answers
abbrev pub call_of : Image → Act → List ℕ → ℕ → Outcome Answer
call_of img a log at = call_by Ok Err img a log at

-- what comes before the act itself: it is judged, and its line written
abbrev pub admitted : Image → Single → List ℕ → ℕ → Outcome Answer
admitted img a log at = perform Ok Err (judge_act img (single a)) (record_of (single a)) img img log at

-- COMMIT 1, 6, each operation in turn, 17
abbrev pub commit_of : Image → List Operation → List ℕ → ℕ → Outcome Answer
commit_of img ops log at = call_of img (commit ops) log at

-- OPEN 1, 11, 12, 17
abbrev pub open_of : Image → List ℕ → ℕ → Outcome Answer
open_of img log at = call_of img (single Open) log at

-- TRACE 1, 10, 7, 13, 15, 17
abbrev pub trace_of : Image → Partition → List ℕ → ℕ → Outcome Answer
trace_of img p log at = call_of img (single (Trace p)) log at

-- CLOSE 1, 10, 12, 14, 16, 17; it answers the count and the number freed
abbrev pub closed : Image → ℕ → Closing
closed img n = Ok (totals n (get img count) (unmarked (get img partitions * get img slots) img))

abbrev pub close_of : Image → List ℕ → ℕ → Outcome Closing
close_of img log at = call_by (closed img) Err img (single Close) log at

-- LOCAL 1, 7, 12, 17; it answers the number freed
abbrev pub freed : Image → Partition → ℕ → Freeing
freed img p n = Ok (yield n (local_freed (get img partitions) (get img slots) p.0 img))

abbrev pub local_of : Image → Partition → List ℕ → ℕ → Outcome Freeing
local_of img p log at = call_by (freed img p) Err img (single (Local p)) log at

-- HOLD 1, 7, 9, 17
abbrev pub hold_of : Image → Handle → Name → List ℕ → ℕ → Outcome Answer
hold_of img h n log at = call_of img (single (Hold h n)) log at

-- DROP 1, 7, 17
abbrev pub drop_of : Image → Handle → List ℕ → ℕ → Outcome Answer
drop_of img h log at = call_of img (single (Drop h)) log at

-- OUTLIST 1, 7
unfoldable pub judge_foreign : Image → Partition → Verdict
judge_foreign img p = check (is_sound img) 1 0 (judge_outlist (get img partitions) p.0)

-- READ and ASK 1, 7, 9, and so WHY before its own
unfoldable pub judge_object : Image → Name → Verdict
judge_object img n = check (is_sound img) 1 0 (judge_name (get img partitions) (get img slots) img n)

-- the verdict on each call but format and commit
abbrev pub judge_subject : Image → Subject → Verdict
judge_subject img (Acting a) = judge_act img (single a)
judge_subject img (Foreign p) = judge_foreign img p
judge_subject img (Object n) = judge_object img n

-- a question's answer, unless it is refused
module _ {A : Type 0} where
  abbrev pub answered : Verdict → A → Result A Refusal
  answered (Ok _) a = Ok a
  answered (Err r) a = Err r

unfoldable pub reading_of : Image → Name → Reading
reading_of img n = answered (judge_object img n) (read_of img (place (get img slots) n))

unfoldable pub listing_of : Image → Partition → Listing
listing_of img p = answered (judge_foreign img p) (outlist (get img partitions) (get img slots) p.0 img)

unfoldable pub asked_of : Image → Name → Asked
asked_of img n = answered (judge_object img n) (ask (get img partitions) (get img slots) img (place (get img slots) n))

-- refused: the lent words stay
abbrev pub reasoned : Verdict → Explained Reason → List ℕ → Explained Reason
reasoned (Ok _) o words = o
reasoned (Err x) o words = explained (Err x) words

-- WHY 1, 7, 9, 18, 19
unfoldable pub why_of : Image → Name → List ℕ → Explained Reason
why_of img n words =
    reasoned (judge_object img n)
    (held_of (get img partitions * get img slots) (get img slots) img (place (get img slots) n) words) words
