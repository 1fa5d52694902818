-- The table of refusals, for recovery: its rows stand in journal/specs/Refusals.antt.
use Rattle.std.specs.Prelude.{ℕ, List, length}
use Rattle.kinds.specs.Answers.{refuse}
use Rattle.model.specs.Acts.{Act}
use Rattle.writer.specs.Record.{Rule, terms_of}
use Rattle.journal.specs.Log.{log_of, replay, Kept}
use Rattle.journal.specs.Recover.{Recovered, recovery, refusal}
use Rattle.journal.specs.Refusals.{RefusesBy, Located}
use Rattle.promises.specs.Rows.{Found, WrongSize, act_rows}

-- refused with a number at a line: 2 as of format, S by the heading's edition; an act by the list that its call has
abbrev pub Refuses : ℕ → List ℕ → ℕ → ℕ → Type 0
Refuses = RefusesBy (λ h len. WrongSize (terms_of h).slots h.P h.S len) (λ P S y a k e. Found (act_rows y a) (refuse k e))

-- RECOVERY of a log into `len` words, and the byte: what it says is kept, to the end of its last record, and 0; or refused, all zeros, a kept length of 0, and
-- where the fault is in the refused line
pub data Recovers (log : List ℕ) (len : ℕ) : Recovered → ℕ → Type 0 where
  kept : (h : Rule) (acts : List Act) → Kept log len h acts → Recovers log len (recovery (length (log_of h acts)) (replay h acts)) 0
  refused : (k l b : ℕ) → Refuses len log k l → Located log k l b → Recovers log len (refusal len k l) b
