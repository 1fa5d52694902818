-- Reached: whatever calls are made from any words, in whatever order, with any arguments, log buffers and places each time.
use Rattle.std.specs.Prelude.{ℕ, true, List, [], ◌∷◌, ◌≡◌, ◌≢◌, ◌⊎◌, replicate}
use Rattle.kinds.specs.Answers.{allowed}
use Rattle.model.specs.Image.{Image, partitions, slots, get, length_of}
use Rattle.model.specs.Acts.{Act}
use Rattle.model.specs.History.{Run}
use Rattle.model.specs.Sound.{is_sound}
use Rattle.writer.specs.Record.{Rule, newest}
use Rattle.journal.specs.Log.{replay, History, Kept}
use Rattle.journal.specs.Recover.{recover_of}
use Rattle.promises.specs.Calls.{Call, act_of, Worded, formatting, calling}

-- what the image comes from: the words as they were lent, zeros, or a log
pub data Origin : Type 0 where
  -- never formatted: no accepted formatting and no recovery
  as_lent : Origin
  -- a refused recovery was the last
  emptied : Origin
  -- an accepted formatting or recovery was the last: what the log's heading says
  logged : Rule → Origin

-- From the lent words w: where the image comes from, its acts, the last first, and the image. The acts are those accepted since the words were lent; of a log
-- the whole kept history: those that it says and those accepted since. (Outlist, read, ask and why leave the image as found.)
pub data World (w : Image) : Origin → List Act → Image → Type 0 where
  lent : World w as_lent [] w
  formatted : {o : Origin} {acts : List Act} {x : Image} → World w o acts x
      → (P S : ℕ) (log : List ℕ) (at : ℕ) → (formatting x P S log at).number ≡ 0 → World w (logged (newest P S)) [] (formatting x P S log at).image
  unformatted : {o : Origin} {acts : List Act} {x : Image} → World w o acts x
      → (P S : ℕ) (log : List ℕ) (at : ℕ) → (formatting x P S log at).number ≢ 0 → World w o acts (formatting x P S log at).image
  called : {o : Origin} {acts : List Act} {x : Image} → World w o acts x
      → (c : Call) → Worded c → (log : List ℕ) (at : ℕ) → (calling x c log at).number ≡ 0 → World w o (act_of c ∷ acts) (calling x c log at).image
  refused : {o : Origin} {acts : List Act} {x : Image} → World w o acts x
      → (c : Call) (log : List ℕ) (at : ℕ) → (calling x c log at).number ≢ 0 → World w o acts (calling x c log at).image
  -- a log that says a history, recovered into the lent words: every accepted recovery of any bytes is one of these (`any_bytes` of journal)
  recovered : {o : Origin} {acts : List Act} {x : Image} → World w o acts x
      → (log : List ℕ) (h : Rule) (kept : List Act) → Kept log (length_of x) h kept → World w (logged h) kept (recover_of log (length_of x)).image
  unrecovered : {o : Origin} {acts : List Act} {x : Image} → World w o acts x
      → (log : List ℕ) → (recover_of log (length_of x)).verdict ≢ allowed → World w emptied [] (recover_of log (length_of x)).image

-- never formatted: the words as they were lent, or what accepted acts made of them, which then were a sound image
pub record Lent (w : Image) (acts : List Act) (x : Image) : Type 0 where
  pub run : Run (get w partitions) (get w slots) w acts x
  pub start : (acts ≡ []) ⊎ (is_sound w ≡ true)

-- zeros, and nothing accepted since
pub record Emptied (acts : List Act) (x : Image) : Type 0 where
  pub zeros : x ≡ replicate (length_of x) 0
  pub none_since : acts ≡ []

-- the replay of the kept history, each act of it accepted where it stands
pub record Replayed (h : Rule) (acts : List Act) (x : Image) : Type 0 where
  pub history : History h acts
  pub image_is : x ≡ replay h acts

-- what is promised of each
abbrev pub Stands : Image → Origin → List Act → Image → Type 0
Stands w as_lent acts x = Lent w acts x
Stands w emptied acts x = Emptied acts x
Stands w (logged h) acts x = Replayed h acts x
