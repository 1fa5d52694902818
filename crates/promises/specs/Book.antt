-- Demand 2: a book is kept of the calls since a formatting or a recovery, each record logged where the last one ends.
use Rattle.std.specs.Prelude.{ℕ, ◌+◌, List, [], ◌∷◌, ◌≡◌, ◌≢◌, length, take, drop}
use Rattle.model.specs.Image.{Image}
use Rattle.model.specs.Acts.{Act}
use Rattle.writer.specs.Record.{Rule, newest}
use Rattle.journal.specs.Log.{log_of, Kept}
use Rattle.journal.specs.Recover.{recover_of}
use Rattle.promises.specs.Calls.{Call, Worded, act_of, formatting, calling}
use Rattle.promises.specs.World.{Replayed}

-- the n bytes of a log buffer from a place on
abbrev pub bytes_at : ℕ → ℕ → List ℕ → List ℕ
bytes_at from n log = take n (drop from log)

-- A book of a history under its log's rule: the image now, the place in the log buffer where the book begins, its bytes so far (the next record goes behind
-- them), and the log buffer. (Outlist, read, ask and why leave both as found.)
pub data Book : Rule → List Act → Image → ℕ → ℕ → List ℕ → Type 0 where
  -- any words and any log buffer, formatted at any place
  formatted : (img : Image) (P S : ℕ) (log : List ℕ) (from : ℕ) → (formatting img P S log from).number ≡ 0
      → Book (newest P S) [] (formatting img P S log from).image from (formatting img P S log from).length (formatting img P S log from).log
  -- any log that recovery keeps, of whatever edition, into as many words as it asks for: its history is what its kept lines say
  adopted : {h : Rule} {acts : List Act} (log : List ℕ) (len : ℕ) → Kept log len h acts
      → Book h acts (recover_of log len).image 0 (recover_of log len).kept log
  -- an accepted call, logged behind the last record
  called : {h : Rule} {acts : List Act} {img : Image} {from n : ℕ} {log : List ℕ} → Book h acts img from n log
      → (c : Call) → Worded c → (calling img c log (from + n)).number ≡ 0
      → Book h (act_of c ∷ acts) (calling img c log (from + n)).image from (n + (calling img c log (from + n)).length) (calling img c log (from + n)).log
  -- a refused call, at whatever place
  refused : {h : Rule} {acts : List Act} {img : Image} {from n : ℕ} {log : List ℕ} → Book h acts img from n log
      → (c : Call) (at : ℕ) → (calling img c log at).number ≢ 0 → Book h acts (calling img c log at).image from n (calling img c log at).log
  -- a refused formatting, likewise
  unformatted : {h : Rule} {acts : List Act} {img : Image} {from n : ℕ} {log : List ℕ} → Book h acts img from n log
      → (P S at : ℕ) → (formatting img P S log at).number ≢ 0 → Book h acts (formatting img P S log at).image from n (formatting img P S log at).log
  -- the book's bytes moved to another place of this or another log buffer
  moved : {h : Rule} {acts : List Act} {img : Image} {from n : ℕ} {log : List ℕ} → Book h acts img from n log
      → (other : List ℕ) (to : ℕ) → bytes_at to n other ≡ bytes_at from n log → Book h acts img to n other

-- the n bytes from a place on are the log of a history
pub record LogAt (h : Rule) (acts : List Act) (from n : ℕ) (log : List ℕ) : Type 0 where
  pub bytes : bytes_at from n log ≡ log_of h acts
  pub ends : n ≡ length (log_of h acts)

-- what a book keeps: its bytes are the log of its history, and the image is what the history leaves
pub record Keeps (h : Rule) (acts : List Act) (img : Image) (from n : ℕ) (log : List ℕ) : Type 0 where
  pub replayed : Replayed h acts img
  pub log_at : LogAt h acts from n log
