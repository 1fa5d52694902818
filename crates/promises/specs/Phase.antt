-- Demand 3: a phase, on every heap that calls reached, however commits, traces, local collections, holds, drops and recoveries are
-- mixed.
use Rattle.std.specs.Prelude.{ℕ, ◌+◌, ◌*◌, ◌≤◌, ◌<◌, true, List, [], ◌∷◌, ◌++◌, ◌≡◌, ◌≢◌, ◌⊎◌, length}
use Rattle.kinds.specs.declared.Partition.{Partition}
use Rattle.kinds.specs.declared.Single.TheVariants.{Open, Trace, Close}
use Rattle.model.specs.Image.{Image, flag, state, partitions, slots, count, get}
use Rattle.model.specs.Acts.{Act, single, unmarked}
use Rattle.model.specs.Chains.{Leads, Stays, ChainToBorn, ChainTo, birth_now}
use Rattle.model.specs.History.{traces, Unclosed, unanchored}
use Rattle.model.specs.Sound.{is_sound}
use Rattle.writer.specs.Record.{Rule, record_of}
use Rattle.journal.specs.Log.{replay}
use Rattle.catalogue.specs.Answers.{accepted, totals, said, said_closing}
use Rattle.catalogue.specs.Call.{trace_of, close_of}
use Rattle.promises.specs.Rows.{NoRoot, Clean, Lowest}
use Rattle.promises.specs.Calls.{Call, single_call, calling}

-- log room: the act's record fits from the place
abbrev pub Room : Act → List ℕ → ℕ → Type 0
Room a log at = at + length (record_of a) ≤ length log

-- given log room, a trace of p is accepted
abbrev pub Traceable : Image → Partition → Type 0
Traceable y p = (log : List ℕ) (at : ℕ) → Room (single (Trace p)) log at → said (trace_of y p log at).answer ≡ accepted (length (record_of (single (Trace p))))

-- given log room, a close is accepted, and answers word 3 and the number of unmarked objects
abbrev pub Closable : Image → Type 0
Closable y =
    (log : List ℕ) (at : ℕ) → Room (single Close) log at
    → said_closing (close_of y log at).answer ≡ accepted (totals (length (record_of (single Close))) (get y count) (unmarked (get y partitions * get y slots) y))

abbrev pub AllClean : Image → Type 0
AllClean y = (p : ℕ) → p < get y partitions → Clean y p

-- the lowest partition that is not clean is traced, again and again, wherever there is log room, until all are clean: the partitions in this order, and the heap
-- that is left
pub data LowestFirst : Image → List Partition → Image → Type 0 where
  all_clean : {y : Image} → AllClean y → LowestFirst y [] y
  tracing : {y z : Image} {ps : List Partition} (p : Partition) → Lowest y p.0 → Traceable y p
      → ((log : List ℕ) (at : ℕ) → Room (single (Trace p)) log at → LowestFirst (trace_of y p log at).image ps z) → LowestFirst y (p ∷ ps) z

-- y in a phase that has n traces in all: so few of the lowest first leave all partitions clean, and then, if a root is in use, the phase can be closed
pub record Ends (n : ℕ) (y : Image) : Type 0 where
  pub order : List Partition
  pub heap : Image
  pub lowest_first : LowestFirst y order heap
  pub few : get y count + length order ≤ n
  pub closable : (NoRoot y → ⊥) → Closable heap

-- P + W, W being the objects in use that neither a root nor a handle names at the opening, which comes after the acts `earlier`
abbrev pub most : Rule → List Act → ℕ
most h earlier = h.P + unanchored h.P h.S (replay h earlier)

-- of what an accepted close leaves
abbrev AfterClose : Image → (Image → Type 0) → Type 0
AfterClose y Q = (log : List ℕ) (at : ℕ) → (calling y (single_call Close) log at).number ≡ 0 → Q (calling y (single_call Close) log at).image

-- DEMAND 3. After the history `acts` under the heading's rule h the phase is open on the heap y
pub record Demand-3-calls (h : Rule) (acts : List Act) (y : Image) : Type 0 where
  -- P and S are words 0 and 1
  pub partitions_are : get y partitions ≡ h.P
  pub slots_are : get y slots ≡ h.S
  -- the phase was opened after the acts `earlier`, and what came since closes nothing
  pub earlier : List Act
  pub since : List Act
  pub split : acts ≡ since ++ (single Open ∷ earlier)
  pub unclosed : Unclosed since
  -- at most P + W traces, and word 3 is their number
  pub bound : traces since ≤ most h earlier
  pub counted : get y count ≡ traces since
  pub sound : is_sound y ≡ true
  -- given log room, a partition that is not clean is traced, and with all clean and a root in use the phase is closed
  pub traceable : (p : Partition) → p.0 < h.P → get y (flag p.0) ≡ 0 → Traceable y p
  pub closable : AllClean y → (NoRoot y → ⊥) → Closable y
  -- until all are clean together: from here at most P + W less word 3 traces, then the close
  pub progress : Ends (most h earlier) y
  -- no call answers 15 or 16
  pub never : (c : Call) (log : List ℕ) (at : ℕ) → ((calling y c log at).number ≢ 15) × ((calling y c log at).number ≢ 16)
  -- the close keeps every object that a root or a handle leads to, and frees every object that no chain leads to: one starts at what a root or a handle
  -- named at the opening, or at an object created since or stored as a reference since, by set, root or hold
  pub keeps : AfterClose y (λ z. (j : ℕ) → Leads h.S y j → Stays y z j)
  pub frees : AfterClose y (λ z. (j : ℕ) → j < h.P * h.S → (ChainTo h.S earlier (replay h earlier) since j → ⊥) → get z (state j) ≡ 0)
  -- and so over objects, by place and birth: one that no chain leads to is gone after the close, whether the close or a local collection freed it
  pub gone : AfterClose y (λ z. (j b : ℕ) → j < h.P * h.S → (ChainToBorn h.S earlier (replay h earlier) since j b → ⊥) → (get z (state j) ≡ 0) ⊎ (birth_now h.S earlier since j ≢ b))
  pub sound_after : AfterClose y (λ z. is_sound z ≡ true)
