-- Restore sessions, as the customer asked for them: from a hold on, whatever calls but formatting and recovery are made, the object that the handle
-- names, and all that it leads to at each moment, is in use, until that handle is dropped or takes another object.
use Rattle.std.specs.Prelude.{ℕ, true, ◌<◌, List, [], ◌∷◌, ◌≡◌, ◌≢◌, Some, Ok}
use Rattle.std.specs.Result.{is_ok}
use Rattle.kinds.specs.Names.{word_of}
use Rattle.kinds.specs.declared.Name.{Name}
use Rattle.kinds.specs.declared.Handle.{Handle}
use Rattle.kinds.specs.declared.Single.{Single}
use Rattle.kinds.specs.declared.Single.TheVariants.{Hold}
use Rattle.model.specs.Image.{Image, handle, state, partitions, slots, get, place}
use Rattle.model.specs.Acts.{Act}
use Rattle.model.specs.Chains.{LeadsFrom, Step, steps, birth}
use Rattle.model.specs.Sessions.{Retains}
use Rattle.catalogue.specs.Call.{reading_of, asked_of}
use Rattle.promises.specs.Calls.{Call, single_call, act_of, formatting, calling}

-- The handle h took the object n, on any words x: the acts accepted since, the last first, and the image now. No accepted call drops the handle or has
-- it take another object (`Retains`), no formatting is accepted and no log recovered; all else may be called. (Outlist, read, ask and why leave the image
-- as found.)
pub data HeldSince (h : Handle) (n : Name) (x : Image) : List Act → Image → Type 0 where
  held : (log : List ℕ) (at : ℕ) → (calling x (single_call (Hold h n)) log at).number ≡ 0
      → HeldSince h n x [] (calling x (single_call (Hold h n)) log at).image
  called : {acts : List Act} {y : Image} → HeldSince h n x acts y
      → (c : Call) → Retains h n (act_of c) → (log : List ℕ) (at : ℕ) → (calling y c log at).number ≡ 0
      → HeldSince h n x (act_of c ∷ acts) (calling y c log at).image
  refused : {acts : List Act} {y : Image} → HeldSince h n x acts y
      → (c : Call) (log : List ℕ) (at : ℕ) → (calling y c log at).number ≢ 0 → HeldSince h n x acts (calling y c log at).image
  unformatted : {acts : List Act} {y : Image} → HeldSince h n x acts y
      → (P S : ℕ) (log : List ℕ) (at : ℕ) → (formatting y P S log at).number ≢ 0 → HeldSince h n x acts (formatting y P S log at).image

-- the handle leads to the object m: P and S are words 0 and 1
pub record LedBy (y : Image) (h : Handle) (m : Name) : Type 0 where
  pub partition : m.partition.0 < get y partitions
  pub slot : m.slot.0 < get y slots
  pub leads : LeadsFrom (get y slots) y (handle h.0) (place (get y slots) m)

-- an object in use, as a user sees it: its slot is not free, read is accepted, and ask answers yes
pub record InSight (y : Image) (m : Name) : Type 0 where
  pub in_use : get y (state (place (get y slots) m)) ≢ 0
  pub read : is_ok (reading_of y m) ≡ true
  pub asked : asked_of y m ≡ Ok true

-- what is promised of the image y, after the acts since
pub record Holds (h : Handle) (n : Name) (since : List Act) (y : Image) : Type 0 where
  -- the handle's word names the object, so that the handle leads to it
  pub word : get y (handle h.0) ≡ word_of (Some n)
  pub names : LedBy y h n
  -- it, and all that the handle leads to now, is in use
  pub led : (m : Name) → LedBy y h m → InSight y m
  -- and it is the object that was held: none was created in its slot since, whatever came before
  pub same : (before : List Step) → birth (get y slots) (steps since before) (place (get y slots) n) ≡ birth (get y slots) before (place (get y slots) n)
  -- no call but a commit changes what read answers of all these, not even the drop of the handle
  pub steady : (a : Single) (log : List ℕ) (at : ℕ) (m : Name) → LedBy y h m → reading_of (calling y (single_call a) log at).image m ≡ reading_of y m
