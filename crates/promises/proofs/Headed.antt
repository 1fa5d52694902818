-- Words 0 and 1 of a heap under a rule, and so what an accepted call is there: an act accepted where it stands.
-- Assumes nothing.
use Prim.Native.Nat.{ℕ}
use mathlib.Core.Path.{◌≡◌, ◌∙◌}
use mathlib.Core.Bool.{true}
use mathlib.Core.List.{List}
use lib.Dec.{eqb}
use Rattle.loops.proofs.Tests.{both_true}
use Rattle.kinds.specs.Answers.{allowed}
use Rattle.model.specs.Image.{Image, partitions, slots, get, size, blank}
use Rattle.model.specs.Acts.{Act, apply}
use Rattle.model.specs.History.{Run}
use Rattle.model.specs.Judge.{in_limits, judge_format, judge}
use Rattle.model.proofs.Committing.{check_true}
use Rattle.model.proofs.Keys.{blank_partitions, blank_slots}
use Rattle.model.proofs.SoundnessActs.{blank_sound, run_kept}
use Rattle.promises.specs.Calls.{Call, act_of, calling}
use Rattle.promises.proofs.Calling.{judge_call, call_judged, call_accepted}

pub record Headed (P S : ℕ) (y : Image) : Type 0 where
  pub partitions_are : get y partitions ≡ P
  pub slots_are : get y slots ≡ S

pub reached_headed : (P S : ℕ) → in_limits P S ≡ true → {acts : List Act} {y : Image} → Run P S (blank P S) acts y → Headed P S y
reached_headed P S good r =
    let k = run_kept P S (blank P S) (blank_sound P S good) r in
    record { partitions_are = k.partitions_same ∙ blank_partitions P S; slots_are = k.slots_same ∙ blank_slots P S }

-- an accepted formatting has P and S in range
pub format_limits : (P S n : ℕ) → judge_format P S n ≡ allowed → in_limits P S ≡ true
unfolding judge_format
format_limits P S n e = (both_true (in_limits P S) (eqb n (size P S)) (check_true _ _ _ _ e).0).0

-- an accepted call is an act accepted where it stands, and leaves what the act leaves
call_acts : (P S : ℕ) (y : Image) (c : Call) → Headed P S y → judge_call y c ≡ allowed → judge P S y (act_of c) ≡ allowed
call_acts P S y c h e = rw (h.partitions_are, h.slots_are) at (call_judged y c e).1

pub call_leaves : (P S : ℕ) (y : Image) (c : Call) (log : List ℕ) (at : ℕ) → Headed P S y → (calling y c log at).number ≡ 0
    → (judge P S y (act_of c) ≡ allowed) × ((calling y c log at).image ≡ apply P S y (act_of c))
call_leaves P S y c log at h z =
    let m = call_accepted y c log at z in
    (call_acts P S y c h m.judged, m.image_is ∙ rw (h.partitions_are, h.slots_are))
