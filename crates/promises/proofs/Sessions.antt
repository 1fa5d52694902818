-- Restore sessions over calls: from an accepted hold on any words, whatever calls but formatting and recovery are made, the object that the handle names, and all
-- that it leads to at each moment, is in use, until that handle is dropped or takes another object; and no call but a commit changes what read answers of them.
-- Assumes nothing.
use Prim.Native.Nat.{ℕ, ◌<◌}
use mathlib.Core.Path.{◌≡◌, refl, sym, ap, ◌∙◌, subst}
use mathlib.Core.List.{List}
use mathlib.Core.Logic.{⊎_elim}
use native.Mathlib.Omega.{arith}
use borrow.Author.Tests.{lt-ltb}
use Rattle.loops.proofs.Tests.{eq_or_ne}
use Rattle.kinds.specs.declared.Name.{Name}
use Rattle.kinds.specs.declared.Handle.{Handle}
use Rattle.kinds.specs.declared.Single.{Single}
use Rattle.kinds.specs.declared.Single.TheVariants.{Hold}
use Rattle.std.specs.Prelude.{Ok}
use Rattle.kinds.specs.Answers.{allowed}
use Rattle.std.specs.Result.{is_ok}
use Rattle.model.specs.Image.{Image, partitions, slots, get, place}
use Rattle.model.specs.Spread.{start}
use Rattle.model.specs.Acts.{Act, single, apply}
use Rattle.model.specs.Judge.{check, judge_name, judge}
use Rattle.model.specs.History.{still, acted}
use Rattle.model.specs.Questions.{read_of}
use Rattle.model.specs.Chains.{Leads}
use Rattle.model.specs.Sound.{Sound}
use Rattle.model.specs.Sessions.{Retaining, Remains}
use Rattle.model.proofs.Demand.{run_append}
use Rattle.model.proofs.Sessions.{handle_leads, leads_used, hold_in, retaining_run, sessions as acts-session, spared}
use Rattle.model.proofs.Soundness.{sound_true, sound_back, used_back}
use Rattle.model.proofs.SoundnessActs.{Kept, run_kept}
use Rattle.catalogue.specs.Call.{judge_object, reading_of}
use Rattle.promises.specs.Calls.{single_call, act_of, calling}
use Rattle.promises.specs.Effects.{Present}
use Rattle.promises.specs.Sessions.{HeldSince, held, called, refused, unformatted, InSight, Holds}
use Rattle.promises.proofs.Calling.{call_judged, call_accepted, refused_leaves, refused_format_leaves}
use Rattle.promises.proofs.Effects.{ask_yes}
use Rattle.promises.proofs.Headed.{Headed, call_leaves}

-- what read answers of an object in use
present_read : (img : Image) (m : Name) → Present img m → reading_of img m ≡ Ok (read_of img (place (get img slots) m))
unfolding reading_of judge_object judge_name check
present_read img m p = rw (sound_back img p.sound, lt-ltb _ _ p.partition, lt-ltb _ _ p.slot, used_back img _ p.in_use)

-- an object with the same payload and fields reads the same
same_record : (x y : Image) (j : ℕ) → Remains x y j → read_of y j ≡ read_of x j
unfolding read_of
same_record x y j r = rw (r.value, r.fields 0 (omega arith), r.fields 1 (omega arith), r.fields 2 (omega arith), r.fields 3 (omega arith))

same_reading : (y z : Image) (m : Name) → Present y m → Present z m → get z slots ≡ get y slots → Remains y z (place (get y slots) m) → reading_of z m ≡ reading_of y m
same_reading y z m p q e r =
    present_read z m q
    ∙ ap Ok (rw e (same_record y z (place (get y slots) m) r))
    ∙ sym (present_read y m p)

-- an object to which a root or a handle leads, in a sound image
module _ (y : Image) (s : Sound y) (m : Name) (lp : m.partition.0 < get y partitions) (ls : m.slot.0 < get y slots) (c : Leads (get y slots) y (place (get y slots) m)) where
  present : Present y m
  present = record { sound = s; partition = lp; slot = ls; in_use = (leads_used (get y partitions) (get y slots) y s _ c).1 }

  in_sight : InSight y m
  in_sight =
      record {
        in_use = present.in_use;
        read = ap is_ok (present_read y m present);
        asked = (ask_yes y m).so (record { present = present; leads = c });
      }

  -- a call that is no commit leaves what read answers of it
  accepted_same : (a : Single) → judge (get y partitions) (get y slots) y (single a) ≡ allowed
      → reading_of (apply (get y partitions) (get y slots) y (single a)) m ≡ reading_of y m
  accepted_same a j =
      let r = spared (get y partitions) (get y slots) y s (place (get y slots) m) c a j in
      let k = run_kept (get y partitions) (get y slots) y s (acted (single a) still j) in
      same_reading y _ m present
      (record {
        sound = rw (k.partitions_same, k.slots_same) k.sound;
        partition = rw k.partitions_same lp;
        slot = rw k.slots_same ls;
        in_use = rw k.slots_same r.used;
      })
      k.slots_same r

  reads_same : (a : Single) (log : List ℕ) (at : ℕ) → reading_of (calling y (single_call a) log at).image m ≡ reading_of y m
  reads_same a log at =
      ⊎_elim
      (λ z. let k = call_accepted y (single_call a) log at z in rw k.image_is (accepted_same a (call_judged y (single_call a) k.judged).1))
      (λ ne. rw (refused_leaves y (single_call a) log at ne).image_is)
      (eq_or_ne (calling y (single_call a) log at).number 0)

module _ (h : Handle) (n : Name) (x : Image) where
  -- the calls since a hold as acts, P and S being words 0 and 1 of x
  record Going (since : List Act) (y : Image) : Type 0 where
    sound : Sound x
    judged : judge (get x partitions) (get x slots) x (single (Hold h n)) ≡ allowed
    run : Retaining (get x partitions) (get x slots) h n (apply (get x partitions) (get x slots) x (single (Hold h n))) since y

  kept : {since : List Act} {y : Image} → Going since y → Kept (get x partitions) (get x slots) x y
  kept {since} g = run_kept (get x partitions) (get x slots) x g.sound (run_append since (acted (single (Hold h n)) still g.judged) (retaining_run g.run))

  headed : {since : List Act} {y : Image} → Going since y → Headed (get x partitions) (get x slots) y
  headed g = record { partitions_are = (kept g).partitions_same; slots_are = (kept g).slots_same }

  going : {since : List Act} {y : Image} → HeldSince h n x since y → Going since y
  going (held log at z) =
      let c = call_leaves (get x partitions) (get x slots) x (single_call (Hold h n)) log at (record { partitions_are = refl; slots_are = refl }) z in
      record {
        sound = sound_true x (call_judged x (single_call (Hold h n)) (call_accepted x (single_call (Hold h n)) log at z).judged).0;
        judged = c.0;
        run = rw c.1 still;
      }
  going (called {y = y} r c k log at z) =
      let g = going r in
      let j = call_leaves (get x partitions) (get x slots) y c log at (headed g) z in
      record { sound = g.sound; judged = g.judged; run = rw j.1 (acted (act_of c) g.run (j.0, k)) }
  going {since} (refused {y = y} r c log at ne) = subst (Going since) (sym (refused_leaves y c log at ne).image_is) (going r)
  going {since} (unformatted {y = y} r P S log at ne) = subst (Going since) (sym (refused_format_leaves y P S log at ne).image_is) (going r)

-- FROM A HOLD ON
pub sessions : {h : Handle} {n : Name} {x : Image} {since : List Act} {y : Image} → HeldSince h n x since y → Holds h n since y
sessions {h} {n} {x} {since} {y} r =
    let g = going h n x r in
    let k = kept h n x g in
    let b = hold_in (get x partitions) (get x slots) x g.sound h n g.judged in
    let a = acts-session (get x partitions) (get x slots) h n x g.sound g.judged g.run in
    let s : Sound y = rw (k.partitions_same, k.slots_same) k.sound in
    record {
      word = a.held.word;
      names = record { partition = rw k.partitions_same b.1; slot = rw k.slots_same b.2; leads = rw k.slots_same (start a.held.names) };
      led = λ m l. in_sight y s m l.partition l.slot (handle_leads h.0 b.0 _ l.leads);
      same = rw k.slots_same a.same;
      steady = λ c log at m l. reads_same y s m l.partition l.slot (handle_leads h.0 b.0 _ l.leads) c log at;
    }
