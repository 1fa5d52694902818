-- Reached: whatever calls are made from any words, in whatever order, refused ones, formattings and recoveries of any bytes among them, the image is never
-- formatted, or zeros, or the replay of the kept history since the last formatting or recovery, each act of it accepted where it stands.
-- Assumes nothing.
use Prim.Native.Nat.{ℕ}
use mathlib.Core.Path.{◌≡◌, refl, sym, ap, ◌∙◌, subst}
use lib.ListN.{length, replicate, length-replicate}
use mathlib.Core.Bool.{true}
use mathlib.Core.List.{List, [], ◌∷◌}
use mathlib.Core.Logic.{inl, inr, ⊎_elim}
use native.Mathlib.Omega.{arith}
use Rattle.loops.proofs.Tests.{clash}
use Rattle.kinds.specs.Answers.{allowed}
use Rattle.lines.specs.Print.{Bytes}
use Rattle.model.specs.Image.{Image, partitions, slots, get, length_of, blank}
use Rattle.model.specs.Acts.{Act, apply}
use Rattle.model.specs.History.{Run, still, acted}
use Rattle.model.specs.Judge.{judge}
use Rattle.model.specs.Sound.{is_sound}
use Rattle.model.proofs.Soundness.{sound_true}
use Rattle.model.proofs.SoundnessActs.{run_kept, reached_passes, zeros_unsound}
use Rattle.writer.specs.Record.{Rule, newest}
use Rattle.journal.specs.Log.{replay}
use Rattle.journal.specs.Recover.{Recovered, recover_of}
use Rattle.journal.proofs.AnyBytes.{any_bytes}
use Rattle.journal.proofs.Demand.{replayed, history_of, history_new, kept_is}
use Rattle.promises.specs.Calls.{Call, act_of, Worded, formatting, calling}
use Rattle.promises.specs.World.{Origin, as_lent, emptied, logged, World, lent, formatted, unformatted, called, refused, recovered, unrecovered, Lent, Emptied, Replayed, Stands}
use Rattle.promises.proofs.Calling.{call_judged, call_accepted, refused_leaves, format_accepted, refused_format_leaves}
use Rattle.promises.proofs.Headed.{Headed, reached_headed, format_limits, call_leaves}
use Rattle.promises.proofs.Leaving.{refused_recovery}

-- an accepted call's image is sound
call_sound : (x : Image) (c : Call) (log : List ℕ) (at : ℕ) → (calling x c log at).number ≡ 0 → is_sound x ≡ true
call_sound x c log at z = (call_judged x c (call_accepted x c log at z).judged).0

still_same : {P S : ℕ} {w x : Image} {acts : List Act} → Run P S w acts x → acts ≡ [] → x ≡ w
still_same still e = refl
still_same (acted a r j) e = absurd (let z : ◌≡◌ {A = ℕ} 0 1 = cc in omega arith)

-- a replay is a run, with P and S in its words 0 and 1
pub replayed_run : {h : Rule} {acts : List Act} {x : Image} → Replayed h acts x → Run h.P h.S (blank h.P h.S) acts x
replayed_run {h} {acts} r = subst (Run h.P h.S (blank h.P h.S) acts) (sym r.image_is) r.history.run

pub replayed_headed : {h : Rule} {acts : List Act} {x : Image} → Replayed h acts x → Headed h.P h.S x
replayed_headed {h} r = reached_headed h.P h.S r.history.range (replayed_run r)

-- called
module _ (w : Image) (acts : List Act) (x : Image) (c : Call) (log : List ℕ) (at : ℕ) (z : (calling x c log at).number ≡ 0) where
  lent_called : Lent w acts x → Lent w (act_of c ∷ acts) (calling x c log at).image
  lent_called l = record { run = rw j.1 (acted (act_of c) l.run j.0); start = inr sound }
    where
      sound : is_sound w ≡ true
      sound = ⊎_elim (λ e. subst (λ (y : Image). is_sound y ≡ true) (still_same l.run e) (call_sound x c log at z)) (λ s. s) l.start

      headed : Headed (get w partitions) (get w slots) x
      headed = let k = run_kept _ _ w (sound_true w sound) l.run in record { partitions_are = k.partitions_same; slots_are = k.slots_same }

      j : (judge (get w partitions) (get w slots) x (act_of c) ≡ allowed) × ((calling x c log at).image ≡ apply (get w partitions) (get w slots) x (act_of c))
      j = call_leaves _ _ x c log at headed z

  emptied_called : Emptied acts x → ⊥
  emptied_called e = clash (subst (λ (y : Image). is_sound y ≡ true) e.zeros (call_sound x c log at z)) (zeros_unsound (length_of x))

  replayed_called : {h : Rule} → Worded c → Replayed h acts x → Replayed h (act_of c ∷ acts) (calling x c log at).image
  replayed_called {h} wd r =
      let j = call_leaves h.P h.S x c log at (replayed_headed r) z in
      let s = acted (act_of c) (replayed_run r) j.0 in
      record { history = history_of h r.history.edition r.history.range r.history.narrow (wd, r.history.words) s; image_is = j.1 ∙ replayed h s }

stands_called : (w : Image) (o : Origin) (acts : List Act) (x : Image) (c : Call) (log : List ℕ) (at : ℕ) → Worded c → (calling x c log at).number ≡ 0 → Stands w o acts x
    → Stands w o (act_of c ∷ acts) (calling x c log at).image
stands_called w as_lent acts x c log at wd z s = lent_called w acts x c log at z s
stands_called w emptied acts x c log at wd z s = absurd (emptied_called w acts x c log at z s)
stands_called w (logged h) acts x c log at wd z s = replayed_called w acts x c log at z wd s

replayed_formatted : (x : Image) (P S : ℕ) (log : List ℕ) (at : ℕ) → (formatting x P S log at).number ≡ 0 → Replayed (newest P S) [] (formatting x P S log at).image
unfolding replay
replayed_formatted x P S log at z =
    let m = format_accepted x P S log at z in
    record { history = history_new P S (format_limits P S (length_of x) m.judged); image_is = m.image_is }

zeros_all : (n : ℕ) (x : Image) → x ≡ replicate n 0 → x ≡ replicate (length_of x) 0
unfolding length_of
zeros_all n x e = e ∙ ap (λ (m : ℕ). replicate m 0) (sym (ap length e ∙ length-replicate n 0))

-- REACHED
pub reached : {w : Image} {o : Origin} {acts : List Act} {x : Image} → World w o acts x → Stands w o acts x
reached lent = record { run = still; start = inl refl }
reached (formatted {x = x} l P S log at z) = replayed_formatted x P S log at z
reached {w} {o} {acts} (unformatted {x = x} l P S log at ne) =
    subst (Stands w o acts) (sym (refused_format_leaves x P S log at ne).image_is) (reached l)
reached {w} {o} (called {acts = acts} {x = x} l c wd log at z) = stands_called w o acts x c log at wd z (reached l)
reached {w} {o} {acts} (refused {x = x} l c log at ne) = subst (Stands w o acts) (sym (refused_leaves x c log at ne).image_is) (reached l)
reached (recovered l log h kept k) = record { history = k.before.history; image_is = ap (λ (r : Recovered). r.image) (kept_is k) }
reached (unrecovered {x = x} l log ne) = record { zeros = zeros_all (length_of x) _ (refused_recovery log (length_of x) ne).0; none_since = refl }

-- every accepted recovery of any bytes is a case of `recovered`
pub recovers : {w : Image} {o : Origin} {acts : List Act} {x : Image} → World w o acts x → (log : List ℕ) → Bytes log → (recover_of log (length_of x)).verdict ≡ allowed
    → (h : Rule) × (kept : List Act) × World w (logged h) kept (recover_of log (length_of x)).image
recovers {x = x} world log b e = let a = any_bytes log (length_of x) b e in (a.rule, a.acts, recovered world log a.rule a.acts a.kept)

-- and a heap that calls reached from a formatting or a recovery is sound: no call on it is refused with 1
pub reached_sound : {w : Image} {h : Rule} {acts : List Act} {x : Image} → World w (logged h) acts x → is_sound x ≡ true
reached_sound {h = h} world = let r = reached world in reached_passes h.P h.S r.history.range (replayed_run r)
