-- A heap in a phase that acts lead to from a formatting: its history has the opening of that phase, and closes nothing since.
-- Assumes nothing.
use Prim.Native.Nat.{ℕ}
use mathlib.Core.Path.{◌≡◌, refl, sym, ap, ◌∙◌}
use mathlib.Core.List.{List, [], ◌∷◌, ◌++◌}
use native.Mathlib.Omega.{arith}
use borrow.Author.Tests.{eqb-true, ltb-true}
use Rattle.kinds.specs.declared.Handle.{Handle}
use Rattle.kinds.specs.Names.{Target}
use Rattle.std.specs.Prelude.{None, Some}
use Rattle.kinds.specs.declared.Operation.{Operation}
use Rattle.kinds.specs.declared.Partition.{Partition}
use Rattle.kinds.specs.declared.Single.TheVariants.{Open, Trace, Close, Local, Hold, Drop}
use Rattle.kinds.specs.Answers.{allowed}
use Rattle.model.specs.Image.{Image, handle, phase, addr, get, blank}
use Rattle.model.specs.Acts.{Act, commit, single, store, perform, apply}
use Rattle.model.specs.Judge.{judge}
use Rattle.model.specs.History.{Run, still, acted, Unclosed}
use Rattle.model.specs.Sound.{Limits}
use Rattle.model.proofs.Keys.{blank_zero}
use Rattle.model.proofs.Committing.{check_true, Good, commit_keeps, taking, good_hold, good_drop, perform_head}
use Rattle.model.proofs.Closing.{close_phase}
use Rattle.model.proofs.SoundnessMoves.{sound_linked}
use Rattle.model.proofs.Collecting.{local_head}
use Rattle.model.proofs.Reaching.{traced_is, reached}

-- y, after a history, is in a phase: its opening on the heap x, after the acts `earlier`, and the acts since
pub record InPhase (P S : ℕ) (history : List Act) (y : Image) : Type 0 where
  pub earlier : List Act
  pub since : List Act
  pub split : history ≡ since ++ (single Open ∷ earlier)
  pub unclosed : Unclosed since
  pub x : Image
  pub before : Run P S (blank P S) earlier x
  pub opens : judge P S x (single Open) ≡ allowed
  pub run : Run P S (apply P S x (single Open)) since y

module _ (P S : ℕ) (limits : Limits P S) where
  commit_phase : (y : Image) (os : List Operation) → judge P S y (commit os) ≡ allowed → get (apply P S y (commit os)) phase ≡ get y phase
  unfolding judge apply
  commit_phase y os j =
      commit_keeps P S (λ z. get z phase ≡ get y phase) (λ z o g e. perform_head P S limits z o 2 (omega arith) g ∙ e) y 1 os (check_true _ _ _ _ j).1 refl

  closing_phase : {acts : List Act} {y : Image} → Run P S (blank P S) acts y → get (apply P S y (single Close)) phase ≡ 0
  unfolding apply
  closing_phase {acts} {y} r = close_phase P S limits y (sound_linked P S y (reached P S limits acts y r).sound)

  local_phase : {acts : List Act} {y : Image} (p : Partition) → Run P S (blank P S) acts y → judge P S y (single (Local p)) ≡ allowed → get (apply P S y (single (Local p))) phase ≡ get y phase
  unfolding judge apply
  local_phase {acts} {y} p r j = local_head P S p.0 (ltb-true p.0 P (check_true _ _ _ _ j).0) y (reached P S limits acts y r).sound 2 (omega arith)

  take_phase : (y : Image) (h : Handle) (t : Target) → Good P S y (taking h t) → get (store S y (handle h.0) t) phase ≡ get y phase
  unfolding perform
  take_phase y h t g = perform_head P S limits y (taking h t) 2 (omega arith) g

  blank_shut : get (blank P S) phase ≡ 0
  unfolding addr
  blank_shut = blank_zero P S phase (omega arith)

  -- a further act that closes nothing
  further : {acts : List Act} {y : Image} (a : Act) → ((u : List Act) → Unclosed u → Unclosed (a ∷ u)) → judge P S y a ≡ allowed → InPhase P S acts y
      → InPhase P S (a ∷ acts) (apply P S y a)
  further a f j o =
      record {
        earlier = o.earlier;
        since = a ∷ o.since;
        split = ap (λ (zs : List Act). a ∷ zs) o.split;
        unclosed = f o.since o.unclosed;
        x = o.x;
        before = o.before;
        opens = o.opens;
        run = acted a o.run j;
      }

  pub in_phase : {acts : List Act} {y : Image} → Run P S (blank P S) acts y → get y phase ≡ 1 → InPhase P S acts y
  unfolding apply
  in_phase still e = let z = blank_shut in absurd (omega arith)
  in_phase (acted {y = y} (commit os) r j) e = further (commit os) (λ u c. c) j (in_phase r (sym (commit_phase y os j) ∙ e))
  in_phase (acted {acts = acts} {y = y} (single Open) r j) e =
      record { earlier = acts; since = []; split = refl; unclosed = tt; x = y; before = r; opens = j; run = still }
  in_phase (acted {y = y} (single (Trace p)) r j) e = further (single (Trace p)) (λ u c. c) j (in_phase r (eqb-true _ _ (traced_is P S limits y p j).0))
  in_phase (acted (single Close) r j) e = let z = closing_phase r in absurd (omega arith)
  in_phase (acted (single (Local p)) r j) e = further (single (Local p)) (λ u c. c) j (in_phase r (sym (local_phase p r j) ∙ e))
  in_phase (acted {y = y} (single (Hold h n)) r j) e = further (single (Hold h n)) (λ u c. c) j (in_phase r (sym (take_phase y h (Some n) (good_hold P S y h n j)) ∙ e))
  in_phase (acted {y = y} (single (Drop h)) r j) e = further (single (Drop h)) (λ u c. c) j (in_phase r (sym (take_phase y h None (good_drop P S y h j)) ∙ e))
