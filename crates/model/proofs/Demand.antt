-- Demand 3, whole, over histories from a formatting: however commits, traces, local collections, holds and drops are mixed, a phase ends within P + W
-- traces, and its close keeps every object that a root or a handle leads to and frees every object that no chain leads to.
-- Assumes nothing.
use Prim.Native.Nat.{ℕ, ◌+◌, ◌*◌, ◌≤◌, ◌<◌}
use mathlib.Core.Path.{◌≡◌}
use mathlib.Core.Bool.{true}
use mathlib.Core.List.{List, ◌++◌}
use mathlib.Core.Logic.{◌≢◌, ◌⊎◌, inl, inr, ⊎_elim}
use Rattle.loops.proofs.Tests.{eq_or_ne}
use Rattle.kinds.specs.Answers.{refuse}
use Rattle.kinds.specs.declared.Partition.{Partition}
use Rattle.kinds.specs.declared.Single.TheVariants.{Open, Trace, Close}
use Rattle.kinds.specs.Answers.{allowed}
use Rattle.model.specs.Image.{Image, flag, state, count, get}
use Rattle.model.specs.Acts.{Act, single, not_clean, apply}
use Rattle.model.specs.Judge.{in_limits, rooted, judge}
use Rattle.model.specs.Sound.{is_sound}
use Rattle.model.specs.History.{Run, still, acted, traces, unanchored}
use Rattle.model.specs.Chains.{Leads, Stays, ChainToBorn, ChainTo, birth_now}
use Rattle.model.proofs.Soundness.{limits_true}
use Rattle.model.proofs.SoundnessActs.{act_sound, reached_passes}
use Rattle.model.proofs.Reaching.{is_shut, opened_is, reached}
use Rattle.model.proofs.Refusing.{can_trace, can_close, never_15_16}
use Rattle.model.proofs.Bound.{counts, at_most}
use Rattle.model.proofs.Chaining.{close_keeps, close_frees}
use Rattle.model.proofs.Splitting.{InPhase}
use Rattle.model.proofs.Progress.{Ends, progress}

-- x is the heap at an accepted opening, after the history `earlier`; y is the heap in the phase, after the acts since
pub record Demand-3 (P S : ℕ) (earlier : List Act) (x : Image) (acts : List Act) (y : Image) : Type 0 where
  -- at most P + W traces, W being the objects in use that neither a root nor a handle names at the opening; and word 3 is their number
  pub bound : traces acts ≤ P + unanchored P S x
  pub counted : get y count ≡ traces acts
  -- no refusal stands in the way: not 1, 13 or 15 of a trace, nor 1, 10, 14 or 16 of a close
  pub sound : is_sound y ≡ true
  pub traceable : (p : Partition) → p.0 < P → get y (flag p.0) ≡ 0 → judge P S y (single (Trace p)) ≡ allowed
  pub closable : not_clean P y ≡ 0 → rooted y ≡ true → judge P S y (single Close) ≡ allowed
  pub never : (a : Act) (e : ℕ) → (judge P S y a ≢ refuse 15 e) × (judge P S y a ≢ refuse 16 e)
  -- what the close leaves
  pub keeps : judge P S y (single Close) ≡ allowed → (j : ℕ) → Leads S y j → Stays y (apply P S y (single Close)) j
  pub frees : judge P S y (single Close) ≡ allowed → (j : ℕ) → j < P * S → (ChainTo S earlier x acts j → ⊥) → get (apply P S y (single Close)) (state j) ≡ 0
  -- over objects, by place and birth: one that no chain leads to is gone after the close, whether the close or a local collection freed it
  pub gone : judge P S y (single Close) ≡ allowed → (j b : ℕ) → j < P * S → (ChainToBorn S earlier x acts j b → ⊥)
      → (get (apply P S y (single Close)) (state j) ≡ 0) ⊎ (birth_now S earlier acts j ≢ b)
  pub sound_after : judge P S y (single Close) ≡ allowed → is_sound (apply P S y (single Close)) ≡ true
  -- tracing the lowest partition that is not clean, again and again, ends within the bound, and then the phase can close if a root is in use
  pub progress : Ends P S (P + unanchored P S x) y

pub run_append : {P S : ℕ} {x y z : Image} {earlier : List Act} (later : List Act) → Run P S x earlier y → Run P S y later z → Run P S x (later ++ earlier) z
run_append _ r still = r
run_append _ r (acted {acts = acts} a s j) = acted a (run_append acts r s) j

pub demand_3 : (P S : ℕ) → in_limits P S ≡ true → {history : List Act} {y : Image} (o : InPhase P S history y) → Demand-3 P S o.earlier o.x o.since y
demand_3 P S within {y = y} o =
    let limits = limits_true P S within in
    let sh = is_shut P S limits o.x (reached P S limits o.earlier o.x o.before).sound (opened_is P S limits o.x o.opens) in
    let so = act_sound P S o.x (single Open) (reached P S limits o.earlier o.x o.before).sound o.opens in
    let whole = run_append o.since (acted (single Open) o.before o.opens) o.run in
    let c = counts P S limits o.x sh so o.since y o.run o.unclosed in
    let w = c.phase.linked in
    record {
      bound = at_most P S limits o.x sh so o.since y o.run o.unclosed;
      counted = c.counted;
      sound = reached_passes P S within whole;
      traceable = λ p l f. can_trace P S limits y p c.phase l f;
      closable = λ e q. can_close P S limits y c.phase e q;
      never = λ a e. never_15_16 P S limits y (reached P S limits _ y whole).heap a e;
      keeps = λ k i l. close_keeps P S limits y w k i l;
      frees = λ k i l n. close_frees P S limits o.earlier o.x sh so o.since y o.run o.unclosed i l n;
      gone = λ k i b l n.
          ⊎_elim (λ e. inl (close_frees P S limits o.earlier o.x sh so o.since y o.run o.unclosed i l (rw e n))) (λ e. inr e) (eq_or_ne (birth_now S o.earlier o.since i) b);
      sound_after = λ k. reached_passes P S within (acted (single Close) whole k);
      progress = progress P S limits y c;
    }
