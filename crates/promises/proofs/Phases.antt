-- Demand 3 over calls: on every heap in a phase that calls reached, with recoveries at any moment, at most P + W traces are accepted in the phase; any partition
-- that is not clean can be traced, and the phase can be closed when all are clean and a root is in use, given log room; tracing the lowest that is not clean,
-- again and again, comes to that within P + W traces; and the close keeps every object that a root or a handle leads to and frees every object that no chain leads to,
-- unless a local collection has.
-- Assumes nothing.
use Prim.Native.Nat.{ℕ, suc, ◌<◌}
use mathlib.Core.Path.{◌≡◌, refl, sym, ap, ◌∙◌, subst}
use mathlib.Core.Bool.{Bool, true, false}
use mathlib.Core.List.{List, [], ◌∷◌}
use mathlib.Core.Logic.{◌≢◌, ⊎_elim}
use native.Mathlib.Omega.{arith}
use lib.ListN.{length}
use Rattle.loops.proofs.Tests.{eq_or_ne}
use Rattle.kinds.specs.Answers.{refuse}
use Rattle.kinds.specs.Names.{partition}
use Rattle.kinds.specs.declared.Partition.{Partition}
use Rattle.kinds.specs.declared.Refusal.{Refusal}
use Rattle.kinds.specs.declared.Single.{Single}
use Rattle.kinds.specs.declared.Single.TheVariants.{Trace, Close}
use Rattle.kinds.specs.Answers.{Verdict}
use Rattle.std.specs.Prelude.{Ok}
use Rattle.kinds.specs.Answers.{allowed}
use Rattle.model.specs.Image.{Image, partitions, phase, get, blank}
use Rattle.model.specs.Acts.{Act, single, not_clean, apply}
use Rattle.model.specs.History.{Run, acted}
use Rattle.model.specs.Judge.{check, in_limits, rooted, lowest, judge}
use Rattle.model.proofs.Demand.{Demand-3, demand_3}
use Rattle.model.proofs.Progress.{LowestFirst as ActsLowestFirst, all_clean as none_left, tracing as traced}
use Rattle.model.proofs.Reaching.{reached as heap-reached}
use Rattle.model.proofs.Refusing.{all_clean as are-clean, never_15_16}
use Rattle.model.proofs.Soundness.{limits_true}
use Rattle.model.proofs.SoundnessActs.{reached_passes}
use Rattle.model.proofs.Splitting.{in_phase}
use Rattle.writer.specs.Record.{Rule, record_of}
use Rattle.journal.specs.Log.{replay}
use Rattle.journal.proofs.Demand.{replayed}
use Rattle.std.specs.Prelude.{Err}
use Rattle.catalogue.specs.Answers.{Said, accepted, refused_with, totals, said, said_closing}
use Rattle.catalogue.specs.Call.{judge_act, call_by, trace_of, closed}
use Rattle.catalogue.proofs.Perform.{fully, fully_done}
use Rattle.promises.specs.Rows.{telled, NoRoot, Lowest}
use Rattle.promises.specs.Calls.{Call, single_call, act_of, calling, Made}
use Rattle.promises.specs.World.{World, logged}
use Rattle.promises.specs.Phase.{Room, Traceable, Closable, AllClean, LowestFirst, all_clean, tracing, Demand-3-calls}
use Rattle.promises.proofs.Calling.{Beside, beside_is, beside_not, fully_beside, call_beside, Ways, done, not_done, call_ways}
use Rattle.promises.proofs.Conditions.{found_lowest, test_rooted}
use Rattle.promises.proofs.Headed.{Headed, reached_headed, call_leaves}
use Rattle.promises.proofs.Listing.{said_perform}
use Rattle.promises.proofs.Reached.{replayed_run, replayed_headed, reached}

-- a number between 6 and 17 that its act's judge does not give, a call does not answer
number_not : (k : ℕ) {u : Verdict} {bytes : List ℕ} {next y : Image} {log : List ℕ} {at : ℕ} {m : Made} → 6 < k → k < 17 → Beside k u → Ways u bytes next y log at m → m.number ≢ k
number_not k lo hi b (done a r) = λ z. omega arith
number_not k {u = u} {bytes = bytes} {log = log} {at = at} lo hi b (not_done r e) =
    beside_not k (fully u bytes log at) r (fully_beside k u bytes log at (λ z. omega arith) b) e

call_not : (P S k : ℕ) (y : Image) (c : Call) → Headed P S y → 6 < k → k < 17 → ((e : ℕ) → judge P S y (act_of c) ≢ refuse k e) → (log : List ℕ) (at : ℕ)
    → (calling y c log at).number ≢ k
call_not P S k y c h lo hi never log at =
    let b : Beside k (judge P S y (act_of c)) = beside_is k _ never in
    number_not k lo hi (call_beside k y c (λ z. omega arith) (λ z. omega arith) (rw (h.partitions_are, h.slots_are) b)) (call_ways y c log at)

-- 15 and 16 come on no heap that acts lead to
call_never : (P S : ℕ) (y : Image) → Headed P S y → ((a : Act) (e : ℕ) → (judge P S y a ≢ refuse 15 e) × (judge P S y a ≢ refuse 16 e))
    → (c : Call) (log : List ℕ) (at : ℕ) → ((calling y c log at).number ≢ 15) × ((calling y c log at).number ≢ 16)
call_never P S y h never c log at = (
  call_not P S 15 y c h (omega arith) (omega arith) (λ e. (never (act_of c) e).0) log at,
  call_not P S 16 y c h (omega arith) (omega arith) (λ e. (never (act_of c) e).1) log at,
)

-- and so on no heap that calls reached from a formatting or a recovery
pub reached_never : {w : Image} {h : Rule} {acts : List Act} {x : Image} → World w (logged h) acts x
    → (c : Call) (log : List ℕ) (at : ℕ) → ((calling x c log at).number ≢ 15) × ((calling x c log at).number ≢ 16)
reached_never {h = h} {x = x} world =
    let r = reached world in
    let shape = limits_true h.P h.S r.history.range in
    call_never h.P h.S x (replayed_headed r) (never_15_16 h.P h.S shape x (heap-reached h.P h.S shape _ x (replayed_run r)).heap)

-- what the passed checks of a close ask for
is_true : (b : Bool) → (b ≡ false → ⊥) → b ≡ true
is_true true h = refl
is_true false h = absurd (h refl)

some_root : (y : Image) → (NoRoot y → ⊥) → rooted y ≡ true
some_root y f = is_true (rooted y) (λ e. f ((test_rooted y).fails e))

no_unclean : (y : Image) → AllClean y → not_clean (get y partitions) y ≡ 0
no_unclean y f =
    ⊎_elim (λ e. e) (λ ne. let l = found_lowest y ne in absurd (f (lowest (get y partitions) y) l.within l.not_clean_lem)) (eq_or_ne (not_clean (get y partitions) y) 0)

module _ (P S : ℕ) (good : in_limits P S ≡ true) where
  -- on a heap that acts lead to, an act that its judge accepts is accepted by its call, given log room
  module _ {acts : List Act} {y : Image} (r : Run P S (blank P S) acts y) where
    headed : Headed P S y
    headed = reached_headed P S good r

    call_fine : (a : Act) → judge P S y a ≡ allowed → judge_act y a ≡ allowed
    unfolding judge_act check
    call_fine a j = rw (reached_passes P S good r, headed.partitions_are, headed.slots_are) j

    call_given : {A B : Type 0} (say : B → Said A) (z v : A) (does : ℕ → B) (refuses : Refusal → B) (a : Single)
        → say (does (length (record_of (single a)))) ≡ accepted v → ((r : Refusal) → say (refuses r) ≡ refused_with z r) → judge P S y (single a) ≡ allowed
        → (log : List ℕ) (at : ℕ) → Room (single a) log at → say (call_by does refuses y (single a) log at).answer ≡ accepted v
    unfolding call_by
    call_given say z v does refuses a d n j log at room =
        said_perform say z v does refuses (judge_act y (single a)) (record_of (single a)) _ y log at d n
        ∙ ap (telled z v) (fully_done _ (record_of (single a)) log at (call_fine (single a) j) room)

    trace_given : (p : Partition) → judge P S y (single (Trace p)) ≡ allowed → Traceable y p
    trace_given p j log at room = call_given said 0 _ Ok Err (Trace p) refl (λ r. refl) j log at room

    close_given : judge P S y (single Close) ≡ allowed → Closable y
    close_given j log at room = call_given said_closing (totals 0 0 0) _ (closed y) Err Close refl (λ r. refl) j log at room

    trace_leaves : (p : Partition) → judge P S y (single (Trace p)) ≡ allowed → (log : List ℕ) (at : ℕ) → Room (single (Trace p)) log at
        → (trace_of y p log at).image ≡ apply P S y (single (Trace p))
    trace_leaves p j log at room = (call_leaves P S y (single_call (Trace p)) log at headed (ap (λ (s : Said ℕ). s.number) (trace_given p j log at room))).1

    -- the lowest partition that is not clean, and none
    lowest_is : not_clean P y ≢ 0 → Lowest y (lowest P y)
    lowest_is ne =
        subst (λ (n : ℕ). Lowest y (lowest n y)) headed.partitions_are
        (found_lowest y (λ e. ne (subst (λ (n : ℕ). not_clean n y ≡ 0) headed.partitions_are e)))

    none_is : not_clean P y ≡ 0 → AllClean y
    none_is e = are-clean (get y partitions) y (subst (λ (n : ℕ). not_clean n y ≡ 0) (sym headed.partitions_are) e)

    is_none : AllClean y → not_clean P y ≡ 0
    is_none f = subst (λ (n : ℕ). not_clean n y ≡ 0) headed.partitions_are (no_unclean y f)

  -- traces of the lowest first, act by act and so call by call: the heap left is one that acts lead to
  record Called (y : Image) (ps : List ℕ) (z : Image) : Type 0 where
    order : List Partition
    as_many : length order ≡ length ps
    lowest_first : LowestFirst y order z
    acts : List Act
    run : Run P S (blank P S) acts z

  by_calls : {acts : List Act} {y z : Image} {ps : List ℕ} → Run P S (blank P S) acts y → ActsLowestFirst P S y ps z → Called y ps z
  by_calls {acts} r (none_left e) = record { order = []; as_many = refl; lowest_first = all_clean (none_is r e); acts = acts; run = r }
  by_calls {acts} r (traced {y = y} {z = z} ne j rest) =
      let p : Partition = partition (lowest P y) in
      let c = by_calls {acts = single (Trace (partition (lowest P y))) ∷ acts} (acted (single (Trace p)) r j) rest in
      record {
        order = p ∷ c.order;
        as_many = ap (λ (n : ℕ). suc n) c.as_many;
        lowest_first =
            tracing p (lowest_is r ne) (trace_given r p j)
            (λ log at room. subst (λ (x : Image). LowestFirst x c.order z) (sym (trace_leaves r p j log at room)) c.lowest_first);
        acts = c.acts;
        run = c.run;
      }

-- DEMAND 3, on every heap in a phase that calls reached
pub demand_3_calls : {w : Image} {h : Rule} {acts : List Act} {y : Image} → World w (logged h) acts y → get y phase ≡ 1 → Demand-3-calls h acts y
demand_3_calls {h = h} {y = y} world e =
    let s = reached world in
    let good = s.history.range in
    let r = replayed_run s in
    let o = in_phase h.P h.S (limits_true h.P h.S good) r e in
    let d : Demand-3 h.P h.S o.earlier (replay h o.earlier) o.since y =
    subst (λ (x : Image). Demand-3 h.P h.S o.earlier x o.since y) (replayed h o.before) (demand_3 h.P h.S good o) in
    let k = replayed_headed s in
    let c = by_calls h.P h.S good r d.progress.lowest_first in
    record {
      partitions_are = k.partitions_are;
      slots_are = k.slots_are;
      earlier = o.earlier;
      since = o.since;
      split = o.split;
      unclosed = o.unclosed;
      bound = d.bound;
      counted = d.counted;
      sound = d.sound;
      traceable = λ p l f. trace_given h.P h.S good r p (d.traceable p l f);
      closable = λ f n. close_given h.P h.S good r (d.closable (is_none h.P h.S good r f) (some_root y n));
      progress =
          record {
            order = c.order;
            heap = d.progress.heap;
            lowest_first = c.lowest_first;
            few = omega (arith, d.progress.few, c.as_many);
            closable = λ n. close_given h.P h.S good c.run (d.progress.closable (some_root y n));
          };
      never = call_never h.P h.S y k d.never;
      keeps = λ log at z. let c = call_leaves h.P h.S y (single_call Close) log at k z in rw c.1 (d.keeps c.0);
      frees = λ log at z. let c = call_leaves h.P h.S y (single_call Close) log at k z in rw c.1 (d.frees c.0);
      gone = λ log at z. let c = call_leaves h.P h.S y (single_call Close) log at k z in rw c.1 (d.gone c.0);
      sound_after = λ log at z. let c = call_leaves h.P h.S y (single_call Close) log at k z in rw c.1 (d.sound_after c.0);
    }
