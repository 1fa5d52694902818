-- The two ways of a call: accepted, it performs its act and logs its record; refused, it leaves all as it was, and its number is not 0.
-- Assumes nothing.
use Prim.Native.Nat.{ℕ, ◌+◌, ◌≤◌, ◌<◌}
use mathlib.Core.Path.{◌≡◌, refl, sym, ap, subst}
use mathlib.Core.Bool.{Bool, true, false}
use mathlib.Core.List.{List}
use mathlib.Core.Logic.{◌≢◌}
use native.Mathlib.Omega.{arith}
use lib.ListN.{length}
use Rattle.kinds.specs.Answers.{refuse}
use Rattle.kinds.specs.declared.Single.TheVariants.{Open, Trace, Close, Local, Hold, Drop}
use Rattle.kinds.specs.declared.Refusal.{Refusal}
use Rattle.kinds.specs.Answers.{Verdict}
use Rattle.std.specs.Prelude.{Ok, Err}
use Rattle.kinds.specs.Answers.{allowed}
use Rattle.model.specs.Image.{Image, partitions, slots, get, length_of, blank}
use Rattle.model.specs.Acts.{commit, single}
use Rattle.model.specs.Judge.{check, and_then, judge, judge_format}
use Rattle.model.specs.Sound.{is_sound}
use Rattle.writer.specs.Record.{record_of, newest, heading_of}
use Rattle.writer.specs.Write.{splice}
use Rattle.catalogue.specs.Call.{Outcome, outcome, perform, judge_in, apply_in, judge_act, format_of, call_by, closed, freed}
use Rattle.catalogue.proofs.Perform.{fully, Performed, did, left, performed}
use Rattle.catalogue.proofs.Judged.{act_sound, act_judged}
use Rattle.model.proofs.Numbers.{Among, accepted, numbered, act_among, format_among}
use Rattle.promises.specs.Calls.{Call, commit_call, single_call, act_of, Made, answered, closed_up, freed_up, formatting, calling}

-- a verdict that is not a refusal with the number k
unfoldable pub Beside : ℕ → Verdict → Type 0
Beside k (Ok _) = Unit {0}
Beside k (Err r) = r.number ≢ k

beside_check : (k : ℕ) (b : Bool) (n e : ℕ) (u : Verdict) → n ≢ k → Beside k u → Beside k (check b n e u)
unfolding check Beside
beside_check k true n e u d h = h
beside_check k false n e u d h = d

beside_then : (k : ℕ) (u v : Verdict) → Beside k u → Beside k v → Beside k (and_then u v)
unfolding and_then Beside
beside_then k (Ok _) v h i = i
beside_then k (Err r) v h i = h

beside_accepted : (k : ℕ) → Beside k allowed
unfolding Beside
beside_accepted k = tt

pub beside_is : (k : ℕ) (u : Verdict) → ((e : ℕ) → u ≢ refuse k e) → Beside k u
unfolding Beside
beside_is k (Ok _) h = tt
beside_is k (Err r) h = λ e. h r.extra (ap (λ (n : ℕ). refuse n r.extra) e)

pub beside_not : (k : ℕ) (u : Verdict) (r : Refusal) → Beside k u → u ≡ Err r → r.number ≢ k
unfolding Beside
beside_not k u r h e = rw e at h

-- as the numbers from lo to hi, where k is below them
beside_among : (k lo hi : ℕ) (u : Verdict) → k < lo → Among lo hi u → Beside k u
unfolding Beside
beside_among k lo hi (Ok _) l accepted = tt
beside_among k lo hi (Err _) l (numbered r a b) = λ e. omega arith

-- all that a call checks before 17
abbrev pub judge_call : Image → Call → Verdict
judge_call img (commit_call ops) = judge_act img (commit ops)
judge_call img (single_call a) = judge_act img (single a)

-- where its act's judge does not refuse with k, nor 1 and 6 are k, the call does not
pub call_beside : (k : ℕ) (img : Image) (c : Call) → 1 ≢ k → 6 ≢ k → Beside k (judge_in img (act_of c)) → Beside k (judge_call img c)
unfolding judge_act judge
call_beside k img (commit_call ops) one six h = beside_check k _ 1 0 _ one h
call_beside k img (single_call a) one six h = beside_check k _ 1 0 _ one h

call_numbers : (img : Image) (c : Call) → Beside 0 (judge_call img c)
call_numbers img c = call_beside 0 img c (λ z. omega arith) (λ z. omega arith) (beside_among 0 6 16 _ (omega arith) (act_among (get img partitions) (get img slots) img (act_of c)))

-- accepted, its act is accepted where it stands
pub call_judged : (img : Image) (c : Call) → judge_call img c ≡ allowed → (is_sound img ≡ true) × (judge_in img (act_of c) ≡ allowed)
call_judged img (commit_call ops) e = (act_sound img (commit ops) e, act_judged img (commit ops) e)
call_judged img (single_call a) e = (act_sound img (single a) e, act_judged img (single a) e)

-- the two ways
abbrev made : ℕ → ℕ → Image → List ℕ → Made
made k n img log = record { number = k; length = n; image = img; log = log }

pub data Ways (u : Verdict) (bytes : List ℕ) (next img : Image) (log : List ℕ) (at : ℕ) : Made → Type 0 where
  done : u ≡ allowed → at + length bytes ≤ length log → Ways u bytes next img log at (made 0 (length bytes) next (splice log at bytes))
  not_done : (r : Refusal) → fully u bytes log at ≡ Err r → Ways u bytes next img log at (made r.number 0 img log)

-- whatever the form of its answer
ways : {A : Type 0} (form : Outcome A → Made) (does : ℕ → A) (refuses : Refusal → A) (u : Verdict) (bytes : List ℕ) (next img : Image) (log : List ℕ) (at : ℕ)
    → ((n : ℕ) (y : Image) (g : List ℕ) → form (outcome (does n) y g) ≡ made 0 n y g)
    → ((r : Refusal) (y : Image) (g : List ℕ) → form (outcome (refuses r) y g) ≡ made r.number 0 y g)
    → Ways u bytes next img log at (form (perform does refuses u bytes next img log at))
ways {A} form does refuses u bytes next img log at d n = go (performed does refuses u bytes next img log at)
  where
    go : {o : Outcome A} → Performed does refuses u bytes next img log at o → Ways u bytes next img log at (form o)
    go (did a l) = subst (Ways u bytes next img log at) (sym (d _ _ _)) (done a l)
    go (left r e) = subst (Ways u bytes next img log at) (sym (n r img log)) (not_done r e)

format_ways : (img : Image) (P S : ℕ) (log : List ℕ) (at : ℕ)
    → Ways (judge_format P S (length_of img)) (heading_of (newest P S)) (blank P S) img log at (formatting img P S log at)
unfolding format_of
format_ways img P S log at = ways answered Ok Err _ _ _ img log at (λ n y g. refl) (λ r y g. refl)

pub call_ways : (img : Image) (c : Call) (log : List ℕ) (at : ℕ)
    → Ways (judge_call img c) (record_of (act_of c)) (apply_in img (act_of c)) img log at (calling img c log at)
unfolding call_by
call_ways img (commit_call ops) log at = ways answered Ok Err _ _ _ img log at (λ n y g. refl) (λ r y g. refl)
call_ways img (single_call Open) log at = ways answered Ok Err _ _ _ img log at (λ n y g. refl) (λ r y g. refl)
call_ways img (single_call (Trace p)) log at = ways answered Ok Err _ _ _ img log at (λ n y g. refl) (λ r y g. refl)
call_ways img (single_call Close) log at = ways closed_up (closed img) Err _ _ _ img log at (λ n y g. refl) (λ r y g. refl)
call_ways img (single_call (Local p)) log at = ways freed_up (freed img p) Err _ _ _ img log at (λ n y g. refl) (λ r y g. refl)
call_ways img (single_call (Hold h n)) log at = ways answered Ok Err _ _ _ img log at (λ n y g. refl) (λ r y g. refl)
call_ways img (single_call (Drop h)) log at = ways answered Ok Err _ _ _ img log at (λ n y g. refl) (λ r y g. refl)

-- 17 is not 0 either
pub fully_beside : (k : ℕ) (u : Verdict) (bytes log : List ℕ) (at : ℕ) → 17 ≢ k → Beside k u → Beside k (fully u bytes log at)
fully_beside k u bytes log at ne h = beside_then k u _ h (beside_check k _ 17 0 _ ne (beside_accepted k))

-- an accepted call, whole
pub record Accepting (u : Verdict) (bytes : List ℕ) (next : Image) (log : List ℕ) (at : ℕ) (m : Made) : Type 0 where
  pub judged : u ≡ allowed
  pub room : at + length bytes ≤ length log
  pub image_is : m.image ≡ next
  pub length_is : m.length ≡ length bytes
  pub log_is : m.log ≡ splice log at bytes

accepting : {u : Verdict} {bytes : List ℕ} {next img : Image} {log : List ℕ} {at : ℕ} {m : Made}
    → Beside 0 u → Ways u bytes next img log at m → m.number ≡ 0 → Accepting u bytes next log at m
accepting b (done a l) z = record { judged = a; room = l; image_is = refl; length_is = refl; log_is = refl }
accepting {u = u} {bytes = bytes} {log = log} {at = at} b (not_done r e) z =
    absurd (beside_not 0 (fully u bytes log at) r (fully_beside 0 u bytes log at (λ z. omega arith) b) e z)

-- a refused call, whole
pub record Refusing (img : Image) (log : List ℕ) (m : Made) : Type 0 where
  pub image_is : m.image ≡ img
  pub log_is : m.log ≡ log

refusing : {u : Verdict} {bytes : List ℕ} {next img : Image} {log : List ℕ} {at : ℕ} {m : Made}
    → Ways u bytes next img log at m → m.number ≢ 0 → Refusing img log m
refusing (done a l) ne = absurd (ne refl)
refusing (not_done r e) ne = record { image_is = refl; log_is = refl }

pub call_accepted : (img : Image) (c : Call) (log : List ℕ) (at : ℕ) → (calling img c log at).number ≡ 0
    → Accepting (judge_call img c) (record_of (act_of c)) (apply_in img (act_of c)) log at (calling img c log at)
call_accepted img c log at z = accepting (call_numbers img c) (call_ways img c log at) z

-- A REFUSED CALL LEAVES IMAGE AND LOG, whatever the call
pub refused_leaves : (img : Image) (c : Call) (log : List ℕ) (at : ℕ) → (calling img c log at).number ≢ 0 → Refusing img log (calling img c log at)
refused_leaves img c log at ne = refusing (call_ways img c log at) ne

pub format_accepted : (img : Image) (P S : ℕ) (log : List ℕ) (at : ℕ) → (formatting img P S log at).number ≡ 0
    → Accepting (judge_format P S (length_of img)) (heading_of (newest P S)) (blank P S) log at (formatting img P S log at)
format_accepted img P S log at z = accepting (beside_among 0 2 2 _ (omega arith) (format_among P S (length_of img))) (format_ways img P S log at) z

pub refused_format_leaves : (img : Image) (P S : ℕ) (log : List ℕ) (at : ℕ) → (formatting img P S log at).number ≢ 0 → Refusing img log (formatting img P S log at)
refused_format_leaves img P S log at ne = refusing (format_ways img P S log at) ne
