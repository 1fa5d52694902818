-- Demand 1, what refusals leave (of a call: `refused_leaves` in Calling): a refused recovery leaves zeros and keeps nothing, and every call but format and
-- recover refuses zeros with 1; with no root in use no phase opens or closes and no partition is collected.
-- Assumes nothing.
use Prim.Native.Nat.{ℕ, ◌+◌}
use mathlib.Core.Path.{◌≡◌, refl, sym, ap, ◌∙◌}
use mathlib.Core.Bool.{Bool, true, false, cond}
use mathlib.Core.List.{List, [], ◌∷◌}
use mathlib.Core.Logic.{◌≢◌, ⊎_elim}
use native.Mathlib.Omega.{arith}
use lib.ListN.{replicate}
use Rattle.kinds.specs.Answers.{refuse, blank_record, no_names}
use Rattle.kinds.specs.declared.Name.{Name}
use Rattle.kinds.specs.declared.Partition.{Partition}
use Rattle.kinds.specs.declared.Operation.{Operation}
use Rattle.std.specs.Prelude.{Err}
use Rattle.kinds.specs.declared.Refusal.{Refusal}
use Rattle.kinds.specs.declared.Single.{Single}
use Rattle.kinds.specs.declared.Single.TheVariants.{Open, Close, Local}
use Rattle.kinds.specs.Answers.{Verdict}
use Rattle.kinds.specs.Answers.{allowed}
use Rattle.model.specs.Image.{Image}
use Rattle.model.specs.Acts.{single}
use Rattle.model.specs.Judge.{check}
use Rattle.model.specs.Sound.{is_sound}
use Rattle.model.proofs.SoundnessActs.{zeros_unsound}
use Rattle.holding.specs.Finding.{explained}
use Rattle.lines.specs.Line.{tail_ok}
use Rattle.writer.specs.Record.{terms_of}
use Rattle.journal.specs.Recover.{Stand, early, going, stopped, reader, feed_all, refusal, recovery, at_end, answer, recover_of}
use Rattle.catalogue.specs.Answers.{Said, refused_with, said, totals, said_closing, yield, said_freeing, said_listing, said_reading, said_asked}
use Rattle.catalogue.specs.Call.{perform, judge_act, judge_foreign, judge_object, call_by, call_of, commit_of, close_of, local_of, listing_of, reading_of, asked_of, why_of}
use Rattle.promises.specs.Rows.{Row, given, Found, telled, First, Unsound, NoRoot}
use Rattle.promises.specs.Calls.{Call, single_call, calling}
use Rattle.promises.proofs.Calling.{Refusing, refused_leaves}
use Rattle.promises.proofs.Refusals.{act_first, close_first, local_first}

-- A REFUSED RECOVERY LEAVES ZEROS and keeps nothing
pub refused_recovery : (log : List ℕ) (len : ℕ) → (recover_of log len).verdict ≢ allowed → ((recover_of log len).image ≡ replicate len 0) × ((recover_of log len).kept ≡ 0)
unfolding recover_of answer
refused_recovery log len ne = by (feed_all len (reader early [] 0) log).stand (feed_all len (reader early [] 0) log).part ne
  where
    by : (s : Stand) (t : List ℕ) → (at_end len s t).verdict ≢ allowed → ((at_end len s t).image ≡ replicate len 0) × ((at_end len s t).kept ≡ 0)
    by early t ne = (refl, refl)
    by (stopped k l) t ne = (refl, refl)
    by (going h y w n kept) t ne = step (tail_ok (terms_of h).bytes t) ne
      where
        step : (b : Bool) → (cond b (recovery kept y) (refusal len 4 (n + 1))).verdict ≢ allowed
            → ((cond b (recovery kept y) (refusal len 4 (n + 1))).image ≡ replicate len 0) × ((cond b (recovery kept y) (refusal len 4 (n + 1))).kept ≡ 0)
        step true ne = absurd (ne refl)
        step false ne = (refl, refl)

-- every call but format and recover refuses with 1
abbrev unsound : Refusal
unsound = record { number = 1; extra = 0 }

pub record Refuses-1 (img : Image) : Type 0 where
  pub commit : (ops : List Operation) (log : List ℕ) (at : ℕ) → said (commit_of img ops log at).answer ≡ refused_with 0 unsound
  -- open, trace, hold and drop
  pub act : (a : Single) (log : List ℕ) (at : ℕ) → said (call_of img (single a) log at).answer ≡ refused_with 0 unsound
  pub close : (log : List ℕ) (at : ℕ) → said_closing (close_of img log at).answer ≡ refused_with (totals 0 0 0) unsound
  pub local : (p : Partition) (log : List ℕ) (at : ℕ) → said_freeing (local_of img p log at).answer ≡ refused_with (yield 0 0) unsound
  pub outlist : (p : Partition) → said_listing (listing_of img p) ≡ refused_with no_names unsound
  pub read : (n : Name) → said_reading (reading_of img n) ≡ refused_with blank_record unsound
  pub ask : (n : Name) → said_asked (asked_of img n) ≡ refused_with false unsound
  pub why : (n : Name) (words : List ℕ) → why_of img n words ≡ explained (Err unsound) words

unsound_refused : (img : Image) → is_sound img ≡ false → Refuses-1 img
unfolding call_by listing_of reading_of asked_of why_of judge_act judge_foreign judge_object check perform
unsound_refused img e =
    record {
      commit = λ ops log at. rw e;
      act = λ a log at. rw e;
      close = λ log at. rw e;
      local = λ p log at. rw e;
      outlist = λ p. rw e;
      read = λ n. rw e;
      ask = λ n. rw e;
      why = λ n words. rw e;
    }

-- ZEROS ARE REFUSED WITH 1
pub zeros_refused : (n : ℕ) → Refuses-1 (replicate n 0)
zeros_refused n = unsound_refused (replicate n 0) (zeros_unsound n)

-- WITH NO ROOT IN USE no phase opens or closes and no partition is collected
numbered : {A : Type 0} (s : Said A) (z v : A) (u : Verdict) (n e : ℕ) → n ≢ 0 → u ≡ refuse n e → s ≡ telled z v u → s.number ≢ 0
numbered s z v u n e ne q t m = ne (sym (ap (λ (r : Said _). r.number) (t ∙ ap (telled z v) q)) ∙ m)

module _ (img : Image) (log : List ℕ) (at : ℕ) (none : NoRoot img) where
  -- 1, another number, 12
  twelfth : {A : Type 0} (z v : A) (n : ℕ) (C : Type 0) (rows : List Row) (s : Said A) → n ≢ 0
      → First z v (given 1 0 (Unsound img) ∷ given n 0 C ∷ given 12 0 (NoRoot img) ∷ rows) s → s.number ≢ 0
  unfolding Found
  twelfth z v n C rows s ne f =
      ⊎_elim (λ x. numbered s z v f.0 1 0 (λ z. omega arith) x.1 f.2)
      (λ x. ⊎_elim (λ y. numbered s z v f.0 n 0 ne y.1 f.2)
      (λ y. ⊎_elim (λ w. numbered s z v f.0 12 0 (λ z. omega arith) w.1 f.2) (λ w. absurd (w.0 none)) y.1) x.1) f.1

  -- a call is refused, and leaves all as it was
  abbrev pub Stopped : Call → Type 0
  Stopped c = ((calling img c log at).number ≢ 0) × Refusing img log (calling img c log at)

  stopped_by : (c : Call) → (calling img c log at).number ≢ 0 → Stopped c
  stopped_by c ne = (ne, refused_leaves img c log at ne)

  pub rootless_open : Stopped (single_call Open)
  rootless_open = stopped_by (single_call Open) (twelfth _ _ 11 _ _ _ (λ z. omega arith) (act_first img Open log at))

  pub rootless_close : Stopped (single_call Close)
  rootless_close = stopped_by (single_call Close) (twelfth _ _ 10 _ _ _ (λ z. omega arith) (close_first img log at))

  pub rootless_local : (p : Partition) → Stopped (single_call (Local p))
  rootless_local p = stopped_by (single_call (Local p)) (twelfth _ _ 7 _ _ _ (λ z. omega arith) (local_first img p log at))
