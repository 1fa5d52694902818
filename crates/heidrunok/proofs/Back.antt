-- Nothing is lost: what C is told, read back, is the answer of the call. No refusal has the number 0, which says accepted.
-- Assumes nothing.
use Prim.Native.Nat.{ℕ, ◌*◌, ◌≤◌}
use mathlib.Core.Path.{◌≡◌, refl, ap, ◌∙◌}
use mathlib.Core.Bool.{false, cond}
use mathlib.Core.List.{List}
use native.Mathlib.Omega.{arith}
use lib.Dec.{eqb}
use lib.ListN.{length}
use borrow.Author.Tests.{ne_eqb}
use Rattle.kinds.specs.Names.{session}
use Rattle.kinds.specs.Answers.{refuse, blank_record, no_names}
use Rattle.kinds.specs.declared.Name.{Name}
use Rattle.kinds.specs.declared.Operation.{Operation}
use Rattle.kinds.specs.declared.Partition.{Partition}
use Rattle.kinds.specs.Answers.{Reason}
use Rattle.kinds.specs.Answers.{held_from}
use Rattle.kinds.specs.declared.Refusal.{Refusal}
use Rattle.kinds.specs.declared.Single.TheVariants.{Close, Local}
use Rattle.kinds.specs.declared.Start.{Start}
use Rattle.kinds.specs.declared.Start.TheVariants.{Root, Handle}
use Rattle.kinds.specs.Answers.{Verdict}
use Rattle.std.specs.Prelude.{Result, Ok, Err}
use Rattle.kinds.specs.Answers.{allowed}
use Rattle.model.specs.Image.{Image, partitions, slots, get, place}
use Rattle.model.specs.Acts.{Act, commit, single}
use Rattle.model.specs.Judge.{check}
use Rattle.model.specs.Sound.{is_sound}
use Rattle.holding.specs.Finding.{start_of, held_of}
use Rattle.holding.proofs.Answers.{held_so}
use Rattle.lines.specs.Print.{Bytes}
use Rattle.journal.specs.Recover.{Recovered, recover_of, byte_of}
use Rattle.journal.specs.Refusals.{Refuses, no_line, no_heading, wrong_size, no_shape, misplaced, miscounted, refused_act, no_beginning}
use Rattle.journal.proofs.AnyBytes.{refused_so}
use Rattle.catalogue.specs.Answers.{Said, said_verdict, accepted as accepted_as, refused_with, totals, yield, said, said_closing, said_freeing, said_reading, said_listing, said_asked, Chained, chained, said_reason}
use Rattle.catalogue.specs.Call.{Outcome, perform, judge_act, judge_foreign, judge_object, format_of, call_by, call_of, commit_of, closed, close_of, freed, local_of, answered, reading_of, listing_of, asked_of, reasoned, why_of}
use Rattle.model.proofs.Numbers.{Among, accepted, numbered, check_among, among_wider, act_among, name_among, outlist_among, format_among}
use Rattle.catalogue.proofs.Perform.{Performed, did, left, performed}
use Rattle.catalogue.proofs.Leaving.{left_number}
use Rattle.heidrunok.specs.Face.{Restored, restored, said_recovered}

-- read back: number 0 is accepted, with the value
module _ {A B : Type 0} (done : B → A) (refused : Refusal → B → A) where
  abbrev read_back : Said B → A
  read_back s = cond (eqb s.number 0) (done s.value) (refused (record { number = s.number; extra = s.extra }) s.value)

  refused_back : (r : Refusal) (v : B) → 1 ≤ r.number → read_back (refused_with v r) ≡ refused r v
  refused_back r v l = rw (ne_eqb r.number 0 (λ z. omega arith))

-- an answer that is a value, or a refusal with none
abbrev pub back : {A : Type 0} → Said A → Result A Refusal
back = read_back Ok (λ r a. Err r)

abbrev held_as : Chained → Reason
held_as c = held_from (cond c.handle (Handle (session c.start)) (Root c.start)) c.references

abbrev pub reason_back : Said Chained → Reason
reason_back = read_back held_as (λ r c. Err r)

abbrev recovered_as : Verdict → Restored → Recovered × ℕ
recovered_as v x = (record { verdict = v; kept = x.kept; image = x.image }, x.byte)

abbrev pub recovered_back : Said Restored → Recovered × ℕ
recovered_back = read_back (recovered_as allowed) (λ r. recovered_as (Err r))

-- 1 is the call's own first check
checked : (img : Image) (v : Verdict) → Among 6 16 v → Among 1 16 (check (is_sound img) 1 0 v)
checked img v a = check_among (is_sound img) 1 0 v (omega arith) (omega arith) (among_wider 1 16 v (omega arith) (omega arith) a)

module _ {A : Type 0} (say : Result A Refusal → Said A) (zeros : A) (does : (a : A) → say (Ok a) ≡ accepted_as a) (refuses : (r : Refusal) → say (Err r) ≡ refused_with zeros r) where
  refusal_back : (r : Refusal) → 1 ≤ r.number → back (say (Err r)) ≡ Err r
  refusal_back r l = ap back (refuses r) ∙ refused_back Ok (λ r a. Err r) r zeros l

  -- a logged call's answer is read back
  performed_back : (done : ℕ → Result A Refusal) → ((n : ℕ) → back (say (done n)) ≡ done n) → (v : Verdict) → Among 1 16 v
      → (bytes : List ℕ) (next img : Image) (log : List ℕ) (at : ℕ) → let a = (perform done Err v bytes next img log at).answer in back (say a) ≡ a
  performed_back done d v a bytes next img log at = go (performed done Err v bytes next img log at)
    where
      go : {o : Outcome (Result A Refusal)} → Performed done Err v bytes next img log at o → back (say o.answer) ≡ o.answer
      go (did j m) = d _
      go (left r q) = refusal_back r (left_number 1 v bytes log at (omega arith) a r q)

  -- and so is an act's
  called_back : (done : ℕ → Result A Refusal) → ((n : ℕ) → back (say (done n)) ≡ done n) → (img : Image) (a : Act) (log : List ℕ) (at : ℕ)
      → let b = (call_by done Err img a log at).answer in back (say b) ≡ b
  unfolding call_by judge_act
  called_back done d img a log at = performed_back done d _ (checked img _ (act_among _ _ img a)) _ _ img log at

  -- a question's answer
  answered_back : (v : Verdict) (a : A) → Among 1 16 v → back (say (answered v a)) ≡ answered v a
  answered_back (Ok _) a accepted = ap back (does a)
  answered_back (Err r) a (numbered _ l h) = refusal_back r l

module _ (img : Image) (log : List ℕ) (at : ℕ) where
  pub format_back : (P S : ℕ) → let a = (format_of img P S log at).answer in back (said a) ≡ a
  unfolding format_of
  format_back P S =
      performed_back said 0 (λ a. refl) (λ r. refl) Ok (λ n. refl) _ (among_wider 1 16 _ (omega arith) (omega arith) (format_among P S _)) _ _ img log at

  -- a call that answers its record's length alone
  pub act_back : (c : Act) → let a = (call_of img c log at).answer in back (said a) ≡ a
  act_back c = called_back said 0 (λ a. refl) (λ r. refl) Ok (λ n. refl) img c log at

  pub commit_back : (ops : List Operation) → let a = (commit_of img ops log at).answer in back (said a) ≡ a
  commit_back ops = act_back (commit ops)

  pub close_back : let c = (close_of img log at).answer in back (said_closing c) ≡ c
  close_back = called_back said_closing (totals 0 0 0) (λ a. refl) (λ r. refl) (closed img) (λ n. refl) img (single Close) log at

  pub local_back : (p : Partition) → let f = (local_of img p log at).answer in back (said_freeing f) ≡ f
  local_back p = called_back said_freeing (yield 0 0) (λ a. refl) (λ r. refl) (freed img p) (λ n. refl) img (single (Local p)) log at

-- no verdict has the number 0
among_number : (v : Verdict) (k e : ℕ) → Among 1 16 v → v ≡ refuse k e → 1 ≤ k
among_number (Ok _) k e accepted j = let z : ◌≡◌ {A = ℕ} 0 1 = cc in absurd (omega arith)
among_number (Err _) k e (numbered r l h) j = let z : r.number ≡ k = cc in omega arith

pub outlist_back : (img : Image) (p : Partition) → let x = listing_of img p in back (said_listing x) ≡ x
unfolding listing_of judge_foreign
outlist_back img p =
    answered_back said_listing no_names (λ a. refl) (λ r. refl) _ _ (checked img _ (among_wider 6 16 _ (omega arith) (omega arith) (outlist_among _ p.0)))

module _ (img : Image) (n : Name) where
  object_among : Among 1 16 (judge_object img n)
  unfolding judge_object
  object_among = checked img _ (among_wider 6 16 _ (omega arith) (omega arith) (name_among _ _ img n))

  pub read_back_lem : let x = reading_of img n in back (said_reading x) ≡ x
  unfolding reading_of
  read_back_lem = answered_back said_reading blank_record (λ a. refl) (λ r. refl) _ _ object_among

  pub ask_back : let a = asked_of img n in back (said_asked a) ≡ a
  unfolding asked_of
  ask_back = answered_back said_asked false (λ a. refl) (λ r. refl) _ _ object_among

  pub why_back : (words : List ℕ) → let a = (why_of img n words).answer in reason_back (said_reason a) ≡ a
  unfolding why_of
  why_back words = go (judge_object img n) object_among
    where
      held_back : (x : Start) (k : ℕ) → reason_back (said_reason (held_from x k)) ≡ held_from x k
      held_back (Root r) k = refl
      held_back (Handle h) k = refl

      go : (v : Verdict) → Among 1 16 v
          → let a = (reasoned v (held_of (get img partitions * get img slots) (get img slots) img (place (get img slots) n) words) words).answer in reason_back (said_reason a) ≡ a
      go (Ok _) accepted = held_so _ _ img _ words (λ o. reason_back (said_reason o.answer) ≡ o.answer) refl refl (λ c. held_back (start_of c.start) (length c.fields))
      go (Err _) (numbered r l h) = refused_back held_as (λ r c. Err r) r (chained false 0 0) l

-- the numbers of the table of refused logs
log_number : {len : ℕ} {log : List ℕ} {k l : ℕ} → Refuses len log k l → 1 ≤ k
log_number (no_line _ u) = omega arith
log_number (no_heading body rest u n) = omega arith
log_number (wrong_size h rest i j) = omega arith
log_number (no_shape b body rest u n) = omega arith
log_number (misplaced b i rest s m) = omega arith
log_number (miscounted b i rest s p m) = omega arith
log_number (refused_act a b rest s p k e j) = among_number _ k e (among_wider 1 16 _ (omega arith) (omega arith) (act_among _ _ _ a)) j
log_number (no_beginning b tail u none_such) = omega arith

-- recovery's answer with its byte
pub recover_back : (log : List ℕ) (len : ℕ) → Bytes log → let x = recover_of log len in recovered_back (said_recovered log x) ≡ (x, byte_of log x.verdict)
recover_back log len b =
    let x = recover_of log len in
    go x.verdict (restored x.kept (byte_of log x.verdict) x.image) (λ k l e. log_number (refused_so log len b k l e))
  where
    go : (v : Verdict) (x : Restored) → ((k e : ℕ) → v ≡ refuse k e → 1 ≤ k) → recovered_back (said_verdict v x) ≡ recovered_as v x
    go (Ok _) x h = refl
    go (Err r) x h = refused_back (recovered_as allowed) (λ r. recovered_as (Err r)) r x (h r.number r.extra refl)
