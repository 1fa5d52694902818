-- No second outcome: whatever a call is given, its contract leaves one number, one value of each pointer, one image, one log buffer
-- and one list of lent words.
-- `Post` is what the check reads of the call's `ensures`. Assumes nothing.
use Prim.Native.Nat.{ℕ}
use mathlib.Core.Path.{◌≡◌, sym, ap, ◌∙◌}
use mathlib.Core.List.{List}
use contract.Lifetimes.{Lfts}
use borrow.Fn.Kinds.{Dens, res_t, ended_of}
use denote.Triple.Clauses.{AtExit}
use Rattle.kinds.specs.declared.Record.{Record}
use Rattle.holding.specs.Finding.{explained}
use Rattle.catalogue.specs.Answers.{Said, totals, yield, chained}
use Rattle.catalogue.proofs.Unique.{Once, once}
use Rattle.heidrunok.specs.Face.{told, restored, outlist_of}
use Rattle.heidrunok.proofs.Fields.{record_once}
use Rattle.heidrunok.proofs.heidrunok_format.Kinds as format
use Rattle.heidrunok.proofs.heidrunok_format.Reads as format-reads
use Rattle.heidrunok.proofs.heidrunok_commit.Kinds as commit
use Rattle.heidrunok.proofs.heidrunok_commit.Reads as commit-reads
use Rattle.heidrunok.proofs.heidrunok_open.Kinds as opening
use Rattle.heidrunok.proofs.heidrunok_open.Reads as opening-reads
use Rattle.heidrunok.proofs.heidrunok_trace.Kinds as trace
use Rattle.heidrunok.proofs.heidrunok_trace.Reads as trace-reads
use Rattle.heidrunok.proofs.heidrunok_close.Kinds as close
use Rattle.heidrunok.proofs.heidrunok_close.Reads as close-reads
use Rattle.heidrunok.proofs.heidrunok_local.Kinds as local
use Rattle.heidrunok.proofs.heidrunok_local.Reads as local-reads
use Rattle.heidrunok.proofs.heidrunok_hold.Kinds as hold
use Rattle.heidrunok.proofs.heidrunok_hold.Reads as hold-reads
use Rattle.heidrunok.proofs.heidrunok_drop.Kinds as drop
use Rattle.heidrunok.proofs.heidrunok_drop.Reads as drop-reads
use Rattle.heidrunok.proofs.heidrunok_recover.Kinds as recover
use Rattle.heidrunok.proofs.heidrunok_recover.Reads as recover-reads
use Rattle.heidrunok.proofs.heidrunok_read.Kinds as read
use Rattle.heidrunok.proofs.heidrunok_read.Reads as read-reads
use Rattle.heidrunok.proofs.heidrunok_ask.Kinds as ask
use Rattle.heidrunok.proofs.heidrunok_ask.Reads as ask-reads
use Rattle.heidrunok.proofs.heidrunok_outlist.Kinds as outlist
use Rattle.heidrunok.proofs.heidrunok_outlist.Reads as outlist-reads
use Rattle.heidrunok.proofs.heidrunok_why.Kinds as why
use Rattle.heidrunok.proofs.heidrunok_why.Reads as why-reads

pub format_once : (κs : Lfts 4) (xs : Dens κs format.ps) (a b : (res_t format.r κs).Denot) (s t : AtExit (ended_of 4 format.ps format.r) κs)
    → format-reads.Post κs xs a s → format-reads.Post κs xs b t
    → Once (told a s.1.1.1.1.1.1.0.now s.1.1.1.1.1.0.now) (told b t.1.1.1.1.1.1.0.now t.1.1.1.1.1.0.now)
    s.0.now t.0.now s.1.1.1.0.now t.1.1.1.0.now
format_once κs xs a b s t p q = once _ _ _ _ _ _ _ p q

pub commit_once : (κs : Lfts 5) (xs : Dens κs commit.ps) (a b : (res_t commit.r κs).Denot) (s t : AtExit (ended_of 5 commit.ps commit.r) κs)
    → commit-reads.Post κs xs a s → commit-reads.Post κs xs b t
    → Once (told a s.1.1.1.1.1.0.now s.1.1.1.1.0.now) (told b t.1.1.1.1.1.0.now t.1.1.1.1.0.now)
    s.0.now t.0.now s.1.1.0.now t.1.1.0.now
commit_once κs xs a b s t p q = once _ _ _ _ _ _ _ p q

pub open_once : (κs : Lfts 4) (xs : Dens κs opening.ps) (a b : (res_t opening.r κs).Denot) (s t : AtExit (ended_of 4 opening.ps opening.r) κs)
    → opening-reads.Post κs xs a s → opening-reads.Post κs xs b t
    → Once (told a s.1.1.1.1.0.now s.1.1.1.0.now) (told b t.1.1.1.1.0.now t.1.1.1.0.now)
    s.0.now t.0.now s.1.0.now t.1.0.now
open_once κs xs a b s t p q = once _ _ _ _ _ _ _ p q

pub trace_once : (κs : Lfts 4) (xs : Dens κs trace.ps) (a b : (res_t trace.r κs).Denot) (s t : AtExit (ended_of 4 trace.ps trace.r) κs)
    → trace-reads.Post κs xs a s → trace-reads.Post κs xs b t
    → Once (told a s.1.1.1.1.1.0.now s.1.1.1.1.0.now) (told b t.1.1.1.1.1.0.now t.1.1.1.1.0.now)
    s.0.now t.0.now s.1.1.0.now t.1.1.0.now
trace_once κs xs a b s t p q = once _ _ _ _ _ _ _ p q

pub close_once : (κs : Lfts 6) (xs : Dens κs close.ps) (a b : (res_t close.r κs).Denot) (s t : AtExit (ended_of 6 close.ps close.r) κs)
    → close-reads.Post κs xs a s → close-reads.Post κs xs b t
    → Once (told a s.1.1.1.1.1.1.0.now (totals s.1.1.1.0.now s.1.1.1.1.0.now s.1.1.1.1.1.0.now))
    (told b t.1.1.1.1.1.1.0.now (totals t.1.1.1.0.now t.1.1.1.1.0.now t.1.1.1.1.1.0.now)) s.0.now t.0.now s.1.0.now t.1.0.now
close_once κs xs a b s t p q = once _ _ _ _ _ _ _ p q

pub local_once : (κs : Lfts 5) (xs : Dens κs local.ps) (a b : (res_t local.r κs).Denot) (s t : AtExit (ended_of 5 local.ps local.r) κs)
    → local-reads.Post κs xs a s → local-reads.Post κs xs b t
    → Once (told a s.1.1.1.1.1.1.0.now (yield s.1.1.1.1.0.now s.1.1.1.1.1.0.now))
    (told b t.1.1.1.1.1.1.0.now (yield t.1.1.1.1.0.now t.1.1.1.1.1.0.now)) s.0.now t.0.now s.1.1.0.now t.1.1.0.now
local_once κs xs a b s t p q = once _ _ _ _ _ _ _ p q

pub hold_once : (κs : Lfts 4) (xs : Dens κs hold.ps) (a b : (res_t hold.r κs).Denot) (s t : AtExit (ended_of 4 hold.ps hold.r) κs)
    → hold-reads.Post κs xs a s → hold-reads.Post κs xs b t
    → Once (told a s.1.1.1.1.1.1.1.0.now s.1.1.1.1.1.1.0.now) (told b t.1.1.1.1.1.1.1.0.now t.1.1.1.1.1.1.0.now)
    s.0.now t.0.now s.1.1.1.1.0.now t.1.1.1.1.0.now
hold_once κs xs a b s t p q = once _ _ _ _ _ _ _ p q

pub drop_once : (κs : Lfts 4) (xs : Dens κs drop.ps) (a b : (res_t drop.r κs).Denot) (s t : AtExit (ended_of 4 drop.ps drop.r) κs)
    → drop-reads.Post κs xs a s → drop-reads.Post κs xs b t
    → Once (told a s.1.1.1.1.1.0.now s.1.1.1.1.0.now) (told b t.1.1.1.1.1.0.now t.1.1.1.1.0.now)
    s.0.now t.0.now s.1.1.0.now t.1.1.0.now
drop_once κs xs a b s t p q = once _ _ _ _ _ _ _ p q

pub recover_once : (κs : Lfts 5) (xs : Dens κs recover.ps) (a b : (res_t recover.r κs).Denot) (s t : AtExit (ended_of 5 recover.ps recover.r) κs)
    → recover-reads.Post κs xs a s → recover-reads.Post κs xs b t
    → told a s.1.1.1.0.now (restored s.1.1.0.now s.1.1.1.1.0.now s.0.now)
    ≡ told b t.1.1.1.0.now (restored t.1.1.0.now t.1.1.1.1.0.now t.0.now)
recover_once κs xs a b s t p q = p ∙ sym q

-- read, ask, outlist and why are lent an image that they cannot change
pub record ReadOnce (a b v w : ℕ) (xs ys : List ℕ) : Type 0 where
  pub number : a ≡ b
  pub payload : v ≡ w
  pub fields : xs ≡ ys

pub read_once : (κs : Lfts 3) (xs : Dens κs read.ps) (a b : (res_t read.r κs).Denot) (s t : AtExit (ended_of 3 read.ps read.r) κs)
    → read-reads.Post κs xs a s → read-reads.Post κs xs b t
    → ReadOnce a b s.1.1.1.0.now t.1.1.1.0.now s.1.1.1.1.0.now t.1.1.1.1.0.now
read_once κs xs a b s t p q =
    let e = p ∙ sym q in
    let o = record_once _ _ _ _ (ap (λ (x : Said Record). x.value) e) in
    record { number = ap (λ (x : Said Record). x.number) e; payload = o.0; fields = o.1 }

pub ask_once : (κs : Lfts 2) (xs : Dens κs ask.ps) (a b : (res_t ask.r κs).Denot) (s t : AtExit (ended_of 2 ask.ps ask.r) κs)
    → ask-reads.Post κs xs a s → ask-reads.Post κs xs b t
    → told a 0 s.1.1.1.0.now ≡ told b 0 t.1.1.1.0.now
ask_once κs xs a b s t p q = p ∙ sym q

pub outlist_once : (κs : Lfts 3) (xs : Dens κs outlist.ps) (a b : (res_t outlist.r κs).Denot) (s t : AtExit (ended_of 3 outlist.ps outlist.r) κs)
    → outlist-reads.Post κs xs a s → outlist-reads.Post κs xs b t
    → told a 0 (outlist_of s.1.1.0.now s.1.1.1.0.now) ≡ told b 0 (outlist_of t.1.1.0.now t.1.1.1.0.now)
outlist_once κs xs a b s t p q = p ∙ sym q

pub why_once : (κs : Lfts 5) (xs : Dens κs why.ps) (a b : (res_t why.r κs).Denot) (s t : AtExit (ended_of 5 why.ps why.r) κs)
    → why-reads.Post κs xs a s → why-reads.Post κs xs b t
    → explained (told a 0 (chained s.1.1.1.1.0.now s.1.1.1.1.1.0.now s.1.1.1.1.1.1.0.now)) s.1.1.1.0.now
    ≡ explained (told b 0 (chained t.1.1.1.1.0.now t.1.1.1.1.1.0.now t.1.1.1.1.1.1.0.now)) t.1.1.1.0.now
why_once κs xs a b s t p q = p ∙ sym q
