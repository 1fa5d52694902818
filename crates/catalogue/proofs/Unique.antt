-- No second outcome: whatever a call is given, its contract leaves one answer, one image and one log buffer.
-- `Post` is what the check reads of the call's `ensures`. Assumes nothing.
use Prim.Native.Nat.{ℕ}
use mathlib.Core.Path.{◌≡◌, sym, ap, ◌∙◌}
use mathlib.Core.List.{List}
use contract.Lifetimes.{Lfts}
use borrow.Fn.Kinds.{Dens, res_t, ended_of}
use denote.Triple.Clauses.{AtExit}
use Rattle.model.specs.Image.{Image}
use Rattle.kinds.specs.Answers.{Reason}
use Rattle.holding.specs.Finding.{Explained, explained}
use Rattle.catalogue.specs.Call.{Outcome, outcome}
use Rattle.catalogue.proofs.format.Kinds as format
use Rattle.catalogue.proofs.format.Reads as format-reads
use Rattle.catalogue.proofs.commit.Kinds as commit
use Rattle.catalogue.proofs.commit.Reads as commit-reads
use Rattle.catalogue.proofs.open.Kinds as opening
use Rattle.catalogue.proofs.open.Reads as opening-reads
use Rattle.catalogue.proofs.trace.Kinds as trace
use Rattle.catalogue.proofs.trace.Reads as trace-reads
use Rattle.catalogue.proofs.close.Kinds as close
use Rattle.catalogue.proofs.close.Reads as close-reads
use Rattle.catalogue.proofs.local.Kinds as local
use Rattle.catalogue.proofs.local.Reads as local-reads
use Rattle.catalogue.proofs.hold.Kinds as hold
use Rattle.catalogue.proofs.hold.Reads as hold-reads
use Rattle.catalogue.proofs.drop.Kinds as drop
use Rattle.catalogue.proofs.drop.Reads as drop-reads
use Rattle.catalogue.proofs.outlist.Kinds as outlist
use Rattle.catalogue.proofs.outlist.Reads as outlist-reads
use Rattle.catalogue.proofs.read.Kinds as read
use Rattle.catalogue.proofs.read.Reads as read-reads
use Rattle.catalogue.proofs.ask.Kinds as ask
use Rattle.catalogue.proofs.ask.Reads as ask-reads
use Rattle.catalogue.proofs.why.Kinds as why
use Rattle.catalogue.proofs.why.Reads as why-reads

pub record Once {A : Type 0} (a b : A) (x y : Image) (l m : List ℕ) : Type 0 where
  pub answer : a ≡ b
  pub image : x ≡ y
  pub log : l ≡ m

pub once : {A : Type 0} (o : Outcome A) (a b : A) (x y : Image) (l m : List ℕ) → outcome a x l ≡ o → outcome b y m ≡ o → Once a b x y l m
once {A} o a b x y l m p q =
    let e : outcome a x l ≡ outcome b y m = p ∙ sym q in
    record { answer = ap (λ (o : Outcome A). o.answer) e; image = ap (λ (o : Outcome A). o.image) e; log = ap (λ (o : Outcome A). o.log) e }

pub format_once : (κs : Lfts 2) (xs : Dens κs format.ps) (a b : (res_t format.r κs).Denot) (s t : AtExit (ended_of 2 format.ps format.r) κs)
    → format-reads.Post κs xs a s → format-reads.Post κs xs b t → Once a b s.0.now t.0.now s.1.1.1.0.now t.1.1.1.0.now
format_once κs xs a b s t p q = once _ _ _ _ _ _ _ p q

pub commit_once : (κs : Lfts 3) (xs : Dens κs commit.ps) (a b : (res_t commit.r κs).Denot) (s t : AtExit (ended_of 3 commit.ps commit.r) κs)
    → commit-reads.Post κs xs a s → commit-reads.Post κs xs b t → Once a b s.0.now t.0.now s.1.1.0.now t.1.1.0.now
commit_once κs xs a b s t p q = once _ _ _ _ _ _ _ p q

pub open_once : (κs : Lfts 2) (xs : Dens κs opening.ps) (a b : (res_t opening.r κs).Denot) (s t : AtExit (ended_of 2 opening.ps opening.r) κs)
    → opening-reads.Post κs xs a s → opening-reads.Post κs xs b t → Once a b s.0.now t.0.now s.1.0.now t.1.0.now
open_once κs xs a b s t p q = once _ _ _ _ _ _ _ p q

pub trace_once : (κs : Lfts 2) (xs : Dens κs trace.ps) (a b : (res_t trace.r κs).Denot) (s t : AtExit (ended_of 2 trace.ps trace.r) κs)
    → trace-reads.Post κs xs a s → trace-reads.Post κs xs b t → Once a b s.0.now t.0.now s.1.1.0.now t.1.1.0.now
trace_once κs xs a b s t p q = once _ _ _ _ _ _ _ p q

pub close_once : (κs : Lfts 2) (xs : Dens κs close.ps) (a b : (res_t close.r κs).Denot) (s t : AtExit (ended_of 2 close.ps close.r) κs)
    → close-reads.Post κs xs a s → close-reads.Post κs xs b t → Once a b s.0.now t.0.now s.1.0.now t.1.0.now
close_once κs xs a b s t p q = once _ _ _ _ _ _ _ p q

pub local_once : (κs : Lfts 2) (xs : Dens κs local.ps) (a b : (res_t local.r κs).Denot) (s t : AtExit (ended_of 2 local.ps local.r) κs)
    → local-reads.Post κs xs a s → local-reads.Post κs xs b t → Once a b s.0.now t.0.now s.1.1.0.now t.1.1.0.now
local_once κs xs a b s t p q = once _ _ _ _ _ _ _ p q

pub hold_once : (κs : Lfts 2) (xs : Dens κs hold.ps) (a b : (res_t hold.r κs).Denot) (s t : AtExit (ended_of 2 hold.ps hold.r) κs)
    → hold-reads.Post κs xs a s → hold-reads.Post κs xs b t → Once a b s.0.now t.0.now s.1.1.1.0.now t.1.1.1.0.now
hold_once κs xs a b s t p q = once _ _ _ _ _ _ _ p q

pub drop_once : (κs : Lfts 2) (xs : Dens κs drop.ps) (a b : (res_t drop.r κs).Denot) (s t : AtExit (ended_of 2 drop.ps drop.r) κs)
    → drop-reads.Post κs xs a s → drop-reads.Post κs xs b t → Once a b s.0.now t.0.now s.1.1.0.now t.1.1.0.now
drop_once κs xs a b s t p q = once _ _ _ _ _ _ _ p q

-- outlist, read, ask and why are lent an image that they cannot change
pub outlist_once : (κs : Lfts 1) (xs : Dens κs outlist.ps) (a b : (res_t outlist.r κs).Denot) (s t : AtExit (ended_of 1 outlist.ps outlist.r) κs)
    → outlist-reads.Post κs xs a s → outlist-reads.Post κs xs b t → a ≡ b
outlist_once κs xs a b s t p q = p ∙ sym q

pub read_once : (κs : Lfts 1) (xs : Dens κs read.ps) (a b : (res_t read.r κs).Denot) (s t : AtExit (ended_of 1 read.ps read.r) κs)
    → read-reads.Post κs xs a s → read-reads.Post κs xs b t → a ≡ b
read_once κs xs a b s t p q = p ∙ sym q

pub ask_once : (κs : Lfts 1) (xs : Dens κs ask.ps) (a b : (res_t ask.r κs).Denot) (s t : AtExit (ended_of 1 ask.ps ask.r) κs)
    → ask-reads.Post κs xs a s → ask-reads.Post κs xs b t → a ≡ b
ask_once κs xs a b s t p q = p ∙ sym q

pub why_once : (κs : Lfts 2) (xs : Dens κs why.ps) (a b : (res_t why.r κs).Denot) (s t : AtExit (ended_of 2 why.ps why.r) κs)
    → why-reads.Post κs xs a s → why-reads.Post κs xs b t → (a ≡ b) × (s.1.1.0.now ≡ t.1.1.0.now)
why_once κs xs a b s t p q =
    let e : explained a s.1.1.0.now ≡ explained b t.1.1.0.now = p ∙ sym q in (
      ap (λ (o : Explained Reason). o.answer) e,
      ap (λ (o : Explained Reason). o.words) e,
    )
