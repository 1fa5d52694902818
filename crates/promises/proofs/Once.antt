-- No second outcome, of the public calls beside the catalogue's own (catalogue/proofs/Unique.antt): recover, the report's text, the cursor and the writer.
-- Said of the contract itself: `Post` is what the check reads of a call's `ensures`. Assumes nothing.
use Prim.Native.Nat.{ℕ}
use mathlib.Core.Path.{◌≡◌, refl, sym, ap, ◌∙◌}
use mathlib.Core.List.{List}
use contract.Lifetimes.{Lfts}
use borrow.Fn.Kinds.{Dens, res_t, ended_of}
use denote.Triple.Clauses.{AtExit}
use Rattle.model.specs.Image.{Image}
use Rattle.writer.specs.Write.{Wrote, wrote}
use Rattle.journal.specs.Recover.{Recovered}
use Rattle.recovery.specs.Answers.{Recovery, fault_from}
use Rattle.kinds.specs.Answers.{Verdict}
use Rattle.std.specs.Prelude.{Option, Ok, Err}
use Rattle.recovery.specs.Answers.{out, byte_in}
use Rattle.recovery.proofs.recover.Kinds as recover
use Rattle.recovery.proofs.recover.Reads as recover-reads
use Rattle.reporting.proofs.report.Kinds as report
use Rattle.reporting.proofs.report.Reads as report-reads
use Rattle.lines.proofs.cursor.Cursor.next.Kinds as next
use Rattle.lines.proofs.cursor.Cursor.next.Reads as next-reads
use Rattle.lines.proofs.cursor.Cursor.fault.Kinds as fault
use Rattle.lines.proofs.cursor.Cursor.fault.Reads as fault-reads
use Rattle.writer.proofs.write_line.Kinds as line
use Rattle.writer.proofs.write_line.Reads as line-reads
use Rattle.writer.proofs.write_commit.Kinds as commit
use Rattle.writer.proofs.write_commit.Reads as commit-reads

-- an answer, and what it leaves in the lent buffer
pub record Once {A : Type 0} (a b : A) (x y : List ℕ) : Type 0 where
  pub answer : a ≡ b
  pub left : x ≡ y

-- recovery's answer and image can be read off what they mean, with the byte
read_off : Verdict → ℕ → ℕ → Recovery
read_off (Ok _) k b = Ok k
read_off (Err r) k b = fault_from r b

out_answer : (a : Recovery) (x : Image) → read_off (out a x).verdict (out a x).kept (byte_in a) ≡ a
unfolding read_off
out_answer (Ok k) x = refl
out_answer (Err f) x = refl

out_image : (a : Recovery) (x : Image) → (out a x).image ≡ x
out_image (Ok k) x = refl
out_image (Err f) x = refl

out_once : (o : Recovered) (k : ℕ) (a b : Recovery) (x y : Image) → (out a x ≡ o) × (byte_in a ≡ k) → (out b y ≡ o) × (byte_in b ≡ k) → Once a b x y
out_once o k a b x y p q =
    let e : out a x ≡ out b y = p.0 ∙ sym q.0 in
    let f : byte_in a ≡ byte_in b = p.1 ∙ sym q.1 in
    record {
      answer = sym (out_answer a x) ∙ ap (λ (r : Recovered). read_off r.verdict r.kept (byte_in a)) e ∙ ap (read_off (out b y).verdict (out b y).kept) f ∙ out_answer b y;
      left = sym (out_image a x) ∙ ap (λ (r : Recovered). r.image) e ∙ out_image b y;
    }

pub recover_once : (κs : Lfts 2) (xs : Dens κs recover.ps) (a b : (res_t recover.r κs).Denot) (s t : AtExit (ended_of 2 recover.ps recover.r) κs)
    → recover-reads.Post κs xs a s → recover-reads.Post κs xs b t → Once a b s.0.now t.0.now
recover_once κs xs a b s t p q = out_once _ _ _ _ _ _ p q

wrote_once : (o : Wrote) (a b : Option ℕ) (x y : List ℕ) → wrote a x ≡ o → wrote b y ≡ o → Once a b x y
wrote_once o a b x y p q =
    let e : wrote a x ≡ wrote b y = p ∙ sym q in
    record { answer = ap (λ (w : Wrote). w.answer) e; left = ap (λ (w : Wrote). w.log) e }

pub write_line_once : (κs : Lfts 1) (xs : Dens κs line.ps) (a b : (res_t line.r κs).Denot) (s t : AtExit (ended_of 1 line.ps line.r) κs)
    → line-reads.Post κs xs a s → line-reads.Post κs xs b t → Once a b s.0.now t.0.now
write_line_once κs xs a b s t p q = wrote_once _ _ _ _ _ p q

pub write_commit_once : (κs : Lfts 2) (xs : Dens κs commit.ps) (a b : (res_t commit.r κs).Denot) (s t : AtExit (ended_of 2 commit.ps commit.r) κs)
    → commit-reads.Post κs xs a s → commit-reads.Post κs xs b t → Once a b s.0.now t.0.now
write_commit_once κs xs a b s t p q = wrote_once _ _ _ _ _ p q

pub report_once : (κs : Lfts 2) (xs : Dens κs report.ps) (a b : (res_t report.r κs).Denot) (s t : AtExit (ended_of 2 report.ps report.r) κs)
    → report-reads.Post κs xs a s → report-reads.Post κs xs b t → Once a b s.1.0.now t.1.0.now
report_once κs xs a b s t p q = wrote_once _ _ _ _ _ p q

pub next_once : (κs : Lfts 1) (xs : Dens κs next.ps) (a b : (res_t next.r κs).Denot) (s t : AtExit (ended_of 1 next.ps next.r) κs)
    → next-reads.Post κs xs a s → next-reads.Post κs xs b t → a ≡ b
next_once κs xs a b s t p q = p ∙ sym q

pub fault_once : (κs : Lfts 1) (xs : Dens κs fault.ps) (a b : (res_t fault.r κs).Denot) (s t : AtExit (ended_of 1 fault.ps fault.r) κs)
    → fault-reads.Post κs xs a s → fault-reads.Post κs xs b t → a ≡ b
fault_once κs xs a b s t p q = p ∙ sym q
