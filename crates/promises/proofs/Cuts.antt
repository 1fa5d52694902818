-- The cuts of the paper's log within the record of its transaction, for the starred numbers.
-- Assumes nothing.
use Prim.Native.Nat.{ℕ, ◌≤◌}
use native.Mathlib.Omega.{arith}
use mathlib.Core.Path.{◌≡◌, refl, sym, ap, ◌∙◌}
use mathlib.Core.List.{List, [], ◌∷◌}
use lib.ListN.{length, take}
use lib.Seq.{take-take}
use borrow.Author.Tests.{lt-leb}
use Rattle.kinds.specs.Editions.{terms}
use Rattle.kinds.specs.Operations.{three}
use Rattle.lines.specs.Words.{Edition}
use Rattle.model.proofs.Computing.{imaging, looping, acting, judging}
use Rattle.model.specs.Image.{size, blank}
use Rattle.model.specs.Acts.{Act, commit}
use Rattle.model.specs.History.{still, acted}
use Rattle.writer.specs.Record.{rule, heading_of}
use Rattle.journal.proofs.Demand.{demand_2}
use Rattle.journal.specs.Log.{log_of, replay, whole, History}
use Rattle.journal.specs.Recover.{recovery, recover_of}
use Rattle.promises.specs.Paper.{paper_log}

-- the paper's transaction is a history under a heading of each edition
transacted : (e : ℕ) → Edition e → 4 ≤ (terms e).slots → History (rule e 2 4) (commit three ∷ [])
unfolding imaging looping acting judging replay
transacted e known narrow =
    record { edition = known; range = refl; narrow = narrow; words = ((omega arith, (omega arith, (omega arith, (tt, (tt, (tt, tt)))))), tt); run = acted (commit three) still refl }

-- so by demand 2 the cuts from 11 to 88 bytes, within its record, leave the formatting alone
pub cut_at : (e : ℕ) → Edition e → 4 ≤ (terms e).slots → length (heading_of (rule e 2 4)) ≡ 11 → take 89 (paper_log e) ≡ log_of (rule e 2 4) (commit three ∷ [])
    → (k : ℕ) → 11 ≤ k → k ≤ 88 → recover_of (take k (paper_log e)) 125 ≡ recovery 11 (blank 2 4)
unfolding whole log_of replay size
cut_at e known narrow eleven begins k lo hi =
    let record-end : length (log_of (rule e 2 4) (commit three ∷ [])) ≡ 89 = sym (ap length begins) in
    let none : whole (rule e 2 4) (commit three ∷ []) k ≡ [] = rw (lt-leb (length (log_of (rule e 2 4) (commit three ∷ []))) k (omega arith)) in
    ap (λ (zs : List ℕ). recover_of zs 125) (sym (take-take k 89 (paper_log e) (omega arith)) ∙ ap (take k) begins)
    ∙ demand_2 (rule e 2 4) (commit three ∷ []) (transacted e known narrow) k (omega arith)
    ∙ ap (λ (acts : List Act). recovery (length (log_of (rule e 2 4) acts)) (replay (rule e 2 4) acts)) none
    ∙ ap (λ (n : ℕ). recovery n (blank 2 4)) eleven
