-- What the parts that read leave: a line without its byte 13 is within the line, a read that found more stays within the buffer, and no more is
-- lent at first than there is.
-- Assumes nothing.
use Prim.Native.Nat.{ℕ, ◌+◌, ◌-◌, ◌≤◌}
use native.Mathlib.Omega.{arith}
use mathlib.Core.Path.{◌≡◌}
use mathlib.Core.List.{List}
use lib.ListN.{length, take, drop, length-drop}
use lib.Seq.{length-take-le}
use Rattle.scripts.specs.Runs.{bare_of}
use Rattle.scripts.proofs.Ends.{bare_within}
use Rattle.reporting.specs.declared.asked.Asked.{Asked}
use Rattle.reporting.specs.Report.{most_words, asked_of}
use Rattle.reporting.proofs.Headings.{Bounded, log_bounded}
use Rattle.std.specs.Prelude.{Option, Some, None, IfSome, MatchOption}
use Rattle.desk.specs.declared.Desk.{Desk}
use Rattle.desk.specs.Desk.{desk}
use Rattle.shell.specs.Feed.{Begun}

pub bare_part : (s : List ℕ) (at end n : ℕ) → at ≤ end → end ≤ length s → n ≡ bare_of (take (end - at) (drop at s)) → at + n ≤ end
bare_part s at end n h k e =
    let l : length (take (end - at) (drop at s)) ≡ end - at = length-take-le (end - at) (drop at s) (omega (arith, length-drop at s)) in
    omega (arith, bare_within (take (end - at) (drop at s)))

-- as many words are lent as a log asks for, or none
pub lent_begun : (log : List ℕ) (o : Option Asked) (w n : ℕ) (d : Desk) → o ≡ asked_of log → MatchOption o (w ≡ 0) (λ a. w ≡ a.words) → n ≤ 65536 → d ≡ desk w n 0 → Begun d
lent_begun log o w n d e m h q =
    let k = words_most o w (rw e (log_bounded log)) m in
    rw q (record { words = k; bytes = h; waits = omega arith })
  where
    words_most : (o : Option Asked) (w : ℕ) → IfSome o Bounded → MatchOption o (w ≡ 0) (λ a. w ≡ a.words) → w ≤ most_words
    words_most None w b e = omega arith
    words_most (Some a) w b e = omega (arith, b.most)
