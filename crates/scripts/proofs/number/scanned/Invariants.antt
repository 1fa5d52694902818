use Rattle.lines.specs.Machine.{scan}
use Rattle.lines.specs.Words.{all_rows}
use Rattle.scripts.specs.Numbers.{after_end}
use lib.ListN.{length, drop}
use mathlib.Core.Path.{◌≡◌}
use Prim.Native.Nat.{◌+◌, ◌≤◌}
use Rattle.scripts.proofs.number.scanned.Given as goal

abbrev pub invariant-loop-b : goal.invariant-loop-b
invariant-loop-b l = (length l.word ≤ l.b-index + l.room) × (after_end l.word ≡ scan all_rows l.room l.s (drop l.b-index l.word))
