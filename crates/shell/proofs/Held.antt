-- What holds before each line of the script: no more is lent than there is, and no more operations wait, and lines are played, than bytes were
-- read.
-- Assumes nothing.
use Prim.Native.Nat.{ℕ, ◌+◌, ◌≤◌, ◌<◌}
use native.Mathlib.Omega.{arith}
use mathlib.Core.Path.{◌≡◌}
use mathlib.Core.List.{List}
use lib.ListN.{length}
use Rattle.kinds.specs.declared.Operation.{Operation}
use Rattle.scripts.specs.declared.order.Order.{Order}
use Rattle.catalogue.specs.Call.{outcome}
use Rattle.desk.specs.declared.Desk.{Desk}
use Rattle.desk.specs.declared.Turn.{Turn}
use Rattle.desk.specs.Desk.{Lent, turn_of}
use Rattle.desk.proofs.Staying.{step_stays}
use Rattle.reporting.specs.Report.{most_words}
use Rattle.shell.specs.declared.feed.Feed.{Feed}
use Rattle.shell.specs.Feed.{Begun, room}

pub record Held (d : Desk) (img log script : List ℕ) (f : Feed) (line : ℕ) : Type 0 where
  pub words : most_words ≡ length img
  pub bytes : 65536 ≡ length log
  pub space : room ≡ length script
  pub lent : Lent d img log
  pub few : d.waits ≤ f.at
  pub counted : line ≤ f.at

pub held_first : (d : Desk) (img log script : List ℕ) (f : Feed) → most_words ≡ length img → 65536 ≡ length log → room ≡ length script → Begun d → Held d img log script f 0
held_first d img log script f m n k b =
    record {
      words = m;
      bytes = n;
      space = k;
      lent = record { words = omega (arith, b.words); bytes = omega (arith, b.bytes) };
      few = omega (arith, b.waits);
      counted = omega arith;
    }

-- after a line
module _ (d : Desk) (img log script : List ℕ) (f : Feed) (n : ℕ) (h : Held d img log script f n) (line : List ℕ) (ops : List Operation) (o : Order) (t : Turn) (img' log' : List ℕ)
    (q : outcome t img' log' ≡ turn_of o line d ops img log) (m : most_words ≡ length img') (b : 65536 ≡ length log') where
  pub lent_next : Lent t.desk img' log'
  lent_next =
      let s = step_stays line d ops img log h.lent o t img' log' q in
      record { words = omega (arith, s.words, h.words); bytes = omega (arith, s.bytes, h.bytes) }

  pub held_next : (script' : List ℕ) (g : Feed) → room ≡ length script' → f.at < g.at → Held t.desk img' log' script' g (n + 1)
  held_next script' g k l =
      let s = step_stays line d ops img log h.lent o t img' log' q in
      record {
        words = m;
        bytes = b;
        space = k;
        lent = lent_next;
        few = omega (arith, s.waits, h.few);
        counted = omega (arith, h.counted);
      }
