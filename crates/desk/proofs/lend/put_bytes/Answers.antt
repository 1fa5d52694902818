-- `desk::lend::put_bytes` meets its contract. Assumes nothing.
use mathlib.Core.Path.{sym, ◌∙◌}
use Rattle.desk.proofs.Putting.{put_from_lem}
use Rattle.desk.specs.Desk.{put_from}
use lib.ListN.{length-replicate}
use native.Mathlib.Omega.{arith}
use Prim.Native.Nat.{ℕ}
use Rattle.desk.proofs.lend.put_bytes.Goals as goal

pub returns-in-Nothing : goal.returns-in-Nothing
unfolding put_from
returns-in-Nothing c =
    rw (← c.next_number.ensures, c.in-Nothing.is)

pub returns-in-Bad : goal.returns-in-Bad
unfolding put_from
returns-in-Bad c =
    rw (← c.next_number.ensures, c.in-Bad.is)

pub returns-in-Number : goal.returns-in-Number
returns-in-Number c =
    put_from_lem _ _ _ _ _ (sym c.next_number.ensures ∙ c.in-Number.is) _ (omega (arith, length-replicate {A = ℕ} 65536 0)) _ c.listed-n.ensures.list_after _ c.put_at.ensures
