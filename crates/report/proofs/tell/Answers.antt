-- `report::tell` meets its contract. Assumes nothing.
use Rattle.reporting.proofs.Reporting.{done_fits}
use Prim.Native.Nat.{ℕ}
use lib.ListN.{length-replicate}
use native.Mathlib.Omega.{arith}
use mathlib.Core.Path.{sym}
use lib.Seq.{length-take-le}
use Rattle.report.proofs.tell.Goals as goal

pub slice_bounds-text-end : goal.slice_bounds-text-end
slice_bounds-text-end g c = omega (arith, done_fits _ _ _ _ c.in-Some.k c.report.ensures c.in-Some.is, c.report.auto.out, length-replicate {A = ℕ})

pub slice_bounds-write_all-end : goal.slice_bounds-write_all-end
slice_bounds-write_all-end g c =
    sym (length-take-le _ _ (omega (arith, done_fits _ _ _ _ c.in-Some.k c.report.ensures c.in-Some.is, c.report.auto.out, length-replicate {A = ℕ})))
