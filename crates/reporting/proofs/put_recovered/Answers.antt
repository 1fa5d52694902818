-- `reporting::put_recovered` meets its contract. Assumes nothing.
use Rattle.lines.proofs.Printed.{bytes_of}
use Rattle.reporting.proofs.Reporting.{kept_small, kept_some, line_small, byte_small, kept_shown, refused_shown}
use Rattle.lines.specs.Print.{Bytes}
use Rattle.model.proofs.Keys.{sized_length}
use Rattle.model.specs.Image.{length_of}
use mathlib.Core.Path.{◌∙◌}
use native.Mathlib.Omega.{arith}
use Rattle.reporting.proofs.put_recovered.Goals as goal

pub overflow_cast-k : goal.overflow_cast-k
overflow_cast-k c =
    let log-bytes : Bytes c.args.log.now = bytes_of c.args.log.now (λ i. omega (arith, c.shared_slice_known-1.given i)) in
    omega (arith, kept_small _ _ _ _ c.recover.ensures.0 (log-bytes) c.in-Ok.is)

pub put_kept-requires : goal.put_kept-requires
unfolding length_of
put_kept-requires c =
    let log-bytes : Bytes c.args.log.now = bytes_of c.args.log.now (λ i. omega (arith, c.shared_slice_known-1.given i)) in (
      omega arith,
      omega arith,
      sized_length _ _ _ (c.recover.auto.img ∙ c.requires.p_le_most_partitions.2 (kept_some _ _ _ _ c.recover.ensures.0 (log-bytes) c.in-Ok.is)),
      omega arith,
    )

pub overflow_cast-r : goal.overflow_cast-r
overflow_cast-r c =
    let log-bytes : Bytes c.args.log.now = bytes_of c.args.log.now (λ i. omega (arith, c.shared_slice_known-1.given i)) in
    omega (arith, line_small _ _ _ _ c.recover.ensures.0 (log-bytes) c.in-Err.is)

pub overflow_cast-f : goal.overflow_cast-f
overflow_cast-f c =
    omega (arith, byte_small _ _ _ _ c.recover.ensures.0 _ c.in-Err.is c.recover.ensures.1)

pub returns-in-Ok : goal.returns-in-Ok
returns-in-Ok c =
    rw (← kept_shown _ _ _ _ c.recover.ensures.0 _ _ _ c.in-Ok.is) c.put_kept.ensures

pub returns-in-Err : goal.returns-in-Err
returns-in-Err c =
    rw (← refused_shown _ _ _ _ c.recover.ensures.0 _ c.in-Err.is c.recover.ensures.1 _ _) c.put_refused.ensures
