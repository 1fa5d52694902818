-- `desk::bytes_on` meets its contract. Assumes nothing.
use mathlib.Core.Path.{sym, ap}
use mathlib.Core.List.{◌++◌}
use lib.ListN.{drop}
use lib.Seq.{length-take-le}
use Rattle.desk.specs.Desk.{Put, put}
use borrow.Author.Rules.{rules}
use Rattle.desk.proofs.bytes_on.Goals as goal

pub slice_bounds-put_bytes-end-2 : goal.slice_bounds-put_bytes-end-2
slice_bounds-put_bytes-end-2 c =
    sym (length-take-le _ _ (search rules))

pub returns : goal.returns
returns c =
    let a = c.args in
    ap (λ (p : Put). put p.said (p.list ++ drop a.n a.log.now)) c.put_bytes.ensures
