-- `verdicts::leads_on` meets its contract. Assumes nothing.
use Prim.Native.Nat.{◌*◌, ◌<◌}
use native.Mathlib.Omega.{arith}
use Rattle.model.specs.Image.{state, place_of}
use Rattle.image.proofs.Within.{has_word}
use Rattle.verdicts.proofs.leads_on.Goals as goal

pub state_at-requires : goal.state_at-requires
state_at-requires c =
    let l : place_of c.args.s c.args.w < c.args.p * c.args.s = c.requires.w_bound c.if-w-eq0.false in
    has_word _ _ _ c.requires.within (state c.place_of.result) (omega arith)
