-- `locals::mark_outs` meets its contract. Assumes nothing. After f turns what the first f fields name outside t is marked.
use Rattle.kinds.specs.Names.{most_places}
use Rattle.model.specs.Outlist.{out_bits}
use Rattle.model.specs.Questions.{collect}
use Rattle.loops.proofs.Turns.{each_none, each_more, each_done}
use lib.ListN.{length-replicate}
use mathlib.Core.Path.{◌∙◌}
use Prim.Native.Nat.{ℕ}
use native.Mathlib.Omega.{arith}
use Rattle.locals.proofs.mark_outs.Goals as goal

pub loop-f-init : goal.loop-f-init
loop-f-init c = let e = c.requires.t_lt_p.1 in (e ∙ each_none _ _, rw e (length-replicate {A = ℕ} most_places 0))

pub loop-f-preserved : goal.loop-f-preserved
loop-f-preserved c = let e = c.mark_out.ensures in (e.0 ∙ each_more _ _ _ _ c.loop-f.invariant.0, e.1)

pub returns : goal.returns
unfolding out_bits collect
returns c = each_done _ _ _ _ _ (omega arith) (omega arith) c.loop-f.invariant.0
