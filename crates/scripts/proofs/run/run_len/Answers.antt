-- `scripts::run::run_len` meets its contract. Assumes nothing.
use Rattle.std.proofs.Common.{rules, tests, ◌∙◌, not}
use Rattle.std.proofs.lemmas.Iterator.{YieldsList-from_slice}
use Rattle.std.proofs.lemmas.Iterator.Search.{position_from_yields_List}
use Rattle.scripts.specs.Runs.{goes_on}
use Rattle.scripts.proofs.Ends.{span_found}
use Rattle.scripts.proofs.run.run_len.Goals as goal

pub returns : goal.returns
returns c =
    let a = c.args in
    let p = position_from_yields_List (λ b. not (goes_on a.run b)) _ _ c.position.result c.position.ensures.ran (YieldsList-from_slice a.bytes.now cc) (λ x b q k. search (rules, tests)) in
    c.unwrap_or.ensures ∙ rw p (span_found a.run a.bytes.now)
