-- `input::read_all` meets its contract. Assumes nothing.
use Prim.Native.Nat.{ℕ, ◌+◌, ◌-◌, ◌≤◌}
use native.Mathlib.Omega.{arith}
use mathlib.Core.Path.{◌≡◌, ap, ◌∙◌}
use mathlib.Core.List.{List, ◌++◌}
use lib.ListN.{take, drop}
use Rattle.std.specs.Prelude.{Option}
use Rattle.std.specs.Io.KnownBytes.{Consumes}
use Rattle.std.proofs.KnownBytes.{Consumes-trans}
use Rattle.std.proofs.Math.Seq.{take-add}
use Rattle.input.proofs.read_all.Goals as goal

-- one read more behind the first `done` bytes
taken_more : (a b c : Option (List ℕ)) (done n : ℕ) (was now : List ℕ) → done ≤ n → take done now ≡ take done was → Consumes a b (take done was)
    → Consumes b c (take (n - done) (drop done now)) → Consumes a c (take n now)
taken_more a b c done n was now h kept before read =
    let m : n ≡ done + (n - done) = omega arith in
    let e : take n now ≡ take done was ++ take (n - done) (drop done now) =
    ap (λ (k : ℕ). take k now) m ∙ take-add done (n - done) now ∙ ap (λ (l : List ℕ). l ++ take (n - done) (drop done now)) kept in
    rw e (Consumes-trans a b c _ _ before read)

pub loop-more-preserved : goal.loop-more-preserved
loop-more-preserved g c =
    let t = c.loop-more in
    let r = c.read_more-got in
    let s = rw (c.in-Ok.is, c.in-Some.is) at r.ensures.stands in
    let k = rw (c.in-Ok.is, c.in-Some.is) at r.ensures.known in
    (r.auto.buf ∙ t.invariant.0, s.1, taken_more _ _ _ _ _ _ _ (omega arith) r.ensures.kept t.invariant.2 k)
