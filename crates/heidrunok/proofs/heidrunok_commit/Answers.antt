-- `heidrunok::heidrunok_commit` meets its contract. The loop makes the first operations, and no commit looks at others. Assumes nothing.
use Prim.Native.Nat.{ℕ, ◌<◌, ◌≤◌}
use native.Mathlib.Omega.{arith}
use mathlib.Core.Path.{◌≡◌, ap, subst, ◌∙◌}
use mathlib.Core.List.{[], map}
use lib.ListN.{length, take, length-set}
use Rattle.std.proofs.lemmas.List.{length-take, get_or-take}
use Rattle.catalogue.specs.Answers.{said}
use Rattle.heidrunok.specs.Face.{operation_of}
use Rattle.heidrunok.proofs.Faces.{seen_of, taken_more, commit_looked}
use Rattle.heidrunok.proofs.heidrunok_commit.Goals as goal

pub loop-i-preserved : goal.loop-i-preserved
loop-i-preserved c =
    let words = c.args.words.now in
    let n = c.looked_at-n.result in
    let below : c.loop-i.i < n = omega (arith, c.loop-i-test.true, length-take n words) in
    let within : c.loop-i.i < length words = omega (arith, c.loop-i-test.true, length-take n words) in
    let room : c.loop-i.i < length c.loop-i.ops = omega (arith, below, c.looked_at-n.ensures, c.loop-i.invariant.0) in (
      simp length-set c.loop-i.invariant.0,
      taken_more words c.loop-i.ops c.loop-i.i [] _ within room c.loop-i.invariant.1
          (c.operation.ensures ∙ ap operation_of (get_or-take n words c.loop-i.i [] below)),
    )

pub returns : goal.returns
returns c =
    let words = c.args.words.now in
    let ops = c.loop-i.ops in
    let n = c.looked_at-n.result in
    let all : c.loop-i.i ≡ n = omega (arith, c.loop-i-test.false, c.loop-i.auto.i-end, length-take n words, c.looked_at-n.ensures) in
    let made : take n ops ≡ take n (map operation_of words) = subst (λ (j : ℕ). take j ops ≡ take j (map operation_of words)) all c.loop-i.invariant.1 in
    let room : n ≤ length ops = omega (arith, c.looked_at-n.ensures, c.loop-i.invariant.0) in
    seen_of said _ _ _ _ _ (c.commit.ensures ∙ commit_looked _ _ _ words ops n c.looked_at-n.ensures room made) c.tell.ensures
