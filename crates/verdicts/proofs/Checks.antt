-- A check of a judge: where it passes the answer is that of the next, else it is the check's refusal.
-- Assumes nothing.
use Prim.Native.Nat.{ℕ}
use mathlib.Core.Path.{◌≡◌}
use mathlib.Core.Bool.{Bool, true, false}
use Rattle.kinds.specs.Answers.{refuse}
use Rattle.kinds.specs.Answers.{Verdict}
use Rattle.model.specs.Judge.{check}

pub passes : {b : Bool} (n e : ℕ) {v r : Verdict} → b ≡ true → r ≡ v → r ≡ check b n e v
unfolding check
passes n e h q = rw h q

pub stops : {b : Bool} {n e : ℕ} (v : Verdict) {r : Verdict} → b ≡ false → r ≡ refuse n e → r ≡ check b n e v
unfolding check
stops v h q = rw h q
