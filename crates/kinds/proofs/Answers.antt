-- A verdict is one of two: what is accepted is not refused.
-- Assumes nothing.
use Prim.Native.Nat.{ℕ}
use mathlib.Core.Path.{◌≡◌}
use native.Mathlib.Omega.{arith}
use Rattle.kinds.specs.declared.Refusal.{Refusal}
use Rattle.std.specs.Prelude.{Err}
use Rattle.kinds.specs.Answers.{allowed}

pub unlike : {A : Type 0} {r : Refusal} → Err r ≡ allowed → A
unlike e = let z : ◌≡◌ {A = ℕ} 0 1 = cc in absurd (omega arith)
