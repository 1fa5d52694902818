-- Restore sessions: what a session handle keeps of the object that it holds, as the customer asked for it.
use Rattle.std.specs.Prelude.{ℕ, ◌<◌, List, ◌≡◌, ◌≢◌}
use Rattle.kinds.specs.Names.{word_of}
use Rattle.kinds.specs.declared.Name.{Name}
use Rattle.kinds.specs.declared.Handle.{Handle}
use Rattle.std.specs.Prelude.{Some}
use Rattle.kinds.specs.declared.Single.TheVariants.{Open, Trace, Close, Local, Hold, Drop}
use Rattle.kinds.specs.Answers.{allowed}
use Rattle.model.specs.Image.{Image, handle, state, payload, field, get, place}
use Rattle.model.specs.Acts.{Act, commit, single}
use Rattle.model.specs.Judge.{judge}
use Rattle.model.specs.History.{RunBy}
use Rattle.model.specs.Chains.{Names, LeadsFrom, Step, steps, birth}

-- an act that neither drops the handle h nor has it take another object than n
abbrev pub Retains : Handle → Name → Act → Type 0
Retains h n (commit os) = Unit {0}
Retains h n (single Open) = Unit {0}
Retains h n (single (Trace p)) = Unit {0}
Retains h n (single Close) = Unit {0}
Retains h n (single (Local p)) = Unit {0}
Retains h n (single (Hold g m)) = g ≡ h → m ≡ n
Retains h n (single (Drop g)) = g ≢ h

-- y comes from x by accepted acts, the last first, none of which drops the handle h or has it take another object than n
abbrev pub Retaining : ℕ → ℕ → Handle → Name → Image → List Act → Image → Type 0
Retaining P S h n = RunBy P S (λ acts y a. (judge P S y a ≡ allowed) × Retains h n a)

-- the handle h holds the object n: its word names it, it is in use, and so is all that the handle leads to now
pub record Held (S : ℕ) (h : Handle) (n : Name) (y : Image) : Type 0 where
  pub word : get y (handle h.0) ≡ word_of (Some n)
  pub names : Names S y (handle h.0) (place S n)
  pub object : get y (state (place S n)) ≢ 0
  pub led : (j : ℕ) → LeadsFrom S y (handle h.0) j → get y (state j) ≢ 0

-- after the acts since the hold, the last first, it holds the object that it was given: none of them created another at its place
pub record Session (S : ℕ) (h : Handle) (n : Name) (since : List Act) (y : Image) : Type 0 where
  pub held : Held S h n y
  pub same : (before : List Step) → birth S (steps since before) (place S n) ≡ birth S before (place S n)

-- from x to y the object at place j remains: in use, with its payload and its fields
pub record Remains (x y : Image) (j : ℕ) : Type 0 where
  pub used : get y (state j) ≢ 0
  pub value : get y (payload j) ≡ get x (payload j)
  pub fields : (k : ℕ) → k < 4 → get y (field j k) ≡ get x (field j k)
