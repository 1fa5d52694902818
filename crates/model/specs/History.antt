-- Histories: acts, each accepted where it stands, and what is counted over them.
use Rattle.std.specs.Prelude.{ℕ, ◌+◌, ◌*◌, Bool, not, List, [], ◌∷◌, ◌≡◌, eqb}
use Rattle.loops.specs.Loop.{both, every, tally}
use Rattle.kinds.specs.declared.Single.TheVariants.{Open, Trace, Close, Local, Hold, Drop}
use Rattle.kinds.specs.Answers.{allowed}
use Rattle.model.specs.Image.{Image, Key, anchor, anchors, get, place_of}
use Rattle.model.specs.Acts.{Act, commit, single, used, apply}
use Rattle.model.specs.Judge.{judge}

-- y comes from x by acts, the last first, each acceptable where it stands: after the acts before it, on the heap that they leave
pub data RunBy (P S : ℕ) (Ok : List Act → Image → Act → Type 0) (x : Image) : List Act → Image → Type 0 where
  still : RunBy P S Ok x [] x
  acted : {acts : List Act} {y : Image} (a : Act) → RunBy P S Ok x acts y → Ok acts y a → RunBy P S Ok x (a ∷ acts) (apply P S y a)

-- each accepted
abbrev pub Run : ℕ → ℕ → Image → List Act → Image → Type 0
Run P S = RunBy P S (λ acts y a. judge P S y a ≡ allowed)

-- the accepted traces of a history
unfoldable pub traces : List Act → ℕ
traces [] = 0
traces (commit os ∷ acts) = traces acts
traces (single Open ∷ acts) = traces acts
traces (single (Trace p) ∷ acts) = traces acts + 1
traces (single Close ∷ acts) = traces acts
traces (single (Local p) ∷ acts) = traces acts
traces (single (Hold h n) ∷ acts) = traces acts
traces (single (Drop h) ∷ acts) = traces acts

-- a history that closes no phase
abbrev pub Unclosed : List Act → Type 0
Unclosed [] = Unit {0}
Unclosed (commit os ∷ acts) = Unclosed acts
Unclosed (single Open ∷ acts) = Unclosed acts
Unclosed (single (Trace p) ∷ acts) = Unclosed acts
Unclosed (single Close ∷ acts) = ⊥
Unclosed (single (Local p) ∷ acts) = Unclosed acts
Unclosed (single (Hold h n) ∷ acts) = Unclosed acts
Unclosed (single (Drop h) ∷ acts) = Unclosed acts

-- the root, handle or field κ names the object at j
abbrev pub names : ℕ → Image → Key → ℕ → Bool
names S img κ j = both (not (eqb (get img κ) 0)) (eqb (place_of S (get img κ)) j)

-- W: the objects in use that neither a root nor a handle names
unfoldable pub unanchored : ℕ → ℕ → Image → ℕ
unanchored P S img = tally (P * S) (λ j. both (used img j) (every anchors (λ a. not (names S img (anchor a) j))))
