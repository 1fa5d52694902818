-- `heidrunok::heidrunok_hold` meets its contract. Assumes nothing.
use Prim.Native.Nat.{ℕ}
use mathlib.Core.Path.{◌≡◌, ap, ◌∙◌}
use mathlib.Core.List.{List}
use Rattle.kinds.specs.declared.Handle.{Handle}
use Rattle.kinds.specs.declared.Name.{Name}
use Rattle.model.specs.Image.{Image}
use Rattle.catalogue.specs.Answers.{Answer}
use Rattle.catalogue.specs.Answers.{said}
use Rattle.catalogue.specs.Call.{Outcome, hold_of}
use Rattle.heidrunok.proofs.Faces.{seen_of}
use Rattle.heidrunok.proofs.heidrunok_hold.Goals as goal

-- the name that was made is the name of these numbers
of-name : (o : Outcome Answer) (img : Image) (h : Handle) (m n : Name) (log : List ℕ) (at : ℕ) → o ≡ hold_of img h m log at → m ≡ n → o ≡ hold_of img h n log at
of-name o img h m n log at e q = e ∙ ap (λ (k : Name). hold_of img h k log at) q

pub returns : goal.returns
returns c =
    seen_of said _ _ _ _ _ (of-name _ _ _ _ _ _ _ c.hold.ensures c.named.ensures) c.tell.ensures
