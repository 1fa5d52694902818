-- The list by which a trace visits the objects of its partition.
use Rattle.std.specs.Prelude.{ℕ, ◌+◌, ◌*◌}
use Rattle.loops.specs.Loop.{each}
use Rattle.kinds.specs.Names.{fields}
use Rattle.model.specs.Image.{Image, field, get}
use Rattle.model.specs.Acts.{marked, mark_word}
use Rattle.model.specs.Walk.{Todo, Longer}
use Rattle.collector.specs.declared.found.Found.{Found}

-- it has the marked objects of partition p
pub record Listed (S p : ℕ) (img : Image) (list : Found) : Type 0 where
  pub todo : Todo marked (λ s. p * S + s) S img list.places list.number

-- it has grown at its end
abbrev pub Grown : Found → Found → Type 0
Grown list list' = Longer list.places list.number list'.places list'.number

-- what the fields of the object at j name becomes marked
unfoldable pub mark_fields : ℕ → Image → ℕ → Image
mark_fields S img j = each fields (λ x k. mark_word S x (get x (field j k))) img
