-- What noting does to notes.
use Rattle.std.specs.Prelude.{◌≡◌}
use Rattle.model.specs.Walk.{Longer}
use Rattle.todo.specs.declared.Notes.{Notes}

-- more is noted of the same places, what stood in the list staying where it was
pub record More (a b : Notes) : Type 0 where
  pub lo_same : b.lo ≡ a.lo
  pub n_same : b.n ≡ a.n
  pub longer : Longer a.list a.end b.list b.end
