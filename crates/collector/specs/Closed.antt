-- What close answers.
use Rattle.std.specs.Prelude.{ℕ, ◌*◌}
use Rattle.model.specs.Image.{Image, count, get}
use Rattle.model.specs.Acts.{unmarked}
use Rattle.collector.specs.declared.Closed.{Closed}

-- the traces counted, and how many objects it frees
abbrev pub closed_of : ℕ → ℕ → Image → Closed
closed_of P S img = record { count = get img count; freed = unmarked (P * S) img }
