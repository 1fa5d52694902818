-- The name of one place, marked or not, put at the list's end.
-- Assumes nothing.
use Prim.Native.Nat.{ℕ, ◌+◌, ◌*◌, ◌/◌, ◌%◌, ◌<◌}
use mathlib.Core.Path.{◌≡◌}
use mathlib.Core.Logic.{◌≢◌}
use lib.ListN.{get_or, set}
use borrow.Author.Tests.{eq-eqb, ne_eqb}
use Rattle.kinds.specs.Names.{radix, most_names}
use Rattle.model.specs.Questions.{Bits, has_bit}
use Rattle.model.specs.Outlist.{name_at, name_one}
use Rattle.kinds.specs.declared.Outlist.{Outlist}
use Rattle.locals.specs.Outlist.{Placed}

module _ {S : ℕ} {bits : Bits} {i : ℕ} {o : Outlist} (h : Placed S bits i o) where
  pub put_none : get_or bits i 0 ≢ 1 → o ≡ name_one S bits o i
  unfolding has_bit
  put_none e = rw (ne_eqb _ _ e)

  pub put_room : get_or bits i 0 ≡ 1 → o.number < most_names
  unfolding has_bit
  put_room e = h.room (eq-eqb _ _ e)

  pub put_one : get_or bits i 0 ≡ 1 → ◌≡◌ {A = Outlist} (record { number = o.number + 1; names = set o.names o.number (i / S * radix + i % S + 1) }) (name_one S bits o i)
  unfolding has_bit name_at
  put_one e = rw (eq-eqb _ _ e)
