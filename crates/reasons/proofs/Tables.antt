-- Laws of the tables: how many places are met, and the room for one more.
-- Assumes nothing.
use Prim.Native.Nat.{ℕ, ◌+◌, ◌≤◌, ◌<◌}
use mathlib.Core.Path.{◌≡◌, sym, ap, ◌∙◌}
use mathlib.Core.List.{List}
use native.Mathlib.Omega.{arith}
use lib.Dec.{ltb}
use lib.ListN.{length, get_or, set, replicate, length-set, length-replicate}
use lib.Seq.{get_or-set_same, get_or-set_other}
use borrow.Author.Tests.{lt-ltb, le-ltb}
use Rattle.loops.specs.Loop.{tally, bit}
use Rattle.loops.proofs.Loops.{tally_le, tally_move}
use Rattle.loops.proofs.Walks.{tally_none_pass}
use Rattle.kinds.specs.Names.{most_places}
use Rattle.model.proofs.Keys.{zeros}
use Rattle.reasons.specs.Tables.{is_met, Tables}

-- none is met
pub tables_first : Tables (replicate most_places 0) (replicate most_places 0) 0
tables_first =
    record {
      wide = length-replicate {A = ℕ} most_places 0;
      long = length-replicate {A = ℕ} most_places 0;
      counted =
          sym
          (tally_none_pass most_places (is_met (replicate most_places 0))
          (λ i l. le-ltb 0 (get_or (replicate most_places 0) i 0) (omega (arith, zeros most_places i))));
    }

module _ {rows list : List ℕ} {n : ℕ} (t : Tables rows list n) where
  pub tables_few : n ≤ most_places
  tables_few = omega (arith, t.counted, tally_le most_places (is_met rows))

  module _ (j u : ℕ) (l : j < most_places) (new : get_or rows j 0 ≡ 0) where
    row_here : get_or (set rows j (u + 1)) j 0 ≡ u + 1
    row_here = get_or-set_same rows j (u + 1) 0 (omega (arith, t.wide))

    counted_more : n + 1 ≡ tally most_places (is_met (set rows j (u + 1)))
    counted_more =
        let b : bit (is_met rows j) ≡ 0 = rw (le-ltb 0 (get_or rows j 0) (omega arith)) in
        let b' : bit (is_met (set rows j (u + 1)) j) ≡ 1 = rw (lt-ltb 0 (get_or (set rows j (u + 1)) j 0) (omega (arith, row_here))) in
        let m : tally most_places (is_met (set rows j (u + 1))) + bit (is_met rows j) ≡ tally most_places (is_met rows) + bit (is_met (set rows j (u + 1)) j) =
        tally_move most_places (is_met rows) (is_met (set rows j (u + 1))) j l (λ i k ne. ap (ltb 0) (sym (get_or-set_other rows j i (u + 1) 0 ne))) in
        omega (arith, t.counted)

    -- there is room for one that is not met, and with it the tables are whole again
    pub tables_room : n < most_places
    tables_room = omega (arith, counted_more, tally_le most_places (is_met (set rows j (u + 1))))

    pub tables_more : {list' : List ℕ} → length list' ≡ most_places → Tables (set rows j (u + 1)) list' (n + 1)
    tables_more e = record { wide = length-set rows j (u + 1) ∙ t.wide; long = e; counted = counted_more }
