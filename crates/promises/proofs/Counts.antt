-- Counts are right: in every sound image, and so in every heap that calls reached from a formatting or a recovery, the count of an object is the number of
-- fields of objects in other partitions that name it.
-- Assumes nothing.
use Prim.Native.Nat.{ℕ, ◌*◌, ◌<◌}
use mathlib.Core.Path.{◌≡◌, sym, ap, ◌∙◌}
use mathlib.Core.Bool.{true, not}
use mathlib.Core.List.{List}
use mathlib.Core.Logic.{◌≢◌}
use lib.Dec.{eqb}
use borrow.Author.Tests.{eqb-true, eqb-false, eq-eqb, not-true}
use Rattle.loops.proofs.Tests.{both_true, both_so, ne_not}
use Rattle.model.specs.Image.{Image, field, partitions, slots, get, place_of, part_of, abroad}
use Rattle.model.specs.Acts.{Act}
use Rattle.model.specs.Sound.{points, in_count, SoundAt}
use Rattle.model.proofs.Counting.{counted_abroad, abroad_counted}
use Rattle.model.proofs.Soundness.{sound_true}
use Rattle.writer.specs.Record.{Rule}
use Rattle.promises.specs.World.{World, logged}
use Rattle.promises.specs.Counts.{NamedFrom, Counts}
use Rattle.promises.proofs.Reached.{reached_sound}

module _ (P S : ℕ) (x : Image) (s : SoundAt P S x) where
  -- the test of a field
  points_named : (i j k : ℕ) → j < P * S → k < 4 → points S j (get x (field j k)) i ≡ true → NamedFrom S x i j k
  unfolding points abroad
  points_named i j k lj lk e =
      let w : ℕ = get x (field j k) in
      let a = both_true (abroad S j w) (eqb (place_of S w) i) e in
      let c = both_true (not (eqb w 0)) (not (eqb (part_of S j) (part_of S (place_of S w)))) a.0 in
      let some : w ≢ 0 = eqb-false w 0 (not-true _ c.0) in
      let target : place_of S w ≡ i = eqb-true _ _ a.1 in
      record {
        in_use = λ z. some ((s.free_slots j lj z).fields k lk);
        names = record { some = some; target = target };
        foreign = λ q. eqb-false (part_of S j) (part_of S (place_of S w)) (not-true _ c.1) (q ∙ ap (part_of S) (sym target));
      }

  named_points : (i j k : ℕ) → NamedFrom S x i j k → points S j (get x (field j k)) i ≡ true
  unfolding points abroad
  named_points i j k n =
      both_so _ _ (both_so _ _ (ne_not _ _ n.names.some) (ne_not _ _ (λ q. n.foreign (q ∙ ap (part_of S) n.names.target)))) (eq-eqb _ _ n.names.target)

  pub sound_counts : Counts (P * S) S x
  unfolding in_count
  sound_counts =
      record {
        number = λ i l. s.right.counts i l;
        test = λ i j k lj lk. record { only = points_named i j k lj lk; so = named_points i j k };
        some = λ i l. record { only = counted_abroad (P * S) S x s.right i l; so = abroad_counted (P * S) S x s.right i l };
      }

-- IN EVERY HEAP THAT CALLS REACHED, P and S being words 0 and 1
pub counts_right : {w : Image} {h : Rule} {acts : List Act} {x : Image} → World w (logged h) acts x → Counts (get x partitions * get x slots) (get x slots) x
counts_right {x = x} world = sound_counts (get x partitions) (get x slots) x (sound_true x (reached_sound world))
