-- The shape of an image by what format judges, a reference word by its numbers, and the whole test by its parts.
-- Assumes nothing.
use Prim.Native.Nat.{ℕ, ◌*◌, ◌-◌, ◌/◌, ◌%◌, ◌≤◌, ◌<◌}
use mathlib.Core.Path.{◌≡◌, refl, sym, ap, ◌∙◌}
use mathlib.Core.Bool.{Bool, true, false, not, cond}
use mathlib.Core.Logic.{◌≢◌}
use native.Mathlib.Omega.{arith}
use lib.Dec.{eqb, leb}
use lib.ListN.{length}
use borrow.Author.Tests.{eq-eqb, ne_eqb, le-leb, leb-false}
use Rattle.loops.specs.Loop.{both, every}
use Rattle.kinds.specs.Names.{radix, most_partitions}
use Rattle.kinds.specs.declared.Refusal.{Refusal}
use Rattle.kinds.specs.Answers.{Verdict}
use Rattle.std.specs.Prelude.{Err}
use Rattle.kinds.specs.Answers.{allowed}
use Rattle.kinds.proofs.Answers.{unlike}
use Rattle.std.specs.Bool.{then_some}
use Rattle.std.specs.Option.{MatchOption}
use Rattle.std.specs.declared.option.Option.{Option}
use Rattle.model.specs.Image.{Image, Key, state, partitions, slots, phase, count, allowance, front, anchors, get, length_of, size, place_of}
use Rattle.model.specs.Acts.{used, is_open}
use Rattle.model.specs.Judge.{judge_format}
use Rattle.model.specs.Sound.{ref_ok, slot_ok, count_ok, anchor_ok, flag_ok, flag_down, unmarked_at, open_ok, shut_ok, Sound, sound_at}
use Rattle.model.proofs.Keys.{In, Has, has, sized_length, length_sized}
use Rattle.model.proofs.Soundness.{limits_back, range_back}
use Rattle.image.proofs.Formats.{format_so, format_true}
use Rattle.image.proofs.Within.{part_word, word_in}
use Rattle.soundness.specs.Checks.{Shaped, NamesSlot}

-- no sound image is shorter than what stands before the slots
pub sound_front : (x : Image) → leb front (length_of x) ≡ false → Sound x → ⊥
unfolding size
sound_front x e h = omega (arith, h.length_agrees, leb-false front (length_of x) e)

-- an image of this shape has every word of its places
pub shaped_has : {P S : ℕ} {x : Image} → Shaped P S x → (κ : Key) → In (P * S) κ → Has x κ
shaped_has {P} {S} {x} h κ i = has (P * S) x h.long κ i

module _ (P S : ℕ) (x : Image) where
  -- a reference word whose place is in range, at any key
  pub ref_used : (κ : Key) (w : ℕ) → get x κ ≡ w → w ≢ 0 → (w - 1) / radix < P → (w - 1) % radix < S → ref_ok P S x κ ≡ used x (place_of S w)
  unfolding ref_ok
  ref_used κ w e n p s = rw (e, ne_eqb w 0 n, range_back P S w p s)

  -- what the phase asks when it is shut, as a chain
  pub shut_chain : shut_ok P S x ≡ both (both (both (eqb (get x count) 0) (eqb (get x allowance) 0)) (every most_partitions (flag_down x))) (every (P * S) (unmarked_at x))
  unfolding shut_ok
  shut_chain = go (eqb (get x count) 0) (eqb (get x allowance) 0) (every most_partitions (flag_down x)) (every (P * S) (unmarked_at x))
    where
      go : (a b c d : Bool) → both a (both b (both c d)) ≡ both (both (both a b) c) d
      go true true c d = refl
      go true false c d = refl
      go false b c d = refl

  -- what `named` answers of a word whose place is in range, where v is the state there
  pub named_so : (κ : Key) (w v : ℕ) (r : Option (ℕ × ℕ)) → get x κ ≡ w → w ≢ 0 → (w - 1) / radix < P → (w - 1) % radix < S → v ≡ get x (state (place_of S w)) → r ≡ then_some (not (eqb v 0)) ((w - 1) / radix, place_of S w)
      → MatchOption r (ref_ok P S x κ ≡ false) (λ t. NamesSlot P S x κ t.0 t.1)
  named_so κ w v r e n p s at is = go (eqb v 0) refl
    where
      go : (b : Bool) → eqb v 0 ≡ b → MatchOption r (ref_ok P S x κ ≡ false) (λ t. NamesSlot P S x κ t.0 t.1)
      go true z = rw (is, z) (ref_used κ w e n p s ∙ rw (← at, z))
      go false z =
          rw (is, z) (record { sound = ref_used κ w e n p s ∙ rw (← at, z); partition = part_word S w s; place = ap (place_of S) (sym e); inside = word_in P S w p s })

  -- the shape of an image is what format judges
  pub shaped_image : judge_format P S (length x) ≡ allowed → Shaped P S x
  unfolding length_of
  shaped_image e = let t = format_true P S (length x) e in record { limits = t.0; long = sized_length P S x t.1 }

  -- what it refuses is not sound
  pub format_unsound : (v : Verdict) (r : Refusal) → P ≡ get x partitions → S ≡ get x slots → v ≡ judge_format P S (length x) → v ≡ Err r → Sound x → ⊥
  unfolding length_of
  format_unsound v r p s e q h = unlike (sym q ∙ e ∙ rw (p, s) (sym (format_so (get x partitions) (get x slots) (length x) h.limits h.length_agrees)))

  -- an image of this shape, as a chain
  pub sound_chain : Shaped P S x → get x phase ≤ 1
      → sound_at P S x ≡ both (both (both (both (every (P * S) (slot_ok P S x)) (every (P * S) (count_ok S (P * S) x))) (every anchors (anchor_ok P S x))) (every most_partitions (flag_ok P x)))
      (cond (is_open x) (open_ok P S x) (shut_ok P S x))
  unfolding sound_at
  sound_chain h l =
      rw (limits_back P S h.limits, eq-eqb (length_of x) (size P S) (length_sized P S x h.long), le-leb (get x phase) 1 l)
      (go (every (P * S) (slot_ok P S x)) (every (P * S) (count_ok S (P * S) x)) (every anchors (anchor_ok P S x)) (every most_partitions (flag_ok P x)) (cond (is_open x) (open_ok P S x) (shut_ok P S x)))
    where
      go : (a b c d e : Bool) → both a (both b (both c (both d e))) ≡ both (both (both (both a b) c) d) e
      go true true true d e = refl
      go true true false d e = refl
      go true false c d e = refl
      go false b c d e = refl
