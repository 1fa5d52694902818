-- Laws of runs of bytes.
use Prim.Native.Nat.{ℕ, suc, ◌+◌, ◌-◌, ◌≤◌, ◌<◌}
use native.Mathlib.Omega.{arith}
use mathlib.Core.Path.{◌≡◌, refl, sym, ap, ◌∙◌}
use Rattle.std.proofs.Common.{None, Some, not}
use Rattle.std.specs.List.{position_or_len}
use Rattle.std.specs.Option.{unwrap_or}
use Rattle.std.proofs.lemmas.List.Recursion.{is_position_or_len}
use borrow.Author.Tests.{ltb-false}
use mathlib.Core.Bool.{Bool, true, false, cond}
use mathlib.Core.List.{List, [], ◌∷◌}
use lib.Dec.{eqb, ltb}
use lib.ListN.{length, take, drop, get_or, length-drop, drop_of_length-le}
use lib.Seq.{take-length}
use mathlib.Core.Logic.{⊎_elim}
use Rattle.loops.proofs.Tests.{lt_or_ge}
use Rattle.scripts.specs.declared.run.Run.{Run}
use Rattle.scripts.specs.declared.run.Run.TheVariants.{Gap, Word}
use Rattle.scripts.specs.Runs.{goes_on, span, end_of, bare_of}

pub end_past : (r : Run) (l : List ℕ) (i : ℕ) → length l ≤ i → end_of r l i ≡ i
unfolding end_of span
end_past r l i h = rw (drop_of_length-le l h) (omega arith)

pub span_length : (r : Run) (l : List ℕ) → span r l ≤ length l
unfolding span
span_length r [] = omega arith
span_length r (b ∷ bs) = step (goes_on r b) (span_length r bs)
  where
    step : (t : Bool) → span r bs ≤ length bs → cond t (suc (span r bs)) 0 ≤ suc (length bs)
    step true e = omega arith
    step false e = omega arith

-- a run is as long as what stands before the first byte with which it does not go on, or as all bytes where there is none
abbrev ends_at : Run → ℕ → Bool
ends_at r b = not (goes_on r b)

span_first : (r : Run) (l : List ℕ) → span r l ≡ position_or_len (ends_at r) l
unfolding span
span_first r = is_position_or_len (span r) (ends_at r) refl (λ b bs. step (goes_on r b) bs)
  where
    step : (t : Bool) (bs : List ℕ) → cond t (suc (span r bs)) 0 ≡ cond (not t) 0 (1 + span r bs)
    step true bs = omega arith
    step false bs = refl

pub span_found : (r : Run) (l : List ℕ) → unwrap_or (cond (ltb (position_or_len (ends_at r) l) (length l)) (Some (position_or_len (ends_at r) l)) None) (length l) ≡ span r l
span_found r l = go (ltb (position_or_len (ends_at r) l) (length l)) refl ∙ sym (span_first r l)
  where
    go : (t : Bool) → ltb (position_or_len (ends_at r) l) (length l) ≡ t → unwrap_or (cond t (Some (position_or_len (ends_at r) l)) None) (length l) ≡ position_or_len (ends_at r) l
    go true q = refl
    go false q = omega (arith, ltb-false _ _ q, span_first r l, span_length r l)

-- what starts at a place is the rest from there
pub end_part : (r : Run) (l : List ℕ) (at : ℕ) → at + span r (take (length l - at) (drop at l)) ≡ end_of r l at
unfolding end_of
end_part r l at = ap (λ (n : ℕ). at + span r (take n (drop at l))) (sym (length-drop at l)) ∙ ap (λ (xs : List ℕ). at + span r xs) (take-length (drop at l))

-- a run ends at or after its place, and within the bytes
pub end_after : (r : Run) (l : List ℕ) (at : ℕ) → at ≤ end_of r l at
unfolding end_of
end_after r l at = omega arith

pub end_within : (r : Run) (l : List ℕ) (at : ℕ) → at ≤ length l → end_of r l at ≤ length l
unfolding end_of
end_within r l at h = omega (arith, span_length r (drop at l), length-drop at l)

-- a word that is found has a byte and stands within its line, from whatever place
module _ (line : List ℕ) (at : ℕ) (some : end_of Gap line at ≡ end_of Word line (end_of Gap line at) → ⊥) where
  pub found_order : end_of Gap line at < end_of Word line (end_of Gap line at)
  found_order = omega (arith, some, end_after Word line (end_of Gap line at))

  pub found_end : end_of Word line (end_of Gap line at) ≤ length line
  found_end =
      ⊎_elim
      (λ h. end_within Word line (end_of Gap line at) (end_within Gap line at (omega arith)))
      (λ h. absurd (some (rw (end_past Gap line at h, end_past Word line at h)))) (lt_or_ge at (length line))

-- a line without a byte 13 at its end is no longer
pub bare_within : (line : List ℕ) → bare_of line ≤ length line
unfolding bare_of
bare_within line = step (eqb (get_or line (length line - 1) 0) 13)
  where
    step : (t : Bool) → cond t (length line - 1) (length line) ≤ length line
    step true = omega arith
    step false = omega arith
