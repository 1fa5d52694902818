-- The bytes of a line, one after the other.
-- Assumes nothing.
use Prim.Native.Nat.{ℕ, zero, suc, ◌+◌, ◌-◌, ◌≤◌, ◌<◌}
use native.Mathlib.Omega.{arith}
use mathlib.Core.Path.{◌≡◌, refl, sym, ap, ◌∙◌}
use mathlib.Core.List.{List, [], ◌∷◌, ◌++◌, append-nil, append_assoc}
use lib.ListN.{length, take, set, length-set}
use lib.Seq.{take-suc-set}
use borrow.Author.Tests.{lt-ltb, le-ltb}
use Rattle.scripts.specs.declared.command.Next.TheVariants.{Number, Nothing, Bad}
use Rattle.scripts.specs.Commands.{next_number}
use Rattle.desk.specs.Desk.{Listed, list, no_list, before, listed_from, bytes_of}

before_none : (l : Listed) → before [] l ≡ l
before_none (list xs) = refl
before_none no_list = refl

before_twice : (xs ys : List ℕ) (l : Listed) → before xs (before ys l) ≡ before (xs ++ ys) l
before_twice xs ys (list zs) = ap list (sym (append_assoc xs ys zs))
before_twice xs ys no_list = refl

-- n bytes are listed, and the line goes on at i
pub record Going (room : ℕ) (line : List ℕ) (from : ℕ) (xs : List ℕ) (n i : ℕ) : Type 0 where
  pub within : n ≤ length xs
  pub same : length xs ≡ room
  pub rest : listed_from room line from ≡ before (take n xs) (listed_from (room - n) line i)

module _ (room : ℕ) (line : List ℕ) (from : ℕ) where
  pub going_first : (xs : List ℕ) → length xs ≡ room → Going room line from xs 0 from
  going_first xs h =
      let z : room - 0 ≡ room = omega arith in
      record { within = omega arith; same = h; rest = rw z (sym (before_none (listed_from room line from))) }

  module _ (xs : List ℕ) (n i : ℕ) (g : Going room line from xs n i) where
    ends : (m : ℕ) → next_number line i ≡ Nothing → listed_from m line i ≡ list []
    unfolding listed_from
    ends zero e = rw e
    ends (suc m) e = rw e

    fails : (m : ℕ) → next_number line i ≡ Bad → listed_from m line i ≡ no_list
    unfolding listed_from
    fails zero e = rw e
    fails (suc m) e = rw e

    module _ (v to : ℕ) (e : next_number line i ≡ Number v to) where
      large : 255 < v → (m : ℕ) → listed_from m line i ≡ no_list
      unfolding listed_from
      large h zero = rw e
      large h (suc m) = rw (e, lt-ltb 255 v h)

      full : listed_from 0 line i ≡ no_list
      unfolding listed_from
      full = rw e

      goes : v ≤ 255 → (m : ℕ) → listed_from (suc m) line i ≡ before (v ∷ []) (listed_from m line to)
      unfolding listed_from
      goes h m = rw (e, le-ltb 255 v h)

    pub going_ends : next_number line i ≡ Nothing → take n xs ≡ bytes_of (listed_from room line from)
    going_ends e = rw (g.rest, ends (room - n) e, append-nil)

    none : (m : ℕ) → listed_from m line i ≡ no_list → m ≡ room - n → take 0 xs ≡ bytes_of (listed_from room line from)
    none m e q = rw (g.rest, ← q, e)

    pub going_fails : next_number line i ≡ Bad → take 0 xs ≡ bytes_of (listed_from room line from)
    going_fails e = none (room - n) (fails (room - n) e) refl

    pub going_large : (v to : ℕ) → next_number line i ≡ Number v to → 255 < v → take 0 xs ≡ bytes_of (listed_from room line from)
    going_large v to e h = none (room - n) (large v to e h (room - n)) refl

    pub going_full : (v to : ℕ) → next_number line i ≡ Number v to → length xs ≤ n → take 0 xs ≡ bytes_of (listed_from room line from)
    going_full v to e h = none 0 (full v to e) (omega (arith, g.same, g.within))

    pub going_on : (v to : ℕ) → next_number line i ≡ Number v to → v ≤ 255 → n < length xs → Going room line from (set xs n v) (n + 1) to
    going_on v to e h l =
        let m : room - n ≡ suc (room - (n + 1)) = omega (arith, g.same) in
        let s : n + 1 ≡ suc n = omega arith in
        let taken : take (n + 1) (set xs n v) ≡ take n xs ++ (v ∷ []) = rw s (take-suc-set xs n v l) in
        record {
          within = rw length-set (omega arith);
          same = rw length-set g.same;
          rest =
              g.rest
              ∙ ap (before (take n xs)) (ap (λ (k : ℕ). listed_from k line i) m ∙ goes v to e h (room - (n + 1)))
              ∙ before_twice (take n xs) (v ∷ []) (listed_from (room - (n + 1)) line to)
              ∙ ap (λ (ys : List ℕ). before ys (listed_from (room - (n + 1)) line to)) (sym taken);
        }
