-- The words of a chain: 2k + 1 of them for k references; and the word of a name leads back to its place.
-- Assumes nothing.
use Prim.Native.Nat.{ℕ, ◌+◌, ◌*◌, ◌/◌, ◌%◌, ◌≤◌, ◌<◌}
use mathlib.Core.Path.{◌≡◌, refl, ap, ◌∙◌}
use mathlib.Core.List.{List, [], ◌∷◌, ◌++◌}
use native.Mathlib.Nat.{div-add-mod', mod-lt}
use native.Mathlib.Omega.{arith}
use lib.ListN.{length}
use Rattle.kinds.specs.Names.{radix, word_of, named}
use Rattle.model.specs.Image.{place_of}
use Rattle.model.proofs.Places.{place_word}
use Rattle.holding.specs.Holding.{Chain}
use Rattle.model.specs.Outlist.{name_at}
use Rattle.holding.specs.Finding.{turns, words_of}

module _ (S : ℕ) where
  pub turns_length : (ns fs : List ℕ) → length ns ≡ length fs → length (turns S ns fs) ≡ 2 * length fs
  unfolding turns
  turns_length [] [] e = refl
  turns_length [] (k ∷ fs) e = absurd (omega arith)
  turns_length (i ∷ ns) [] e = absurd (omega arith)
  turns_length (i ∷ ns) (k ∷ fs) e = omega (arith, turns_length ns fs (omega arith))

  pub words_length : (c : Chain) → length c.names ≡ length c.fields → length (words_of S c) ≡ 2 * length c.fields + 1
  unfolding words_of
  words_length c e = omega (arith, turns_length c.names c.fields e)

  pub turns_then : (ns fs : List ℕ) (i k : ℕ) → length ns ≡ length fs → turns S (ns ++ (i ∷ [])) (fs ++ (k ∷ [])) ≡ turns S ns fs ++ (k ∷ name_at S i ∷ [])
  unfolding turns
  turns_then [] [] i k e = refl
  turns_then [] (l ∷ fs) i k e = absurd (omega arith)
  turns_then (j ∷ ns) [] i k e = absurd (omega arith)
  turns_then (j ∷ ns) (l ∷ fs) i k e = ap (λ (r : List ℕ). l ∷ name_at S j ∷ r) (turns_then ns fs i k (omega arith))

  module _ (s : 0 < S) (w : S ≤ radix) where
    -- the word of a place's name leads back to the place
    pub place_name : (j : ℕ) → place_of S (name_at S j) ≡ j
    unfolding name_at word_of
    place_name j = place_word S (named (j / S) (j % S)) (omega (arith, mod-lt j s)) ∙ div-add-mod' j S
