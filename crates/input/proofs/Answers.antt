-- Laws of the answers of `read`.
use Prim.Native.Nat.{ℕ, ◌+◌}
use native.Mathlib.Omega.{arith}
use mathlib.Core.Path.{◌≡◌, refl, ap, ◌∙◌}
use mathlib.Core.List.{List, ◌∷◌, ◌++◌}
use borrow.Author.Tests.{eq-eqb, ne_eqb}
use Rattle.std.specs.Prelude.{Some, None, Result, Ok, Err}
use Rattle.input.specs.Input.{after_of, input_of, Moves, start, more_moved}

module _ {E : Type 0} where
  -- one answer, by the tests that are made of it
  pub after_failed : (done : ℕ) (e : E) → after_of done (Err e) ≡ Err e
  after_failed done e = refl

  pub after_none : (done k : ℕ) → k ≡ 0 → after_of {E = E} done (Ok k) ≡ Ok None
  after_none done k h = rw (eq-eqb k 0 h)

  pub after_some : (done k : ℕ) → (k ≡ 0 → ⊥) → after_of {E = E} done (Ok k) ≡ Ok (Some (done + k))
  after_some done k h = rw (ne_eqb k 0 h)

  -- A FAILED READ BEFORE THE END MAKES THE WHOLE FAIL BY ITS ERROR, WHATEVER CAME BEFORE
  pub failed_stays : {answers : List (Result ℕ E)} {n : ℕ} → Moves answers n → (done : ℕ) (e : E) (rest : List (Result ℕ E)) → input_of done (answers ++ (Err e ∷ rest)) ≡ Err e
  unfolding input_of
  failed_stays start done e rest = refl
  failed_stays (more_moved {k = j} h m) done e rest = rw (input_of, after_some done j (λ q. omega arith)) (failed_stays m (done + j) e rest)

  -- ELSE THE BYTES ARE COUNTED, to the end of the input
  pub whole_sum : {answers : List (Result ℕ E)} {n : ℕ} → Moves answers n → (done : ℕ) (rest : List (Result ℕ E)) → input_of done (answers ++ (Ok 0 ∷ rest)) ≡ Ok (done + n)
  unfolding input_of
  whole_sum start done rest = ap Ok (omega arith)
  whole_sum (more_moved {n = n} {k = j} h m) done rest = rw (input_of, after_some done j (λ q. omega arith)) (whole_sum m (done + j) rest ∙ ap Ok (omega arith))

  -- or until the buffer is full
  pub full_sum : {answers : List (Result ℕ E)} {n : ℕ} → Moves answers n → (done : ℕ) → input_of done answers ≡ Ok (done + n)
  unfolding input_of
  full_sum start done = ap Ok (omega arith)
  full_sum (more_moved {n = n} {k = j} h m) done = rw (input_of, after_some done j (λ q. omega arith)) (full_sum m (done + j) ∙ ap Ok (omega arith))
