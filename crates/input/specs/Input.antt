-- What the answers of `read` make of a reading. An error is of any type E.
use Rattle.std.specs.Prelude.{ℕ, ◌+◌, ◌-◌, ◌≤◌, ◌<◌, cond, List, [], ◌∷◌, eqb, length, take, drop, Option, Some, None, Result, Ok, Err}
use Rattle.std.specs.Counts.{IsPrefixLen}
use Rattle.std.specs.Io.KnownBytes.{Keeps, Consumes, IsAtEnd}

module _ {E : Type 0} where
  -- what an answer makes of `done` bytes read so far: an error is a failed read, 0 the end of the input, and else so many bytes stand there
  abbrev pub after_of : ℕ → Result ℕ E → Result (Option ℕ) E
  after_of done (Ok k) = Ok (cond (eqb k 0) None (Some (done + k)))
  after_of done (Err e) = Err e

  -- what a reading of `done` bytes that stops there has come to
  abbrev pub outcome : ℕ → Result (Option ℕ) E → Result ℕ E
  outcome done (Ok (Some n)) = Ok n
  outcome done (Ok None) = Ok done
  outcome done (Err e) = Err e

  -- it goes on from more bytes, and else stops
  abbrev pub next_of : ℕ → Result (Option ℕ) E → (ℕ → Result ℕ E) → Result ℕ E
  next_of done (Ok (Some n)) on = on n
  next_of done (Ok None) on = outcome done (Ok None)
  next_of done (Err e) on = outcome done (Err e)

  -- what a reading of `done` bytes comes to by these answers
  unfoldable pub input_of : ℕ → List (Result ℕ E) → Result ℕ E
  input_of done [] = Ok done
  input_of done (answer ∷ rest) = next_of done (after_of done answer) (λ n. input_of n rest)

  -- answers that moved a byte or more each, so many in all
  pub data Moves : List (Result ℕ E) → ℕ → Type 0 where
    start : Moves [] 0
    more_moved : {answers : List (Result ℕ E)} {n k : ℕ} → 0 < k → Moves answers n → Moves (Ok k ∷ answers) (k + n)

  -- what stands after one read, `done` bytes of `most` being there before
  abbrev pub Stands : ℕ → ℕ → Result (Option ℕ) E → Type 0
  Stands done most (Ok (Some n)) = (done < n) × (n ≤ most)
  Stands done most (Ok None) = Unit {0}
  Stands done most (Err e) = Unit {0}

  -- what one read takes of the bytes that are known to come: those that stand behind the first `done` now. It ends only where none is to come or no
  -- room is left, and a failed read takes none.
  abbrev pub Takes : Option (List ℕ) → Option (List ℕ) → ℕ → Result (Option ℕ) E → List ℕ → Type 0
  Takes old new done (Ok (Some n)) bytes = Consumes old new (take (n - done) (drop done bytes))
  Takes old new done (Ok None) bytes = Keeps old new × (done < length bytes → IsAtEnd new)
  Takes old new done (Err e) bytes = Keeps old new

  -- the bytes that a whole reading counts stand at the start of the buffer
  abbrev pub Filled : Result ℕ E → List ℕ → Type 0
  Filled (Ok n) bytes = IsPrefixLen n bytes
  Filled (Err e) bytes = Unit {0}

  -- and they are all that is known to come, as far as there is room
  abbrev pub TakesAll : Option (List ℕ) → Option (List ℕ) → Result ℕ E → List ℕ → Type 0
  TakesAll old new (Ok n) bytes = Consumes old new (take n bytes) × (n < length bytes → IsAtEnd new)
  TakesAll old new (Err e) bytes = Unit {0}
