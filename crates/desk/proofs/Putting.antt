-- What lending and putting come to, each from what the code has there.
-- Assumes nothing.
use Prim.Native.Nat.{ℕ, ◌+◌, ◌-◌, ◌≤◌, ◌<◌}
use native.Mathlib.Omega.{arith}
use mathlib.Core.Path.{◌≡◌, refl, ◌∙◌}
use mathlib.Core.List.{List, ◌++◌}
use mathlib.Core.Bool.{Bool, true, false, cond}
use Rattle.loops.specs.Loop.{both}
use lib.Dec.{ltb}
use lib.ListN.{length, take, drop, replicate}
use lib.Seq.{length-take-le, drop-drop}
use borrow.Author.Tests.{lt-ltb, le-leb, lt-leb}
use borrow.Rule.Slice.PartMut.{put_mid}
use Rattle.journal.specs.Recover.{recover_of, byte_of}
use Rattle.recovery.specs.Answers.{Recovery}
use Rattle.std.specs.Prelude.{Ok, Err}
use Rattle.recovery.specs.Answers.{out, byte_in}
use Rattle.writer.specs.Write.{splice}
use Rattle.catalogue.specs.Call.{outcome}
use Rattle.scripts.specs.declared.command.Next.TheVariants.{Number}
use Rattle.scripts.specs.Commands.{next_number}
use Rattle.desk.specs.declared.Desk.{Desk}
use Rattle.desk.specs.declared.Response.TheVariants.{What, Ok as Fine, Recovered}
use Rattle.desk.specs.Desk.{turn, keeping, recover_for, Put, put, listed_from, bytes_of, most_bytes, put_at, put_from, lending, lend_first}

-- lending the first n of a list
module _ (n x : ℕ) (d e : Desk) (xs : List ℕ) where
  pub lend_not : length xs < n → lending (turn d What) xs ≡ lend_first n x d e xs
  unfolding lend_first
  lend_not h = rw (lt-leb n (length xs) h)

  pub lend_done : n ≤ length xs → (ys : List ℕ) → ys ≡ replicate (length (take n xs)) x → lending (turn e Fine) (ys ++ drop n xs) ≡ lend_first n x d e xs
  unfolding lend_first
  lend_done h ys q = rw (le-leb n (length xs) h, q, length-take-le n xs h)

-- putting bytes at a place of the log
module _ (at : ℕ) (xs log : List ℕ) where
  pub put_none : length xs ≡ 0 → put What log ≡ put_at at xs log
  unfolding put_at
  put_none h = rw h

  pub put_over : length log < at + length xs → put What log ≡ put_at at xs log
  unfolding put_at
  put_over h = rw (lt-leb (at + length xs) (length log) h) (either (ltb 0 (length xs)))
    where
      either : (b : Bool) → put What log ≡ cond (both b false) (put Fine (splice log at xs)) (put What log)
      either true = refl
      either false = refl

  pub put_done : (length xs ≡ 0 → ⊥) → at + length xs ≤ length log → (m : List ℕ) → m ≡ xs
      → put Fine (put_mid at (at + length xs - at) log m) ≡ put_at at xs log
  unfolding put_at splice
  put_done some h m q =
      let n : at + length xs - at ≡ length xs = omega arith in
      rw (lt-ltb 0 (length xs) (omega (arith, some)), le-leb (at + length xs) (length log) h, n, q, drop-drop)

-- `bytes`, where the place and the bytes are read
pub put_from_lem : (line : List ℕ) (from : ℕ) (log : List ℕ) (at to : ℕ) → next_number line from ≡ Number at to → (room : ℕ) → most_bytes ≡ room → (xs : List ℕ) → xs ≡ bytes_of (listed_from room line to) → (p : Put) → p ≡ put_at at xs log → p ≡ put_from line from log
unfolding put_from
put_from_lem line from log at to e room m xs q p h = h ∙ rw (e, q, m)

-- a recovery's answer beside its image
pub recovered : (n : ℕ) (img log : List ℕ) → n ≤ length log → (r : Recovery) (left : List ℕ)
    → (out r left ≡ recover_of (take n log) (length img)) × (byte_in r ≡ byte_of (take n log) (recover_of (take n log) (length img)).verdict)
    → outcome (Recovered r) left log ≡ recover_for n img log
unfolding recover_for
recovered n img log h r left q = rw (le-leb n (length log) h, ← q.1, ← q.0) (same r)
  where
    same : (r : Recovery) → outcome (Recovered r) left log ≡ outcome (Recovered (keeping (out r left).verdict (out r left).kept (byte_in r))) (out r left).image log
    same (Ok k) = refl
    same (Err f) = refl
