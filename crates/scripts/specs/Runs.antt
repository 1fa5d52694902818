-- Runs of bytes, and the words of a line.
use Rattle.std.specs.Prelude.{ℕ, suc, ◌+◌, ◌-◌, Bool, true, cond, not, Option, None, Some, List, [], ◌∷◌, eqb, length, take, drop, get_or}
use Rattle.scripts.specs.declared.run.Run.{Run}
use Rattle.scripts.specs.declared.run.Run.TheVariants.{Gap, Word, Line}
use Rattle.scripts.specs.declared.run.Span.{Span}

-- a space or a tab
abbrev pub is_gap : ℕ → Bool
is_gap b = cond (eqb b 32) true (eqb b 9)

-- a run goes on with a byte: words are parted by spaces and tabs, and lines ended by byte 10
abbrev pub goes_on : Run → ℕ → Bool
goes_on Gap b = is_gap b
goes_on Word b = not (is_gap b)
goes_on Line b = not (eqb b 10)

-- how many bytes the run has with which a list starts
unfoldable pub span : Run → List ℕ → ℕ
span r [] = 0
span r (b ∷ bs) = cond (goes_on r b) (suc (span r bs)) 0

-- the place after the run that starts at a place
unfoldable pub end_of : Run → List ℕ → ℕ → ℕ
end_of r bytes at = at + span r (drop at bytes)

-- a word from a place to another, if it has a byte
abbrev pub spanned : ℕ → ℕ → Option Span
spanned from to = cond (eqb from to) None (Some (record { from = from; to = to }))

-- the first word from a place on, if there is one: it starts after spaces and tabs
unfoldable pub word_at : List ℕ → ℕ → Option Span
word_at line at = spanned (end_of Gap line at) (end_of Word line (end_of Gap line at))

-- the bytes of a word
abbrev pub text_of : List ℕ → Span → List ℕ
text_of line w = take (w.to - w.from) (drop w.from line)

-- the length of a line without the byte 13 that may stand at its end
unfoldable pub bare_of : List ℕ → ℕ
bare_of line = cond (eqb (get_or line (length line - 1) 0) 13) (length line - 1) (length line)
