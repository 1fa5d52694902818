-- Numbers and keywords as words.
use Rattle.std.specs.Prelude.{ℕ, ◌+◌, ◌-◌, ◌*◌, ◌^◌, Bool, true, false, cond, Option, None, Some, List, [], ◌∷◌, eqb, ltb, leb}
use Rattle.loops.specs.Loop.{both}
use Rattle.lines.specs.declared.machine.Scan.{Scan}
use Rattle.lines.specs.declared.machine.Scan.TheVariants.{Start}
use Rattle.lines.specs.Words.{all_rows, code, end_text}
use Rattle.lines.specs.Machine.{enough, opened, scan}
use Rattle.lines.specs.Decimal.{decimal}

-- the number whose digits the bytes are, after v
unfoldable pub value : ℕ → List ℕ → ℕ
value v [] = v
value v (b ∷ bs) = value (v * 10 + (b - 48)) bs

-- the same bytes
unfoldable pub same : List ℕ → List ℕ → Bool
same [] [] = true
same [] (y ∷ ys) = false
same (x ∷ xs) [] = false
same (x ∷ xs) (y ∷ ys) = both (eqb x y) (same xs ys)

-- a word is the number whose decimal text it is: at most 4,294,967,295, no sign, no leading zero
unfoldable pub number_of : List ℕ → Option ℕ
number_of word = cond (both (ltb (value 0 word) (2 ^ 32)) (same word (decimal (value 0 word)))) (Some (value 0 word)) None

-- the machine of the log's lines after `end`, a tab and a word
unfoldable pub after_end : List ℕ → Scan
after_end word = scan all_rows (enough - 4) (Start (opened (code 0 end_text) 0)) word

-- a small letter
abbrev pub is_letter : ℕ → Bool
is_letter b = both (leb 97 b) (leb b 122)

-- the number that small letters are in base 256, after k; none where another byte stands among them, or a ninth letter
unfoldable pub coded : ℕ → List ℕ → Option ℕ
coded k [] = Some k
coded k (b ∷ bs) = cond (both (is_letter b) (ltb k (2 ^ 56))) (coded (k * 256 + b) bs) None

-- a word of at most eight small letters as a number
unfoldable pub keyword_of : List ℕ → Option ℕ
keyword_of word = coded 0 word
