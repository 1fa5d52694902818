-- Laws of numbers as words.
use Prim.Native.Nat.{ℕ, zero, suc, ◌+◌, ◌-◌, ◌*◌, ◌/◌, ◌%◌, ◌^◌, ◌<◌}
use native.Mathlib.Omega.{arith}
use native.Mathlib.Decide.{dec_lt}
use native.Mathlib.Nat.{zero-add}
use mathlib.Core.Path.{◌≡◌, refl, sym, ap, ◌∙◌, subst}
use mathlib.Core.Bool.{Bool, true, false, cond}
use mathlib.Core.List.{List, [], ◌∷◌, ◌++◌, append-nil}
use lib.Dec.{eqb, ltb}
use lib.ListN.{drop, get_or}
use borrow.Author.Tests.{lt-ltb, ltb-true, eq-eqb, eqb-true}
use Rattle.loops.specs.Loop.{both}
use Rattle.loops.proofs.Tests.{both_true, is_false}
use Rattle.lines.specs.declared.line.Line.{Line}
use Rattle.lines.specs.declared.line.Line.TheVariants.{Heading, Operation, End, Single, Bad}
use Rattle.lines.specs.declared.machine.Scan.{Scan}
use Rattle.lines.specs.Decimal.{digits, decimal}
use Rattle.lines.specs.Words.{heading_rows, other_rows, all_rows, beginnings, prefixes_of, is_in, known, following, end_text}
use Rattle.lines.specs.Machine.{enough, within, scan}
use Rattle.lines.specs.Line.{finish, line_of}
use Rattle.lines.proofs.Printed.{bytes_of}
use Rattle.lines.specs.Print.{letters, text, field, print_shape, print, Bytes, SmallLine}
use Rattle.lines.proofs.Digits.{digits_small, digits_step, decimal_length}
use Rattle.lines.proofs.RoundTrip.{round_trip}
use Rattle.lines.proofs.Back.{print_back}
use Rattle.std.proofs.Common.{Option, None, Some}
use Rattle.scripts.specs.Numbers.{value, same, number_of, after_end}

same_self : (xs : List ℕ) → same xs xs ≡ true
unfolding same
same_self [] = refl
same_self (x ∷ xs) = rw (eq-eqb x x refl) (same_self xs)

same_true : (xs ys : List ℕ) → same xs ys ≡ true → xs ≡ ys
unfolding same
same_true [] [] e = refl
same_true [] (y ∷ ys) e = absurd (let z : ◌≡◌ {A = ℕ} 0 1 = cc in omega arith)
same_true (x ∷ xs) [] e = absurd (let z : ◌≡◌ {A = ℕ} 0 1 = cc in omega arith)
same_true (x ∷ xs) (y ∷ ys) e =
    let b = both_true (eqb x y) (same xs ys) e in
    rw (eqb-true x y b.0, same_true xs ys b.1)

value_append : (v : ℕ) (xs ys : List ℕ) → value v (xs ++ ys) ≡ value (value v xs) ys
unfolding value
value_append v [] ys = refl
value_append v (x ∷ xs) ys = value_append (v * 10 + (x - 48)) xs ys

value_one : (v d : ℕ) → value v ((48 + d) ∷ []) ≡ v * 10 + d
unfolding value
value_one v d = omega arith

value_small : (f n : ℕ) → n < 10 → value 0 (digits (suc f) n) ≡ n
value_small f n h = ap (value 0) (digits_small f n h) ∙ value_one 0 n ∙ zero-add n

value_digits : (f n : ℕ) → Dec (n < 10) → n < 10 ^ suc f → value 0 (digits (suc f) n) ≡ n
value_digits zero n (yes p) h = value_small zero n p
value_digits zero n (no p) h = absurd (p h)
value_digits (suc f) n (yes p) h = value_small (suc f) n p
value_digits (suc f) n (no p) h =
    let less : n / 10 < 10 ^ suc f = omega arith in
    let ih : value 0 (digits (suc f) (n / 10)) ≡ n / 10 = value_digits f (n / 10) (dec_lt (n / 10) 10) less in
    let whole : n / 10 * 10 + n % 10 ≡ n = omega arith in
    rw (digits_step (suc f) n (omega arith), value_append, ih) (value_one (n / 10) (n % 10) ∙ whole)

value_decimal : (n : ℕ) → n < 2 ^ 32 → value 0 (decimal n) ≡ n
unfolding decimal
value_decimal n h = value_digits 9 n (dec_lt n 10) (omega arith)

-- A WORD IS THE NUMBER v EXACTLY WHERE IT IS THE DECIMAL TEXT OF v, WHICH IS AT MOST 4,294,967,295
pub number_is : (v : ℕ) → v < 2 ^ 32 → number_of (decimal v) ≡ Some v
unfolding number_of
number_is v h = rw (value_decimal v h, lt-ltb v (2 ^ 32) h, same_self (decimal v))

record Text (word : List ℕ) (v : ℕ) : Type 0 where
  pub written : word ≡ decimal v
  pub small : v < 2 ^ 32

test_text : (word : List ℕ) → both (ltb (value 0 word) (2 ^ 32)) (same word (decimal (value 0 word))) ≡ true → Text word (value 0 word)
test_text word e =
    let b = both_true (ltb (value 0 word) (2 ^ 32)) (same word (decimal (value 0 word))) e in
    record { written = same_true _ _ b.1; small = ltb-true _ _ b.0 }

pub number_back : (word : List ℕ) (v : ℕ) → number_of word ≡ Some v → (word ≡ decimal v) × (v < 2 ^ 32)
unfolding number_of
number_back word v e = step (both (ltb (value 0 word) (2 ^ 32)) (same word (decimal (value 0 word)))) refl e
  where
    step : (t : Bool) → both (ltb (value 0 word) (2 ^ 32)) (same word (decimal (value 0 word))) ≡ t → cond t (Some (value 0 word)) None ≡ Some v → (word ≡ decimal v) × (v < 2 ^ 32)
    step true q s =
        let k : value 0 word ≡ v = cc in
        let d = test_text word q in
        (d.written ∙ ap decimal k, omega (arith, d.small))
    step false q s = absurd (let z : ◌≡◌ {A = ℕ} 0 1 = cc in omega arith)

number_not : (word : List ℕ) → ((v : ℕ) → v < 2 ^ 32 → word ≡ decimal v → ⊥) → number_of word ≡ None
unfolding number_of
number_not word h = rw (is_false (both (ltb (value 0 word) (2 ^ 32)) (same word (decimal (value 0 word)))) (λ e. h (value 0 word) (test_text word e).small (test_text word e).written))

-- ---- the number is read as that of the log's line `end`
abbrev ending : List ℕ → List ℕ
ending word = end_text ++ (9 ∷ word)

after_end_lem : (word : List ℕ) → finish (after_end word) ≡ line_of enough (ending word)
unfolding after_end line_of scan within known following is_in prefixes_of all_rows heading_rows other_rows beginnings
after_end_lem word = refl

end_printed : (v : ℕ) → print (End v) ≡ ending (decimal v)
unfolding print print_shape text letters field
end_printed v = ap ending (append-nil (decimal v))

end_read : (v : ℕ) → v < 2 ^ 32 → line_of enough (ending (decimal v)) ≡ End v
end_read v h =
    ap (line_of enough) (sym (end_printed v))
    ∙ round_trip (End v) (h, tt) (rw (end_printed v) (omega (arith, decimal_length v)))

-- what a line of the log says of a number
abbrev pub parsed : Line → Option ℕ
parsed (Heading e p s) = None
parsed (Operation o) = None
parsed (End v) = Some v
parsed (Single a) = None
parsed Bad = None

end_bytes : (word : List ℕ) → Bytes word → Bytes (ending word)
end_bytes word h = (omega arith, (omega arith, (omega arith, (omega arith, h))))

module _ (word : List ℕ) (h : Bytes word) where
  other : (l : Line) → line_of enough (ending word) ≡ l → ((v : ℕ) → l ≡ End v → ⊥) → number_of word ≡ None
  other l e ne = number_not word (λ v small is. ne v (sym e ∙ ap (λ (xs : List ℕ). line_of enough (ending xs)) is ∙ end_read v small))

  by_line : (l : Line) → line_of enough (ending word) ≡ l → number_of word ≡ parsed l
  by_line (End v) e =
      let back = print_back enough (ending word) (end_bytes word h) (λ b. absurd (let z : ◌≡◌ {A = ℕ} 0 1 = cc in omega arith)) in
      let is : word ≡ decimal v = ap (drop 4) (back.0 ∙ ap print e ∙ end_printed v) in
      let small : SmallLine (End v) = subst SmallLine e back.1 in
      ap number_of is ∙ number_is v small.0
  by_line (Heading e p s) q = other _ q (λ v b. absurd (let z : ◌≡◌ {A = ℕ} 0 1 = cc in omega arith))
  by_line (Operation o) q = other _ q (λ v b. absurd (let z : ◌≡◌ {A = ℕ} 0 1 = cc in omega arith))
  by_line (Single a) q = other _ q (λ v b. absurd (let z : ◌≡◌ {A = ℕ} 0 1 = cc in omega arith))
  by_line Bad q = other _ q (λ v b. absurd (let z : ◌≡◌ {A = ℕ} 0 1 = cc in omega arith))

-- what does not end a transaction says none
parsed_none : (l : Line) → ((v : ℕ) → l ≡ End v → ⊥) → None ≡ parsed l
parsed_none (Heading e p s) h = refl
parsed_none (Operation o) h = refl
parsed_none (End v) h = absurd (h v refl)
parsed_none (Single a) h = refl
parsed_none Bad h = refl

-- what the machine finds of a word is the number that the word is
pub number_found : (word : List ℕ) → ((i : ℕ) → get_or word i 0 < 256) → (s : Scan) (l m : Line) → s ≡ after_end word → l ≡ finish s → l ≡ m → parsed m ≡ number_of word
number_found word h s l m e f g = sym (by_line word (bytes_of word h) m (sym (after_end_lem word) ∙ ap finish (sym e) ∙ sym f ∙ g))

pub number_none : (word : List ℕ) → ((i : ℕ) → get_or word i 0 < 256) → (s : Scan) (l : Line) → s ≡ after_end word → l ≡ finish s → ((v : ℕ) → l ≡ End v → ⊥) → None ≡ number_of word
number_none word h s l e f g = parsed_none l g ∙ number_found word h s l l e f refl
