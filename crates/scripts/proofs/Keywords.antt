-- Laws of keywords.
use Prim.Native.Nat.{ℕ, ◌+◌, ◌*◌, ◌^◌, ◌≤◌, ◌<◌}
use native.Mathlib.Omega.{arith}
use native.Mathlib.Numerals.{add-one}
use mathlib.Core.Path.{◌≡◌, refl, sym, ap, ◌∙◌}
use mathlib.Core.Bool.{Bool, true, false, cond}
use mathlib.Core.List.{List, [], ◌∷◌, ◌++◌, append_assoc, append-nil}
use lib.Dec.{ltb, leb}
use lib.ListN.{length, drop, get_or, drop_of_length-le}
use lib.Seq.{drop-cons}
use borrow.Author.Tests.{ltb-true, leb-true}
use Rattle.std.proofs.Common.{None, Some, ◌&&◌}
use Rattle.std.specs.Char.{is_ascii_lowercase}
use Rattle.loops.specs.Loop.{both}
use Rattle.loops.proofs.Tests.{both_true}
use Rattle.lines.specs.Print.{text}
use Rattle.lines.proofs.Texts.{text_none, text_snoc}
use Rattle.scripts.specs.Numbers.{is_letter, coded, keyword_of}

-- the library's test of a small letter
pub letter_is : (b : ℕ) → is_letter b ≡ is_ascii_lowercase b
letter_is b = step (leb 97 b)
  where
    step : (t : Bool) → both t (leb b 122) ≡ t && leb b 122
    step true = refl
    step false = refl

module _ (k : ℕ) (l : List ℕ) (i : ℕ) (h : i < length l) where
  -- a byte that no keyword has there
  pub coded_stop : both (is_letter (get_or l i 0)) (ltb k (2 ^ 56)) ≡ false → None ≡ coded k (drop i l)
  unfolding coded
  coded_stop e = rw (drop-cons l i 0 h, e)

  pub coded_on : both (is_letter (get_or l i 0)) (ltb k (2 ^ 56)) ≡ true → coded k (drop i l) ≡ coded (k * 256 + get_or l i 0) (drop (i + 1) l)
  unfolding coded
  coded_on e = rw (add-one, drop-cons l i 0 h, e)

pub coded_end : (k : ℕ) (l : List ℕ) (i : ℕ) → length l ≤ i → coded k (drop i l) ≡ Some k
unfolding coded
coded_end k l i h = rw (drop_of_length-le l h)

coded_text : (k : ℕ) (l : List ℕ) (w : ℕ) → coded k l ≡ Some w → text w ≡ text k ++ l
unfolding coded
coded_text k [] w e = let same : k ≡ w = cc in rw (append-nil, same)
coded_text k (b ∷ bs) w e = step (both (is_letter b) (ltb k (2 ^ 56))) refl (coded_text (k * 256 + b) bs w) e
  where
    step : (t : Bool) → both (is_letter b) (ltb k (2 ^ 56)) ≡ t
        → (coded (k * 256 + b) bs ≡ Some w → text w ≡ text (k * 256 + b) ++ bs)
        → cond t (coded (k * 256 + b) bs) None ≡ Some w → text w ≡ text k ++ (b ∷ bs)
    step true e ih s =
        let z = both_true (is_letter b) (ltb k (2 ^ 56)) e in
        let y = both_true (leb 97 b) (leb b 122) z.0 in
        let lo : 97 ≤ b = leb-true _ _ y.0 in
        let hi : b ≤ 122 = leb-true _ _ y.1 in
        ih s
        ∙ ap (λ (xs : List ℕ). xs ++ bs) (text_snoc k b (ltb-true _ _ z.1) (omega arith) (λ e. omega arith))
        ∙ append_assoc (text k) (b ∷ []) bs
    step false e ih s = absurd (let z : ◌≡◌ {A = ℕ} 0 1 = cc in omega arith)

-- A WORD THAT IS A KEYWORD IS THE KEYWORD'S TEXT
pub keyword_text : (word : List ℕ) (w : ℕ) → keyword_of word ≡ Some w → word ≡ text w
unfolding keyword_of
keyword_text word w e = sym (coded_text 0 word w e ∙ ap (λ (xs : List ℕ). xs ++ word) text_none)
