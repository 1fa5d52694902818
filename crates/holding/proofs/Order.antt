-- The order of lists, and that no two chains are foremost.
-- Assumes nothing.
use Prim.Native.Nat.{ℕ, suc, ◌<◌}
use mathlib.Core.Path.{◌≡◌, refl, sym, ap}
use mathlib.Core.List.{List, [], ◌∷◌}
use mathlib.Core.Logic.{◌⊎◌, inl, inr}
use native.Mathlib.Nat.{le_antisymm}
use native.Mathlib.Omega.{arith}
use lib.ListN.{length}
use Rattle.model.specs.Image.{Image}
use Rattle.holding.specs.Holding.{Chain, Follows, Upto, Foremost, last, on, ended, less, same}

-- a chain has as many names after the first as fields
pub follows_length : {S : ℕ} {img : Image} {t j : ℕ} {ns fs : List ℕ} → Follows S img t j ns fs → length ns ≡ length fs
follows_length last = refl
follows_length (on l n a) = ap suc (follows_length a)

-- what two lists in order are, by their first numbers
Firsts : List ℕ → List ℕ → Type 0
Firsts [] m = Unit {0}
Firsts (a ∷ l) [] = ⊥
Firsts (a ∷ l) (b ∷ m) = (a < b) ⊎ ((a ≡ b) × Upto l m)

firsts : {l m : List ℕ} → Upto l m → Firsts l m
unfolding Firsts
firsts ended = tt
firsts (less a) = inl a
firsts (same p) = inr (refl, p)

pub upto_both : {l m : List ℕ} → Upto l m → Upto m l → l ≡ m
unfolding Firsts
upto_both {l} {m} p q = go l m p q
  where
    go : (l m : List ℕ) → Upto l m → Upto m l → l ≡ m
    go [] [] p q = refl
    go [] (b ∷ m) p q = absurd (firsts q)
    go (a ∷ l) [] p q = absurd (firsts p)
    go (a ∷ l) (b ∷ m) p q =
        elim (firsts p) [
          | inl h ↦ elim (firsts q) [ inl k ↦ absurd (omega arith) | inr k ↦ absurd (omega (arith, k.0)) ]
          | inr h ↦ elim (firsts q) [ inl k ↦ absurd (omega (arith, h.0)) | inr k ↦ rw (h.0, go l m h.1 k.1) ]
        ]

pub upto_refl : (l : List ℕ) → Upto l l
upto_refl [] = ended
upto_refl (x ∷ l) = same (upto_refl l)

pub head_tail : {a b : ℕ} {l m : List ℕ} → ◌≡◌ {A = List ℕ} (a ∷ l) (b ∷ m) → (a ≡ b) × (l ≡ m)
head_tail e = (ap head_or e, ap tail_or e)
  where
    head_or : List ℕ → ℕ
    head_or [] = 0
    head_or (x ∷ xs) = x

    tail_or : List ℕ → List ℕ
    tail_or [] = []
    tail_or (x ∷ xs) = xs

pub foremost_once : {S : ℕ} {img : Image} {t : ℕ} (c d : Chain) → Foremost S img t c → Foremost S img t d → c ≡ d
foremost_once {S = S} {img} {t} c d p q =
    let e : length c.fields ≡ length d.fields = le_antisymm (p.shortest d q.holds) (q.shortest c p.holds) in
    let w = head_tail (upto_both (p.names_first d q.holds (sym e)) (q.names_first c p.holds e)) in
    let f : c.fields ≡ d.fields = upto_both (p.fields_first d q.holds (sym w.0) (sym w.1)) (q.fields_first c p.holds w.0 w.1) in
    let s : c.start ≡ d.start = le_antisymm (p.start_first d q.holds (sym w.0) (sym w.1) (sym f)) (q.start_first c p.holds w.0 w.1 f) in
    λ i. record { start = s i; head = w.0 i; names = w.1 i; fields = f i }
