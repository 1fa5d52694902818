-- Lists that are shorter, or of the same length and first in order.
-- Assumes nothing.
use Prim.Native.Nat.{ℕ, suc, ◌≤◌, ◌<◌}
use mathlib.Core.Path.{◌≡◌, sym, ap, ◌∙◌, subst}
use mathlib.Core.List.{List, [], ◌∷◌, ◌++◌, append-nil}
use native.Mathlib.Omega.{arith}
use lib.ListN.{length, length-append}
use Rattle.holding.specs.Holding.{Upto, less, same}
use Rattle.holding.proofs.Order.{upto_refl}

-- the first numbers that differ, and they do, decide
pub data Ahead : List ℕ → List ℕ → Type 0 where
  now : {a b : ℕ} {l m : List ℕ} → a < b → Ahead (a ∷ l) (b ∷ m)
  later : {a : ℕ} {l m : List ℕ} → Ahead l m → Ahead (a ∷ l) (a ∷ m)

pub data Sooner (l m : List ℕ) : Type 0 where
  shorter : length l < length m → Sooner l m
  first : length l ≡ length m → Ahead l m → Sooner l m

pub data NotLater (l m : List ℕ) : Type 0 where
  equal : l ≡ m → NotLater l m
  sooner : Sooner l m → NotLater l m

ahead_upto : {l m : List ℕ} → Ahead l m → Upto l m
ahead_upto (now a) = less a
ahead_upto (later p) = same (ahead_upto p)

ahead_then : {l m : List ℕ} (x y : List ℕ) → Ahead l m → Ahead (l ++ x) (m ++ y)
ahead_then x y (now a) = now a
ahead_then x y (later p) = later (ahead_then x y p)

ahead_last : (l : List ℕ) {x y : ℕ} → x < y → Ahead (l ++ (x ∷ [])) (l ++ (y ∷ []))
ahead_last [] h = now h
ahead_last (a ∷ l) h = later (ahead_last l h)

ahead_trans : {l m k : List ℕ} → Ahead l m → Ahead m k → Ahead l k
ahead_trans (now {a = x} a) (now {b = y} b) = let c : x < y = omega arith in now c
ahead_trans (now a) (later q) = now a
ahead_trans (later p) (now b) = now b
ahead_trans (later p) (later q) = later (ahead_trans p q)

sooner_trans : {l m k : List ℕ} → Sooner l m → Sooner m k → Sooner l k
sooner_trans (shorter a) (shorter b) = shorter (omega arith)
sooner_trans (shorter a) (first e q) = shorter (omega arith)
sooner_trans (first e p) (shorter b) = shorter (omega arith)
sooner_trans (first e p) (first d q) = first (e ∙ d) (ahead_trans p q)

pub sooner_not_later : {l m k : List ℕ} → Sooner l m → NotLater m k → Sooner l k
sooner_not_later {l = l} p (equal e) = subst (Sooner l) e p
sooner_not_later p (sooner q) = sooner_trans p q

-- what it means: no longer, and of the same length no later in order
pub not_later_length : {l m : List ℕ} → NotLater l m → length l ≤ length m
not_later_length (equal e) = omega (arith, ap length e)
not_later_length (sooner (shorter a)) = omega arith
not_later_length (sooner (first e p)) = omega arith

pub not_later_upto : {l m : List ℕ} → NotLater l m → length m ≡ length l → Upto l m
not_later_upto {l = l} (equal e) q = subst (Upto l) e (upto_refl l)
not_later_upto (sooner (shorter a)) q = absurd (omega arith)
not_later_upto (sooner (first e p)) q = ahead_upto p

snoc_length : (l : List ℕ) (x : ℕ) → length (l ++ (x ∷ [])) ≡ suc (length l)
snoc_length l x = omega (arith, length-append l (x ∷ []))

-- one name more on both
pub sooner_then : {l m : List ℕ} (x y : ℕ) → Sooner l m → Sooner (l ++ (x ∷ [])) (m ++ (y ∷ []))
sooner_then {l} {m} x y (shorter a) = shorter (omega (arith, snoc_length l x, snoc_length m y))
sooner_then {l} {m} x y (first e p) = first (omega (arith, snoc_length l x, snoc_length m y)) (ahead_then (x ∷ []) (y ∷ []) p)

pub not_later_then : {l m : List ℕ} (x : ℕ) → NotLater l m → NotLater (l ++ (x ∷ [])) (m ++ (x ∷ []))
not_later_then x (equal e) = equal (ap (λ (v : List ℕ). v ++ (x ∷ [])) e)
not_later_then x (sooner p) = sooner (sooner_then x x p)

pub sooner_last : (l : List ℕ) {x y : ℕ} → x < y → Sooner (l ++ (x ∷ [])) (l ++ (y ∷ []))
sooner_last l {x} {y} h = first (snoc_length l x ∙ sym (snoc_length l y)) (ahead_last l h)

-- more names on the later
pub sooner_more : {l m : List ℕ} (x : List ℕ) → Sooner l m → Sooner l (m ++ x)
sooner_more {l} {m} [] p = subst (Sooner l) (sym (append-nil m)) p
sooner_more {l} {m} (y ∷ x) p = shorter (omega (arith, not_later_length (sooner p), length-append m (y ∷ x)))

-- one name against two or more
pub sooner_one : (h : ℕ) (m : List ℕ) (y : ℕ) (x : List ℕ) → 0 < length m → Sooner (h ∷ []) (m ++ (y ∷ x))
sooner_one h m y x l = shorter (omega (arith, length-append m (y ∷ x)))
