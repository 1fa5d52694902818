-- Laws of the table of commands.
use Prim.Native.Nat.{ℕ}
use native.Mathlib.Omega.{arith}
use Rattle.std.proofs.Common.{Option, None, Some}
use mathlib.Core.Path.{◌≡◌, refl, sym, ap}
use mathlib.Core.Bool.{Bool, true, false, cond}
use mathlib.Core.List.{List}
use lib.Dec.{eqb}
use borrow.Author.Tests.{eqb-true}
use types.Run.{OneOf}
use Rattle.lines.specs.declared.line.Line.TheVariants.{Bad}
use Rattle.lines.specs.Words.{all_rows, is_in}
use Rattle.lines.proofs.Matches.{each, at_one, in_some, Absent, arms_rest}
use Rattle.lines.proofs.Parts.{keys, row_none}
use Rattle.scripts.specs.Table.{rows, takes}

-- what takes n numbers, and what takes none since it is no keyword
abbrev taking : ℕ → Option ℕ → Bool
taking n None = false
taking n (Some m) = eqb m n

abbrev idle : Option ℕ → Bool
idle None = true
idle (Some m) = false

taking_some : (n : ℕ) (o : Option ℕ) → taking n o ≡ true → Some n ≡ o
taking_some n None e = absurd (let z : ◌≡◌ {A = ℕ} 0 1 = cc in omega arith)
taking_some n (Some m) e = ap (λ (k : ℕ). Some k) (sym (eqb-true m n e))

idle_none : (o : Option ℕ) → idle o ≡ true → None ≡ o
idle_none None e = refl
idle_none (Some m) e = absurd (let z : ◌≡◌ {A = ℕ} 0 1 = cc in omega arith)

-- one of some keywords that all take n takes n: a test that antt computes
pub takes_one : (n : ℕ) (ks : List ℕ) (w : ℕ) → each (λ x. taking n (takes x)) ks ≡ true → OneOf ks w → Some n ≡ takes w
takes_one n ks w e h = taking_some n (takes w) (at_one (λ x. taking n (takes x)) ks w e h)

-- what is no keyword takes none, and so does a keyword that is in none of some arms: likewise
abbrev idle_but : List (List ℕ) → ℕ → Bool
idle_but kss x = cond (in_some kss x) true (idle (takes x))

pub takes_rest : (kss : List (List ℕ)) (w : ℕ) → each (idle_but kss) (keys rows) ≡ true → each (idle_but kss) (keys all_rows) ≡ true → Absent kss w → None ≡ takes w
unfolding takes
takes_rest kss w e f a = go (is_in w (keys rows)) refl (is_in w (keys all_rows)) refl
  where
    go : (p : Bool) → is_in w (keys rows) ≡ p → (q : Bool) → is_in w (keys all_rows) ≡ q → None ≡ takes w
    go true h q k = idle_none (takes w) (arms_rest (λ x. idle (takes x)) kss (keys rows) w e a h)
    go false h true k = idle_none (takes w) (arms_rest (λ x. idle (takes x)) kss (keys all_rows) w f a k)
    go false h false k = rw (row_none (λ r. Some r.numbers) _ rows w h, row_none (λ r. r.reads 0 0 0 0 0) Bad all_rows w k)
