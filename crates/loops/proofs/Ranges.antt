-- What a chain over 0..n comes to, in the words of loops: from the clause of the call that ran it, and what its closure computes.
-- Assumes nothing.
use Prim.Native.Nat.{ℕ, zero, suc, ◌+◌, ◌<◌, ◌≤◌}
use mathlib.Core.Path.{◌≡◌, refl, sym, ap, ◌∙◌}
use mathlib.Core.Bool.{Bool, true, false, not}
use mathlib.Core.List.{List, [], ◌∷◌}
use mathlib.Core.Logic.{⊎_elim}
use native.Mathlib.Nat.{le_antisymm}
use native.Mathlib.Omega.{arith}
use denote.Param.Members.{Mut}
use denote.Ref.{Bor}
use Rattle.std.proofs.iter.Yields.{nat_range_steps}
use Rattle.std.proofs.lemmas.Iterator.{YieldsList-from_range, first_from_Range}
use Rattle.std.proofs.lemmas.Iterator.Search.{all_from_yields_List, any_from_yields_List}
use Rattle.std.specs.Fn.{Called, CalledAt}
use Rattle.std.specs.Iterator.{YieldsThen}
use Rattle.std.specs.List.{FoldsTo, range_with_len, list_any, list_all}
use Rattle.std.specs.Option.{MatchOption}
use Rattle.std.specs.Bool.{⊤}
use Rattle.std.specs.declared.ops.Range.{Range}
use Rattle.std.specs.declared.option.Option.{Option}
use Rattle.std.specs.declared.option.Option.TheVariants.{Some, None}
use Rattle.loops.specs.Loop.{first, every, both}
use Rattle.loops.proofs.Tests.{both_self, clash, lt_or_ge}
use Rattle.loops.proofs.Walks.{first_low, first_passes}

both_assoc : (a b c : Bool) → both (both a b) c ≡ both a (both b c)
both_assoc true b c = refl
both_assoc false b c = refl

-- `every` of n + 1 numbers, from the front
every_front : (n : ℕ) (f : ℕ → Bool) → every (suc n) f ≡ both (f 0) (every n (λ i. f (suc i)))
unfolding every
every_front zero f = sym (both_self (f 0))
every_front (suc n) f = rw (every_front n f) (both_assoc (f 0) (every n (λ i. f (suc i))) (f (suc n)))

all_step : (x : ℕ) (xs : List ℕ) (f : ℕ → Bool) (b c : Bool) → f x ≡ b → list_all f xs ≡ c → list_all f (x ∷ xs) ≡ both b c
all_step x xs f true c e r = rw e r
all_step x xs f false c e r = rw e

all_from : (n a : ℕ) (f g : ℕ → Bool) → ((i : ℕ) → f (i + a) ≡ g i) → list_all f (range_with_len a n) ≡ every n g
unfolding every
all_from zero a f g h = refl
all_from (suc n) a f g h =
    all_step a (range_with_len (a + 1) n) f (g 0) (every n (λ i. g (suc i))) (ap f (omega arith) ∙ h 0)
    (all_from n (a + 1) f (λ i. g (suc i)) (λ i. let e : i + (a + 1) ≡ suc i + a = omega arith in ap f e ∙ h (suc i))) ∙ sym (every_front n g)

all_every : (n : ℕ) (f : ℕ → Bool) → list_all f (range_with_len 0 n) ≡ every n f
all_every n f = all_from n 0 f f (λ i. ap f (omega arith))

any_not : (g : ℕ → Bool) (xs : List ℕ) → list_any (λ i. not (g i)) xs ≡ not (list_all g xs)
any_not g [] = refl
any_not g (x ∷ xs) = go (g x) refl (any_not g xs)
  where
    go : (b : Bool) → g x ≡ b → list_any (λ i. not (g i)) xs ≡ not (list_all g xs) → list_any (λ i. not (g i)) (x ∷ xs) ≡ not (list_all g (x ∷ xs))
    go true q r = rw q r
    go false q r = rw q

module _ {F : Type 0} (n : ℕ) (test : ℕ → Bool) {s : Range ℕ} (u : Range ℕ) (f : F) where
  -- `all`, where the closure computes the test
  pub all_range : {g : Mut F (ℕ × Unit {0}) Bool} (r : Bool) → (xs : List ℕ) × (o : Option ℕ) × (j : F) × YieldsThen nat_range_steps s xs o u × FoldsTo (λ p x q. Called g p (x, tt) true q) f xs j × MatchOption o (r ≡ true) (λ x. (r ≡ false) × ((h : F) × Called g j (x, tt) false h))
      → s ≡ record { start = 0; end = n } → ((x : ℕ) (b : Bool) (q : F) → Called g f (x, tt) b q → (q ≡ f) × (b ≡ test x)) → r ≡ every n test
  all_range r ran e h = all_from_yields_List test u f r ran (YieldsList-from_range 0 n n e (omega arith)) h ∙ all_every n test

  -- `any`, where the closure computes the test's opposite
  pub any_range : {g : Mut F (ℕ × Unit {0}) Bool} (r : Bool) → (xs : List ℕ) × (o : Option ℕ) × (j : F) × YieldsThen nat_range_steps s xs o u × FoldsTo (λ p x q. Called g p (x, tt) false q) f xs j × MatchOption o (r ≡ false) (λ x. (r ≡ true) × ((h : F) × Called g j (x, tt) true h))
      → s ≡ record { start = 0; end = n } → ((x : ℕ) (b : Bool) (q : F) → Called g f (x, tt) b q → (q ≡ f) × (b ≡ not (test x))) → r ≡ not (every n test)
  any_range r ran e h =
      any_from_yields_List (λ i. not (test i)) u f r ran (YieldsList-from_range 0 n n e (omega arith)) h
      ∙ any_not test (range_with_len 0 n) ∙ ap not (all_every n test)

-- what `find` of a range says, said by `first`
pub found : (n : ℕ) (test : ℕ → Bool) (r : Option ℕ) → MatchOption r ((k : ℕ) → 0 ≤ k → k < n → test k ≡ false) (λ i. (0 ≤ i) × (i < n) × (test i ≡ true) × ((k : ℕ) → 0 ≤ k → k < i → test k ≡ false))
    → MatchOption r (n ≤ first n 0 test) (λ i. (i ≡ first n 0 test) × (i < n))
found n test None h = ⊎_elim (λ l. absurd (clash (first_passes test n l) (h _ (omega arith) l))) (λ l. l) (lt_or_ge (first n 0 test) n)
found n test (Some i) h =
    let low : first n 0 test ≤ i = first_low test n i h.2 in
    (le_antisymm (⊎_elim (λ l. absurd (clash (first_passes test n (omega arith)) (h.3 _ (omega arith) l))) (λ l. l) (lt_or_ge (first n 0 test) i)) low, h.1)

module _ {F : Type 0} (n : ℕ) (test : ℕ → Bool) {s : Range ℕ} (u : Range ℕ) (f : F) where
  -- `find`, where the closure computes the test
  pub find_range : {g : Mut F (Bor ℕ × Unit {0}) Bool} (r : Option ℕ) → (xs : List ℕ) × (j : F) × YieldsThen nat_range_steps s xs r u × FoldsTo (λ p x q. CalledAt g p x false q) f xs j × MatchOption r ⊤ (λ x. (h : F) × CalledAt g j x true h)
      → s ≡ record { start = 0; end = n } → ((x : ℕ) (b : Bool) (q : F) → CalledAt g f x b q → (q ≡ f) × (b ≡ test x)) → MatchOption r (n ≤ first n 0 test) (λ i. (i ≡ first n 0 test) × (i < n))
  find_range {g} r ran e h =
      let m = first_from_Range {F = F} {g = g} s u f r (λ i. test i ≡ true) (λ i. test i ≡ false) ran (λ x q k. sym (h x true q k).1) (λ x q k. ((h x false q k).0, sym (h x false q k).1)) in
      found n test r (rw e at m)
