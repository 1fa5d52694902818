-- Laws of commands.
use Prim.Native.Nat.{ℕ, zero, suc, ◌+◌, ◌-◌, ◌≤◌, ◌<◌}
use native.Mathlib.Omega.{arith}
use mathlib.Core.Path.{◌≡◌, refl, sym, subst, ◌∙◌}
use mathlib.Core.List.{List}
use Rattle.std.proofs.Common.{None}
use Rattle.scripts.specs.declared.command.Call.{Call as A-call}
use Rattle.scripts.specs.declared.command.Command.{Command}
use Rattle.scripts.specs.declared.command.Command.TheVariants.{What}
use Rattle.scripts.specs.declared.command.Next.{Next}
use Rattle.scripts.specs.declared.command.Next.TheVariants.{Number, Nothing, Bad}
use Rattle.scripts.specs.Table.{takes}
use Rattle.scripts.specs.Commands.{most_numbers, begun, pushed, fitting, complete, next_number, onwards, numbers_from}

-- the loop over a command's numbers: the whole is the rest from here
pub record Reading (line : List ℕ) (at word : ℕ) (k : A-call) (i : ℕ) : Type 0 where
  pub few : k.count ≤ most_numbers
  pub rest : numbers_from most_numbers line at (begun word) ≡ numbers_from (most_numbers - k.count) line i k

numbers_end : (n : ℕ) (line : List ℕ) (at : ℕ) (k : A-call) → next_number line at ≡ Nothing → numbers_from n line at k ≡ complete k
unfolding numbers_from
numbers_end zero line at k e = rw e
numbers_end (suc n) line at k e = rw e

numbers_bad : (n : ℕ) (line : List ℕ) (at : ℕ) (k : A-call) → next_number line at ≡ Bad → numbers_from n line at k ≡ What
unfolding numbers_from
numbers_bad zero line at k e = rw e
numbers_bad (suc n) line at k e = rw e

numbers_over : (n : ℕ) (line : List ℕ) (at : ℕ) (k : A-call) (v to : ℕ) → n ≡ 0 → next_number line at ≡ Number v to → numbers_from n line at k ≡ What
unfolding numbers_from
numbers_over zero line at k v to h e = rw e
numbers_over (suc n) line at k v to h e = absurd (omega arith)

numbers_on : (n m : ℕ) (line : List ℕ) (at : ℕ) (k : A-call) (v to : ℕ) → n ≡ m + 1 → next_number line at ≡ Number v to → numbers_from n line at k ≡ numbers_from m line to (pushed k v)
unfolding numbers_from
numbers_on zero m line at k v to h e = absurd (omega arith)
numbers_on (suc n) m line at k v to h e =
    let same : n ≡ m = omega arith in
    rw (e, same)

module _ (line : List ℕ) (at word : ℕ) where
  pub reading_first : (k : A-call) → k ≡ begun word → Reading line at word k at
  reading_first k e = subst (λ (j : A-call). Reading line at word j at) (sym e) (record { few = omega arith; rest = refl })

  module _ (k : A-call) (i : ℕ) (r : Reading line at word k i) (x : Next) (is : x ≡ next_number line i) where
    pub reading_end : x ≡ Nothing → (c : Command) → c ≡ complete k → c ≡ numbers_from most_numbers line at (begun word)
    reading_end e c f = f ∙ sym (r.rest ∙ numbers_end (most_numbers - k.count) line i k (sym is ∙ e))

    pub reading_bad : x ≡ Bad → What ≡ numbers_from most_numbers line at (begun word)
    reading_bad e = sym (r.rest ∙ numbers_bad (most_numbers - k.count) line i k (sym is ∙ e))

    module _ (v to : ℕ) (e : x ≡ Number v to) where
      pub reading_over : k.count ≡ most_numbers → What ≡ numbers_from most_numbers line at (begun word)
      reading_over h = sym (r.rest ∙ numbers_over (most_numbers - k.count) line i k v to (omega arith) (sym is ∙ e))

      pub reading_more : (k.count ≡ most_numbers → ⊥) → (j : A-call) → j ≡ pushed k v → Reading line at word j to
      reading_more h j p =
          let less : k.count ≤ most_numbers = r.few in
          subst (λ (y : A-call). Reading line at word y to) (sym p)
          (record {
            few = omega arith;
            rest = r.rest ∙ numbers_on (most_numbers - k.count) (most_numbers - (k.count + 1)) line i k v to (omega arith) (sym is ∙ e);
          })

pub pushed_less : (k : A-call) (v : ℕ) (j : A-call) → k.count ≤ most_numbers → (k.count ≡ most_numbers → ⊥) → j ≡ pushed k v → most_numbers - j.count < most_numbers - k.count
pushed_less k v j few h p = subst (λ (y : A-call). most_numbers - y.count < most_numbers - k.count) (sym p) (omega arith)

-- what is no keyword is no command, whatever numbers follow it
pub unknown_none : (n : ℕ) (line : List ℕ) (at : ℕ) (k : A-call) → takes k.word ≡ None → numbers_from n line at k ≡ What
unfolding numbers_from complete
unknown_none zero line at k e = go (next_number line at)
  where
    go : (x : Next) → onwards x (fitting k (takes k.word)) (λ v to. What) ≡ What
    go Nothing = rw e
    go Bad = refl
    go (Number v to) = refl
unknown_none (suc n) line at k e = go (next_number line at) (λ v to. unknown_none n line to (pushed k v) e)
  where
    go : (x : Next) → ((v to : ℕ) → numbers_from n line to (pushed k v) ≡ What) → onwards x (fitting k (takes k.word)) (λ v to. numbers_from n line to (pushed k v)) ≡ What
    go Nothing more = rw e
    go Bad more = refl
    go (Number v to) more = more v to
