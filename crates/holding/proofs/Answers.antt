-- Answers computed, and what is answered case by case.
-- Assumes nothing.
use Prim.Native.Nat.{ℕ, ◌+◌, ◌*◌, ◌≤◌, ◌<◌}
use mathlib.Core.Path.{◌≡◌, refl}
use mathlib.Core.Bool.{Bool, true, false, cond}
use mathlib.Core.List.{List, [], ◌∷◌, ◌++◌}
use lib.Dec.{leb, ltb}
use lib.ListN.{length, drop, replicate}
use borrow.Author.Tests.{ltb-true, ltb-false, leb-true, leb-false}
use Rattle.loops.specs.Cases.{case, Agree}
use Rattle.loops.specs.Loop.{first}
use Rattle.kinds.specs.Names.{session}
use Rattle.kinds.specs.declared.Start.TheVariants.{Root, Handle}
use Rattle.kinds.specs.Answers.{Reason}
use Rattle.kinds.specs.Answers.{held_from}
use Rattle.model.specs.Image.{Image, addr, get, place_of}
use Rattle.model.specs.Outlist.{name_at}
use Rattle.holding.specs.Holding.{Chain}
use Rattle.holding.specs.Finding.{some, is_to, field_to, anchor_to, fields_along, leads_in, next, names_from, head_of, distance, chain_of, start_of, turns, words_of, Explained, explained, denied, held_by, held_of}

-- one partition of eight slots. Roots 1 and 2 hold object 1, roots 5 and 7 and handle 0 object 0, handle 3 object 6. Object 0 holds 4 and 3 in its
-- fields 0 and 1, and 2 in its fields 2 and 3; object 1 holds 2 in field 0, objects 3 and 4 hold 5 in fields 2 and 0, and object 7 itself in field 1.
abbrev slot : ℕ → ℕ → ℕ → ℕ → List ℕ → Image
slot a b c d rest = 1 ∷ 0 ∷ a ∷ b ∷ c ∷ d ∷ 0 ∷ rest

abbrev heap : Image
heap =
    1 ∷ 8 ∷ 0 ∷ 0 ∷ 0
    ∷ 0 ∷ 2 ∷ 2 ∷ 0 ∷ 0 ∷ 1 ∷ 0 ∷ 1 ∷ (replicate 24 0
    ++ (1 ∷ 0 ∷ 0 ∷ 7 ∷ (replicate 28 0
    ++ slot 5 4 3 3 (slot 3 0 0 0 (slot 0 0 0 0 (slot 0 0 6 0 (slot 6 0 0 0 (slot 0 0 0 0 (slot 0 0 0 0 (slot 0 8 0 0 []))))))))))

abbrev told : ℕ → List ℕ → Explained Reason
told t words = held_of 8 8 heap t words

-- names before fields and start, then the lowest field, then a root before a handle; later words stay; 18 and 19 leave all of them
answers :
    Agree
    (case (told 2 (9 ∷ 9 ∷ 9 ∷ 9 ∷ [])) (explained (held_from (Root 5) 1) (1 ∷ 2 ∷ 3 ∷ 9 ∷ [])) ∷
    case (told 5 (9 ∷ 9 ∷ 9 ∷ 9 ∷ 9 ∷ 9 ∷ [])) (explained (held_from (Root 5) 2) (1 ∷ 1 ∷ 4 ∷ 2 ∷ 6 ∷ 9 ∷ [])) ∷
    case (told 0 (9 ∷ 9 ∷ [])) (explained (held_from (Root 5) 0) (1 ∷ 9 ∷ [])) ∷
    case (told 6 (9 ∷ [])) (explained (held_from (Handle (session 3)) 0) (7 ∷ [])) ∷
    case (told 7 (9 ∷ [])) (denied 18 (9 ∷ [])) ∷
    case (told 2 (9 ∷ 9 ∷ [])) (denied 19 (9 ∷ 9 ∷ [])) ∷
    case (told 7 []) (denied 18 []) ∷
    [])
unfolding held_of held_by distance chain_of head_of leads_in next names_from fields_along field_to anchor_to is_to some words_of turns name_at get addr place_of first
answers = (refl, (refl, (refl, (refl, (refl, (refl, (refl, tt)))))))

-- a chain that is held, with room for its words
abbrev pub chain_told : ℕ → Chain → List ℕ → Explained Reason
chain_told S c words = explained (held_from (start_of c.start) (length c.fields)) (words_of S c ++ drop (2 * length c.fields + 1) words)

pub by_cases : (S : ℕ) (c : Chain) (words : List ℕ) (Q : Explained Reason → Type 0) → (length words < 2 * length c.fields + 1 → Q (denied 19 words))
    → (2 * length c.fields + 1 ≤ length words → Q (chain_told S c words)) → Q (held_by S c words)
unfolding held_by
by_cases S c words Q narrow fits = go (leb (2 * length c.fields + 1) (length words)) refl
  where
    go : (b : Bool) → leb (2 * length c.fields + 1) (length words) ≡ b → Q (cond b (chain_told S c words) (denied 19 words))
    go true e = fits (leb-true _ _ e)
    go false e = narrow (leb-false _ _ e)

pub held_cases : (n S : ℕ) (img : Image) (t : ℕ) (words : List ℕ) (Q : Explained Reason → Type 0) → (n ≤ distance n S img t → Q (denied 18 words))
    → (distance n S img t < n → Q (held_by S (chain_of n S img t (distance n S img t)) words)) → Q (held_of n S img t words)
unfolding held_of
held_cases n S img t words Q none some = go (ltb (distance n S img t) n) refl
  where
    go : (b : Bool) → ltb (distance n S img t) n ≡ b → Q (cond b (held_by S (chain_of n S img t (distance n S img t)) words) (denied 18 words))
    go true e = some (ltb-true _ _ e)
    go false e = none (ltb-false _ _ e)

-- what holds of every refusal and of every chain told holds of what is answered
pub held_so : (n S : ℕ) (img : Image) (t : ℕ) (words : List ℕ) (Q : Explained Reason → Type 0) → Q (denied 18 words) → Q (denied 19 words) → ((c : Chain) → Q (chain_told S c words))
    → Q (held_of n S img t words)
held_so n S img t words Q none narrow fits = held_cases n S img t words Q (λ l. none) (λ l. by_cases S _ words Q (λ m. narrow) (λ m. fits _))
