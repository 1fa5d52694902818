-- The names of a set of places, listed in order: ordered, without repeats, exactly these names.
-- Assumes nothing.
use Prim.Native.Nat.{ℕ, zero, suc, ◌+◌, ◌*◌, ◌/◌, ◌%◌, ◌≤◌, ◌<◌}
use mathlib.Core.Path.{◌≡◌, refl, sym, ap, ◌∙◌}
use mathlib.Core.Bool.{Bool, true, false, cond}
use mathlib.Core.Logic.{◌≢◌, ⊎_elim}
use native.Mathlib.Omega.{arith}
use native.Mathlib.Nat.{div-add-mod', mod-lt, mul-le-mul, mul-le-mul_right, add-mul, one-mul}
use lib.ListN.{length, get_or, set, length-set, length-replicate}
use lib.Seq.{get_or-set_same, get_or-set_other}
use Rattle.loops.specs.Loop.{bit, each, tally}
use Rattle.loops.proofs.Tests.{clash, eq_or_ne, lt_or_ge}
use Rattle.loops.proofs.Turns.{tally_more}
use Rattle.kinds.specs.Names.{most_slots, most_places, most_names, radix}
use Rattle.kinds.specs.Answers.{no_names}
use Rattle.kinds.specs.declared.Outlist.{Outlist}
use Rattle.model.specs.Questions.{Bits, has_bit}
use Rattle.model.specs.Outlist.{name_at, note_name, name_one, list_names}
use Rattle.model.proofs.Keys.{zeros}

-- tallies of beginnings
pub tally_rises : (f : ℕ → Bool) (i n : ℕ) → i ≤ n → tally i f ≤ tally n f
unfolding tally
tally_rises f i zero l = let e : i ≡ 0 = omega arith in rw e (omega arith)
tally_rises f i (suc n) l = ⊎_elim (λ e. rw e (omega arith)) (λ ne. let r = tally_rises f i n (omega arith) in omega arith) (eq_or_ne i (suc n))

-- the word of a name is small, and rises with its place
module _ (S : ℕ) (some : 0 < S) where
  quotient_small : (i : ℕ) → i / S ≤ i
  quotient_small i = let e = div-add-mod' i S in omega (arith, mul-le-mul {n₁ = i / S} {m₁ = 1} {n₂ = i / S} {m₂ = S} (omega arith) some)

  pub name_small : (i : ℕ) → i < most_places → (i / S < most_places) × (i % S < most_places)
  name_small i l = let q = quotient_small i in let e = div-add-mod' i S in (omega arith, omega arith)

  pub name_rises : S ≤ most_slots → (i j : ℕ) → i < j → name_at S i < name_at S j
  unfolding name_at
  name_rises wide i j l = ⊎_elim less more (lt_or_ge (i / S) (j / S))
    where
      less : i / S < j / S → i / S * radix + i % S + 1 < j / S * radix + j % S + 1
      less q = let m = mod-lt i some in omega arith

      more : j / S ≤ i / S → i / S * radix + i % S + 1 < j / S * radix + j % S + 1
      more q =
          let a = div-add-mod' i S in
          let b = div-add-mod' j S in
          let m = mul-le-mul_right S q in
          ⊎_elim
          (λ r.
          let n = mul-le-mul_right S r in
          let k = mod-lt j some in
          let w : (j / S + 1) * S ≡ j / S * S + S = add-mul (j / S) 1 S ∙ ap (λ (v : ℕ). j / S * S + v) (one-mul S) in
          absurd (over i j l a b k w r))
          (λ r. let e : i / S ≡ j / S = omega arith in let f : i / S * S ≡ j / S * S = ap (λ (v : ℕ). v * S) e in omega arith)
          (lt_or_ge (j / S) (i / S))
        where
          over : (i j : ℕ) → i < j → i / S * S + i % S ≡ i → j / S * S + j % S ≡ j → j % S < S → (j / S + 1) * S ≡ j / S * S + S → j / S < i / S → ⊥
          over i j l a b k w r = let n : (j / S + 1) * S ≤ i / S * S = mul-le-mul_right S (omega arith) in omega arith

-- the list so far: the names of the marked places below m
pub record Listed (S : ℕ) (bits : Bits) (m : ℕ) (o : Outlist) : Type 0 where
  pub counted : o.number ≡ tally m (has_bit bits)
  pub long : length o.names ≡ most_names
  pub held : (a : ℕ) → a < o.number → (i : ℕ) × (i < m) × (has_bit bits i ≡ true) × (get_or o.names a 0 ≡ name_at S i)
  pub all : (i : ℕ) → i < m → has_bit bits i ≡ true → (a : ℕ) × (a < o.number) × (get_or o.names a 0 ≡ name_at S i)
  pub ordered : (a b : ℕ) → a < b → b < o.number → get_or o.names a 0 < get_or o.names b 0
  pub unused : (a : ℕ) → o.number ≤ a → get_or o.names a 0 ≡ 0

pub listed_none : (S : ℕ) (bits : Bits) → Listed S bits 0 no_names
unfolding tally
listed_none S bits =
    record {
      counted = refl;
      long = length-replicate {A = ℕ} most_names 0;
      held = λ a l. absurd (omega arith);
      all = λ i l. absurd (omega arith);
      ordered = λ a b l k. absurd (omega arith);
      unused = λ a l. zeros most_names a;
    }

module _ (S : ℕ) (some : 0 < S) (wide : S ≤ most_slots) (bits : Bits) (few : tally most_places (has_bit bits) ≤ most_names) (m : ℕ) (lm : m < most_places) where
  pub listed_room : (o : Outlist) → Listed S bits m o → has_bit bits m ≡ true → o.number < most_names
  listed_room o r e =
      let b : bit (has_bit bits m) ≡ 1 = rw e in
      let t = tally_more (has_bit bits) m _ refl in
      let u = tally_rises (has_bit bits) (m + 1) most_places (omega arith) in
      let c = r.counted in
      omega arith

  pub listed_more : (o : Outlist) → Listed S bits m o → Listed S bits (m + 1) (name_one S bits o m)
  listed_more o r = go (has_bit bits m) refl
    where
      go : (b : Bool) → has_bit bits m ≡ b → Listed S bits (m + 1) (cond b (note_name o (name_at S m)) o)
      go false e =
          record {
            counted = let b : bit (has_bit bits m) ≡ 0 = rw e in let t = tally_more (has_bit bits) m _ refl in let c = r.counted in omega arith;
            long = r.long;
            held = λ a l. let h = r.held a l in (h.0, omega (arith, h.1), h.2, h.3);
            all = λ i l h. ⊎_elim (λ q. absurd (clash (rw q at h) e)) (λ ne. r.all i (omega arith) h) (eq_or_ne i m);
            ordered = r.ordered;
            unused = r.unused;
          }
      go true e =
          record {
            counted = let b : bit (has_bit bits m) ≡ 1 = rw e in let t = tally_more (has_bit bits) m _ refl in let c = r.counted in omega arith;
            long = length-set o.names o.number (name_at S m) ∙ r.long;
            held = λ a l.
                ⊎_elim (λ q. (m, omega arith, e, at a q)) (λ ne. let h = r.held a (omega arith) in (h.0, omega (arith, h.1), h.2, before a ne ∙ h.3)) (eq_or_ne a o.number);
            all = λ i l h.
                ⊎_elim (λ q. (o.number, omega arith, at o.number refl ∙ ap (name_at S) (sym q)))
                (λ ne. let k = r.all i (omega arith) h in (k.0, omega (arith, k.1), before k.0 (λ q. let s = k.1 in omega arith) ∙ k.2)) (eq_or_ne i m);
            ordered = λ a b l k.
                ⊎_elim
                (λ q. let h = r.held a (omega arith) in let u = at b q in let v = before a (λ z. omega arith) ∙ h.3 in let w = name_rises S some wide h.0 m h.1 in rw (u, v) w)
                (λ ne. let u = before b ne in let v = before a (λ z. omega arith) in rw (u, v) (r.ordered a b l (omega arith))) (eq_or_ne b o.number);
            unused = λ a l. before a (λ q. omega arith) ∙ r.unused a (omega arith);
          }
        where
          at : (a : ℕ) → a ≡ o.number → get_or (set o.names o.number (name_at S m)) a 0 ≡ name_at S m
          at a q =
              ap (λ (v : ℕ). get_or (set o.names o.number (name_at S m)) v 0) q ∙
              get_or-set_same o.names o.number (name_at S m) 0 (let l = listed_room o r e in let g = r.long in omega arith)

          before : (a : ℕ) → a ≢ o.number → get_or (set o.names o.number (name_at S m)) a 0 ≡ get_or o.names a 0
          before a ne = get_or-set_other o.names o.number a (name_at S m) 0 ne

pub listed : (S : ℕ) → 0 < S → S ≤ most_slots → (bits : Bits) → tally most_places (has_bit bits) ≤ most_names → (n : ℕ) → n ≤ most_places → Listed S bits n (list_names n S bits)
unfolding list_names each
listed S some wide bits few zero l = listed_none S bits
listed S some wide bits few (suc n) l =
    let e : n + 1 ≡ suc n = omega arith in
    rw e at (listed_more S some wide bits few n (omega arith) _ (listed S some wide bits few n (omega arith)))
