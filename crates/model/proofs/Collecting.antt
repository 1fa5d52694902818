-- What a local collection of p makes of every word: who stays, who is freed and how many; and that what a root or a handle leads to and every
-- other partition is untouched.
-- Assumes nothing.
use Prim.Native.Nat.{ℕ, zero, suc, ◌+◌, ◌*◌, ◌-◌, ◌≤◌, ◌<◌}
use mathlib.Core.Path.{◌≡◌, refl, sym, ap, ◌∙◌, subst}
use mathlib.Core.Bool.{Bool, true, false, not}
use mathlib.Core.Logic.{◌≢◌, ◌⊎◌, inl, inr, ⊎_elim}
use native.Mathlib.Omega.{arith}
use native.Mathlib.Decide.{ℕ_discrete}
use Rattle.loops.specs.Loop.{both, bit, tally}
use Rattle.loops.proofs.Tests.{clash, lt_or_ge}
use Rattle.loops.proofs.Loops.{tally_same}
use Rattle.loops.proofs.Walks.{tally_none_pass}
use Rattle.model.specs.Image.{Image, Key, head, anchor, flag, state, payload, inlist, field, is_count, anchors, get, place_of, part_of, Holder}
use Rattle.model.specs.Acts.{used, local_bits, local_up, local_freed}
use Rattle.model.specs.Questions.{has_bit}
use Rattle.model.specs.Sound.{Limits, SoundAt}
use Rattle.model.specs.Effects.{In, KeptIn, Localizes, frees, frees_payload, frees_field, freed, Localized, Untouched, Spares}
use Rattle.model.proofs.Keys.{Sized, sized_length}
use Rattle.model.proofs.Places.{slot_of, slot_in, part_of_lem}
use Rattle.model.proofs.Closing.{the_payload, the_field}
use Rattle.model.proofs.Freeing.{Of, of_state, of_content, NotFreed, free_same, free_gone, free_head, free_flag, free_anchor}
use Rattle.model.proofs.Localizing.{local_so, local_only, local_leads}
use Rattle.model.proofs.SoundnessMoves.{reference_place}
use Rattle.model.proofs.SoundnessActs.{local_in, local_apart, local_sound}

-- where nothing outside lo, .., lo + m - 1 passes
tally_window : (n lo m : ℕ) (f : ℕ → Bool) → lo + m ≤ n → ((i : ℕ) → i < lo → f i ≡ false) → ((i : ℕ) → lo + m ≤ i → i < n → f i ≡ false)
    → tally n f ≡ tally m (λ i. f (lo + i))
unfolding tally
tally_window n lo zero f l a b = tally_none_pass n f (λ i li. ⊎_elim (a i) (λ g. b i (omega arith) li) (lt_or_ge i lo))
tally_window zero lo (suc m) f l a b = absurd (omega arith)
tally_window (suc n) lo (suc m) f l a b =
    ⊎_elim
    (λ h.
    let e : n ≡ lo + m = omega arith in
    ap (λ (v : ℕ). v + bit (f n)) (tally_window n lo m f (omega arith) a (λ i g li. absurd (omega arith))) ∙ ap (λ (v : ℕ). tally m (λ i. f (lo + i)) + bit (f v)) e)
    (λ h. let c : bit (f n) ≡ 0 = ap bit (b n h (omega arith)) in let r = tally_window n lo (suc m) f h a (λ i g li. b i g (omega arith)) in omega arith)
    (lt_or_ge n (lo + suc m))

module _ (P S p : ℕ) (l : p < P) (x : Image) (s : SoundAt P S x) where
  limits : Limits P S
  limits = s.limits

  abbrev at : ℕ → ℕ
  at j = p * S + j

  abbrev stay : ℕ → Bool
  stay = has_bit (local_bits P S p x)

  abbrev after : Image
  after = local_up P S p x

  refs : (κ : Key) → Holder (P * S) κ → get x κ ≢ 0 → place_of S (get x κ) < P * S
  refs κ h n = reference_place P S x κ h n s

  z : Sized (P * S) x
  z = sized_length P S x s.length_agrees

  same_word : (i : ℕ) (μ : Key) → Of i μ → NotFreed P S S at stay i → get after μ ≡ get x μ
  unfolding local_up
  same_word i μ o e = free_same P S limits S at stay (local_in P S x s p l) x z (local_apart P S x s p l) i μ o e

  gone_word : (i : ℕ) (μ : Key) → Of i μ → part_of S i ≡ p → stay i ≡ false → get after μ ≡ 0
  unfolding local_up
  gone_word i μ o e b = let q = slot_of P S s.limits.some_slot i p e in free_gone P S limits S at stay (local_in P S x s p l) x z (local_apart P S x s p l) i μ o (q.0, q.1, q.2, b)

  far_word : (i : ℕ) (μ : Key) → Of i μ → part_of S i ≢ p → get after μ ≡ get x μ
  far_word i μ o ne = same_word i μ o (λ j lj q. absurd (ne (subst (λ (v : ℕ). part_of S v ≡ p) q (part_of_lem P S s.limits.some_slot p j lj))))

  -- what is not kept is freed
  lost_word : (i : ℕ) (μ : Key) → Of i μ → part_of S i ≡ p → (KeptIn S p x i → ⊥) → get after μ ≡ 0
  lost_word i μ o e none = go (stay i) refl
    where
      go : (b : Bool) → stay i ≡ b → get after μ ≡ 0
      go true h = absurd (none (local_only P S s.limits.some_slot p l x refs i h))
      go false h = gone_word i μ o e h

  -- and every word of a slot is freed or as it was
  slot_word : (i : ℕ) (μ : Key) → Of i μ → (part_of S i ≡ p → (KeptIn S p x i → ⊥) → Localizes S p x μ 0) → ((v : ℕ) × Localizes S p x μ v) ⊎ (get after μ ≡ get x μ)
  slot_word i μ o h = go (ℕ_discrete (part_of S i) p) (stay i) refl
    where
      go : Dec (part_of S i ≡ p) → (b : Bool) → stay i ≡ b → ((v : ℕ) × Localizes S p x μ v) ⊎ (get after μ ≡ get x μ)
      go (no ne) b e = inr (far_word i μ o ne)
      go (yes q) true e = inr (same_word i μ o (λ j lj r. e))
      go (yes q) false e = inl (0, h q (λ k. clash (local_so P S s.limits.some_slot p l x refs i k) e))

  written : (κ : Key) (v : ℕ) → In (P * S) κ → Localizes S p x κ v → get after κ ≡ v
  written _ _ i (frees {j = j} e none) = lost_word j (state j) of_state e none
  written _ _ i (frees_payload {j = j} e none) = lost_word j (payload j) (of_content the_payload) e none
  written _ _ i (frees_field {j = j} {k = k} e none) = lost_word j (field j k) (of_content (the_field i.1)) e none

  pub local_head : (h : ℕ) → h < 5 → get after (head h) ≡ get x (head h)
  unfolding local_up
  local_head h i = free_head P S limits S at stay (local_in P S x s p l) x z (local_apart P S x s p l) h i

  pub local_anchor : (a : ℕ) → a < anchors → get after (anchor a) ≡ get x (anchor a)
  unfolding local_up
  local_anchor a i = free_anchor P S limits S at stay (local_in P S x s p l) x z (local_apart P S x s p l) a i

  others : (κ : Key) → In (P * S) κ → is_count κ ≡ false → ((v : ℕ) × Localizes S p x κ v) ⊎ (get after κ ≡ get x κ)
  unfolding local_up
  others (head h) i c = inr (local_head h i)
  others (anchor a) i c = inr (local_anchor a i)
  others (flag q) i c = inr (free_flag P S limits S at stay (local_in P S x s p l) x z (local_apart P S x s p l) q i)
  others (state j) i c = slot_word j (state j) of_state frees
  others (payload j) i c = slot_word j (payload j) (of_content the_payload) frees_payload
  others (field j k) i c = slot_word j (field j k) (of_content (the_field i.1)) frees_field
  others (inlist j) i c = absurd (clash refl c)

  -- what is in use after is what was and stays
  usage : (j : ℕ) → j < S → used after (at j) ≡ both (stay (at j)) (used x (at j))
  usage j lj = go (stay (at j)) refl
    where
      go : (b : Bool) → stay (at j) ≡ b → used after (at j) ≡ both b (used x (at j))
      go true e = let q = same_word (at j) (state (at j)) of_state (λ i li r. e) in rw q
      go false e = let q = gone_word (at j) (state (at j)) of_state (part_of_lem P S s.limits.some_slot p j lj) e in rw q

  number : local_freed P S p x ≡ freed (P * S) x after
  unfolding local_freed freed
  number = tally_same S _ _ (λ j lj. sym (once (used x (at j)) (stay (at j))) ∙ ap (λ (u : Bool). both (used x (at j)) (not u)) (sym (usage j lj))) ∙ sym windowed
    where
      once : (a b : Bool) → both a (not (both b a)) ≡ both a (not b)
      once true true = refl
      once true false = refl
      once false b = refl

      both_not : (a : Bool) → both a (not a) ≡ false
      both_not true = refl
      both_not false = refl

      far : (i : ℕ) → part_of S i ≢ p → both (used x i) (not (used after i)) ≡ false
      far i ne = let q = far_word i (state i) of_state ne in rw q (both_not (used x i))

      room : p * S + S ≤ P * S
      room = let r = slot_in P S s.limits.some_slot p (S - 1) l (omega (arith, s.limits.some_slot)) in omega (arith, s.limits.some_slot)

      windowed : tally (P * S) (λ i. both (used x i) (not (used after i))) ≡ tally S (λ j. both (used x (at j)) (not (used after (at j))))
      windowed =
          tally_window (P * S) (p * S) S _ room (λ i li. far i (λ e. let q = slot_of P S s.limits.some_slot i p e in omega (arith, q.2)))
          (λ i g li. far i (λ e. let q = slot_of P S s.limits.some_slot i p e in omega (arith, q.1, q.2)))

  pub localized : Localized P S p x after
  localized =
      record {
        words = record { written = written; others = others; right = (local_sound P S x s p l).right; length = (local_sound P S x s p l).length_agrees ∙ sym s.length_agrees };
        number = number;
      }

  untouched : (i : ℕ) → ((μ : Key) → Of i μ → get after μ ≡ get x μ) → Untouched x after i
  untouched i h = record { state_stays = h (state i) of_state; value_stays = h (payload i) (of_content the_payload); fields_stay = λ k m. h (field i k) (of_content (the_field m)) }

  pub spares : Spares P S p x after
  spares =
      record {
        led = λ i c. untouched i (λ μ o. same_word i μ o (local_leads P S s.limits.some_slot p l x refs s.right i c).1);
        elsewhere = λ i li ne. untouched i (λ μ o. far_word i μ o ne);
      }
