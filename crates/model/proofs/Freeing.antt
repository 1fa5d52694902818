-- Slots freed, all but those that stay: what becomes of every word; and where roots, handles and what stays refer to what stays,
-- soundness and the phase go on.
-- Assumes nothing.
use Prim.Native.Nat.{ℕ, zero, suc, ◌*◌, ◌≤◌, ◌<◌}
use mathlib.Core.Path.{◌≡◌, refl, sym, ap, ◌∙◌, subst}
use mathlib.Core.Bool.{Bool, true, false, cond}
use mathlib.Core.Logic.{◌≢◌, ◌⊎◌, ⊎_elim}
use native.Mathlib.Omega.{arith}
use native.Mathlib.Decide.{ℕ_discrete}
use native.Mathlib.Nat.{le_of_suc-le-suc, not-suc-le-zero, eq-or-lt_of_le}
use borrow.Author.Tests.{ne_eqb}
use Rattle.loops.specs.Loop.{each}
use Rattle.loops.proofs.Tests.{clash}
use Rattle.loops.proofs.Loops.{each_keeps}
use Rattle.kinds.specs.Names.{most_partitions}
use Rattle.model.specs.Image.{Image, Key, head, anchor, flag, state, payload, field, count, allowance, anchors, get, put, place_of, part_of, Holder, an_anchor, a_field}
use Rattle.model.specs.Acts.{not_clean, unmarked, clear, free_but}
use Rattle.model.specs.Chains.{Names}
use Rattle.model.specs.Sound.{Limits, NamesUsed, Right, SoundAt}
use Rattle.model.proofs.Keys.{Sized, get_put_apart, count_put, count_other, release_apart, length_sized}
use Rattle.model.proofs.Places.{parts}
use Rattle.model.proofs.Moves.{Linked}
use Rattle.model.proofs.Phase.{Live, Budget, Phase, budget_same, budget_reads}
use Rattle.model.proofs.Closing.{Content, the_payload, the_field, Away, away_state, away_content, clear_other, clear_size, clear_state, clear_content}

-- the words of slot i that a freeing takes
pub data Of (i : ℕ) : Key → Type 0 where
  of_state : Of i (state i)
  of_content : {μ : Key} → Content i μ → Of i μ

clear_of : (n S : ℕ) (x : Image) (i : ℕ) (μ : Key) → i < n → Sized n x → Of i μ → get (clear S x i) μ ≡ 0
clear_of n S x i _ l z of_state = clear_state n S x i l z
clear_of n S x i _ l z (of_content c) = clear_content n S x c l z

away_of : (m i : ℕ) (μ : Key) → m ≢ i → Of i μ → Away m μ
away_of m i _ ne of_state = away_state m i ne
away_of m i _ ne (of_content c) = away_content m c ne

-- words of no slot
pub away_head : (h i : ℕ) → h < 5 → Away i (head h)
away_head h i l = record { fits = l; state = refl; payload = refl; fields = λ k. refl }

pub away_anchor : (r i : ℕ) → r < anchors → Away i (anchor r)
away_anchor r i l = record { fits = l; state = refl; payload = refl; fields = λ k. refl }

pub away_flag : (p i : ℕ) → p < most_partitions → Away i (flag p)
away_flag p i l = record { fits = l; state = refl; payload = refl; fields = λ k. refl }

module _ (n S m : ℕ) (at : ℕ → ℕ) (stay : ℕ → Bool) (x : Image) (inn : (j : ℕ) → j < m → at j < n) where
  -- the first c places are settled
  record Part (c : ℕ) (y : Image) : Type 0 where
    size : Sized n y
    others : (μ : Key) → ((i : ℕ) → Away i μ) → get y μ ≡ get x μ
    same : (i : ℕ) (μ : Key) → Of i μ → ((j : ℕ) → j < c → at j ≡ i → stay i ≡ true) → get y μ ≡ get x μ
    gone : (j : ℕ) (μ : Key) → j < c → Of (at j) μ → stay (at j) ≡ false → get y μ ≡ 0

  part_step : (c : ℕ) (y : Image) → c < m → Part c y → Part (suc c) (cond (stay (at c)) y (clear S y (at c)))
  part_step c y l w = go (stay (at c)) refl
    where
      below : (i : ℕ) → i < suc c → (i ≡ c) ⊎ (i < c)
      below i q = eq-or-lt_of_le (le_of_suc-le-suc q)

      go : (b : Bool) → stay (at c) ≡ b → Part (suc c) (cond b y (clear S y (at c)))
      go true e =
          record {
            size = w.size;
            others = w.others;
            same = λ i μ o q. w.same i μ o (λ j lj. q j (omega arith));
            gone = λ j μ lj o f. ⊎_elim (λ q. absurd (clash e (rw q at f))) (λ q. w.gone j μ q o f) (below j lj);
          }
      go false e =
          record {
            size = clear_size n S y (at c) w.size;
            others = λ μ a. clear_other S y (at c) μ (a (at c)) ∙ w.others μ a;
            same = λ i μ o q.
                let ne : at c ≢ i = λ r. clash (rw r (q c (omega arith) r)) e in
                clear_other S y (at c) μ (away_of (at c) i μ ne o) ∙ w.same i μ o (λ j lj. q j (omega arith));
            gone = λ j μ lj o f. ended j μ o (ℕ_discrete (at c) (at j)) (λ ne. ⊎_elim (λ q. absurd (ne (ap at (sym q)))) (λ q. w.gone j μ q o f) (below j lj));
          }
        where
          ended : (j : ℕ) (μ : Key) → Of (at j) μ → Dec (at c ≡ at j) → (at c ≢ at j → get y μ ≡ 0) → get (clear S y (at c)) μ ≡ 0
          ended j μ o (yes q) h = clear_of n S y (at c) μ (inn c l) w.size (subst (λ (v : ℕ). Of v μ) (sym q) o)
          ended j μ o (no q) h = clear_other S y (at c) μ (away_of (at c) (at j) μ q o) ∙ h q

  parted : (c : ℕ) → c ≤ m → Sized n x → Part c (each c (λ y j. cond (stay (at j)) y (clear S y (at j))) x)
  unfolding each
  parted zero l z = record { size = z; others = λ μ a. refl; same = λ i μ o q. refl; gone = λ j μ q. absurd (not-suc-le-zero q) }
  parted (suc c) l z = part_step c _ l (parted c (omega arith) z)

  module _ (z : Sized n x) where
    freed : Part m (free_but m S at stay x)
    unfolding free_but
    freed = parted m (omega arith) z

    pub but_size : Sized n (free_but m S at stay x)
    but_size = freed.size

    -- a word of no slot, of a slot that stays, of one that does not
    pub but_other : (μ : Key) → ((i : ℕ) → Away i μ) → get (free_but m S at stay x) μ ≡ get x μ
    but_other μ a = freed.others μ a

    pub but_same : (i : ℕ) (μ : Key) → Of i μ → ((j : ℕ) → j < m → at j ≡ i → stay i ≡ true) → get (free_but m S at stay x) μ ≡ get x μ
    but_same i μ o e = freed.same i μ o e

    pub but_gone : (j : ℕ) (μ : Key) → j < m → Of (at j) μ → stay (at j) ≡ false → get (free_but m S at stay x) μ ≡ 0
    but_gone j μ l o e = freed.gone j μ l o e

-- places freed, all but those that stay
module _ (P S m : ℕ) (at : ℕ → ℕ) (stay : ℕ → Bool) where
  -- a place stays where it is none of these, or passes
  abbrev pub NotFreed : ℕ → Type 0
  NotFreed i = (j : ℕ) → j < m → at j ≡ i → stay i ≡ true

  -- it is freed where it is one of these and does not pass
  abbrev pub Freed : ℕ → Type 0
  Freed i = (j : ℕ) × (j < m) × (at j ≡ i) × (stay i ≡ false)

  -- what roots and handles name stays, and what a slot that stays refers to stays
  pub record Apart (x : Image) : Type 0 where
    pub choice : (i : ℕ) → NotFreed i ⊎ Freed i
    pub anchored : (r t : ℕ) → r < anchors → Names S x (anchor r) t → NotFreed t
    pub fields : (i k t : ℕ) → i < P * S → k < 4 → NotFreed i → Names S x (field i k) t → NotFreed t

-- a slot cleared: the count of unmarked objects does not rise
module _ (P S : ℕ) (limits : Limits P S) where
  budget_clear : (x : Image) (i : ℕ) → i < P * S → Sized (P * S) x → Budget P S x → Budget P S (clear S x i)
  unfolding clear not_clean unmarked
  budget_clear x i l z b =
      each_keeps (Budget P S) 4 _
      (λ y k m w.
      budget_reads P S limits y _ (λ j lj. release_apart S y (field i k) (state j) m tt refl) (λ p lp. release_apart S y (field i k) (flag p) m (omega arith) refl)
      (release_apart S y (field i k) count m (omega arith) refl) (release_apart S y (field i k) allowance m (omega arith) refl) w) _
      (budget_same P S limits (put x (state i) 0) (payload i) 0 l (λ j. refl) (λ j. refl) refl refl
      (record {
        within =
            let u₁ = count_put (P * S) x state 1 (P * S) (λ j m. m) i 0 l z (λ j ne. ne_eqb i j ne) in
            let f₁ = count_other (P * S) x flag 0 P (λ j m. omega arith) (state i) 0 l (λ j. refl) in
            let c₁ = get_put_apart x (state i) 0 count tt (omega arith) refl in
            let a₁ = get_put_apart x (state i) 0 allowance tt (omega arith) refl in
            let b₁ = b.within in
            omega arith;
      }))

  module _ (m : ℕ) (at : ℕ → ℕ) (stay : ℕ → Bool) (inn : (j : ℕ) → j < m → at j < P * S) where
    module _ (x : Image) (size : Sized (P * S) x) (a : Apart P S m at stay x) where
      abbrev y : Image
      y = free_but m S at stay x

      pub free_same : (i : ℕ) (μ : Key) → Of i μ → NotFreed P S m at stay i → get y μ ≡ get x μ
      free_same i μ o e = but_same (P * S) S m at stay x inn size i μ o e

      pub free_gone : (i : ℕ) (μ : Key) → Of i μ → Freed P S m at stay i → get y μ ≡ 0
      free_gone i μ o f = but_gone (P * S) S m at stay x inn size f.0 μ f.1 (subst (λ (v : ℕ). Of v μ) (sym f.2) o) (subst (λ (v : ℕ). stay v ≡ false) (sym f.2) f.3)

      pub free_head : (h : ℕ) → h < 5 → get y (head h) ≡ get x (head h)
      free_head h l = but_other (P * S) S m at stay x inn size (head h) (λ i. away_head h i l)

      pub free_flag : (p : ℕ) → p < most_partitions → get y (flag p) ≡ get x (flag p)
      free_flag p l = but_other (P * S) S m at stay x inn size (flag p) (λ i. away_flag p i l)

      pub free_anchor : (r : ℕ) → r < anchors → get y (anchor r) ≡ get x (anchor r)
      free_anchor r l = but_other (P * S) S m at stay x inn size (anchor r) (λ i. away_anchor r i l)

      pub free_size : Sized (P * S) y
      free_size = but_size (P * S) S m at stay x inn size

      -- a slot in use afterwards stayed; a reference afterwards was there, and its object stays
      pub stayed : (i : ℕ) → get y (state i) ≢ 0 → NotFreed P S m at stay i
      stayed i ne = ⊎_elim (λ s. s) (λ f. absurd (ne (free_gone i (state i) of_state f))) (a.choice i)

      pub kept_ref : (κ : Key) → Holder (P * S) κ → get y κ ≢ 0 → (get y κ ≡ get x κ) × NotFreed P S m at stay (place_of S (get x κ))
      kept_ref κ (an_anchor {a = r} l) ne = let e = free_anchor r l in (e, a.anchored r _ l (record { some = λ q. ne (e ∙ q); target = refl }))
      kept_ref κ (a_field {j = i} {k = k} l lk) ne =
          ⊎_elim (λ s. let f = free_same i (field i k) (of_content (the_field lk)) s in (f, a.fields i k _ l lk s (record { some = λ q. ne (f ∙ q); target = refl })))
          (λ f. absurd (ne (free_gone i (field i k) (of_content (the_field lk)) f))) (a.choice i)

      -- a state afterwards is as before, or 0
      pub state_cases : (Q : ℕ → Type 0) (i : ℕ) → Q (get x (state i)) → Q 0 → Q (get y (state i))
      state_cases Q i old none = ⊎_elim (λ s. subst Q (sym (free_same i (state i) of_state s)) old) (λ f. subst Q (sym (free_gone i (state i) of_state f)) none) (a.choice i)

      pub content_free : {i : ℕ} {μ : Key} → Content i μ → get y (state i) ≡ 0 → (get x (state i) ≡ 0 → get x μ ≡ 0) → get y μ ≡ 0
      content_free {i} {μ} c e h =
          ⊎_elim (λ s. free_same i μ (of_content c) s ∙ h (sym (free_same i (state i) of_state s) ∙ e)) (λ f. free_gone i μ (of_content c) f) (a.choice i)

      pub free_linked : Linked P S x → Linked P S y
      free_linked w =
          record {
            size = free_size;
            states = λ i l. state_cases (λ v. v ≤ 2) i (w.states i l) (omega arith);
            refs = λ κ h ne.
                let q = kept_ref κ h ne in
                let r = w.refs κ h (λ z. ne (q.0 ∙ z)) in
                rw q.0 (r.0, λ z. r.1 (sym (free_same _ _ of_state q.1) ∙ z));
            free = λ i k l lk e. content_free (the_field lk) e (λ z. w.free i k l lk z);
          }

      live_before : (κ : Key) (h : Holder (P * S) κ) → Live (P * S) S y κ h → Live (P * S) S x κ h
      live_before κ (an_anchor l) v = tt
      live_before κ (a_field {j = i} l lk) v =
          let s = stayed i (λ q. let two = v.0 in omega arith) in
          (sym (free_same i _ of_state s) ∙ v.0, λ z. let q = parts P S limits.some_slot i l in v.1 (free_flag (part_of S i) (omega arith) ∙ z))

      pub free_phase : Phase P S x → Phase P S y
      unfolding free_but
      free_phase ph =
          record {
            linked = free_linked ph.linked;
            opened = free_head 2 (omega arith) ∙ ph.opened;
            clean =
                record {
                  leads = λ κ h v ne.
                      let q = kept_ref κ h ne in
                      rw q.0 (free_same _ _ of_state q.1 ∙ ph.clean.leads κ h (live_before κ h v) (λ z. ne (q.0 ∙ z)));
                };
            budget = (each_keeps (λ z. Sized (P * S) z × Budget P S z) m _ (λ z j l b. settle z j l b (stay (at j))) x (size, ph.budget)).1;
          }
        where
          settle : (z : Image) (j : ℕ) → j < m → Sized (P * S) z × Budget P S z → (b : Bool) → Sized (P * S) (cond b z (clear S z (at j))) × Budget P S (cond b z (clear S z (at j)))
          settle z j l g true = g
          settle z j l g false = (clear_size (P * S) S z (at j) g.0, budget_clear z (at j) (inn j l) g.0 g.1)

      -- and soundness, where the counts are right afterwards
      pub free_sound : SoundAt P S x → Right (P * S) S y → SoundAt P S y
      free_sound s right =
          record {
            limits = s.limits;
            length_agrees = length_sized P S y free_size;
            phase_bit = rw (free_head 2 (omega arith)) s.phase_bit;
            states = λ i l. state_cases (λ v. v ≤ 2) i (s.states i l) (omega arith);
            free_slots = λ i l e.
                record {
                  value = content_free the_payload e (λ z. (s.free_slots i l z).value);
                  fields = λ k lk. content_free (the_field lk) e (λ z. (s.free_slots i l z).fields k lk);
                };
            references = refs;
            right = right;
            flag_bits = λ p l. rw (free_flag p l) (s.flag_bits p l);
            flags_beyond = λ p l b. free_flag p l ∙ s.flags_beyond p l b;
            shut = λ e.
                let t = s.shut (sym (free_head 2 (omega arith)) ∙ e) in
                record {
                  counted = free_head 3 (omega arith) ∙ t.counted;
                  allowed = free_head 4 (omega arith) ∙ t.allowed;
                  flags = λ p l. free_flag p l ∙ t.flags p l;
                  unmarked = λ i l. state_cases (λ v. v ≢ 2) i (t.unmarked i l) (λ q. omega arith);
                };
            opened = λ e.
                let t = s.opened (sym (free_head 2 (omega arith)) ∙ e) in
                record { allowed = rw (free_head 4 (omega arith)) t.allowed; counted = rw (free_head 3 (omega arith), free_head 4 (omega arith)) t.counted };
          }
        where
          refs : (κ : Key) → Holder (P * S) κ → get y κ ≢ 0 → NamesUsed P S y κ
          refs κ h ne =
              let q = kept_ref κ h ne in
              let u = s.references κ h (λ z. ne (q.0 ∙ z)) in
              record {
                partition = rw q.0 u.partition;
                slot = rw q.0 u.slot;
                in_use = rw q.0 (λ z. u.in_use (sym (free_same _ _ of_state q.1) ∙ z));
              }
