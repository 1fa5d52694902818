-- Closing a phase: slot by slot an unmarked object becomes free and a mark goes; then the words of the phase.
-- Assumes nothing.
use Prim.Native.Nat.{ℕ, zero, suc, ◌*◌, ◌-◌, ◌≤◌, ◌<◌}
use mathlib.Core.Path.{◌≡◌, refl, sym, ap, ◌∙◌}
use mathlib.Core.Bool.{Bool, true, false, cond}
use mathlib.Core.Logic.{◌≢◌, ⊎_elim}
use native.Mathlib.Omega.{arith}
use native.Mathlib.Decide.{ℕ_discrete}
use native.Mathlib.Nat.{le_of_suc-le-suc, not-suc-le-zero, eq-or-lt_of_le}
use lib.Dec.{eqb}
use borrow.Author.Tests.{eqb-true, eqb-false, eq-eqb, ne_eqb}
use Rattle.loops.specs.Loop.{each, every}
use Rattle.loops.proofs.Tests.{both_true, both_false}
use Rattle.loops.proofs.Loops.{each_keeps, each_reaches, every_true}
use Rattle.kinds.specs.Names.{most_partitions}
use Rattle.model.specs.Image.{Image, Key, head, anchor, flag, state, payload, field, phase, count, allowance, anchors, get, put, place_of, release, Holder, an_anchor, a_field}
use Rattle.model.specs.Acts.{marked, clear, settle, shut, close_up}
use Rattle.model.specs.Judge.{leads_on, led}
use Rattle.model.specs.Sound.{Limits}
use Rattle.model.proofs.Keys.{Fits, Sized, same, touches, get_put_apart, sized_put, get_put_same, release_apart, sized_release, release_same}
use Rattle.model.proofs.Moves.{Linked, unclean_other, sized_unclean, unclean_flag}

-- what a slot holds: its payload and its fields
pub data Content (i : ℕ) : Key → Type 0 where
  the_payload : Content i (payload i)
  the_field : {k : ℕ} → k < 4 → Content i (field i k)

-- μ is no word of slot i
pub record Away (i : ℕ) (μ : Key) : Type 0 where
  pub fits : Fits μ
  pub state : same (state i) μ ≡ false
  pub payload : same (payload i) μ ≡ false
  pub fields : (k : ℕ) → touches (field i k) μ ≡ false

pub away_state : (m i : ℕ) → m ≢ i → Away m (state i)
away_state m i ne = record { fits = tt; state = ne_eqb m i ne; payload = refl; fields = λ k. refl }

pub away_content : {i : ℕ} {μ : Key} (m : ℕ) → Content i μ → m ≢ i → Away m μ
away_content {i} m the_payload ne = record { fits = tt; state = refl; payload = ne_eqb m i ne; fields = λ k. refl }
away_content {i} m (the_field {k = k} l) ne = record { fits = l; state = refl; payload = refl; fields = λ c. rw (ne_eqb m i ne) (both_false (eqb c k)) }

pub clear_other : (S : ℕ) (x : Image) (i : ℕ) (μ : Key) → Away i μ → get (clear S x i) μ ≡ get x μ
unfolding clear
clear_other S x i μ a =
    each_keeps (λ y. get y μ ≡ get x μ) 4 _ (λ y k l e. release_apart S y (field i k) μ l a.fits (a.fields k) ∙ e) _
    (get_put_apart (put x (state i) 0) (payload i) 0 μ tt a.fits a.payload ∙ get_put_apart x (state i) 0 μ tt a.fits a.state)

-- a state is 0, 1 or 2
pub settle_cases : (S : ℕ) (Q : Image → Type 0) (x : Image) (i : ℕ) → (get x (state i) ≡ 1 → Q (clear S x i)) → (get x (state i) ≡ 2 → Q (put x (state i) 1))
    → (get x (state i) ≢ 1 → get x (state i) ≢ 2 → Q x) → Q (settle S x i)
unfolding settle
settle_cases S Q x i one two else = go (eqb (get x (state i)) 1) refl (eqb (get x (state i)) 2) refl
  where
    go : (b : Bool) → eqb (get x (state i)) 1 ≡ b → (c : Bool) → eqb (get x (state i)) 2 ≡ c → Q (cond b (clear S x i) (cond c (put x (state i) 1) x))
    go true e c f = one (eqb-true _ _ e)
    go false e true f = two (eqb-true _ _ f)
    go false e false f = else (eqb-false _ _ e) (eqb-false _ _ f)

module _ (n S : ℕ) where
  pub clear_size : (x : Image) (i : ℕ) → Sized n x → Sized n (clear S x i)
  unfolding clear
  clear_size x i z = each_keeps (Sized n) 4 _ (λ y k l w. sized_release _ _ _ _ w) _ (sized_put _ _ _ _ (sized_put _ _ _ _ z))

  pub clear_state : (x : Image) (i : ℕ) → i < n → Sized n x → get (clear S x i) (state i) ≡ 0
  unfolding clear
  clear_state x i l z =
      each_keeps (λ y. get y (state i) ≡ 0) 4 _ (λ y k m e. release_apart S y (field i k) (state i) m tt refl ∙ e) _
      (get_put_apart (put x (state i) 0) (payload i) 0 (state i) tt tt refl ∙ get_put_same n x (state i) 0 z l)

  pub clear_content : (x : Image) {i : ℕ} {μ : Key} → Content i μ → i < n → Sized n x → get (clear S x i) μ ≡ 0
  unfolding clear
  clear_content x {i} the_payload l z =
      each_keeps (λ y. get y (payload i) ≡ 0) 4 _ (λ y k m e. release_apart S y (field i k) (payload i) m tt refl ∙ e) _
      (get_put_same n (put x (state i) 0) (payload i) 0 (sized_put _ _ _ _ z) l)
  clear_content x {i} (the_field {k = k} m) l z =
      (each_reaches (λ y. Sized n y × (get y (field i k) ≡ 0)) 4 _ _ k m (λ y c lc w. (sized_release _ _ _ _ w.0, kept y c lc w.0 w.1 (ℕ_discrete c k)))
      (let s = each_keeps (Sized n) k (λ y c. release S y (field i c)) (λ y c lc w. sized_release _ _ _ _ w) _ (sized_put _ _ _ _ (sized_put _ _ _ _ z)) in
      (sized_release _ _ _ _ s, release_same n S _ (field i k) s (l, m)))
      ).1
    where
      kept : (y : Image) (c : ℕ) → c < 4 → Sized n y → get y (field i k) ≡ 0 → Dec (c ≡ k) → get (release S y (field i c)) (field i k) ≡ 0
      kept y c lc s e (yes q) = rw (← q) (release_same n S y (field i c) s (l, lc))
      kept y c lc s e (no q) = release_apart S y (field i c) (field i k) lc m (rw (ne_eqb c k q)) ∙ e

  -- one slot settled
  settle_size : (y : Image) (m : ℕ) → Sized n y → Sized n (settle S y m)
  settle_size y m z = settle_cases S (Sized n) y m (λ e. clear_size y m z) (λ e. sized_put _ _ _ _ z) (λ a b. z)

  settle_away : (y : Image) (m : ℕ) (μ : Key) → Away m μ → get (settle S y m) μ ≡ get y μ
  settle_away y m μ a =
      settle_cases S (λ z. get z μ ≡ get y μ) y m (λ e. clear_other S y m μ a) (λ e. get_put_apart y (state m) 1 μ tt a.fits a.state) (λ a b. refl)

  settle_state : (y : Image) (m : ℕ) → m < n → Sized n y → get y (state m) ≤ 2 → get (settle S y m) (state m) ≡ get y (state m) - 1
  settle_state y m l z two =
      settle_cases S (λ v. get v (state m) ≡ get y (state m) - 1) y m (λ e. rw (clear_state y m l z) (omega arith))
      (λ e. rw (get_put_same n y (state m) 1 z l) (omega arith)) (λ a b. omega arith)

  settle_freed : (y : Image) {m : ℕ} {μ : Key} → Content m μ → m < n → Sized n y → get y (state m) ≡ 1 → get (settle S y m) μ ≡ 0
  settle_freed y {m} {μ} c l z one = settle_cases S (λ v. get v μ ≡ 0) y m (λ e. clear_content y c l z) (λ e. absurd (omega arith)) (λ a b. absurd (a one))

  settle_kept : (y : Image) {m : ℕ} {μ : Key} → Content m μ → get y (state m) ≢ 1 → get (settle S y m) μ ≡ get y μ
  settle_kept y {m} {μ} c ne = settle_cases S (λ v. get v μ ≡ get y μ) y m (λ e. absurd (ne e)) (λ e. past c) (λ a b. refl)
    where
      past : {μ : Key} → Content m μ → get (put y (state m) 1) μ ≡ get y μ
      past the_payload = get_put_apart y (state m) 1 (payload m) tt tt refl
      past (the_field {k = k} l) = get_put_apart y (state m) 1 (field m k) tt l refl

  -- all slots settled: a word is as its own slot's turn leaves it, and that turn finds it as it was
  module _ (x : Image) where
    abbrev pub swept : ℕ → Image
    swept m = each m (settle S) x

    swept_away : (m : ℕ) (μ : Key) → ((i : ℕ) → i < m → Away i μ) → get (swept m) μ ≡ get x μ
    swept_away m μ a = each_keeps (λ y. get y μ ≡ get x μ) m _ (λ y i l e. settle_away y i μ (a i l) ∙ e) x refl

    swept_turn : (m i : ℕ) (μ : Key) → i < m → ((c : ℕ) → c ≢ i → Away c μ) → get (swept m) μ ≡ get (settle S (swept i) i) μ
    unfolding each
    swept_turn zero i μ l a = absurd (not-suc-le-zero l)
    swept_turn (suc m) i μ l a =
        ⊎_elim (λ e. rw e) (λ lt. settle_away (swept m) m μ (a m (λ e. omega arith)) ∙ swept_turn m i μ lt a) (eq-or-lt_of_le (le_of_suc-le-suc l))

    module _ (z : Sized n x) where
      swept_size : (m : ℕ) → Sized n (swept m)
      swept_size m = each_keeps (Sized n) m _ (λ y i l w. settle_size y i w) x z

      module _ (i : ℕ) (l : i < n) where
        before_state : get (swept i) (state i) ≡ get x (state i)
        before_state = swept_away i (state i) (λ c m. away_state c i (λ e. omega arith))

        swept_state : get x (state i) ≤ 2 → get (swept n) (state i) ≡ get x (state i) - 1
        swept_state two =
            swept_turn n i (state i) l (λ c ne. away_state c i ne) ∙ settle_state (swept i) i l (swept_size i) (rw before_state two) ∙ ap (λ (v : ℕ). v - 1) before_state

        swept_freed : {μ : Key} → Content i μ → get x (state i) ≡ 1 → get (swept n) μ ≡ 0
        swept_freed {μ} c one = swept_turn n i μ l (λ m ne. away_content m c ne) ∙ settle_freed (swept i) c l (swept_size i) (before_state ∙ one)

        swept_kept : {μ : Key} → Content i μ → get x (state i) ≢ 1 → get (swept n) μ ≡ get x μ
        swept_kept {μ} c ne =
            swept_turn n i μ l (λ m ne. away_content m c ne) ∙ settle_kept (swept i) c (λ e. ne (sym before_state ∙ e)) ∙ swept_away i μ (λ m lm. away_content m c (λ e. omega arith))

-- the words of the phase
shut_other : (y : Image) (μ : Key) → Fits μ → ((p : ℕ) → same (flag p) μ ≡ false) → ((h : ℕ) → 2 ≤ h → same (head h) μ ≡ false) → get (shut y) μ ≡ get y μ
unfolding shut
shut_other y μ f a b =
    get_put_apart _ allowance 0 μ (omega arith) f (b 4 (omega arith)) ∙ get_put_apart _ count 0 μ (omega arith) f (b 3 (omega arith)) ∙
    get_put_apart _ phase 0 μ (omega arith) f (b 2 (omega arith)) ∙
    unclean_other y μ f a

module _ (n : ℕ) (y : Image) (z : Sized n y) where
  shut_size : Sized n (shut y)
  unfolding shut
  shut_size = sized_put _ _ _ _ (sized_put _ _ _ _ (sized_put _ _ _ _ (sized_unclean n y z)))

  shut_flag : (p : ℕ) → p < most_partitions → get (shut y) (flag p) ≡ 0
  unfolding shut
  shut_flag p l =
      get_put_apart _ allowance 0 (flag p) (omega arith) l refl ∙ get_put_apart _ count 0 (flag p) (omega arith) l refl ∙ get_put_apart _ phase 0 (flag p) (omega arith) l refl ∙
      unclean_flag n y z p l

  shut_phase : get (shut y) phase ≡ 0
  unfolding shut
  shut_phase =
      get_put_apart _ allowance 0 phase (omega arith) (omega arith) refl ∙ get_put_apart _ count 0 phase (omega arith) (omega arith) refl ∙
      get_put_same n _ phase 0 (sized_unclean n y z) (omega arith)

  shut_count : get (shut y) count ≡ 0
  unfolding shut
  shut_count = get_put_apart _ allowance 0 count (omega arith) (omega arith) refl ∙ get_put_same n _ count 0 (sized_put _ _ _ _ (sized_unclean n y z)) (omega arith)

  shut_allowance : get (shut y) allowance ≡ 0
  unfolding shut
  shut_allowance = get_put_same n _ allowance 0 (sized_put _ _ _ _ (sized_put _ _ _ _ (sized_unclean n y z))) (omega arith)

-- the references that refusal 16 looks at: of the roots, of the handles, and of the marked objects
abbrev pub Leading : (n : ℕ) → Image → (κ : Key) → Holder n κ → Type 0
Leading n x κ (an_anchor l) = Unit {0}
Leading n x κ (a_field {j = i} l m) = get x (state i) ≡ 2

leads_on_lem : (S : ℕ) (x : Image) (κ : Key) → leads_on S x κ ≡ true → get x κ ≢ 0 → get x (state (place_of S (get x κ))) ≡ 2
leads_on_lem S x κ e ne = eqb-true _ _ (rw (ne_eqb (get x κ) 0 ne) at e)

pub led_leads : (P S : ℕ) (x : Image) → led P S x ≡ true → (κ : Key) (h : Holder (P * S) κ) → Leading (P * S) x κ h → get x κ ≢ 0 → get x (state (place_of S (get x κ))) ≡ 2
unfolding led
led_leads P S x e κ (an_anchor {a = r} l) v ne = leads_on_lem S x κ (every_true anchors _ (both_true (every anchors (λ r. leads_on S x (anchor r))) _ e).0 r l) ne
led_leads P S x e κ (a_field {j = i} {k = k} l m) v ne =
    let c : cond (marked x i) (every 4 (λ k. leads_on S x (field i k))) true ≡ true = every_true (P * S) _ (both_true (every anchors (λ r. leads_on S x (anchor r))) _ e).1 i l in
    leads_on_lem S x κ (every_true 4 _ (rw (eq-eqb (get x (state i)) 2 v) at c) k m) ne

module _ (P S : ℕ) (limits : Limits P S) (x : Image) (w : Linked P S x) where
  pub close_size : Sized (P * S) (close_up P S x)
  unfolding close_up
  close_size = shut_size (P * S) _ (swept_size (P * S) S x w.size (P * S))

  pub close_phase : get (close_up P S x) phase ≡ 0
  unfolding close_up
  close_phase = shut_phase (P * S) _ (swept_size (P * S) S x w.size (P * S))

  pub close_count : get (close_up P S x) count ≡ 0
  unfolding close_up
  close_count = shut_count (P * S) _ (swept_size (P * S) S x w.size (P * S))

  pub close_allowance : get (close_up P S x) allowance ≡ 0
  unfolding close_up
  close_allowance = shut_allowance (P * S) _ (swept_size (P * S) S x w.size (P * S))

  pub close_flag : (p : ℕ) → p < most_partitions → get (close_up P S x) (flag p) ≡ 0
  unfolding close_up
  close_flag p l = shut_flag (P * S) _ (swept_size (P * S) S x w.size (P * S)) p l

  -- what becomes of a slot
  pub close_state : (i : ℕ) → i < P * S → get (close_up P S x) (state i) ≡ get x (state i) - 1
  unfolding close_up
  close_state i l = shut_other _ (state i) tt (λ p. refl) (λ h m. refl) ∙ swept_state (P * S) S x w.size i l (w.states i l)

  content_shut : (y : Image) {i : ℕ} {μ : Key} → Content i μ → get (shut y) μ ≡ get y μ
  content_shut y {i} the_payload = shut_other y (payload i) tt (λ p. refl) (λ h m. refl)
  content_shut y {i} (the_field {k = k} l) = shut_other y (field i k) l (λ p. refl) (λ h m. refl)

  pub close_freed : {i : ℕ} {μ : Key} → Content i μ → i < P * S → get x (state i) ≡ 1 → get (close_up P S x) μ ≡ 0
  unfolding close_up
  close_freed {i} c l one = content_shut _ c ∙ swept_freed (P * S) S x w.size i l c one

  pub close_kept : {i : ℕ} {μ : Key} → Content i μ → i < P * S → get x (state i) ≢ 1 → get (close_up P S x) μ ≡ get x μ
  unfolding close_up
  close_kept {i} c l ne = content_shut _ c ∙ swept_kept (P * S) S x w.size i l c ne

  -- the words that a close leaves
  pub close_anchor : (r : ℕ) → r < anchors → get (close_up P S x) (anchor r) ≡ get x (anchor r)
  unfolding close_up
  close_anchor r l =
      shut_other _ (anchor r) l (λ p. refl) (λ h m. refl) ∙
      swept_away (P * S) S x (P * S) (anchor r) (λ i m. record { fits = l; state = refl; payload = refl; fields = λ k. refl })
