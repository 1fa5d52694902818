-- What spreading comes to: it keeps what one addition keeps, rests within n passes, and is the least closed set.
use Prim.Native.Nat.{ℕ, ◌≤◌, ◌<◌}
use mathlib.Core.Path.{◌≡◌, refl, sym, ap, ◌∙◌, subst}
use mathlib.Core.Bool.{Bool, true, false, not, cond}
use mathlib.Core.Logic.{◌≢◌, ◌⊎◌, inl, inr}
use native.Mathlib.Omega.{arith}
use native.Mathlib.Decide.{ℕ_discrete}
use Rattle.loops.specs.Loop.{both, bit, each, tally}
use Rattle.loops.proofs.Tests.{both_true}
use Rattle.loops.proofs.Loops.{each_keeps, each_reaches, again_keeps, descent, tally_move, tally_le}
use Rattle.model.specs.Spread.{follow, pass, spread, Reach, start, step}

-- what the operations must satisfy: Ok is an invariant of x, and U says which places can be added
pub record Spreads {X : Type 0} (has : X → ℕ → Bool) (add : X → ℕ → X) (edge : X → ℕ → ℕ → Bool) (target : X → ℕ → ℕ → ℕ) (at : ℕ → ℕ) (n K : ℕ)
    (Ok : X → Type 0) (U : X → ℕ → Type 0) : Type 0 where
  pub ok_add : (x : X) (t : ℕ) → Ok x → U x t → Ok (add x t)
  pub has_same : (x : X) (t : ℕ) → Ok x → U x t → has (add x t) t ≡ true
  pub has_other : (x : X) (t i : ℕ) → Ok x → U x t → t ≢ i → has (add x t) i ≡ has x i
  pub add_had : (x : X) (t : ℕ) → has x t ≡ true → add x t ≡ x
  pub edge_add : (x : X) (t i k : ℕ) → Ok x → U x t → k < K → edge (add x t) i k ≡ edge x i k
  pub target_add : (x : X) (t i k : ℕ) → Ok x → U x t → k < K → target (add x t) i k ≡ target x i k
  pub inside : (x : X) (j k : ℕ) → Ok x → j < n → k < K → edge x (at j) k ≡ true → U x (target x (at j) k)

-- the same start along more edges
pub reach_along : {Start : ℕ → Type 0} {E F : ℕ → ℕ → Type 0} → ((i j : ℕ) → E i j → F i j) → {i : ℕ} → Reach Start E i → Reach Start F i
reach_along h (start s) = start s
reach_along h (step {i = i} {j = j} r e) = step (reach_along h r) (h i j e)

same_or_less : {X : Type 0} (m : X → ℕ) (a z y : X) → (z ≡ y) ⊎ (m z < m y) → (a ≡ z) ⊎ (m a < m z) → (a ≡ y) ⊎ (m a < m y)
same_or_less m a z y (inl p) (inl q) = inl (q ∙ p)
same_or_less m a z y (inl p) (inr q) = inr (rw p at q)
same_or_less m a z y (inr p) (inl q) = inr (rw q p)
same_or_less m a z y (inr p) (inr q) = inr (omega arith)

module _ {X : Type 0} (has : X → ℕ → Bool) (add : X → ℕ → X) (edge : X → ℕ → ℕ → Bool) (target : X → ℕ → ℕ → ℕ) (at : ℕ → ℕ) (n K : ℕ) where
  -- the edges that the passes see
  abbrev pub Edge : X → ℕ → ℕ → Type 0
  Edge x i t = (j k : ℕ) × (j < n) × (k < K) × (at j ≡ i) × (edge x (at j) k ≡ true) × (target x (at j) k ≡ t)

  follow_keeps : (Q : X → Type 0) (x : X) (i k : ℕ) → (has x i ≡ true → edge x i k ≡ true → Q x → Q (add x (target x i k))) → Q x → Q (follow has add edge target at n K x i k)
  unfolding follow
  follow_keeps Q x i k h q = go (both (has x i) (edge x i k)) refl
    where
      go : (b : Bool) → both (has x i) (edge x i k) ≡ b → Q (cond b (add x (target x i k)) x)
      go true e = let w = both_true (has x i) (edge x i k) e in h w.0 w.1 q
      go false e = q

  module _ (Q : X → Type 0) (h : (x : X) (j k : ℕ) → j < n → k < K → has x (at j) ≡ true → edge x (at j) k ≡ true → Q x → Q (add x (target x (at j) k))) where
    pub pass_keeps : (x : X) → Q x → Q (pass has add edge target at n K x)
    unfolding pass
    pass_keeps x q =
        each_keeps Q n _ (λ y j l qy. each_keeps Q K _ (λ z k m qz. follow_keeps Q z (at j) k (h z j k l m) qz) y qy) x q

    pub spread_keeps : (x : X) → Q x → Q (spread has add edge target at n K x)
    unfolding spread
    spread_keeps x q = again_keeps Q n _ pass_keeps x q

  module _ (Ok : X → Type 0) (U : X → ℕ → Type 0) (L : Spreads has add edge target at n K Ok U) where
    -- y comes from x by additions: it is sound, has no less, and its edges are x's
    pub record Grown (x y : X) : Type 0 where
      pub ok : Ok y
      pub more : (i : ℕ) → has x i ≡ true → has y i ≡ true
      pub edges : (i k : ℕ) → k < K → edge y i k ≡ edge x i k
      pub targets : (i k : ℕ) → k < K → target y i k ≡ target x i k

    pub has_more : (x : X) (t i : ℕ) → Ok x → U x t → has x i ≡ true → has (add x t) i ≡ true
    has_more x t i ok u e = go (ℕ_discrete t i)
      where
        go : Dec (t ≡ i) → has (add x t) i ≡ true
        go (yes q) = subst (λ (m : ℕ). has (add x t) m ≡ true) q (L.has_same x t ok u)
        go (no q) = L.has_other x t i ok u q ∙ e

    pub grown_add : (x y : X) (t : ℕ) → U y t → Grown x y → Grown x (add y t)
    grown_add x y t u g =
        record {
          ok = L.ok_add y t g.ok u;
          more = λ i e. has_more y t i g.ok u (g.more i e);
          edges = λ i k l. L.edge_add y t i k g.ok u l ∙ g.edges i k l;
          targets = λ i k l. L.target_add y t i k g.ok u l ∙ g.targets i k l;
        }

    pub grown_self : (x : X) → Ok x → Grown x x
    grown_self x ok = record { ok = ok; more = λ i e. e; edges = λ i k l. refl; targets = λ i k l. refl }

    grown_step : (x y : X) (j k : ℕ) → j < n → k < K → edge y (at j) k ≡ true → Grown x y → Grown x (add y (target y (at j) k))
    grown_step x y j k l m e g = grown_add x y (target y (at j) k) (L.inside y j k g.ok l m e) g

    pub pass_grown : (x : X) → Ok x → Grown x (pass has add edge target at n K x)
    pass_grown x ok = pass_keeps (Grown x) (λ y j k l m a e g. grown_step x y j k l m e g) x (grown_self x ok)

    pub spread_grown : (x : X) → Ok x → Grown x (spread has add edge target at n K x)
    spread_grown x ok = spread_keeps (Grown x) (λ y j k l m a e g. grown_step x y j k l m e g) x (grown_self x ok)

    pub holds_start : (x : X) → Ok x → (i : ℕ) → has x i ≡ true → has (spread has add edge target at n K x) i ≡ true
    holds_start x ok i h = (spread_grown x ok).more i h

    -- one pass adds the target of each edge of each place that was there
    module _ (x : X) (t : ℕ) where
      Got : X → Type 0
      Got y = Grown x y × (has y t ≡ true)

      got_row : (y : X) (j : ℕ) → j < n → Got y → Got (each K (λ z k. follow has add edge target at n K z (at j) k) y)
      unfolding Got
      got_row y j l q =
          each_keeps Got K _
          (λ z k m qz.
          follow_keeps Got z (at j) k
          (λ a e w.
          (grown_step x z j k l m e w.0, has_more z (target z (at j) k) t w.0.ok (L.inside z j k w.0.ok l m e) w.1))
          qz)
          y
          q

      grown_row : (y : X) (j : ℕ) (m : ℕ) → j < n → m ≤ K → Grown x y → Grown x (each m (λ z k. follow has add edge target at n K z (at j) k) y)
      grown_row y j m l le g =
          each_keeps (Grown x) m _ (λ z k lk gz. follow_keeps (Grown x) z (at j) k (λ a e w. grown_step x z j k l (omega arith) e w) gz) y g

      follow_adds : (z : X) (j k : ℕ) → j < n → k < K → Grown x z → has x (at j) ≡ true → edge x (at j) k ≡ true → target x (at j) k ≡ t
          → Got (follow has add edge target at n K z (at j) k)
      unfolding Got follow
      follow_adds z j k l m g a e r =
          let b : both (has z (at j)) (edge z (at j) k) ≡ true = rw (g.more (at j) a, g.edges (at j) k m, e) in
          let e' : edge z (at j) k ≡ true = g.edges (at j) k m ∙ e in
          let u : U z (target z (at j) k) = L.inside z j k g.ok l m e' in
          let r' : target z (at j) k ≡ t = g.targets (at j) k m ∙ r in
          rw b (grown_step x z j k l m e' g, subst (λ (v : ℕ). has (add z (target z (at j) k)) v ≡ true) r' (L.has_same z (target z (at j) k) g.ok u))

    pub pass_adds : (x : X) (j k : ℕ) → Ok x → j < n → k < K → has x (at j) ≡ true → edge x (at j) k ≡ true
        → has (pass has add edge target at n K x) (target x (at j) k) ≡ true
    unfolding pass Got
    pass_adds x j k ok l m a e =
        let t = target x (at j) k in
        let row : X → ℕ → X = λ (y : X) (i : ℕ). each K (λ z c. follow has add edge target at n K z (at i) c) y in
        let before : Grown x (each j row x) = each_keeps (Grown x) j row (λ y i li g. grown_row x t y i K (omega arith) (omega arith) g) x (grown_self x ok) in
        (each_reaches (Got x t) n row x j l (λ y i li q. got_row x t y i li q)
        (each_reaches (Got x t) K _ (each j row x) k m
        (λ z c lc q.
        follow_keeps (Got x t) z (at j) c
        (λ a' e' w. (grown_step x z j c l lc e' w.0, has_more z (target z (at j) c) t w.0.ok (L.inside z j c w.0.ok l lc e') w.1))
        q)
        (follow_adds x t _ j k l m (grown_row x t (each j row x) j k l (omega arith) before) a e refl))
        ).1

    -- how many of the places are missing
    abbrev pub missing : X → ℕ
    missing x = tally n (λ j. not (has x (at j)))

    module _ (distinct : (i j : ℕ) → i < n → j < n → at i ≡ at j → i ≡ j) (within : (x : X) (j k : ℕ) → Ok x → j < n → k < K → edge x (at j) k ≡ true → (i : ℕ) × (i < n) × (at i ≡ target x (at j) k)) where
      -- an addition changes Nothing, or brings that number down
      fewer : (x : X) (i : ℕ) → Ok x → i < n → U x (at i) → (add x (at i) ≡ x) ⊎ (missing (add x (at i)) < missing x)
      fewer x i ok l u = go (has x (at i)) refl
        where
          go : (b : Bool) → has x (at i) ≡ b → (add x (at i) ≡ x) ⊎ (missing (add x (at i)) < missing x)
          go true e = inl (L.add_had x (at i) e)
          go false e =
              let r = tally_move n (λ j. not (has x (at j))) (λ j. not (has (add x (at i)) (at j))) i l
              (λ j lj ne. ap not (sym (L.has_other x (at i) (at j) ok u (λ q. ne (sym (distinct i j l lj q)))))) in
              let b₁ : bit (not (has x (at i))) ≡ 1 = rw e in
              let b₂ : bit (not (has (add x (at i)) (at i))) ≡ 0 = rw (L.has_same x (at i) ok u) in
              inr (omega arith)

      pub rests : (x : X) → Ok x → pass has add edge target at n K (spread has add edge target at n K x) ≡ spread has add edge target at n K x
      unfolding spread
      rests x ok =
          descent (pass has add edge target at n K) missing Ok (λ y o. (pass_grown y o).ok) falls n x ok (tally_le n (λ j. not (has x (at j))))
        where
          falls : (y : X) → Ok y → (pass has add edge target at n K y ≡ y) ⊎ (missing (pass has add edge target at n K y) < missing y)
          falls y o = (pass_keeps (λ z. Ok z × ((z ≡ y) ⊎ (missing z < missing y))) (λ z j k l m a e q.
              let t = target z (at j) k in
              let u : U z t = L.inside z j k q.0 l m e in
              let w = within z j k q.0 l m e in
              let f : (add z t ≡ z) ⊎ (missing (add z t) < missing z) =
              subst (λ (v : ℕ). (add z v ≡ z) ⊎ (missing (add z v) < missing z)) w.2 (fewer z w.0 q.0 w.1 (subst (U z) (sym w.2) u)) in
              (L.ok_add z t q.0 u, same_or_less missing (add z t) z y q.1 f))
              y (o, inl refl)).1

      pub closed : (x : X) (j k : ℕ) → Ok x → j < n → k < K → has (spread has add edge target at n K x) (at j) ≡ true → edge x (at j) k ≡ true
          → has (spread has add edge target at n K x) (target x (at j) k) ≡ true
      closed x j k ok l m a e =
          let y = spread has add edge target at n K x in
          let g : Grown x y = spread_grown x ok in
          rw (← g.targets (at j) k m) (rw (rests x ok) at (pass_adds y j k g.ok l m a (g.edges (at j) k m ∙ e)))

      pub complete : (x : X) (i : ℕ) → Ok x → Reach (λ v. has x v ≡ true) (Edge x) i → has (spread has add edge target at n K x) i ≡ true
      complete x i ok (start h) = holds_start x ok i h
      complete x i ok (step {i = v} r e) =
          let a : has (spread has add edge target at n K x) (at e.0) ≡ true = rw e.4 (complete x v ok r) in
          rw (← e.6) (closed x e.0 e.1 ok e.2 e.3 a e.5)

    -- after the addition of what is reached, all is reached that was and is there
    pub reached_add : (x y : X) (t v : ℕ) → Ok y → U y t → has (add y t) v ≡ true → Reach (λ w. has x w ≡ true) (Edge x) t
        → (has y v ≡ true → Reach (λ w. has x w ≡ true) (Edge x) v) → Reach (λ w. has x w ≡ true) (Edge x) v
    reached_add x y t v ok u h r old = go (ℕ_discrete t v)
      where
        go : Dec (t ≡ v) → Reach (λ w. has x w ≡ true) (Edge x) v
        go (yes q) = rw q at r
        go (no q) = old (sym (L.has_other y t v ok u q) ∙ h)

    pub least : (x : X) → Ok x → (i : ℕ) → has (spread has add edge target at n K x) i ≡ true → Reach (λ v. has x v ≡ true) (Edge x) i
    least x ok i h =
        (spread_keeps (λ y. Grown x y × ((v : ℕ) → has y v ≡ true → Reach (λ w. has x w ≡ true) (Edge x) v))
        (λ y j k l m a e q.
        let g = grown_step x y j k l m e q.0 in
        let t = target y (at j) k in
        let r : Reach (λ w. has x w ≡ true) (Edge x) t =
        step (q.1 (at j) a) (j, k, l, m, refl, sym (q.0.edges (at j) k m) ∙ e, sym (q.0.targets (at j) k m)) in
        (g, λ v hv. reached_add x y t v q.0.ok (L.inside y j k q.0.ok l m e) hv r (q.1 v)))
        x (grown_self x ok, λ v hv. start hv)).1 i h
