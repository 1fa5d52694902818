-- A walk, for any set, edges and places, and in whatever order: once no edge of the set is left to follow, it has come to the least set that has the
-- start and what edges lead to. n passes come to that set too; and where the order of additions does not matter, to the very same thing.
-- Then the list of a walk that visits places in the order of their coming.
-- Assumes nothing.
use Prim.Native.Nat.{ℕ, ◌+◌, ◌≤◌, ◌<◌}
use mathlib.Core.Path.{◌≡◌, refl, sym, ap, ◌∙◌, subst}
use mathlib.Core.Bool.{Bool, true, false, cond}
use mathlib.Core.List.{List}
use mathlib.Core.Logic.{◌≢◌, ◌⊎◌, inl, inr, ⊎_elim}
use native.Mathlib.Omega.{arith}
use lib.ListN.{length, get_or, set, length-set}
use lib.Seq.{get_or-set_same, get_or-set_other}
use Rattle.loops.specs.Loop.{bit, each, tally}
use Rattle.loops.proofs.Tests.{clash, same_test, eq_or_ne, lt_or_ge}
use Rattle.loops.proofs.Loops.{each_keeps, each_reaches, tally_le, tally_move, tally_same}
use Rattle.loops.proofs.Turns.{tally_more}
use Rattle.loops.proofs.Walks.{tally_none_pass}
use Rattle.model.specs.Spread.{spread, Reach, start, step}
use Rattle.model.specs.Walk.{visit, Todo, Longer}
use Rattle.model.proofs.Spreading.{Spreads, Edge, Grown, has_more, grown_self, grown_add, reached_add, spread_keeps, closed}
use Rattle.model.proofs.Adding.{Commutes, Added, as_is, added_on, added_same}

-- what is left to follow of a list of m places, the first `from` of which are visited: every edge of the others
abbrev pub Left : List ℕ → ℕ → ℕ → ℕ → ℕ → Type 0
Left list m from i k = (q : ℕ) × (from ≤ q) × (q < m) × (get_or list q 0 ≡ i)

module _ {X : Type 0} {has : X → ℕ → Bool} {add : X → ℕ → X} {edge : X → ℕ → ℕ → Bool} {target : X → ℕ → ℕ → ℕ} {at : ℕ → ℕ} {n K : ℕ}
    {Ok : X → Type 0} {U : X → ℕ → Type 0} (L : Spreads has add edge target at n K Ok U) where
  abbrev pub Found : X → ℕ → Type 0
  Found x = Reach (λ v. has x v ≡ true) (Edge has add edge target at n K x)

  -- y comes from x by additions of what edges lead to
  pub record Come (x y : X) : Type 0 where
    pub grown : Grown has add edge target at n K Ok U L x y
    pub added : Added L x y
    pub found : (i : ℕ) → has y i ≡ true → Found x i

  -- and each edge of a place of y leads into y, or is left to follow
  pub record Walked (x y : X) (Rest : ℕ → ℕ → Type 0) : Type 0 where
    pub come : Come x y
    pub followed : (j k : ℕ) → j < n → k < K → has y (at j) ≡ true → edge x (at j) k ≡ true → (has y (target x (at j) k) ≡ true) ⊎ Rest (at j) k

  -- nothing is left
  abbrev pub Done : X → X → Type 0
  Done x y = Walked x y (λ i k. ⊥)

  pub come_self : (x : X) → Ok x → Come x x
  come_self x ok = record { grown = grown_self has add edge target at n K Ok U L x ok; added = as_is; found = λ i e. start e }

  pub come_add : (x y : X) (j k : ℕ) → j < n → k < K → has y (at j) ≡ true → edge y (at j) k ≡ true → Come x y → Come x (add y (target y (at j) k))
  come_add x y j k l m a e c =
      record {
        grown = grown_add has add edge target at n K Ok U L x y t u c.grown;
        added = added_on L x y t c.grown.ok u c.added;
        found = λ i h. reached_add has add edge target at n K Ok U L x y t i c.grown.ok u h along (c.found i);
      }
    where
      t : ℕ
      t = target y (at j) k

      u : U y t
      u = L.inside y j k c.grown.ok l m e

      along : Found x t
      along = step (c.found (at j) a) (j, k, l, m, refl, sym (c.grown.edges (at j) k m) ∙ e, sym (c.grown.targets (at j) k m))

  -- a place of y is visited: what comes of it still comes from x, and has what the place's edges lead to
  module _ (x : X) (j : ℕ) (l : j < n) where
    Visiting : X → Type 0
    Visiting z = Come x z × (has z (at j) ≡ true)

    abbrev one : X → ℕ → X
    one z k = cond (edge z (at j) k) (add z (target z (at j) k)) z

    visit_one : (z : X) (k : ℕ) → k < K → Visiting z → Visiting (one z k)
    unfolding Visiting
    visit_one z k m v = go (edge z (at j) k) refl
      where
        go : (b : Bool) → edge z (at j) k ≡ b → Visiting (cond b (add z (target z (at j) k)) z)
        go true e =
            let c = v.0 in
            (come_add x z j k l m v.1 e c, has_more has add edge target at n K Ok U L z (target z (at j) k) (at j) c.grown.ok (L.inside z j k c.grown.ok l m e) v.1)
        go false e = v

    module _ (y : X) (a : has y (at j) ≡ true) (c : Come x y) where
      come_visit : Come x (visit add edge target K y (at j))
      unfolding visit Visiting
      come_visit = (each_keeps Visiting K one (λ z k m v. visit_one z k m v) y (c, a)).0

      visit_adds : (k : ℕ) → k < K → edge x (at j) k ≡ true → has (visit add edge target K y (at j)) (target x (at j) k) ≡ true
      unfolding visit Visiting
      visit_adds k m e = (each_reaches Got K one y k m keeps (made (each_keeps Visiting k one (λ z i b v. visit_one z i (omega arith) v) y (c, a)))).1
        where
          t : ℕ
          t = target x (at j) k

          Got : X → Type 0
          Got z = Visiting z × (has z t ≡ true)

          keeps : (z : X) (i : ℕ) → i < K → Got z → Got (one z i)
          keeps z i b g = (visit_one z i b g.0, go (edge z (at j) i) refl)
            where
              go : (d : Bool) → edge z (at j) i ≡ d → has (cond d (add z (target z (at j) i)) z) t ≡ true
              go true q = let ok = g.0.0.grown.ok in has_more has add edge target at n K Ok U L z (target z (at j) i) t ok (L.inside z j i ok l b q) g.1
              go false q = g.1

          made : Visiting (each k one y) → Got (one (each k one y) k)
          made v =
              let z = each k one y in
              let g = v.0.grown in
              let q : edge z (at j) k ≡ true = g.edges (at j) k m ∙ e in
              let r : target z (at j) k ≡ t = g.targets (at j) k m in
              (visit_one z k m v, rw q (subst (λ (i : ℕ). has (add z (target z (at j) k)) i ≡ true) r (L.has_same z (target z (at j) k) g.ok (L.inside z j k g.ok l m q))))

  -- the walk with a list: it begins with every place of x listed,
  pub walked_first : (x : X) (list : List ℕ) (m : ℕ) → Ok x → Todo has at n x list m → Walked x x (Left list m 0)
  walked_first x list m ok t = record { come = come_self x ok; followed = λ j k l b a e. let w = t.listed j l a in inr (w.0, omega arith, w.1, w.2) }

  -- goes on from place to place, what a visit adds being put at the list's end,
  module _ {x y y' : X} {list list' : List ℕ} {m m' from : ℕ} (w : Walked x y (Left list m from)) (t : Todo has at n y list m) (t' : Todo has at n y' list' m') (g : Longer list m list' m') where
    pub walked_next : from < m → (i : ℕ) → i ≡ get_or list from 0 → y' ≡ visit add edge target K y i → Walked x y' (Left list' m' (from + 1))
    walked_next lt i q v = record { come = come; followed = λ c k lc b a e. turn c k lc b a e (t'.listed c lc a) }
      where
        here : (j : ℕ) × (j < n) × (at j ≡ get_or list from 0) × (has y (at j) ≡ true)
        here = t.held from lt

        j : ℕ
        j = here.0

        visited : y' ≡ visit add edge target K y (at j)
        visited = v ∙ ap (visit add edge target K y) (q ∙ sym here.2)

        come : Come x y'
        come = rw visited (come_visit x j here.1 y here.3 w.come)

        more : (i : ℕ) → has y i ≡ true → has y' i ≡ true
        more i h = rw visited ((come_visit y j here.1 y here.3 (come_self y w.come.grown.ok)).grown.more i h)

        turn : (c k : ℕ) → c < n → k < K → has y' (at c) ≡ true → edge x (at c) k ≡ true → (r : ℕ) × (r < m') × (get_or list' r 0 ≡ at c)
            → (has y' (target x (at c) k) ≡ true) ⊎ Left list' m' (from + 1) (at c) k
        turn c k lc b a e r = ⊎_elim (λ le. old r.0 (omega arith) (sym (g.kept r.0 (omega arith)) ∙ r.2)) (λ le. inr (r.0, le, r.1, r.2)) (lt_or_ge r.0 (from + 1))
          where
            -- a place that stood in the list before
            old : (s : ℕ) → s < m → get_or list s 0 ≡ at c → (has y' (target x (at c) k) ≡ true) ⊎ Left list' m' (from + 1) (at c) k
            old s ls es =
                let d = t.held s ls in
                let h : has y (at c) ≡ true = subst (λ (i : ℕ). has y i ≡ true) (d.2 ∙ es) d.3 in
                ⊎_elim (λ h. inl (more _ h)) (λ z. waiting z.0 z.1 z.2 z.3) (w.followed c k lc b h e)
              where
                waiting : (s : ℕ) → from ≤ s → s < m → get_or list s 0 ≡ at c → (has y' (target x (at c) k) ≡ true) ⊎ Left list' m' (from + 1) (at c) k
                waiting s le ls es =
                    ⊎_elim
                    (λ z.
                    let p : at j ≡ at c = here.2 ∙ ap (λ (i : ℕ). get_or list i 0) (sym z) ∙ es in
                    inl (subst (λ (i : ℕ). has y' (target x i k) ≡ true) p (rw visited (visit_adds x j here.1 y here.3 w.come k b (subst (λ (i : ℕ). edge x i k ≡ true) (sym p) e)))))
                    (λ ne. inr (s, omega arith, omega (arith, g.more), g.kept s ls ∙ es))
                    (eq_or_ne s from)

  -- and is done at the list's end
  pub walked_end : {x y : X} (list : List ℕ) (m from : ℕ) → m ≤ from → Walked x y (Left list m from) → Done x y
  walked_end list m from le w = record { come = w.come; followed = λ j k l b a e. ⊎_elim (λ h. inl h) (λ q. absurd (omega (arith, q.1, q.2))) (w.followed j k l b a e) }

  -- what is done has come to the least set
  pub walked_all : {x y : X} → Done x y → (i : ℕ) → Found x i → has y i ≡ true
  walked_all {x} {y} w i (start h) = w.come.grown.more i h
  walked_all {x} {y} w i (step {i = v} r e) =
      let a : has y (at e.0) ≡ true = rw e.4 (walked_all w v r) in
      rw (← e.6) (⊎_elim (λ q. q) (λ q. absurd q) (w.followed e.0 e.1 e.2 e.3 a e.5))

  -- and, where additions can change places, to the same thing in whatever order
  pub walked_same : Commutes add Ok U → {x y z : X} → Done x y → Done x z → y ≡ z
  walked_same C {x} {y} {z} w v =
      added_same L C x y z w.come.added v.come.added
      (λ i. same_test _ _ (λ h. walked_all v i (w.come.found i h)) (λ h. walked_all w i (v.come.found i h)))

  -- n passes are done too, if the places are different, and edges of places end at places
  module _ (distinct : (i j : ℕ) → i < n → j < n → at i ≡ at j → i ≡ j)
      (within : (x : X) (j k : ℕ) → Ok x → j < n → k < K → edge x (at j) k ≡ true → (i : ℕ) × (i < n) × (at i ≡ target x (at j) k)) where
    pub spread_done : (x : X) → Ok x → Done x (spread has add edge target at n K x)
    spread_done x ok =
        record {
          come = spread_keeps has add edge target at n K (Come x) (λ y j k l b a e c. come_add x y j k l b a e c) x (come_self x ok);
          followed = λ j k l b a e. inl (closed has add edge target at n K Ok U L distinct within x j k ok l b a e);
        }

    pub walked_is : Commutes add Ok U → (x y : X) → Ok x → Done x y → y ≡ spread has add edge target at n K x
    walked_is C x y ok w = walked_same C w (spread_done x ok)

-- the list: put at its end
module _ (list : List ℕ) (m t : ℕ) (l : m < length list) where
  at_end_lem : get_or (set list m t) m 0 ≡ t
  at_end_lem = get_or-set_same list m t 0 l

  pub longer_one : Longer list m (set list m t) (m + 1)
  longer_one = record { more = omega arith; kept = λ i b. get_or-set_other list m i t 0 (λ q. omega arith) }

  -- what holds of the new place and of each in the list holds of each in the new list
  ends : (Q : ℕ → Type 0) → Q t → ((i : ℕ) → i < m → Q (get_or list i 0)) → (i : ℕ) → i < m + 1 → Q (get_or (set list m t) i 0)
  ends Q new old i b =
      ⊎_elim (λ q. subst (λ (v : ℕ). Q (get_or (set list m t) v 0)) (sym q) (subst Q (sym at_end_lem) new)) (λ ne. subst Q (sym (longer_one.kept i (omega arith))) (old i (omega arith))) (eq_or_ne i m)

  -- what was found in the list is found in it still
  stands : {v : ℕ} → (i : ℕ) × (i < m) × (get_or list i 0 ≡ v) → (i : ℕ) × (i < m + 1) × (get_or (set list m t) i 0 ≡ v)
  stands w = (w.0, omega arith, longer_one.kept w.0 w.1 ∙ w.2)

pub longer_none : (list : List ℕ) (m : ℕ) → Longer list m list m
longer_none list m = record { more = omega arith; kept = λ i l. refl }

pub longer_then : {a b c : List ℕ} {i j k : ℕ} → Longer a i b j → Longer b j c k → Longer a i c k
longer_then g h = record { more = omega (arith, g.more, h.more); kept = λ i l. h.kept i (omega (arith, g.more)) ∙ g.kept i l }

-- at first it is empty
pub todo_none : {X : Type 0} (has : X → ℕ → Bool) (at : ℕ → ℕ) (n : ℕ) (x : X) (list : List ℕ) → n ≤ length list → ((j : ℕ) → j < n → has x (at j) ≡ false) → Todo has at n x list 0
todo_none has at n x list r h =
    record {
      room = r;
      counted = sym (tally_none_pass n (λ j. has x (at j)) h);
      listed = λ j l e. absurd (clash e (h j l));
      held = λ i l. absurd (omega arith);
    }

module _ {X : Type 0} {has : X → ℕ → Bool} {at : ℕ → ℕ} {n : ℕ} {x : X} {list : List ℕ} {m : ℕ} (t : Todo has at n x list m) where
  pub todo_most : m ≤ n
  todo_most = omega (arith, t.counted, tally_le n (λ j. has x (at j)))

  -- one place more to list: it is in the set, or not
  pub todo_in : has x (at n) ≡ true → n < length list → Todo has at (n + 1) x (set list m (at n)) (m + 1)
  todo_in e r =
      record {
        room = omega (arith, length-set list m (at n));
        counted = ap (λ (b : Bool). m + bit b) (sym e) ∙ tally_more (λ j. has x (at j)) n m t.counted;
        listed = λ j l h. ⊎_elim (λ q. (m, omega arith, at_end_lem list m (at n) room ∙ ap at (sym q))) (λ ne. stands list m (at n) room (t.listed j (omega arith) h)) (eq_or_ne j n);
        held = ends list m (at n) room (λ v. (j : ℕ) × (j < n + 1) × (at j ≡ v) × (has x (at j) ≡ true)) (n, omega arith, refl, e)
            (λ i l. let w = t.held i l in (w.0, omega (arith, w.1), w.2, w.3));
      }
    where
      room : m < length list
      room = omega (arith, todo_most)

  pub todo_out : has x (at n) ≡ false → n < length list → Todo has at (n + 1) x list m
  todo_out e r =
      record {
        room = omega arith;
        counted = omega (arith, ap bit e, tally_more (λ j. has x (at j)) n m t.counted);
        listed = λ j l h. t.listed j (below j l h) h;
        held = λ i l. let w = t.held i l in (w.0, omega (arith, w.1), w.2, w.3);
      }
    where
      below : (j : ℕ) → j < n + 1 → has x (at j) ≡ true → j < n
      below j l h = ⊎_elim (λ q. absurd (clash h (ap (λ (i : ℕ). has x (at i)) q ∙ e))) (λ ne. omega arith) (eq_or_ne j n)

  -- the set changes at v alone,
  module _ (y : X) (v : ℕ) (others : (i : ℕ) → v ≢ i → has y i ≡ has x i) where
    -- which is none of the places,
    pub todo_far : ((j : ℕ) → j < n → v ≢ at j) → Todo has at n y list m
    todo_far far =
        record {
          room = t.room;
          counted = t.counted ∙ tally_same n (λ j. has x (at j)) (λ j. has y (at j)) (λ j l. sym (others (at j) (far j l)));
          listed = λ j l h. t.listed j l (sym (others (at j) (far j l)) ∙ h);
          held = λ i l. let w = t.held i l in (w.0, w.1, w.2, others (at w.0) (far w.0 w.1) ∙ w.3);
        }

    -- or is one of them, which comes into the set and to the list's end
    module _ (distinct : (i j : ℕ) → i < n → j < n → at i ≡ at j → i ≡ j) (j : ℕ) (l : j < n) (e : at j ≡ v) (new : has x v ≡ false) (now : has y v ≡ true) where
      counted_more : m + 1 ≡ tally n (λ i. has y (at i))
      counted_more =
          let b : bit (has x (at j)) ≡ 0 = rw (e, new) in
          let b' : bit (has y (at j)) ≡ 1 = rw (e, now) in
          let r = tally_move n (λ i. has x (at i)) (λ i. has y (at i)) j l (λ i li ne. sym (others (at i) (λ q. ne (distinct i j li l (sym q ∙ sym e))))) in
          omega (arith, t.counted)

      pub todo_room : m < n
      todo_room = omega (arith, counted_more, tally_le n (λ i. has y (at i)))

      pub todo_more : Todo has at n y (set list m v) (m + 1)
      todo_more =
          record {
            room = omega (arith, length-set list m v, t.room);
            counted = counted_more;
            listed = λ i li h. ⊎_elim (λ q. (m, omega arith, at_end_lem list m v room ∙ q)) (λ ne. stands list m v room (t.listed i li (sym (others (at i) ne) ∙ h))) (eq_or_ne v (at i));
            held = ends list m v room (λ u. (i : ℕ) × (i < n) × (at i ≡ u) × (has y (at i) ≡ true)) (j, l, e, rw (e, now))
                (λ i li. let w = t.held i li in (w.0, w.1, w.2, stays (at w.0) w.3));
          }
        where
          room : m < length list
          room = omega (arith, todo_room, t.room)

          stays : (i : ℕ) → has x i ≡ true → has y i ≡ true
          stays i h = ⊎_elim (λ q. absurd (clash h (rw (← q) new))) (λ ne. others i ne ∙ h) (eq_or_ne v i)
