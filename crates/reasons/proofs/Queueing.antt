-- Laws of the queue: it begins empty, takes a place into its row, and a row becomes whole.
-- Assumes nothing.
use Prim.Native.Nat.{ℕ, zero, suc, ◌+◌, ◌*◌, ◌-◌, ◌≤◌, ◌<◌}
use mathlib.Core.Path.{◌≡◌, refl, sym, ap, ◌∙◌, subst}
use mathlib.Core.Logic.{◌≢◌, ◌⊎◌, inl, inr, ⊎_elim}
use mathlib.Core.List.{List}
use native.Mathlib.Nat.{eq-or-lt_of_le}
use native.Mathlib.Numerals.{add-one}
use native.Mathlib.Omega.{arith}
use lib.ListN.{length, get_or, set, replicate, length-set}
use lib.Seq.{get_or-set_same, get_or-set_other}
use Rattle.loops.proofs.Tests.{eq_or_ne, lt_or_ge}
use Rattle.kinds.specs.Names.{most_places}
use Rattle.model.specs.Image.{Image, Key, anchor, field, anchors, get, place_of, Holder}
use Rattle.model.specs.Chains.{Names}
use Rattle.model.proofs.Keys.{zeros}
use Rattle.image.specs.Within.{Within}
use Rattle.reasons.specs.declared.queue.Queue.{Queue}
use Rattle.reasons.specs.Queue.{Row, key, Levels, Inserted, Entered, again, anew, Noted, nothing, named}
use Rattle.reasons.proofs.Tables.{tables_few}

-- insertion: what is higher moves one up, from the end
pub record Moving (list₀ : List ℕ) (from n j : ℕ) (list : List ℕ) (at : ℕ) : Type 0 where
  pub above : from ≤ at
  pub within : at ≤ n
  pub long : length list ≡ length list₀
  pub before : (a : ℕ) → a < at → get_or list a 0 ≡ get_or list₀ a 0
  pub behind : (a : ℕ) → at ≤ a → a < n → get_or list (suc a) 0 ≡ get_or list₀ a 0
  pub high : (a : ℕ) → at ≤ a → a < n → j ≤ get_or list₀ a 0

module _ {list₀ : List ℕ} {from n j : ℕ} where
  pub moving_first : from ≤ n → Moving list₀ from n j list₀ n
  moving_first l =
      record { above = l; within = omega arith; long = refl; before = λ a k. refl; behind = λ a k m. absurd (omega arith); high = λ a k m. absurd (omega arith) }

  module _ {list : List ℕ} {at : ℕ} (w : Moving list₀ from n j list at) (room : n < length list) where
    -- a higher one goes up
    pub moving_more : from < at → (i : ℕ) → i ≡ get_or list (at - 1) 0 → j ≤ i → Moving list₀ from n j (set list at i) (at - 1)
    moving_more l i e h =
        let old : get_or list (at - 1) 0 ≡ get_or list₀ (at - 1) 0 = w.before (at - 1) (omega arith) in
        let put : get_or (set list at i) at 0 ≡ i = get_or-set_same list at i 0 (omega (arith, w.within)) in
        record {
          above = omega arith;
          within = omega (arith, w.within);
          long = length-set list at i ∙ w.long;
          before = λ a k. get_or-set_other list at a i 0 (λ q. omega arith) ∙ w.before a (omega arith);
          behind =
              λ a k m.
              ⊎_elim
              (λ (q : at - 1 ≡ a).
              let z : suc a ≡ at = omega arith in
              ap (λ (v : ℕ). get_or (set list at i) v 0) z ∙ put ∙ e ∙ old ∙ ap (λ (v : ℕ). get_or list₀ v 0) q)
              (λ (q : at - 1 < a). get_or-set_other list at (suc a) i 0 (λ z. omega arith) ∙ w.behind a (omega arith) m) (eq-or-lt_of_le k);
          high =
              λ a k m.
              ⊎_elim (λ (q : at - 1 ≡ a). subst (λ (v : ℕ). j ≤ get_or list₀ v 0) q (omega arith)) (λ (q : at - 1 < a). w.high a (omega arith) m) (eq-or-lt_of_le k);
        }

    -- its place is found
    pub moving_end : (from < at → get_or list (at - 1) 0 < j) → Inserted list₀ from n j (set list at j)
    moving_end l =
        record {
          at = at;
          above = w.above;
          within = w.within;
          long = length-set list at j ∙ w.long;
          before = λ a k. get_or-set_other list at a j 0 (λ q. omega arith) ∙ w.before a k;
          here = get_or-set_same list at j 0 (omega (arith, w.within));
          behind = λ a k m. get_or-set_other list at (suc a) j 0 (λ z. omega arith) ∙ w.behind a k m;
          low =
              λ a k e.
              let z : at - 1 ≡ a = omega arith in
              subst (λ (v : ℕ). v < j) (w.before a (omega arith)) (subst (λ (v : ℕ). get_or list v 0 < j) z (l (omega arith)));
          high = w.high;
        }

-- an empty queue
pub levels_first : {S places : ℕ} {img : Image} (queue : Queue) → places ≤ most_places → queue.rows ≡ replicate most_places 0 → queue.length ≡ 0 → Levels S places img queue 0 0
levels_first queue few e none =
    record {
      few = few;
      upto = omega arith;
      listed = λ j l. absurd (omega (arith, ap (λ (r : List ℕ). get_or r j 0) e, zeros most_places j));
      met = λ a l. absurd (omega arith);
      inside = λ a l. absurd (omega arith);
      earlier = λ a l. absurd (omega arith);
      held = λ a v l. absurd (omega arith);
      rise = λ a b l m. absurd (omega arith);
      old = λ a l. absurd (omega arith);
      new = λ a k l. absurd (omega arith);
      whole = λ v j l. absurd (omega arith);
    }

-- the rows up to u are the same where the list has what it had
pub row_same : (S : ℕ) (img : Image) (queue queue' : Queue) (u : ℕ) → ((a : ℕ) → a < u → get_or queue'.list a 0 ≡ get_or queue.list a 0) → (v i : ℕ) → v ≤ u → Row S img queue v i → Row S img queue' v i
unfolding Row
row_same S img queue queue' u kept zero i k r = r
row_same S img queue queue' u kept (suc b) i k r = rw (kept b (omega arith)) r

-- the queue with what has come into row u: what was met still is, and what stood before the row's own stays there
pub record Taken (S places : ℕ) (img : Image) (queue : Queue) (u from : ℕ) (queue' : Queue) : Type 0 where
  pub levels : Levels S places img queue' u from
  pub longer : queue.length ≤ queue'.length
  pub stays : (i : ℕ) → 0 < get_or queue.rows i 0 → 0 < get_or queue'.rows i 0
  pub kept : (a : ℕ) → a < from → get_or queue'.list a 0 ≡ get_or queue.list a 0

module _ {S places : ℕ} {img : Image} {queue : Queue} {u from : ℕ} (q : Levels S places img queue u from) where
  pub taken_none : Taken S places img queue u from queue
  taken_none = record { levels = q; longer = omega arith; stays = λ i l. l; kept = λ a l. refl }

  pub listed_in : {b j : ℕ} → b < queue.length → j ≡ get_or queue.list b 0 → j < places
  listed_in {b} l e = rw e (q.inside b l)

  -- no row behind u
  pub levels_last : (a : ℕ) → a < queue.length → get_or queue.rows (get_or queue.list a 0) 0 ≤ suc u
  levels_last a l = ⊎_elim (λ k. omega (arith, q.old a k)) (λ k. omega (arith, q.new a k l)) (lt_or_ge a from)

  pub met_last : (j : ℕ) → 0 < get_or queue.rows j 0 → get_or queue.rows j 0 ≤ suc u
  met_last j l = let w = q.listed j l in subst (λ (v : ℕ). get_or queue.rows v 0 ≤ suc u) w.2 (levels_last w.0 w.1)

  -- a place that row u names and that is not met
  module _ (before : u ≤ from) (j : ℕ) (inside : j < places) (row : Row S img queue u j) (new : get_or queue.rows j 0 ≡ 0) (queue' : Queue)
      (put : queue'.rows ≡ set queue.rows j (u + 1)) (ins : Inserted queue.list from queue.length j queue'.list) (more : queue'.length ≡ queue.length + 1) where
    mark : get_or queue'.rows j 0 ≡ u + 1
    mark = ap (λ (r : List ℕ). get_or r j 0) put ∙ get_or-set_same queue.rows j (u + 1) 0 (omega (arith, queue.tables.wide, q.few))

    other : (i : ℕ) → i ≢ j → get_or queue'.rows i 0 ≡ get_or queue.rows i 0
    other i ne = ap (λ (r : List ℕ). get_or r i 0) put ∙ get_or-set_other queue.rows j i (u + 1) 0 ne

    -- what is met is another
    apart : (i : ℕ) → 0 < get_or queue.rows i 0 → i ≢ j
    apart i l e = omega (arith, ap (λ (v : ℕ). get_or queue.rows v 0) e)

    met_same : (i : ℕ) → 0 < get_or queue.rows i 0 → get_or queue'.rows i 0 ≡ get_or queue.rows i 0
    met_same i l = other i (apart i l)

    -- where the others stand now: as before, or one up
    record Stood (a : ℕ) : Type 0 where
      index : ℕ
      within : index < queue.length
      moved : ((a < ins.at) × (index ≡ a)) ⊎ ((ins.at < a) × (suc index ≡ a))
      place : get_or queue'.list a 0 ≡ get_or queue.list index 0
      mark_is : get_or queue'.rows (get_or queue'.list a 0) 0 ≡ get_or queue.rows (get_or queue.list index 0) 0

    stood : (a : ℕ) → a < queue'.length → a ≢ ins.at → Stood a
    stood a l ne =
        ⊎_elim (λ (k : a < ins.at). go a (omega (arith, ins.within)) (inl (k, refl)) (ins.before a k))
        (λ (k : ins.at ≤ a).
        let s : suc (a - 1) ≡ a = omega arith in
        go (a - 1) (omega arith) (inr (omega arith, s)) (ap (λ (v : ℕ). get_or queue'.list v 0) (sym s) ∙ ins.behind (a - 1) (omega arith) (omega arith)))
        (lt_or_ge a ins.at)
      where
        go : (b : ℕ) → b < queue.length → ((a < ins.at) × (b ≡ a)) ⊎ ((ins.at < a) × (suc b ≡ a)) → get_or queue'.list a 0 ≡ get_or queue.list b 0 → Stood a
        go b i m e = record { index = b; within = i; moved = m; place = e; mark_is = rw e (met_same (get_or queue.list b 0) (q.met b i)) }

    stood_below : {a : ℕ} (w : Stood a) → a < ins.at → w.index ≡ a
    stood_below w l = ⊎_elim (λ m. m.1) (λ m. absurd (omega (arith, m.0))) w.moved

    stood_above : {a : ℕ} (w : Stood a) → ins.at < a → suc w.index ≡ a
    stood_above w l = ⊎_elim (λ m. absurd (omega (arith, m.0))) (λ m. m.1) w.moved

    stood_near : {a : ℕ} (w : Stood a) → w.index ≤ a
    stood_near w = ⊎_elim (λ m. omega (arith, m.1)) (λ m. omega (arith, m.1)) w.moved

    stood_from : {a : ℕ} (w : Stood a) → from ≤ a → from ≤ w.index
    stood_from w l = ⊎_elim (λ m. omega (arith, m.1)) (λ m. omega (arith, m.0, m.1, ins.above)) w.moved

    stood_order : {a c : ℕ} (x : Stood a) (w : Stood c) → a < c → x.index < w.index
    stood_order x w l =
        ⊎_elim (λ g. ⊎_elim (λ h. omega (arith, g.1, h.1)) (λ h. omega (arith, g.0, g.1, h.0, h.1)) w.moved)
        (λ g. ⊎_elim (λ h. absurd (omega (arith, g.0, h.0))) (λ h. omega (arith, g.1, h.1)) w.moved) x.moved

    -- what holds of the new one and of the others, where they stand, holds of all
    all : (Q : ℕ → Type 0) → Q ins.at → ((a : ℕ) → a < queue'.length → Stood a → Q a) → (a : ℕ) → a < queue'.length → Q a
    all Q here others a l = ⊎_elim (λ e. subst Q (sym e) here) (λ ne. others a l (stood a l ne)) (eq_or_ne a ins.at)

    mark_here : get_or queue'.rows (get_or queue'.list ins.at 0) 0 ≡ u + 1
    mark_here = rw ins.here mark

    kept_before : (a : ℕ) → a < from → get_or queue'.list a 0 ≡ get_or queue.list a 0
    kept_before a l = ins.before a (omega (arith, ins.above))

    row_to : (v i : ℕ) → v ≤ u → Row S img queue v i → Row S img queue' v i
    row_to = row_same S img queue queue' u (λ a l. kept_before a (omega arith))

    row_back : (v i : ℕ) → v ≤ u → Row S img queue' v i → Row S img queue v i
    row_back = row_same S img queue' queue u (λ a l. sym (kept_before a (omega arith)))

    -- a place of an earlier row, or lower in this one, comes before it
    lower : (a : ℕ) → a < ins.at → key queue (get_or queue.list a 0) < (u + 1) * most_places + j
    lower a l =
        let i : a < queue.length = omega (arith, ins.within) in
        let p : get_or queue.list a 0 < most_places = omega (arith, q.inside a i, q.few) in
        ⊎_elim (λ (k : a < from). omega (arith, q.old a k))
        (λ (k : from ≤ a).
        let b : ℕ = ins.at - 1 in
        let s : suc b ≡ ins.at = omega arith in
        let m : b < queue.length = omega (arith, ins.within) in
        let c : get_or queue.list b 0 < j = ins.low b (omega arith) s in
        let e = q.new a k i in
        let d = q.new b (omega arith) m in
        ⊎_elim (λ (z : a ≡ b). let y : get_or queue.list a 0 ≡ get_or queue.list b 0 = ap (λ (v : ℕ). get_or queue.list v 0) z in omega arith) (λ (z : a < b). omega (arith, q.rise a b z m))
        (eq-or-lt_of_le (omega arith)))
        (lt_or_ge a from)

    -- and one that is higher in this row behind it
    higher : (b : ℕ) → ins.at ≤ b → b < queue.length → (u + 1) * most_places + j < key queue (get_or queue.list b 0)
    higher b k l =
        let e = q.new b (omega (arith, ins.above)) l in
        let ne : get_or queue.list b 0 ≢ j = apart (get_or queue.list b 0) (q.met b l) in
        ⊎_elim (λ (z : j ≡ get_or queue.list b 0). absurd (ne (sym z))) (λ (z : j < get_or queue.list b 0). omega arith) (eq-or-lt_of_le (ins.high b k l))

    key_is : {a : ℕ} (w : Stood a) → key queue' (get_or queue'.list a 0) ≡ key queue (get_or queue.list w.index 0)
    key_is w = omega (arith, w.place, w.mark_is)

    key_here : key queue' (get_or queue'.list ins.at 0) ≡ (u + 1) * most_places + j
    key_here = omega (arith, ins.here, mark_here)

    rise_more : (a b : ℕ) → a < b → b < queue'.length → key queue' (get_or queue'.list a 0) < key queue' (get_or queue'.list b 0)
    rise_more a b l m =
        all (λ c. a < c → key queue' (get_or queue'.list a 0) < key queue' (get_or queue'.list c 0))
        (λ k. let w = stood a (omega arith) (λ z. omega arith) in omega (arith, key_is w, key_here, ap (λ (v : ℕ). key queue (get_or queue.list v 0)) (stood_below w k), lower a k))
        (λ c i w k.
        ⊎_elim
        (λ (e : a ≡ ins.at).
        let g : ins.at < c = omega arith in
        let d = ap (λ (v : ℕ). key queue' (get_or queue'.list v 0)) e in
        omega (arith, key_is w, key_here, d, higher w.index (omega (arith, stood_above w g)) w.within))
        (λ ne. let x = stood a (omega arith) ne in omega (arith, key_is x, key_is w, q.rise x.index w.index (stood_order x w k) w.within)) (eq_or_ne a ins.at))
        b m l

    levels_more : Levels S places img queue' u from
    levels_more =
        record {
          few = q.few;
          upto = omega (arith, q.upto);
          listed =
              λ i l.
              ⊎_elim (λ e. (ins.at, omega (arith, ins.within), ins.here ∙ sym e))
              (λ ne.
              let w = q.listed i (omega (arith, other i ne)) in
              ⊎_elim (λ (k : w.0 < ins.at). (w.0, omega (arith, w.1), ins.before w.0 k ∙ w.2))
              (λ (k : ins.at ≤ w.0). (suc w.0, omega (arith, w.1), ins.behind w.0 k w.1 ∙ w.2)) (lt_or_ge w.0 ins.at))
              (eq_or_ne i j);
          met = all (λ a. 0 < get_or queue'.rows (get_or queue'.list a 0) 0) (omega (arith, mark_here)) (λ a l w. omega (arith, w.mark_is, q.met w.index w.within));
          inside = all (λ a. get_or queue'.list a 0 < places) (omega (arith, ins.here)) (λ a l w. omega (arith, w.place, q.inside w.index w.within));
          earlier =
              all (λ a. get_or queue'.rows (get_or queue'.list a 0) 0 ≤ a + 1) (omega (arith, mark_here, ins.above))
              (λ a l w. omega (arith, w.mark_is, q.earlier w.index w.within, stood_near w));
          held =
              λ a v l e.
              all (λ c. (x : ℕ) → get_or queue'.rows (get_or queue'.list c 0) 0 ≡ suc x → Row S img queue' x (get_or queue'.list c 0))
              (λ x d.
              let z : u ≡ x = omega (arith, mark_here) in
              subst (λ (y : ℕ). Row S img queue' y (get_or queue'.list ins.at 0)) z (subst (Row S img queue' u) (sym ins.here) (row_to u j (omega arith) row)))
              (λ c k w x d.
              let g = q.held w.index x w.within (sym w.mark_is ∙ d) in
              subst (Row S img queue' x) (sym w.place) (row_to x (get_or queue.list w.index 0) (omega (arith, w.mark_is, levels_last w.index w.within)) g))
              a l v e;
          rise = rise_more;
          old = λ a l. let w = stood a (omega (arith, q.upto)) (λ z. omega (arith, ins.above)) in omega (arith, w.mark_is, ap (λ (v : ℕ). get_or queue.rows (get_or queue.list v 0) 0) (stood_below w (omega (arith, ins.above))), q.old a l);
          new =
              λ a k l.
              all (λ c. from ≤ c → get_or queue'.rows (get_or queue'.list c 0) 0 ≡ suc u) (λ g. omega (arith, mark_here))
              (λ c i w g. w.mark_is ∙ q.new w.index (stood_from w g) w.within) a l k;
          whole =
              λ v i l r.
              let w = q.whole v i l (row_back v i (omega arith) r) in
              let e = met_same i w.0 in
              (omega (arith, w.0), omega (arith, w.1));
        }

  -- a place that row u names
  pub enter_taken : u ≤ from → (j : ℕ) → j < places → Row S img queue u j → {queue' : Queue} → Entered j u from queue queue'
      → Taken S places img queue u from queue' × (0 < get_or queue'.rows j 0)
  enter_taken before j l r (again m e) = rw e (taken_none, m)
  enter_taken before j l r {queue'} (anew z put ins more) = (
    record {
      levels = levels_more before j l r z queue' put ins more;
      longer = omega arith;
      stays = λ i m. omega (arith, met_same before j l r z queue' put ins more i m);
      kept = kept_before before j l r z queue' put ins more;
    },
    omega (arith, mark before j l r z queue' put ins more),
  )

-- the words of row u: its keys, as many as it has
pub record Keyed (S : ℕ) (img : Image) (queue : Queue) (u : ℕ) (at : ℕ → Key) (count : ℕ) : Type 0 where
  pub names : (k j : ℕ) → k < count → Names S img (at k) j → Row S img queue u j
  pub only : (j : ℕ) → Row S img queue u j → (k : ℕ) × (k < count) × Names S img (at k) j

pub keyed_anchors : (S : ℕ) (img : Image) (queue : Queue) → Keyed S img queue 0 (λ a. anchor a) anchors
unfolding Row
keyed_anchors S img queue = record { names = λ k j l m. (k, l, m); only = λ j r. r }

pub keyed_fields : (S : ℕ) (img : Image) (queue : Queue) (b j : ℕ) → j ≡ get_or queue.list b 0 → Keyed S img queue (b + 1) (λ k. field j k) 4
unfolding Row
keyed_fields S img queue b j e =
    subst (λ (v : ℕ). Keyed S img queue v (λ k. field j k) 4) (sym (add-one b))
    (rw e (record { names = λ k i l m. (k, l, m); only = λ i r. r }))

-- a row, word by word: what the first i of its words name is met
pub record Part (S places : ℕ) (img : Image) (at : ℕ → Key) (count u from : ℕ) (queue : Queue) (i : ℕ) : Type 0 where
  pub levels : Levels S places img queue u from
  pub keyed : Keyed S img queue u at count
  pub words : (k j : ℕ) → k < i → Names S img (at k) j → 0 < get_or queue.rows j 0

module _ {S places : ℕ} {img : Image} {at : ℕ → Key} {count u from : ℕ} where
  pub part_first : {queue : Queue} → Levels S places img queue u from → Keyed S img queue u at count → Part S places img at count u from queue 0
  part_first q k = record { levels = q; keyed = k; words = λ i j l. absurd (omega arith) }

  module _ {queue : Queue} {i : ℕ} (p : Part S places img at count u from queue i) where
    part_step : {queue' : Queue} → u ≤ from → Taken S places img queue u from queue' → ((j : ℕ) → Names S img (at i) j → 0 < get_or queue'.rows j 0)
        → Part S places img at count u from queue' (i + 1)
    part_step {queue'} before t here =
        record {
          levels = t.levels;
          keyed =
              record {
                names = λ k j l m. row_same S img queue queue' u (λ a h. t.kept a (omega arith)) u j (omega arith) (p.keyed.names k j l m);
                only = λ j r. p.keyed.only j (row_same S img queue' queue u (λ a h. sym (t.kept a (omega arith))) u j (omega arith) r);
              };
          words =
              λ k j l m.
              ⊎_elim (λ e. here j (subst (λ (v : ℕ). Names S img (at v) j) e m)) (λ ne. t.stays j (p.words k j (omega arith) m)) (eq_or_ne k i);
        }

    pub part_more : u ≤ from → i < count → (w : ℕ) → w ≡ get img (at i) → (w ≢ 0 → place_of S w < places) → {queue' : Queue} → Noted S w u from queue queue'
        → Part S places img at count u from queue' (i + 1)
    part_more before l w e inside (nothing z a) = rw a (part_step before (taken_none p.levels) (λ j m. absurd (m.some (sym e ∙ z))))
    part_more before l w e inside {queue'} (named ne x) =
        let m : Names S img (at i) (place_of S w) = record { some = λ z. ne (e ∙ z); target = ap (place_of S) (sym e) } in
        let t = enter_taken p.levels before (place_of S w) (inside ne) (p.keyed.names i (place_of S w) l m) x in
        part_step before t.0 (λ j k. subst (λ (v : ℕ). 0 < get_or queue'.rows v 0) (ap (place_of S) e ∙ k.target) t.1)

    -- all its words: the row is whole
    pub part_end : count ≤ i → (next : ℕ) → next ≡ suc u → Levels S places img queue next queue.length
    part_end l next e =
        let q = p.levels in
        record {
          few = q.few;
          upto = omega arith;
          listed = q.listed;
          met = q.met;
          inside = q.inside;
          earlier = q.earlier;
          held = q.held;
          rise = q.rise;
          old = λ a k. omega (arith, levels_last q a k);
          new = λ a k m. absurd (omega arith);
          whole =
              λ v j k r.
              ⊎_elim
              (λ (z : v ≡ u).
              let w = p.keyed.only j (subst (λ (x : ℕ). Row S img queue x j) z r) in
              let m = p.words w.0 j (omega (arith, w.1)) w.2 in
              (m, omega (arith, met_last q j m)))
              (λ (z : v < u). q.whole v j z r) (eq-or-lt_of_le (omega arith));
        }

-- what a word of an image names is one of its places
pub word_in : {P S : ℕ} {img : Image} → Within P S img → (κ : Key) → Holder (P * S) κ → (w : ℕ) → w ≡ get img κ → w ≢ 0 → place_of S w < P * S
word_in {S = S} x κ h w e ne = rw e (x.refs κ h (λ z. ne (e ∙ z)))

-- what `note` asks for: a word that names one of the most places, and where the row begins
pub part_word : {P S : ℕ} {img : Image} {at : ℕ → Key} {count u from : ℕ} {queue : Queue} {i : ℕ} → Within P S img → Part S (P * S) img at count u from queue i
    → Holder (P * S) (at i) → (w : ℕ) → w ≡ get img (at i) → w ≢ 0 → place_of S w < most_places
part_word {at = at} {i = i} x p h w e ne = omega (arith, word_in x (at i) h w e ne, p.levels.few)

pub part_room : {S places : ℕ} {img : Image} {at : ℕ → Key} {count u from : ℕ} {queue : Queue} {i : ℕ} → Part S places img at count u from queue i → u ≤ from
    → (u ≤ most_places) × (from ≤ queue.length)
part_room {queue = queue} p before = (omega (arith, p.levels.upto, tables_few queue.tables), p.levels.upto)
