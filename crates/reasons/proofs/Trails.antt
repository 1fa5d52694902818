-- The way up from a place that is met is the foremost chain to it, also where the walk has stopped early.
-- Assumes nothing.
use Prim.Native.Nat.{ℕ, zero, suc, ◌-◌, ◌≤◌, ◌<◌}
use mathlib.Core.Path.{◌≡◌, refl, sym, ap, ◌∙◌, subst}
use mathlib.Core.Logic.{◌≢◌, ⊎_elim}
use mathlib.Core.List.{List, [], ◌∷◌, ◌++◌, append-nil}
use native.Mathlib.Nat.{eq-or-lt_of_le}
use native.Mathlib.Omega.{arith}
use lib.ListN.{length, get_or, length-append}
use lib.Seq.{append_snoc}
use Rattle.loops.proofs.Tests.{lt_or_ge}
use Rattle.model.specs.Image.{Image, Key, anchor, anchors, get, place_of, Holder}
use Rattle.model.specs.Chains.{Names, Along}
use Rattle.holding.specs.Holding.{Chain, Follows, Holds, Foremost, last, on}
use Rattle.holding.specs.Finding.{field_to, anchor_to, fields_along, distance, chain_of}
use Rattle.reasons.specs.declared.queue.Queue.{Queue}
use Rattle.reasons.specs.Queue.{Row, key, Levels, Trail, top, then, IsBefore, trail_chain}
use Rattle.holding.proofs.Order.{follows_length, foremost_once}
use Rattle.holding.proofs.Found.{field_in, anchor_in, anchor_is, anchor_low, fields_along_lem, fields_low, follows_then, distance_in, found_foremost}
use Rattle.reasons.proofs.Sooner.{Sooner, NotLater, now, first, equal, sooner, sooner_not_later, sooner_then, sooner_last, sooner_more, sooner_one, not_later_length, not_later_upto, not_later_then}

module _ {queue : Queue} where
  pub trail_met : {j h : ℕ} {ns : List ℕ} → Trail queue j h ns → 0 < get_or queue.rows j 0
  trail_met (top z e) = omega arith
  trail_met (then z p e) = omega arith

  -- a place has one way up
  pub trail_once : {j h h' : ℕ} {ns ns' : List ℕ} → Trail queue j h ns → Trail queue j h' ns' → (h ≡ h') × (ns ≡ ns')
  trail_once (top z e) (top w d) = (e ∙ sym d, refl)
  trail_once (top z e) (then w r d) = absurd (omega arith)
  trail_once (then z p e) (top w d) = absurd (omega arith)
  trail_once {j} {h' = h'} (then {b = b} z p e) (then {b = c} {ns = ms} w r d) =
      let s : b ≡ c = omega arith in
      let o = trail_once p (subst (λ (v : ℕ). Trail queue (get_or queue.list v 0) h' ms) (sym s) r) in
      (o.0, e ∙ ap (λ (v : List ℕ). v ++ (j ∷ [])) o.1 ∙ sym d)

module _ {S places : ℕ} {img : Image} {queue : Queue} {u from : ℕ} (q : Levels S places img queue u from) where
  -- what is met is in the list: it was met in one of the first rows, it is a place, and its row names it
  met_upto : (j : ℕ) → 0 < get_or queue.rows j 0 → get_or queue.rows j 0 ≤ queue.length
  met_upto j l = let w = q.listed j l in omega (arith, q.earlier w.0 w.1, w.1, ap (λ (v : ℕ). get_or queue.rows v 0) w.2)

  met_in : (j : ℕ) → 0 < get_or queue.rows j 0 → j < places
  met_in j l = let w = q.listed j l in subst (λ (v : ℕ). v < places) w.2 (q.inside w.0 w.1)

  met_row : (j v : ℕ) → get_or queue.rows j 0 ≡ suc v → Row S img queue v j
  met_row j v e =
      let w = q.listed j (omega arith) in
      subst (λ (i : ℕ). Row S img queue v i) w.2 (q.held w.0 v w.1 (ap (λ (i : ℕ). get_or queue.rows i 0) w.2 ∙ e))

  -- the place before on the way up is in the list
  before_in : (j b : ℕ) → get_or queue.rows j 0 ≡ suc (suc b) → b < queue.length
  before_in j b e = omega (arith, met_upto j (omega arith))

  -- one of its fields names the next
  pub before_named : {j h : ℕ} → IsBefore queue j h → field_to S img h j < 4
  unfolding Row
  before_named {j} {h} b =
      let v : ℕ = get_or queue.rows j 0 - 2 in
      let r = met_row j (suc v) (omega (arith, b.later)) in
      rw b.place (field_in S img (get_or queue.list v 0) j r.0 r.1 r.2)

  trail_below : (f j v : ℕ) → get_or queue.rows j 0 ≡ v → 0 < v → v ≤ f → (h : ℕ) × (ns : List ℕ) × Trail queue j h ns
  trail_below zero j v e l m = absurd (omega arith)
  trail_below (suc f) j zero e l m = absurd (omega arith)
  trail_below (suc f) j (suc zero) e l m = (j, [], top e refl)
  trail_below (suc f) j (suc (suc b)) e l m =
      let k : b < queue.length = before_in j b e in
      let r = trail_below f (get_or queue.list b 0) (get_or queue.rows (get_or queue.list b 0) 0) refl (q.met b k) (omega (arith, q.earlier b k)) in
      (r.0, r.1 ++ (j ∷ []), then e r.2 refl)

  -- every place that is met has a way up
  pub trail_some : (j : ℕ) → 0 < get_or queue.rows j 0 → (h : ℕ) × (ns : List ℕ) × Trail queue j h ns
  trail_some j l = trail_below (get_or queue.rows j 0) j (get_or queue.rows j 0) refl l (omega arith)

  trail_deep : {j h : ℕ} {ns : List ℕ} → Trail queue j h ns → length ns < get_or queue.rows j 0
  trail_deep (top z e) = omega arith
  trail_deep {j} (then {b = b} {ns = ns} z p e) = omega (arith, trail_deep p, q.earlier b (before_in j b z), ap length e, length-append ns (j ∷ []))

  pub trail_short : {j h : ℕ} {ns : List ℕ} → Trail queue j h ns → length ns < queue.length
  trail_short {j} p = omega (arith, trail_deep p, met_upto j (trail_met p))

  pub trail_head : {j h : ℕ} {ns : List ℕ} → Trail queue j h ns → h < places
  trail_head {j} (top z e) = omega (arith, met_in j (omega arith))
  trail_head (then z p e) = trail_head p

  -- the way up is a chain
  pub trail_follows : {j h : ℕ} {ns : List ℕ} → Trail queue j h ns → (anchor_to S img h < anchors) × Follows S img j h ns (fields_along S img h ns)
  unfolding Row fields_along
  trail_follows {j} {h} (top z e) =
      let w = met_row j 0 z in
      (anchor_in S img h w.0 w.1 (subst (λ (v : ℕ). Names S img (anchor w.0) v) (sym e) w.2), subst (λ (v : ℕ). Follows S img v h [] []) e last)
  trail_follows {j} (then {b = b} z p e) =
      let r = trail_follows p in
      let w = met_row j (suc b) z in
      (r.0, rw e (fields_along_lem S img (follows_then S img r.1 w.1 w.2)))

  -- and it is sooner than those of places met later
  pub trail_rises : {i j h h' : ℕ} {ns ns' : List ℕ} → key queue i < key queue j → Trail queue i h ns → Trail queue j h' ns' → Sooner (h ∷ ns) (h' ∷ ns')
  trail_rises {h = h} {h'} l (top z e) (top w d) = let k : h < h' = omega arith in first refl (now k)
  trail_rises {j = j} {h} {h'} l (top z e) (then {ns = ns} w r d) = rw d (sooner_one h (h' ∷ ns) j [] (omega arith))
  trail_rises {j = j} l (then z p e) (top w d) = absurd (omega (arith, met_in j (omega arith), q.few))
  trail_rises {i} {j} {h} {h'} l (then {b = b} {ns = ns} z p e) (then {b = c} {ns = ms} w r d) =
      rw (e, d)
      (⊎_elim
      (λ (s : b ≡ c).
      let o = trail_once p (subst (λ (v : ℕ). Trail queue (get_or queue.list v 0) h' ms) (sym s) r) in
      rw (o.0, o.1) (sooner_last (h' ∷ ms) (omega arith)))
      (λ (s : b < c). sooner_then i j (trail_rises (q.rise b c s (before_in j c w)) p r))
      (eq-or-lt_of_le (omega (arith, met_in j (omega arith), q.few))))

-- j is met, and its way up is not later than the names m
record Arrives (queue : Queue) (j : ℕ) (m : List ℕ) : Type 0 where
  head : ℕ
  names : List ℕ
  trail : Trail queue j head names
  not_later : NotLater (head ∷ names) m

module _ {queue : Queue} {j : ℕ} {m : List ℕ} (w : Arrives queue j m) where
  arrives_trail : {h : ℕ} {ns : List ℕ} → Trail queue j h ns → NotLater (h ∷ ns) m
  arrives_trail p = let o = trail_once w.trail p in rw (← o.0, ← o.1) w.not_later

  arrives_length : 0 < length m
  arrives_length = omega (arith, not_later_length w.not_later)

-- all that is met was met in rows that are whole
module _ {S places : ℕ} {img : Image} {queue : Queue} {u : ℕ} (q : Levels S places img queue u queue.length) where
  met_whole : (j : ℕ) → 0 < get_or queue.rows j 0 → get_or queue.rows j 0 ≤ u
  met_whole j l = let w = q.listed j l in omega (arith, q.old w.0 w.1, ap (λ (v : ℕ). get_or queue.rows v 0) w.2)

  -- the way up of a place earlier in the list is sooner
  before_sooner : (b c : ℕ) {h : ℕ} {ns m : List ℕ} → b < c → c < queue.length → Trail queue (get_or queue.list b 0) h ns → Arrives queue (get_or queue.list c 0) m → Sooner (h ∷ ns) m
  before_sooner b c l k p w = sooner_not_later (trail_rises q (q.rise b c l k) p w.trail) w.not_later

  before_arrives : (b c : ℕ) {m : List ℕ} → b ≤ c → c < queue.length → Arrives queue (get_or queue.list c 0) m → Arrives queue (get_or queue.list b 0) m
  before_arrives b c {m} l k w =
      ⊎_elim (λ (e : b ≡ c). subst (λ (v : ℕ). Arrives queue (get_or queue.list v 0) m) (sym e) w)
      (λ (s : b < c).
      let r = trail_some q (get_or queue.list b 0) (q.met b (omega arith)) in
      record { head = r.0; names = r.1; trail = r.2; not_later = sooner (before_sooner b c s k r.2 w) })
      (eq-or-lt_of_le l)

  -- what is met no later than from the b-th place of the list
  met_arrives : (v b i : ℕ) {m : List ℕ} → get_or queue.rows i 0 ≡ v → 0 < v → v ≤ suc (suc b) → b < queue.length → Arrives queue (get_or queue.list b 0) m → Arrives queue i (m ++ (i ∷ []))
  met_arrives zero b i e l k s w = absurd (omega arith)
  met_arrives (suc zero) b i {m} e l k s w = record { head = i; names = []; trail = top e refl; not_later = sooner (sooner_one i m i [] (arrives_length w)) }
  met_arrives (suc (suc c)) b i e l k s w =
      let r = before_arrives c b (omega arith) s w in
      record { head = r.head; names = r.names ++ (i ∷ []); trail = then e r.trail refl; not_later = not_later_then i r.not_later }

  -- one field further, in a row that is whole
  further : (b i : ℕ) {m : List ℕ} → suc b < u → b < queue.length → Arrives queue (get_or queue.list b 0) m → Along S img (get_or queue.list b 0) i → Arrives queue i (m ++ (i ∷ []))
  unfolding Row
  further b i l k w a = let d = q.whole (suc b) i l a in met_arrives (get_or queue.rows i 0) b i refl d.0 d.1 k w

  -- along a chain to t, if t is met too where the chain goes on behind the rows that are whole
  module _ (t : ℕ) (behind : (b i : ℕ) (m x : List ℕ) → u ≤ suc b → b < queue.length → Arrives queue (get_or queue.list b 0) m → Arrives queue t (m ++ (i ∷ x))) where
    follows_arrives : {j : ℕ} {ns fs : List ℕ} → Follows S img t j ns fs → (m : List ℕ) → Arrives queue j m → Arrives queue t (m ++ ns)
    follows_arrives last m w = rw (append-nil m) w
    follows_arrives (on {j = j} {i} {k} {ns} a b c) m w =
        let d = q.listed j (trail_met w.trail) in
        let r : Arrives queue (get_or queue.list d.0 0) m = subst (λ (v : ℕ). Arrives queue v m) (sym d.2) w in
        ⊎_elim
        (λ (l : suc d.0 < u).
        subst (Arrives queue t) (append_snoc m i ns)
        (follows_arrives c (m ++ (i ∷ [])) (further d.0 i l d.1 r (subst (λ (v : ℕ). Along S img v i) (sym d.2) (k, a, b)))))
        (λ (l : u ≤ suc d.0). behind d.0 i m ns l d.1 r)
        (lt_or_ge (suc d.0) u)

    holds_arrives : 0 < u → (c : Chain) → Holds S img t c → Arrives queue t (c.head ∷ c.names)
    unfolding Row
    holds_arrives l c h =
        let d = q.whole 0 c.head l (c.start, h.anchored, h.named) in
        follows_arrives h.follows (c.head ∷ [])
        (record { head = c.head; names = []; trail = top (omega (arith, d.0, d.1)) refl; not_later = equal refl })

  -- behind the rows that are whole every chain is later than a way up
  behind_sooner : {t h : ℕ} {ns : List ℕ} → Trail queue t h ns → (b i : ℕ) (m x : List ℕ) → u ≤ suc b → b < queue.length → Arrives queue (get_or queue.list b 0) m
      → Sooner (h ∷ ns) (m ++ (i ∷ x))
  behind_sooner {h = h} (top z e) b i m x l k w = sooner_one h m i x (arrives_length w)
  behind_sooner {t} {h} (then {b = c} {ns = ns} z p e) b i m x l k w =
      let s : c < b = omega (arith, met_whole t (omega arith)) in
      rw (e, ← append_snoc m i x) (sooner_more x (sooner_then t i (before_sooner c b s k p w)))

  module _ (some : 0 < u) where
    trail_not_later : {t h : ℕ} {ns : List ℕ} → Trail queue t h ns → (c : Chain) → Holds S img t c → NotLater (h ∷ ns) (c.head ∷ c.names)
    trail_not_later {t} {h} {ns} p c k =
        arrives_trail (holds_arrives t (λ b i m x l s r. record { head = h; names = ns; trail = p; not_later = sooner (behind_sooner p b i m x l s r) }) some c k) p

    -- THE WAY UP IS THE FOREMOST CHAIN
    pub trail_foremost : {j h : ℕ} {ns : List ℕ} → Trail queue j h ns → Foremost S img j (trail_chain S img h ns)
    trail_foremost {h = h} {ns} p =
        let w = trail_follows q p in
        let size : length ns ≡ length (fields_along S img h ns) = follows_length w.1 in
        record {
          holds = record { anchored = w.0; named = anchor_is S img h w.0; follows = w.1 };
          shortest = λ c k. omega (arith, not_later_length (trail_not_later p c k), follows_length k.follows);
          names_first = λ c k e. not_later_upto (trail_not_later p c k) (omega (arith, follows_length k.follows));
          fields_first = λ c k e d. fields_low S img k.follows e d;
          start_first = λ c k e d f. anchor_low S img h c.start (subst (λ (v : ℕ). Names S img (anchor c.start) v) e k.named);
        }

    -- every reference leads to one of the places
    module _ (refs : (κ : Key) → Holder places κ → get img κ ≢ 0 → place_of S (get img κ) < places) where
      pub trail_near : {j h : ℕ} {ns : List ℕ} → Trail queue j h ns → distance places S img j < places
      trail_near {j} {h} {ns} p = distance_in places S img j refs (trail_chain S img h ns) (trail_foremost p).holds

      -- and so it is the chain that is asked for
      pub trail_is : {j h : ℕ} {ns : List ℕ} → Trail queue j h ns → trail_chain S img h ns ≡ chain_of places S img j (distance places S img j)
      trail_is {j} p = foremost_once _ _ (trail_foremost p) (found_foremost places S img j refs (trail_near p))

      -- where all rows are whole, an object that is not met has no chain
      pub unmet : (t : ℕ) → queue.length < u → get_or queue.rows t 0 ≡ 0 → places ≤ distance places S img t
      unmet t l e =
          ⊎_elim
          (λ k.
          let w = holds_arrives t (λ b i m x s d r. absurd (omega arith)) some _ (found_foremost places S img t refs k).holds in
          absurd (omega (arith, trail_met w.trail)))
          (λ k. k) (lt_or_ge (distance places S img t) places)
