-- What is found is the foremost chain, and nothing is found exactly where there is no chain.
-- Assumes nothing.
use Prim.Native.Nat.{ℕ, zero, suc, ◌≤◌, ◌<◌}
use mathlib.Core.Path.{◌≡◌, refl, sym, ap, ◌∙◌, subst}
use mathlib.Core.Bool.{Bool, true}
use mathlib.Core.Logic.{◌≢◌, ⊎_elim}
use mathlib.Core.List.{List, [], ◌∷◌, ◌++◌}
use native.Mathlib.Nat.{eq-or-lt_of_le}
use native.Mathlib.Omega.{arith}
use lib.Dec.{ltb}
use lib.ListN.{length}
use borrow.Author.Tests.{ltb-true, lt-ltb, eqb-true, eqb-false, eq-eqb, ne_eqb, not-true}
use Rattle.loops.specs.Loop.{first, both, tally}
use Rattle.loops.proofs.Tests.{both_true, both_so, clash, is_false}
use Rattle.loops.proofs.Loops.{tally_le, tally_some}
use Rattle.loops.proofs.Walks.{first_low, first_in, first_passes, first_below, tally_above}
use Rattle.model.specs.Image.{Image, Key, anchor, field, anchors, get, place_of, Holder, an_anchor, a_field}
use Rattle.model.specs.Spread.{start, step}
use Rattle.model.specs.Chains.{Names, Leads}
use Rattle.holding.specs.Holding.{Chain, Follows, Upto, Holds, Foremost, last, on, ended, less, same}
use Rattle.holding.specs.Finding.{some, is_to, field_to, anchor_to, leads_in, next, names_from, fields_along, head_of, distance, chain_of}
use Rattle.holding.proofs.Order.{follows_length}

module _ (f : ℕ → Bool) where
  some_so : (n k : ℕ) → k < n → f k ≡ true → some n f ≡ true
  unfolding some
  some_so n k l e = lt-ltb _ _ (first_in f n k l e)

  some_in : (n : ℕ) → some n f ≡ true → first n 0 f < n
  unfolding some
  some_in n e = ltb-true _ _ e

-- the test of a reference, and what it says
module _ (S : ℕ) (img : Image) (κ : Key) (j : ℕ) where
  pub to_is : is_to S img κ j ≡ true → Names S img κ j
  unfolding is_to
  to_is e = let b = both_true _ _ e in record { some = eqb-false _ _ (not-true _ b.0); target = eqb-true _ _ b.1 }

  pub to_so : Names S img κ j → is_to S img κ j ≡ true
  unfolding is_to
  to_so n = rw (ne_eqb (get img κ) 0 n.some, eq-eqb _ _ n.target)

module _ (S : ℕ) (img : Image) where
  -- the lowest field that names i
  pub field_low : (j i k : ℕ) → Names S img (field j k) i → field_to S img j i ≤ k
  unfolding field_to
  field_low j i k m = first_low _ 4 k (to_so S img (field j k) i m)

  pub field_is : (j i : ℕ) → field_to S img j i < 4 → Names S img (field j (field_to S img j i)) i
  unfolding field_to
  field_is j i l = to_is S img _ i (first_passes _ 4 l)

  pub anchor_low : (j a : ℕ) → Names S img (anchor a) j → anchor_to S img j ≤ a
  unfolding anchor_to
  anchor_low j a m = first_low _ anchors a (to_so S img (anchor a) j m)

  pub anchor_is : (j : ℕ) → anchor_to S img j < anchors → Names S img (anchor (anchor_to S img j)) j
  unfolding anchor_to
  anchor_is j l = to_is S img _ j (first_passes _ anchors l)

  pub field_in : (j i k : ℕ) → k < 4 → Names S img (field j k) i → field_to S img j i < 4
  field_in j i k l m = omega (arith, field_low j i k m)

  pub anchor_in : (j a : ℕ) → a < anchors → Names S img (anchor a) j → anchor_to S img j < anchors
  anchor_in j a l m = omega (arith, anchor_low j a m)

  -- the lowest fields along the names of a chain are fields of a chain, and come no later
  pub fields_along_lem : {t j : ℕ} {ns fs : List ℕ} → Follows S img t j ns fs → Follows S img t j ns (fields_along S img j ns)
  unfolding fields_along
  fields_along_lem last = last
  fields_along_lem (on {j = j} {i} {k} a b c) = on (field_in j i k a b) (field_is j i (field_in j i k a b)) (fields_along_lem c)

  fields_upto : {t j : ℕ} {ns fs : List ℕ} → Follows S img t j ns fs → Upto (fields_along S img j ns) fs
  unfolding fields_along
  fields_upto last = ended
  fields_upto (on {j = j} {i} {k} {ns} {fs} a b c) =
      ⊎_elim (λ (z : field_to S img j i ≡ k). subst (λ (v : ℕ). Upto (v ∷ fields_along S img i ns) (k ∷ fs)) (sym z) (same (fields_upto c))) (λ z. less z)
      (eq-or-lt_of_le (field_low j i k b))

  pub fields_low : {t j h : ℕ} {ns ms fs : List ℕ} → Follows S img t j ns fs → j ≡ h → ns ≡ ms → Upto (fields_along S img h ms) fs
  fields_low a e q = rw (← e, ← q) (fields_upto a)

  pub fields_then : {t j : ℕ} {ns fs : List ℕ} → Follows S img t j ns fs → (u : ℕ) → fields_along S img j (ns ++ (u ∷ [])) ≡ fields_along S img j ns ++ (field_to S img t u ∷ [])
  unfolding fields_along
  fields_then last u = refl
  fields_then (on {j = j} {i} a b c) u = ap (λ (r : List ℕ). field_to S img j i ∷ r) (fields_then c u)

  -- a root or a handle leads to an object exactly where a chain holds it
  pub follows_then : {t u j k : ℕ} {ns fs : List ℕ} → Follows S img t j ns fs → k < 4 → Names S img (field t k) u → Follows S img u j (ns ++ (u ∷ [])) (fs ++ (k ∷ []))
  follows_then last l m = on l m last
  follows_then (on a b c) l m = on a b (follows_then c l m)

  pub leads_holds : {t : ℕ} → Leads S img t → (c : Chain) × Holds S img t c
  leads_holds (start {i = j} c) = (record { start = c.0; head = j; names = []; fields = [] }, record { anchored = c.1; named = c.2; follows = last })
  leads_holds (step {j = u} l e) =
      let h = leads_holds l in
      let c = h.0 in (
        record { start = c.start; head = c.head; names = c.names ++ (u ∷ []); fields = c.fields ++ (e.0 ∷ []) },
        record { anchored = h.1.anchored; named = h.1.named; follows = follows_then h.1.follows e.1 e.2 },
      )

  follows_leads : {t j : ℕ} {ns fs : List ℕ} → Follows S img t j ns fs → Leads S img j → Leads S img t
  follows_leads last l = l
  follows_leads (on {k = k} a b c) l = follows_leads c (step l (k, a, b))

  pub holds_leads : {t : ℕ} (c : Chain) → Holds S img t c → Leads S img t
  holds_leads c h = follows_leads h.follows (start (c.start, h.anchored, h.named))

-- every reference leads to one of n places
module _ (n S : ℕ) (img : Image) (t : ℕ) (refs : (κ : Key) → Holder n κ → get img κ ≢ 0 → place_of S (get img κ) < n) where
  named_in : (κ : Key) → Holder n κ → (j : ℕ) → Names S img κ j → j < n
  named_in κ h j m = subst (λ (v : ℕ). v < n) m.target (refs κ h m.some)

  -- what leads on from j: a field of j names i, and i leads to t along d references
  goes_so : (d j i k : ℕ) → k < 4 → Names S img (field j k) i → leads_in n S img t d i ≡ true → both (ltb (field_to S img j i) 4) (leads_in n S img t d i) ≡ true
  goes_so d j i k l m e = both_so _ _ (lt-ltb _ _ (field_in S img j i k l m)) e

  next_low : (d j i k : ℕ) → k < 4 → Names S img (field j k) i → leads_in n S img t d i ≡ true → next n S img t d j ≤ i
  unfolding next
  next_low d j i k l m e = first_low _ n i (goes_so d j i k l m e)

  next_in : (d j : ℕ) → leads_in n S img t (suc d) j ≡ true → next n S img t d j < n
  unfolding next leads_in
  next_in d j e = some_in _ n e

  next_goes : (d j : ℕ) → leads_in n S img t (suc d) j ≡ true → both (ltb (field_to S img j (next n S img t d j)) 4) (leads_in n S img t d (next n S img t d j)) ≡ true
  unfolding next
  next_goes d j e = first_passes _ n (next_in d j e)

  next_field : (d j : ℕ) → leads_in n S img t (suc d) j ≡ true → field_to S img j (next n S img t d j) < 4
  next_field d j e = ltb-true _ _ (both_true _ (leads_in n S img t d (next n S img t d j)) (next_goes d j e)).0

  next_leads : (d j : ℕ) → leads_in n S img t (suc d) j ≡ true → leads_in n S img t d (next n S img t d j) ≡ true
  next_leads d j e = (both_true (ltb (field_to S img j (next n S img t d j)) 4) _ (next_goes d j e)).1

  -- the names from j are those of a chain of d references to t
  from_follows : (d j : ℕ) → leads_in n S img t d j ≡ true → Follows S img t j (names_from n S img t d j) (fields_along S img j (names_from n S img t d j))
  unfolding names_from fields_along leads_in
  from_follows zero j e = subst (λ (v : ℕ). Follows S img t v [] []) (sym (eqb-true j t e)) last
  from_follows (suc d) j e = on (next_field d j e) (field_is S img j _ (next_field d j e)) (from_follows d _ (next_leads d j e))

  from_length : (d j : ℕ) → length (names_from n S img t d j) ≡ d
  unfolding names_from
  from_length zero j = refl
  from_length (suc d) j = ap suc (from_length d _)

  leads_on_lem : (d j i k : ℕ) → i < n → k < 4 → Names S img (field j k) i → leads_in n S img t d i ≡ true → leads_in n S img t (suc d) j ≡ true
  unfolding leads_in
  leads_on_lem d j i k m a b e = some_so _ n i m (goes_so d j i k a b e)

  -- where a chain goes on along d references, j leads to t along d
  follows_in : {j : ℕ} {ns fs : List ℕ} → j < n → Follows S img t j ns fs → leads_in n S img t (length fs) j ≡ true
  unfolding leads_in
  follows_in l last = eq-eqb t t refl
  follows_in l (on {j = j} {i} {k} {fs = fs} a b c) =
      let m : i < n = named_in (field j k) (a_field l a) i b in
      leads_on_lem (length fs) j i k m a b (follows_in m c)

  -- and its names come no earlier
  from_names : (d : ℕ) {j : ℕ} {ns fs : List ℕ} → j < n → Follows S img t j ns fs → length fs ≡ d → Upto (names_from n S img t d j) ns
  unfolding names_from
  from_names zero l a e = ended
  from_names (suc d) l last e = absurd (omega arith)
  from_names (suc d) l (on {j = j} {i} {k} {ns} {fs} a b c) e =
      let m : i < n = named_in (field j k) (a_field l a) i b in
      let q : length fs ≡ d = omega arith in
      let h : leads_in n S img t d i ≡ true = subst (λ (v : ℕ). leads_in n S img t v i ≡ true) q (follows_in m c) in
      ⊎_elim (λ (z : next n S img t d j ≡ i). subst (λ (v : ℕ). Upto (v ∷ names_from n S img t d v) (i ∷ ns)) (sym z) (same (from_names d m c q))) (λ z. less z)
      (eq-or-lt_of_le (next_low d j i k a b h))

  -- the head of a chain
  begins : (c : Chain) → Holds S img t c → both (ltb (anchor_to S img c.head) anchors) (leads_in n S img t (length c.fields) c.head) ≡ true
  begins c h =
      both_so _ _ (lt-ltb _ _ (anchor_in S img c.head c.start h.anchored h.named))
      (follows_in (named_in (anchor c.start) (an_anchor h.anchored) c.head h.named) h.follows)

  head_in : (c : Chain) → Holds S img t c → c.head < n
  head_in c h = named_in (anchor c.start) (an_anchor h.anchored) c.head h.named

  head_found : (d j : ℕ) → j < n → (a : ℕ) → a < anchors → Names S img (anchor a) j → leads_in n S img t d j ≡ true → head_of n S img t d < n
  unfolding head_of
  head_found d j l a i m e = first_in _ n j l (both_so _ _ (lt-ltb _ _ (anchor_in S img j a i m)) e)

  pub head_low : (c : Chain) → Holds S img t c → head_of n S img t (length c.fields) ≤ c.head
  unfolding head_of
  head_low c h = first_low _ n c.head (begins c h)

  module _ (d : ℕ) (l : head_of n S img t d < n) where
    head_begins : both (ltb (anchor_to S img (head_of n S img t d)) anchors) (leads_in n S img t d (head_of n S img t d)) ≡ true
    unfolding head_of
    head_begins = first_passes _ n l

    head_anchor : anchor_to S img (head_of n S img t d) < anchors
    head_anchor = ltb-true _ _ (both_true _ (leads_in n S img t d (head_of n S img t d)) head_begins).0

    head_leads : leads_in n S img t d (head_of n S img t d) ≡ true
    head_leads = (both_true (ltb (anchor_to S img (head_of n S img t d)) anchors) _ head_begins).1

    pub chain_holds : Holds S img t (chain_of n S img t d)
    unfolding chain_of
    chain_holds = record { anchored = head_anchor; named = anchor_is S img _ head_anchor; follows = from_follows d _ head_leads }

    chain_names : (c : Chain) → Holds S img t c → length c.fields ≡ d → Upto (head_of n S img t d ∷ names_from n S img t d (head_of n S img t d)) (c.head ∷ c.names)
    chain_names c h e =
        ⊎_elim
        (λ (z : head_of n S img t d ≡ c.head).
        subst (λ (v : ℕ). Upto (v ∷ names_from n S img t d v) (c.head ∷ c.names)) (sym z) (same (from_names d (head_in c h) h.follows e)))
        (λ z. less z)
        (eq-or-lt_of_le (subst (λ (v : ℕ). head_of n S img t v ≤ c.head) e (head_low c h)))

    -- it has d references
    chain_size : length (fields_along S img (head_of n S img t d) (names_from n S img t d (head_of n S img t d))) ≡ d
    chain_size = sym (follows_length (from_follows d _ head_leads)) ∙ from_length d _

    -- where no chain is shorter, it is the foremost
    pub chain_foremost : ((c : Chain) → Holds S img t c → d ≤ length c.fields) → Foremost S img t (chain_of n S img t d)
    unfolding chain_of
    chain_foremost least =
        record {
          holds = chain_holds;
          shortest = λ c h. subst (λ (v : ℕ). v ≤ length c.fields) (sym chain_size) (least c h);
          names_first = λ c h e. chain_names c h (e ∙ chain_size);
          fields_first = λ c h e q. fields_low S img h.follows e q;
          start_first = λ c h e q w. anchor_low S img _ c.start (subst (λ (v : ℕ). Names S img (anchor c.start) v) e h.named);
        }

  -- j leads to t along at most d references
  Near : ℕ → ℕ → Bool
  Near d j = some (suc d) (λ e. leads_in n S img t e j)

  near_so : (d e j : ℕ) → e ≤ d → leads_in n S img t e j ≡ true → Near d j ≡ true
  unfolding Near
  near_so d e j l h = some_so _ (suc d) e (omega arith) h

  near_is : (d j : ℕ) → Near d j ≡ true → (e : ℕ) × (e ≤ d) × (leads_in n S img t e j ≡ true)
  unfolding Near
  near_is d j h = let l = some_in (λ e. leads_in n S img t e j) (suc d) h in (first (suc d) 0 (λ e. leads_in n S img t e j), omega arith, first_passes _ (suc d) l)

  -- on a least way of d references from j lie d + 1 places
  crowd : (d j : ℕ) → j < n → leads_in n S img t d j ≡ true → ((e : ℕ) → e < d → leads_in n S img t e j ≡ true → ⊥) → d < tally n (Near d)
  crowd zero j l h least = tally_some n (Near 0) j l (near_so 0 0 j (omega arith) h)
  crowd (suc d) j l h least =
      let i : ℕ = next n S img t d j in
      let r : d < tally n (Near d) =
      crowd d i (next_in d j h) (next_leads d j h)
      (λ e k q. least (suc e) (omega arith) (leads_on_lem e j i (field_to S img j i) (next_in d j h) (next_field d j h) (field_is S img j i (next_field d j h)) q)) in
      let u : tally n (Near d) < tally n (Near (suc d)) =
      tally_above (Near d) (Near (suc d)) n j l
      (is_false (Near d j) (λ q. let w = near_is d j q in least w.0 (omega arith) w.2))
      (near_so (suc d) (suc d) j (omega arith) h)
      (λ k m q. let w = near_is d k q in near_so (suc d) w.0 k (omega arith) w.2) in
      omega arith

  -- a place that leads to t does so along fewer than n references
  close : (d j : ℕ) → j < n → leads_in n S img t d j ≡ true → (e : ℕ) × (e < n) × (leads_in n S img t e j ≡ true)
  close d j l h =
      let f : ℕ → Bool = λ e. leads_in n S img t e j in
      let k : ℕ = first (suc d) 0 f in
      let m : k < suc d = first_in f (suc d) d (omega arith) h in
      let p : f k ≡ true = first_passes f (suc d) m in
      (k, omega (arith, crowd k j l p (λ e b q. clash q (first_below f (suc d) 0 e (omega arith) b)), tally_le n (Near k)), p)

  -- the least number of references
  pub distance_low : (c : Chain) → Holds S img t c → distance n S img t ≤ length c.fields
  unfolding distance
  distance_low c h =
      let l : head_of n S img t (length c.fields) < n = omega (arith, head_low c h, head_in c h) in
      first_low _ n (length c.fields) (lt-ltb _ _ l)

  pub distance_in : (c : Chain) → Holds S img t c → distance n S img t < n
  unfolding distance
  distance_in c h =
      let w = close (length c.fields) c.head (head_in c h) (follows_in (head_in c h) h.follows) in
      first_in _ n w.0 w.1 (lt-ltb _ _ (head_found w.0 c.head (head_in c h) c.start h.anchored h.named w.2))

  head_at : distance n S img t < n → head_of n S img t (distance n S img t) < n
  unfolding distance
  head_at l = ltb-true _ _ (first_passes _ n l)

  -- THE ANSWER: what is found is the foremost chain, and nothing is found exactly where no root or handle leads to the object
  pub found_foremost : distance n S img t < n → Foremost S img t (chain_of n S img t (distance n S img t))
  found_foremost l = chain_foremost (distance n S img t) (head_at l) distance_low

  -- the foremost chain has fewer references than there are places
  pub foremost_short : (c : Chain) → Foremost S img t c → length c.fields < n
  unfolding chain_of
  foremost_short c f =
      let l = distance_in c f.holds in
      let least : length c.fields ≤ length (fields_along S img (head_of n S img t (distance n S img t)) (names_from n S img t (distance n S img t) (head_of n S img t (distance n S img t)))) =
      f.shortest (chain_of n S img t (distance n S img t)) (found_foremost l).holds in
      omega (arith, chain_size (distance n S img t) (head_at l))

  pub found_so : Leads S img t → distance n S img t < n
  found_so l = let h = leads_holds S img l in distance_in h.0 h.1

  pub found_only : distance n S img t < n → Leads S img t
  found_only l = holds_leads S img _ (found_foremost l).holds
