-- What is answered: from the queue where the walk is over, the way up, and the words.
-- Assumes nothing.
use Prim.Native.Nat.{ℕ, ◌+◌, ◌*◌, ◌≤◌, ◌<◌}
use mathlib.Core.Path.{◌≡◌, sym, ap, ◌∙◌, subst}
use mathlib.Core.Logic.{⊎_elim}
use mathlib.Core.List.{List, ◌++◌}
use native.Mathlib.Omega.{arith}
use lib.ListN.{length, get_or, drop}
use borrow.Author.Tests.{lt-ltb, le-ltb, le-leb, lt-leb}
use Rattle.loops.proofs.Tests.{lt_or_ge}
use Rattle.kinds.specs.Names.{most_places}
use Rattle.kinds.specs.declared.Start.{Start}
use Rattle.kinds.specs.Answers.{held_from}
use Rattle.model.specs.Image.{Image, anchors}
use Rattle.image.specs.Within.{Within}
use Rattle.holding.specs.Holding.{Chain}
use Rattle.holding.specs.Finding.{anchor_to, fields_along, start_of, words_of, explained, denied, held_by, held_of}
use Rattle.reasons.specs.declared.queue.Queue.{Queue}
use Rattle.reasons.specs.Queue.{Spread, Trail, trail_chain, Climbs, Placed, Way, Filled, over}
use Rattle.holding.proofs.Order.{follows_length}
use Rattle.holding.proofs.Words.{words_length}
use Rattle.reasons.proofs.Tables.{tables_few}
use Rattle.reasons.proofs.Trails.{before_named, trail_some, trail_short, trail_follows, trail_is, trail_near, unmet}

module _ {P S : ℕ} {img : Image} {queue : Queue} {t : ℕ} (w : Within P S img) (x : Spread S (P * S) img t queue) where
  pub climbs : Climbs queue
  climbs =
      let q = x.levels in
      record {
        upto = λ j. ⊎_elim (λ l. let i = q.listed j l in omega (arith, i.1, subst (λ (v : ℕ). get_or queue.rows v 0 ≤ i.0 + 1) i.2 (q.earlier i.0 i.1))) (λ l. omega arith) (lt_or_ge 0 (get_or queue.rows j 0));
        earlier = q.earlier;
        inside = λ a l. omega (arith, q.inside a l, q.few);
      }

  pub placed : Placed P S img queue
  placed = record { image = w; climbs = climbs; inside = x.levels.inside; named = λ j h b. before_named x.levels b; follows = λ j h ns p. (trail_follows x.levels p).1 }

  -- and an anchor names their first place
  pub anchored : {words words' : List ℕ} {h : ℕ} → Filled P S img queue t words words' h → anchor_to S img h < anchors
  anchored f = (trail_follows x.levels f.trail).0

  -- no chain
  pub answer_none : (words : List ℕ) → get_or queue.rows t 0 ≡ 0 → denied 18 words ≡ held_of (P * S) S img t words
  unfolding held_of
  answer_none words e = rw (le-ltb _ _ (unmet x.levels x.some w.refs t (x.all e) e))

  -- the answer is that of the way up
  answer_is : {h : ℕ} {ns : List ℕ} (words : List ℕ) → Trail queue t h ns → held_by S (trail_chain S img h ns) words ≡ held_of (P * S) S img t words
  unfolding held_of
  answer_is words p =
      rw (lt-ltb _ _ (trail_near x.levels x.some w.refs p)) (ap (λ (c : Chain). held_by S c words) (trail_is x.levels x.some w.refs p))

  fields_count : {h : ℕ} {ns : List ℕ} → Trail queue t h ns → length ns ≡ length (fields_along S img h ns)
  fields_count p = follows_length (trail_follows x.levels p).1

  module _ (l : t < P * S) (met : 0 < get_or queue.rows t 0) (k : ℕ) (count : (h : ℕ) (ns : List ℕ) → Trail queue t h ns → k ≡ length ns) where
    pub way : Way (P * S) queue t k
    way =
        let p = trail_some x.levels t met in
        record { within = l; head = p.0; names = p.1; trail = p.2; long = count p.0 p.1 p.2 }

    pub few_references : k < most_places
    few_references = omega (arith, trail_short x.levels way.trail, way.long, tables_few queue.tables)

    -- too few words
    pub answer_narrow : (words : List ℕ) → length words ≤ 2 * k → denied 19 words ≡ held_of (P * S) S img t words
    unfolding held_by
    answer_narrow words m =
        let p = way in
        let c : k ≡ length (fields_along S img p.head p.names) = p.long ∙ fields_count p.trail in
        let f : length words < 2 * length (fields_along S img p.head p.names) + 1 = omega arith in
        rw (lt-leb _ _ f) at (sym (sym (answer_is words p.trail)))

    pub answer_held : (words words' : List ℕ) (h : ℕ) (s : Start) → 2 * k < length words → Filled P S img queue t words words' h → s ≡ start_of (anchor_to S img h)
        → explained (held_from s k) words' ≡ held_of (P * S) S img t words
    unfolding held_by over
    answer_held words words' h s m f es =
        let ns : List ℕ = f.names in
        let c : k ≡ length (fields_along S img h ns) = count h ns f.trail ∙ fields_count f.trail in
        let y : 2 * length (fields_along S img h ns) + 1 ≤ length words = omega arith in
        let z : length (words_of S (trail_chain S img h ns)) ≡ 2 * length (fields_along S img h ns) + 1 = words_length S (trail_chain S img h ns) (fields_count f.trail) in
        let u : words' ≡ words_of S (trail_chain S img h ns) ++ drop (2 * length (fields_along S img h ns) + 1) words =
        f.written ∙ ap (λ (v : ℕ). words_of S (trail_chain S img h ns) ++ drop v words) z in
        (λ i. explained (held_from (es i) (c i)) (u i)) ∙ (rw (le-leb _ _ y) at (answer_is words f.trail))
