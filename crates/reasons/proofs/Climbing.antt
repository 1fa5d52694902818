-- Laws of the way up from a place: what is left of it while its references are counted, and its words, which are written from the last to the first.
-- Assumes nothing.
use Prim.Native.Nat.{ℕ, ◌+◌, ◌*◌, ◌-◌, ◌/◌, ◌≤◌, ◌<◌}
use mathlib.Core.Path.{◌≡◌, refl, sym, ap, ◌∙◌, subst}
use mathlib.Core.List.{List, [], ◌∷◌, ◌++◌, append_assoc}
use native.Mathlib.Omega.{arith}
use lib.ListN.{length, get_or, set, length-append, length-set}
use Rattle.kinds.specs.Names.{most_partitions, most_slots, most_places}
use Rattle.model.specs.Image.{Image, part_of}
use Rattle.image.specs.Within.{Within}
use Rattle.image.proofs.Within.{places, flag_in}
use Rattle.holding.specs.Holding.{Follows}
use Rattle.model.specs.Outlist.{name_at}
use Rattle.holding.specs.Finding.{field_to, fields_along, turns, words_of}
use Rattle.reasons.specs.declared.queue.Queue.{Queue}
use Rattle.reasons.specs.Queue.{Trail, top, then, IsBefore, Climbs, trail_chain, Placed, Way, over, Filled}
use Rattle.holding.proofs.Order.{follows_length}
use Rattle.holding.proofs.Found.{fields_then}
use Rattle.holding.proofs.Words.{words_length, turns_then}

-- a place of an image has a name
pub has_name : {P S : ℕ} {img : Image} → Within P S img → (j : ℕ) → j < P * S → (0 < S) × (S ≤ most_slots) × (j / S < most_partitions)
unfolding part_of
has_name {P} {S} {img} w j l = (w.limits.some_slot, w.limits.slots_most, flag_in P S img w j l)

-- the way up from j goes on as that from i, before it
record Above (queue : Queue) (i j h : ℕ) (ns : List ℕ) : Type 0 where
  before : List ℕ
  trail : Trail queue i h before
  last_name : ns ≡ before ++ (j ∷ [])
  long : length ns ≡ length before + 1

module _ {queue : Queue} where
  above : {i j h : ℕ} {ns : List ℕ} → IsBefore queue j i → Trail queue j h ns → Above queue i j h ns
  above b (top z q) = absurd (omega (arith, b.later))
  above {i} {j} {h} w (then {b = b} {ns = ns} z t q) =
      let x : get_or queue.rows j 0 - 2 ≡ b = omega arith in
      record {
        before = ns;
        trail = subst (λ (u : ℕ). Trail queue u h ns) (sym (w.place ∙ ap (λ (u : ℕ). get_or queue.list u 0) x)) t;
        last_name = q;
        long = ap length q ∙ length-append ns (j ∷ []);
      }

  -- it goes on where a place is before, and else ends at the first name
  row_some : {j h : ℕ} {ns : List ℕ} → Trail queue j h ns → 1 < get_or queue.rows j 0 → 0 < length ns
  row_some (top z q) l = absurd (omega arith)
  row_some {j} (then {ns = ns} z t q) l = omega (arith, ap length q, length-append ns (j ∷ []))

  row_top : {j h : ℕ} {ns : List ℕ} → Trail queue j h ns → get_or queue.rows j 0 ≤ 1 → (h ≡ j) × (ns ≡ [])
  row_top (top z q) l = (q, refl)
  row_top (then z t q) l = absurd (omega arith)

module _ {queue : Queue} (c : Climbs queue) {j i : ℕ} (b : IsBefore queue j i) where
  -- the place before is in the list, and so it has a row, an earlier one
  before_in : get_or queue.rows j 0 - 2 < queue.length
  before_in = omega (arith, b.later, c.upto j)

  pub before_place : i < most_places
  before_place = rw b.place (c.inside (get_or queue.rows j 0 - 2) before_in)

  pub before_less : get_or queue.rows i 0 < get_or queue.rows j 0
  before_less = omega (arith, b.later, c.earlier (get_or queue.rows j 0 - 2) before_in, ap (λ (u : ℕ). get_or queue.rows u 0) b.place)

-- counting: k references up from j the place `at` is come to
pub record Counting (queue : Queue) (j k at : ℕ) : Type 0 where
  pub inside : at < most_places
  pub bound : k + get_or queue.rows at 0 ≤ queue.length
  pub rest : (h : ℕ) (ns : List ℕ) → Trail queue j h ns → (ms : List ℕ) × Trail queue at h ms × (length ns ≡ k + length ms)

module _ {queue : Queue} {j : ℕ} (c : Climbs queue) where
  pub counting_first : j < most_places → Counting queue j 0 j
  counting_first l = record { inside = l; bound = omega (arith, c.upto j); rest = λ h ns t. (ns, t, omega arith) }

  pub counting_more : {k at i : ℕ} → Counting queue j k at → IsBefore queue at i → Counting queue j (k + 1) i
  counting_more p b =
      record {
        inside = before_place c b;
        bound = omega (arith, p.bound, before_less c b);
        rest = λ h ns t. let r = p.rest h ns t in let a = above b r.1 in (a.before, a.trail, omega (arith, r.2, a.long));
      }

pub counting_end : {queue : Queue} {j k at : ℕ} → Counting queue j k at → get_or queue.rows at 0 ≤ 1 → (h : ℕ) (ns : List ℕ) → Trail queue j h ns → k ≡ length ns
counting_end p l h ns t = let r = p.rest h ns t in omega (arith, r.2, ap length (row_top r.1 l).1)

-- one more word, and two, stand over what stands there now
over_one : (l words : List ℕ) (x : ℕ) → length l < length words → over (l ++ (x ∷ [])) words ≡ over l (set words (length l) x)
unfolding over
over_one [] [] x h = absurd (omega arith)
over_one [] (y ∷ words) x h = refl
over_one (a ∷ l) [] x h = absurd (omega arith)
over_one (a ∷ l) (y ∷ words) x h = ap (λ (r : List ℕ). a ∷ r) (over_one l words x (omega arith))

over_pair : (l words : List ℕ) (f w i : ℕ) → length l + 1 ≡ 2 * i → 2 * i < length words
    → over (l ++ (f ∷ w ∷ [])) words ≡ over l (set (set words (2 * i) w) (2 * i - 1) f)
over_pair l words f w i e h =
    let x : length (l ++ (f ∷ [])) ≡ 2 * i = length-append l (f ∷ []) ∙ e in
    let y : length l ≡ 2 * i - 1 = omega arith in
    ap (λ (r : List ℕ). over r words) (sym (append_assoc l (f ∷ []) (w ∷ [])))
    ∙ over_one (l ++ (f ∷ [])) words w (omega arith)
    ∙ ap (λ (m : ℕ). over (l ++ (f ∷ [])) (set words m w)) x
    ∙ over_one l (set words (2 * i) w) f (omega (arith, length-set words (2 * i) w))
    ∙ ap (λ (m : ℕ). over l (set (set words (2 * i) w) m f)) y

-- the words of a chain with one name more
words_then : {S : ℕ} {img : Image} {t h : ℕ} {ns : List ℕ} → Follows S img t h ns (fields_along S img h ns) → (i : ℕ)
    → words_of S (trail_chain S img h (ns ++ (i ∷ []))) ≡ words_of S (trail_chain S img h ns) ++ (field_to S img t i ∷ name_at S i ∷ [])
unfolding words_of
words_then {S} {img} {t} {h} {ns} a i =
    ap (λ (r : List ℕ). name_at S h ∷ r)
    (ap (turns S (ns ++ (i ∷ []))) (fields_then S img a i) ∙ turns_then S ns (fields_along S img h ns) i (field_to S img t i) (follows_length a))

-- filling: the words of the whole way up from t over the lent words are those of the way up from j, of i references, over the words now
pub record Filling (P S : ℕ) (img : Image) (queue : Queue) (t : ℕ) (words₀ words : List ℕ) (j i : ℕ) : Type 0 where
  pub way : Way (P * S) queue j i
  pub whole : List ℕ
  pub trail : Trail queue t way.head whole
  pub rest : over (words_of S (trail_chain S img way.head whole)) words₀ ≡ over (words_of S (trail_chain S img way.head way.names)) words
  pub fit : 2 * i < length words
  pub size : length words ≡ length words₀

module _ {P S : ℕ} {img : Image} {queue : Queue} {t : ℕ} where
  pub filling_first : {k : ℕ} {words : List ℕ} → Way (P * S) queue t k → 2 * k < length words → Filling P S img queue t words words t k
  filling_first w l = record { way = w; whole = w.names; trail = w.trail; rest = refl; fit = l; size = refl }

  module _ {j i : ℕ} {words₀ words : List ℕ} (f : Filling P S img queue t words₀ words j i) where
    pub filling_at : Within P S img → j < most_places
    filling_at w = omega (arith, f.way.within, places w)

    module _ (pl : Placed P S img queue) {h : ℕ} (e : IsBefore queue j h) where
      pub filling_some : 0 < i
      filling_some = omega (arith, f.way.long, row_some f.way.trail e.later)

      pub filling_place : h < P * S
      filling_place = rw e.place (pl.inside (get_or queue.rows j 0 - 2) (before_in pl.climbs e))

      pub filling_more : (words' : List ℕ) → words' ≡ set (set words (2 * i) (name_at S j)) (2 * i - 1) (field_to S img h j)
          → Filling P S img queue t words₀ words' h (i - 1)
      filling_more words' q =
          let g : ℕ = f.way.head in
          let a : Above queue h j g f.way.names = above e f.way.trail in
          let b : Follows S img h g a.before (fields_along S img g a.before) = pl.follows h g a.before a.trail in
          let m : length (words_of S (trail_chain S img g a.before)) + 1 ≡ 2 * i =
          omega (arith, words_length S (trail_chain S img g a.before) (follows_length b), follows_length b, a.long, f.way.long) in
          let z : length words' ≡ length words =
          ap length q ∙ length-set (set words (2 * i) (name_at S j)) (2 * i - 1) (field_to S img h j) ∙ length-set words (2 * i) (name_at S j) in
          record {
            way = record { within = filling_place; head = g; names = a.before; trail = a.trail; long = omega (arith, a.long, f.way.long) };
            whole = f.whole;
            trail = f.trail;
            rest =
                f.rest
                ∙ ap (λ (r : List ℕ). over (words_of S (trail_chain S img g r)) words) a.last_name
                ∙ ap (λ (r : List ℕ). over r words) (words_then b j)
                ∙ over_pair (words_of S (trail_chain S img g a.before)) words (field_to S img h j) (name_at S j) i m f.fit
                ∙ ap (over (words_of S (trail_chain S img g a.before))) (sym q);
            fit = omega (arith, f.fit);
            size = z ∙ f.size;
          }

    pub filling_end : get_or queue.rows j 0 ≤ 1 → (w : ℕ) → w ≡ name_at S j → Filled P S img queue t words₀ (set words 0 w) j
    unfolding over words_of turns
    filling_end l w e =
        let z = row_top f.way.trail l in
        record {
          names = f.whole;
          trail = subst (λ (u : ℕ). Trail queue t u f.whole) z.0 f.trail;
          within = f.way.within;
          written =
              ap (set words 0) e
              ∙ sym (over_one [] words (name_at S j) (omega (arith, f.fit)))
              ∙ ap (λ (u : ℕ). over (words_of S (trail_chain S img u [])) words) (sym z.0)
              ∙ ap (λ (r : List ℕ). over (words_of S (trail_chain S img f.way.head r)) words) (sym z.1)
              ∙ sym f.rest
              ∙ ap (λ (u : ℕ). over (words_of S (trail_chain S img u f.whole)) words₀) z.0;
        }
