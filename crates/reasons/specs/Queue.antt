-- The queue of `explain`: places in the order in which they are met, level by level. Row 0 is what the anchors name, row b + 1 what the fields of the
-- b-th place of the list name.
use Rattle.std.specs.Prelude.{ℕ, zero, suc, ◌+◌, ◌*◌, ◌-◌, ◌≤◌, ◌<◌, ◌≡◌, Bool, not, ◌≢◌, List, [], ◌∷◌, ◌++◌, eqb, length, get_or, set, drop, Option}
use Rattle.std.specs.Option.{MatchOption}
use Rattle.loops.specs.Loop.{both}
use Rattle.kinds.specs.Names.{most_places}
use Rattle.model.specs.Image.{Image, place_of}
use Rattle.model.specs.Chains.{Anchored, Along}
use Rattle.image.specs.Within.{Within}
use Rattle.holding.specs.Holding.{Chain, Follows}
use Rattle.holding.specs.Finding.{field_to, anchor_to, fields_along, words_of}
use Rattle.reasons.specs.declared.queue.Queue.{Queue}

-- row v names the place j
unfoldable pub Row : ℕ → Image → Queue → ℕ → ℕ → Type 0
Row S img queue zero j = Anchored S img j
Row S img queue (suc b) j = Along S img (get_or queue.list b 0) j

-- where a place was met: its row, and in the row its name
abbrev pub key : Queue → ℕ → ℕ
key queue j = get_or queue.rows j 0 * most_places + j

-- the places that are met stand in the order of their keys. The rows below u are whole, and those met in row u stand from `from` on.
pub record Levels (S places : ℕ) (img : Image) (queue : Queue) (u from : ℕ) : Type 0 where
  pub few : places ≤ most_places
  pub upto : from ≤ queue.length
  pub listed : (j : ℕ) → 0 < get_or queue.rows j 0 → (a : ℕ) × (a < queue.length) × (get_or queue.list a 0 ≡ j)
  pub met : (a : ℕ) → a < queue.length → 0 < get_or queue.rows (get_or queue.list a 0) 0
  pub inside : (a : ℕ) → a < queue.length → get_or queue.list a 0 < places
  pub earlier : (a : ℕ) → a < queue.length → get_or queue.rows (get_or queue.list a 0) 0 ≤ a + 1
  pub held : (a v : ℕ) → a < queue.length → get_or queue.rows (get_or queue.list a 0) 0 ≡ suc v → Row S img queue v (get_or queue.list a 0)
  pub rise : (a b : ℕ) → a < b → b < queue.length → key queue (get_or queue.list a 0) < key queue (get_or queue.list b 0)
  pub old : (a : ℕ) → a < from → get_or queue.rows (get_or queue.list a 0) 0 ≤ u
  pub new : (a : ℕ) → from ≤ a → a < queue.length → get_or queue.rows (get_or queue.list a 0) 0 ≡ suc u
  pub whole : (v j : ℕ) → v < u → Row S img queue v j → (0 < get_or queue.rows j 0) × (get_or queue.rows j 0 ≤ suc v)

-- the walk is over: all rows are whole, or t is met
pub record Spread (S places : ℕ) (img : Image) (t : ℕ) (queue : Queue) : Type 0 where
  pub next : ℕ
  pub some : 0 < next
  pub levels : Levels S places img queue next queue.length
  pub all : get_or queue.rows t 0 ≡ 0 → queue.length < next

-- j has come into the list of n behind what is lower from `from` on
pub record Inserted (list : List ℕ) (from n j : ℕ) (list' : List ℕ) : Type 0 where
  pub at : ℕ
  pub above : from ≤ at
  pub within : at ≤ n
  pub long : length list' ≡ length list
  pub before : (a : ℕ) → a < at → get_or list' a 0 ≡ get_or list a 0
  pub here : get_or list' at 0 ≡ j
  pub behind : (a : ℕ) → at ≤ a → a < n → get_or list' (suc a) 0 ≡ get_or list a 0
  pub low : (a : ℕ) → from ≤ a → suc a ≡ at → get_or list a 0 < j
  pub high : (a : ℕ) → at ≤ a → a < n → j ≤ get_or list a 0

-- j is met in row u, unless it was
pub data Entered (j u from : ℕ) (queue queue' : Queue) : Type 0 where
  again : 0 < get_or queue.rows j 0 → queue' ≡ queue → Entered j u from queue queue'
  anew : get_or queue.rows j 0 ≡ 0 → queue'.rows ≡ set queue.rows j (u + 1) → Inserted queue.list from queue.length j queue'.list → queue'.length ≡ queue.length + 1
      → Entered j u from queue queue'

-- what a word names is met in row u, unless it was, or the word names nothing
pub data Noted (S w u from : ℕ) (queue queue' : Queue) : Type 0 where
  nothing : w ≡ 0 → queue' ≡ queue → Noted S w u from queue queue'
  named : w ≢ 0 → Entered (place_of S w) u from queue queue' → Noted S w u from queue queue'

-- the word names the place j
abbrev pub word_to : ℕ → ℕ → ℕ → Bool
word_to S w j = both (not (eqb w 0)) (eqb (place_of S w) j)

-- what a search answers whose definition comes to the lowest that passes, or to its limit: that one, or none
abbrev pub IsLowest : ℕ → ℕ → Option ℕ → Type 0
IsLowest limit lowest result = MatchOption result (limit ≤ lowest) (λ k. (k ≡ lowest) × (k < limit))

-- the way up from a place: its first name, and the names that follow
pub data Trail (queue : Queue) : ℕ → ℕ → List ℕ → Type 0 where
  top : {j h : ℕ} → get_or queue.rows j 0 ≡ 1 → h ≡ j → Trail queue j h []
  then : {j b h : ℕ} {ns ms : List ℕ} → get_or queue.rows j 0 ≡ suc (suc b) → Trail queue (get_or queue.list b 0) h ns → ms ≡ ns ++ (j ∷ []) → Trail queue j h ms

-- the place before j on its way up, which one has that no anchor names
pub record IsBefore (queue : Queue) (j h : ℕ) : Type 0 where
  pub later : 1 < get_or queue.rows j 0
  pub place : h ≡ get_or queue.list (get_or queue.rows j 0 - 2) 0

-- each of the places was met in a row before its own
pub record Climbs (queue : Queue) : Type 0 where
  pub inside : (a : ℕ) → a < queue.length → get_or queue.list a 0 < most_places
  pub upto : (j : ℕ) → get_or queue.rows j 0 ≤ queue.length
  pub earlier : (a : ℕ) → a < queue.length → get_or queue.rows (get_or queue.list a 0) 0 ≤ a + 1

-- the chain of a way up: the lowest fields along its names, and the lowest anchor
abbrev pub trail_chain : ℕ → Image → ℕ → List ℕ → Chain
trail_chain S img h ns = record { start = anchor_to S img h; head = h; names = ns; fields = fields_along S img h ns }

-- the places of the queue are places of an image, and the ways up are chains
pub record Placed (P S : ℕ) (img : Image) (queue : Queue) : Type 0 where
  pub image : Within P S img
  pub climbs : Climbs queue
  pub inside : (a : ℕ) → a < queue.length → get_or queue.list a 0 < P * S
  pub named : (j h : ℕ) → IsBefore queue j h → field_to S img h j < 4
  pub follows : (j h : ℕ) (ns : List ℕ) → Trail queue j h ns → Follows S img j h ns (fields_along S img h ns)

-- the way up from a place, with its k references
pub record Way (places : ℕ) (queue : Queue) (j k : ℕ) : Type 0 where
  pub within : j < places
  pub head : ℕ
  pub names : List ℕ
  pub trail : Trail queue j head names
  pub long : k ≡ length names

-- words over the beginning of others
unfoldable pub over : List ℕ → List ℕ → List ℕ
over l words = l ++ drop (length l) words

-- the words of the way up from j, whose head is h, stand over the words
pub record Filled (P S : ℕ) (img : Image) (queue : Queue) (j : ℕ) (words words' : List ℕ) (h : ℕ) : Type 0 where
  pub names : List ℕ
  pub trail : Trail queue j h names
  pub within : h < P * S
  pub written : words' ≡ over (words_of S (trail_chain S img h names)) words
