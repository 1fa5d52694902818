-- The foremost chain to an object, computed; its words; and what is answered and left in the lent words.
use Rattle.std.specs.Prelude.{ℕ, zero, suc, ◌+◌, ◌*◌, ◌-◌, Bool, cond, List, [], ◌∷◌, ◌++◌, eqb, ltb, leb, length, drop}
use Rattle.loops.specs.Loop.{both, first}
use Rattle.kinds.specs.Names.{roots, session}
use Rattle.kinds.specs.declared.Start.{Start}
use Rattle.kinds.specs.declared.Start.TheVariants.{Root, Handle}
use Rattle.kinds.specs.Answers.{Reason}
use Rattle.kinds.specs.Answers.{held_from}
use Rattle.std.specs.Prelude.{Err}
use Rattle.model.specs.Image.{Image, Key, anchor, field, anchors}
use Rattle.model.specs.Questions.{held, held_at}
use Rattle.model.specs.Outlist.{name_at}
use Rattle.holding.specs.Holding.{Chain}

-- some of 0, 1, .., n - 1 passes
unfoldable pub some : ℕ → (ℕ → Bool) → Bool
some n f = ltb (first n 0 f) n

-- the reference at κ is to j
unfoldable pub is_to : ℕ → Image → Key → ℕ → Bool
is_to S img κ j = both (held img κ) (eqb (held_at S img κ) j)

module _ (S : ℕ) (img : Image) where
  -- the lowest field of j that names i, or 4
  unfoldable pub field_to : ℕ → ℕ → ℕ
  field_to j i = first 4 0 (λ k. is_to S img (field j k) i)

  -- the lowest anchor that names j, or the number of anchors
  unfoldable pub anchor_to : ℕ → ℕ
  anchor_to j = first anchors 0 (λ a. is_to S img (anchor a) j)

  -- from j along names: each time the lowest field
  unfoldable pub fields_along : ℕ → List ℕ → List ℕ
  fields_along j [] = []
  fields_along j (i ∷ ns) = field_to j i ∷ fields_along i ns

-- what is found among n places for the object at t
module _ (n S : ℕ) (img : Image) (t : ℕ) where
  -- j leads to t along exactly d references
  unfoldable pub leads_in : ℕ → ℕ → Bool
  leads_in zero j = eqb j t
  leads_in (suc d) j = some n (λ i. both (ltb (field_to S img j i) 4) (leads_in d i))

  -- the lowest name that a field of j names and that leads to t along d references
  unfoldable pub next : ℕ → ℕ → ℕ
  next d j = first n 0 (λ i. both (ltb (field_to S img j i) 4) (leads_in d i))

  -- the names of d references on from j, each time the lowest
  unfoldable pub names_from : ℕ → ℕ → List ℕ
  names_from zero j = []
  names_from (suc d) j = next d j ∷ names_from d (next d j)

  -- the lowest name that an anchor names and that leads to t along d references, or n
  unfoldable pub head_of : ℕ → ℕ
  head_of d = first n 0 (λ j. both (ltb (anchor_to S img j) anchors) (leads_in d j))

  -- the least number of references, or n where no chain is
  unfoldable pub distance : ℕ
  distance = first n 0 (λ d. ltb (head_of d) n)

  unfoldable pub chain_of : ℕ → Chain
  chain_of d =
      record {
        start = anchor_to S img (head_of d);
        head = head_of d;
        names = names_from d (head_of d);
        fields = fields_along S img (head_of d) (names_from d (head_of d));
      }

-- the root or the handle that an anchor is
abbrev pub start_of : ℕ → Start
start_of a = cond (ltb a roots) (Root a) (Handle (session (a - roots)))

-- the words of a chain: the first name, then field and name in turn
unfoldable pub turns : ℕ → List ℕ → List ℕ → List ℕ
turns S [] fs = []
turns S (i ∷ ns) [] = []
turns S (i ∷ ns) (k ∷ fs) = k ∷ name_at S i ∷ turns S ns fs

unfoldable pub words_of : ℕ → Chain → List ℕ
words_of S c = name_at S c.head ∷ turns S c.names c.fields

-- an answer, and the lent words that it leaves
pub record Explained (A : Type 0) : Type 0 where
  pub answer : A
  pub words : List ℕ

abbrev pub explained : {A : Type 0} → A → List ℕ → Explained A
explained a words = record { answer = a; words = words }

-- refused: the words stay
abbrev pub refused_with : ℕ → Reason
refused_with n = Err (record { number = n; extra = 0 })

abbrev pub denied : ℕ → List ℕ → Explained Reason
denied n words = explained (refused_with n) words

-- a chain of k references: 19 with fewer than 2k + 1 words; else its start and k, and its words over the first: later words stay
unfoldable pub held_by : ℕ → Chain → List ℕ → Explained Reason
held_by S c words =
    cond (leb (2 * length c.fields + 1) (length words))
    (explained (held_from (start_of c.start) (length c.fields)) (words_of S c ++ drop (2 * length c.fields + 1) words))
    (denied 19 words)

-- the object at t of n places: 18 where no chain is, else its foremost chain
unfoldable pub held_of : ℕ → ℕ → Image → ℕ → List ℕ → Explained Reason
held_of n S img t words = cond (ltb (distance n S img t) n) (held_by S (chain_of n S img t (distance n S img t)) words) (denied 18 words)
