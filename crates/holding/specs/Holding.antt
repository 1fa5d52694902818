-- Why an object is still here: the chains of references, held now, from a root or a handle to it, and the foremost of them: the shortest, then the one
-- whose names come first in order, then whose fields do, then the start: roots before handles, lowest number first. (Chains over a phase are model's.)
-- A name is the number of its place, and a start its number among the anchors: places are in the order of names, anchors in that of starts.
use Rattle.std.specs.Prelude.{ℕ, ◌≤◌, ◌<◌, ◌≡◌, List, [], ◌∷◌, length}
use Rattle.model.specs.Image.{Image, anchor, field, anchors}
use Rattle.model.specs.Chains.{Names}

-- a chain: the anchor that it starts from, the first name, then fields and names in turn
pub record Chain : Type 0 where
  pub start : ℕ
  pub head : ℕ
  pub names : List ℕ
  pub fields : List ℕ

-- from the object at j on to that at t: each field holds a reference to the next name
pub data Follows (S : ℕ) (img : Image) (t : ℕ) : ℕ → List ℕ → List ℕ → Type 0 where
  last : Follows S img t t [] []
  on : {j i k : ℕ} {ns fs : List ℕ} → k < 4 → Names S img (field j k) i → Follows S img t i ns fs → Follows S img t j (i ∷ ns) (k ∷ fs)

-- the chain holds the object at t
pub record Holds (S : ℕ) (img : Image) (t : ℕ) (c : Chain) : Type 0 where
  pub anchored : c.start < anchors
  pub named : Names S img (anchor c.start) c.head
  pub follows : Follows S img t c.head c.names c.fields

-- a list comes first in order, or is the same: the first numbers that differ decide
pub data Upto : List ℕ → List ℕ → Type 0 where
  ended : {m : List ℕ} → Upto [] m
  less : {a b : ℕ} {l m : List ℕ} → a < b → Upto (a ∷ l) (b ∷ m)
  same : {a : ℕ} {l m : List ℕ} → Upto l m → Upto (a ∷ l) (a ∷ m)

-- of all chains that hold the object the foremost: by length, then by names, then by fields, then by start
pub record Foremost (S : ℕ) (img : Image) (t : ℕ) (c : Chain) : Type 0 where
  pub holds : Holds S img t c
  pub shortest : (d : Chain) → Holds S img t d → length c.fields ≤ length d.fields
  pub names_first : (d : Chain) → Holds S img t d → length d.fields ≡ length c.fields → Upto (c.head ∷ c.names) (d.head ∷ d.names)
  pub fields_first : (d : Chain) → Holds S img t d → d.head ≡ c.head → d.names ≡ c.names → Upto c.fields d.fields
  pub start_first : (d : Chain) → Holds S img t d → d.head ≡ c.head → d.names ≡ c.names → d.fields ≡ c.fields → c.start ≤ d.start
