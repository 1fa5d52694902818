-- What is promised of why: it answers the foremost of the chains that hold the object (holding/specs/Holding.antt), and the words that it leaves spell that chain.
use Rattle.std.specs.Prelude.{ℕ, suc, ◌+◌, ◌*◌, ◌≤◌, ◌<◌, List, ◌∷◌, ◌++◌, ◌≡◌, ◌≢◌, length, drop}
use Rattle.kinds.specs.Names.{roots, handles, fields, word_of}
use Rattle.kinds.specs.declared.Name.{Name}
use Rattle.std.specs.Prelude.{Some}
use Rattle.kinds.specs.declared.Start.{Start}
use Rattle.kinds.specs.declared.Start.TheVariants.{Root, Handle}
use Rattle.kinds.specs.Answers.{Reason}
use Rattle.kinds.specs.Answers.{held_from}
use Rattle.model.specs.Image.{Image, Key, root, handle, field, slots, get, place_of}
use Rattle.model.specs.Chains.{Leads}
use Rattle.holding.specs.Holding.{Chain, Foremost}
use Rattle.holding.specs.Finding.{Explained, explained, denied, start_of, words_of}

-- the answer about the object at t, an object in use, and what it leaves of the lent words; k is the number of a chain's references
pub data Explains (S : ℕ) (img : Image) (t : ℕ) (words : List ℕ) : Explained Reason → Type 0 where
  -- 18 and the words as found: no root or handle leads to it
  unheld : (Leads S img t → ⊥) → Explains S img t words (denied 18 words)
  -- 19 and the words as found: they are fewer than 2k + 1
  narrow : (c : Chain) → Foremost S img t c → length words < 2 * length c.fields + 1 → Explains S img t words (denied 19 words)
  -- the start of the foremost chain, and k; its words over the first 2k + 1, and later words as found
  held : (c : Chain) → Foremost S img t c → 2 * length c.fields + 1 ≤ length words
      → Explains S img t words (explained (held_from (start_of c.start) (length c.fields)) (words_of S c ++ drop (2 * length c.fields + 1) words))

-- a start is a root or a handle of the image, and its word
abbrev pub StartIn : Start → Type 0
StartIn (Root r) = r < roots
StartIn (Handle h) = h.0 < handles

abbrev pub start_key : Start → Key
start_key (Root r) = root r
start_key (Handle h) = handle h.0

-- from the name w on, k times a field and a name: the field, of the object that the name before it names, holds the name; the last names the object n
pub data Spelled (img : Image) (n : Name) : ℕ → ℕ → List ℕ → Type 0 where
  last : {w : ℕ} {rest : List ℕ} → w ≡ word_of (Some n) → Spelled img n 0 w rest
  on : {k w f v : ℕ} {rest : List ℕ} → w ≢ 0 → f < fields → get img (field (place_of (get img slots) w) f) ≡ v → Spelled img n k v rest → Spelled img n (suc k) w (f ∷ v ∷ rest)

-- the words spell k references, held now, from a root or a handle to the object n: its word is the first name
pub record Spells (img : Image) (n : Name) (s : Start) (k : ℕ) (words : List ℕ) : Type 0 where
  pub first : ℕ
  pub rest : List ℕ
  pub words_are : words ≡ first ∷ rest
  pub start_in : StartIn s
  pub start_holds : get img (start_key s) ≡ first
  pub goes_on : Spelled img n k first rest
