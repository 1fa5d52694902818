-- What leads to an object: at one moment, and over a phase. An object is a place and the number of the operation that created it, so that
-- a slot used again holds another object.
use Rattle.std.specs.Prelude.{ℕ, suc, ◌<◌, cond, List, [], ◌∷◌, ◌≡◌, ◌≢◌, eqb, length}
use Rattle.kinds.specs.declared.Name.{Name}
use Rattle.kinds.specs.declared.Handle.{Handle}
use Rattle.std.specs.Prelude.{Some}
use Rattle.kinds.specs.declared.Operation.{Operation}
use Rattle.kinds.specs.declared.Operation.TheVariants.{New, Set, Val, Root}
use Rattle.kinds.specs.declared.Single.{Single}
use Rattle.kinds.specs.declared.Single.TheVariants.{Open, Hold}
use Rattle.model.specs.Image.{Image, Key, anchor, state, payload, field, anchors, get, place, place_of, part_of}
use Rattle.model.specs.Spread.{Reach}
use Rattle.model.specs.Acts.{Act, commit, single}

-- at one moment: κ names the object at j
pub record Names (S : ℕ) (img : Image) (κ : Key) (j : ℕ) : Type 0 where
  pub some : get img κ ≢ 0
  pub target : place_of S (get img κ) ≡ j

-- a root or a handle names the object at j
abbrev pub Anchored : ℕ → Image → ℕ → Type 0
Anchored S img j = (a : ℕ) × (a < anchors) × Names S img (anchor a) j

-- a field of an object in another partition names the object at j, of n places
pub record NamedAbroad (n S : ℕ) (img : Image) (j : ℕ) : Type 0 where
  pub holder : ℕ
  pub k : ℕ
  pub place : holder < n
  pub small : k < 4
  pub elsewhere : part_of S holder ≢ part_of S j
  pub names : Names S img (field holder k) j

-- a field of the object at i names the object at j
abbrev pub Along : ℕ → Image → ℕ → ℕ → Type 0
Along S img i j = (k : ℕ) × (k < 4) × Names S img (field i k) j

-- what κ names and, along fields, leads to; and what a root or a handle leads to
abbrev pub LeadsFrom : ℕ → Image → Key → ℕ → Type 0
LeadsFrom S img κ = Reach (Names S img κ) (Along S img)

abbrev pub Leads : ℕ → Image → ℕ → Type 0
Leads S img = Reach (Anchored S img) (Along S img)

-- from x to y the object at place j stays in use, with its payload and its fields
pub record Stays (x y : Image) (j : ℕ) : Type 0 where
  pub used : get y (state j) ≡ 1
  pub value : get y (payload j) ≡ get x (payload j)
  pub fields : (k : ℕ) → k < 4 → get y (field j k) ≡ get x (field j k)

-- a history in steps, the last first: each operation is one, and each single-line act
pub data Step : Type 0 where
  op : Operation → Step
  did : Single → Step

unfoldable pub push : List Operation → List Step → List Step
push [] h = h
push (o ∷ os) h = push os (op o ∷ h)

unfoldable pub steps : List Act → List Step → List Step
steps [] h = h
steps (commit os ∷ acts) h = push os (steps acts h)
steps (single a ∷ acts) h = did a ∷ steps acts h

-- the number of the step that created the object now at place j
unfoldable pub birth : ℕ → List Step → ℕ → ℕ
birth S [] j = 0
birth S (op (New n v) ∷ h) j = cond (eqb (place S n) j) (suc (length h)) (birth S h j)
birth S (op (Set n k t) ∷ h) j = birth S h j
birth S (op (Val n v) ∷ h) j = birth S h j
birth S (op (Root r t) ∷ h) j = birth S h j
birth S (did a ∷ h) j = birth S h j

-- h is `base` with steps on top
pub data Above (base : List Step) : List Step → Type 0 where
  bare : Above base base
  more : {s : Step} {h : List Step} → Above base h → Above base (s ∷ h)

-- in the history h the step s was taken after `base`, with e before it
pub data Since (base : List Step) : List Step → Step → List Step → Type 0 where
  last : {s : Step} {h : List Step} → Above base h → Since base (s ∷ h) s h
  before : {s b : Step} {e h : List Step} → Since base h s e → Since base (b ∷ h) s e

-- A chain to the object at a place with a birth: it starts at what a root or a handle named at the opening, or at an object created since or
-- stored as a reference since, in a field, a root or a handle, and uses references held at the opening or stored since. x is the heap at the
-- opening, `base` the steps up to there, and `Taken s e` says that the step s was taken since, with e before it.
pub data Chain (S : ℕ) (x : Image) (base : List Step) (Taken : Step → List Step → Type 0) : ℕ → ℕ → Type 0 where
  from_anchor : {a j : ℕ} → a < anchors → Names S x (anchor a) j → Chain S x base Taken j (birth S base j)
  created : {n : Name} {v : ℕ} {e : List Step} → Taken (op (New n v)) e → Chain S x base Taken (place S n) (birth S (op (New n v) ∷ e) (place S n))
  stored_field : {n q : Name} {k : ℕ} {e : List Step} → Taken (op (Set n k (Some q))) e → Chain S x base Taken (place S q) (birth S e (place S q))
  stored_root : {r : ℕ} {q : Name} {e : List Step} → Taken (op (Root r (Some q))) e → Chain S x base Taken (place S q) (birth S e (place S q))
  stored_handle : {h : Handle} {q : Name} {e : List Step} → Taken (did (Hold h q)) e → Chain S x base Taken (place S q) (birth S e (place S q))
  along_held : {i k j : ℕ} → Chain S x base Taken i (birth S base i) → k < 4 → Names S x (field i k) j → Chain S x base Taken j (birth S base j)
  along_stored : {n q : Name} {k : ℕ} {e : List Step} → Chain S x base Taken (place S n) (birth S e (place S n)) → Taken (op (Set n k (Some q))) e
      → Chain S x base Taken (place S q) (birth S e (place S q))

-- the steps of a history up to an opening, and with the acts since
abbrev pub to_opening : List Act → List Step
to_opening earlier = did Open ∷ steps earlier []

-- after `earlier` a phase was opened, and `acts` came since: the number of the step that created the object now at place j, or the last that was there
abbrev pub birth_now : ℕ → List Act → List Act → ℕ → ℕ
birth_now S earlier acts j = birth S (steps acts (to_opening earlier)) j

-- it was opened on the heap x: a chain leads to the object that step b created at place j, and to the object now at place j
abbrev pub ChainToBorn : ℕ → List Act → Image → List Act → ℕ → ℕ → Type 0
ChainToBorn S earlier x acts j b = Chain S x (to_opening earlier) (Since (to_opening earlier) (steps acts (to_opening earlier))) j b

abbrev pub ChainTo : ℕ → List Act → Image → List Act → ℕ → Type 0
ChainTo S earlier x acts j = ChainToBorn S earlier x acts j (birth_now S earlier acts j)
