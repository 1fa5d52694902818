-- The image: a list of words, each named by a key. Slot s of partition p is the place p·S + s, and keys go by place.
use Rattle.std.specs.Prelude.{ℕ, ◌+◌, ◌*◌, ◌-◌, ◌/◌, ◌%◌, ◌<◌, Bool, true, false, not, cond, List, ◌∷◌, ◌≡◌, eqb, ltb, get_or, set, length, replicate}
use Rattle.loops.specs.Loop.{both}
use Rattle.kinds.specs.Names.{radix, roots, handles}
use Rattle.kinds.specs.declared.Name.{Name}

abbrev pub Image : Type 0
Image = List ℕ

-- a word of the image: of the head, an anchor (what holds a reference and is no field: the roots, then the session handles), a partition's flag, and of a
-- place its state, its payload, its fields and its count (the inlist of source document 002): the number of fields of objects in other partitions that name it
pub data Key : Type 0 where
  head anchor flag state payload inlist : ℕ → Key
  field : ℕ → ℕ → Key

-- root r, and session handle h
abbrev pub root : ℕ → Key
root r = anchor r

abbrev pub handle : ℕ → Key
handle h = anchor (roots + h)

-- a word is a count of foreign references
abbrev pub is_count : Key → Bool
is_count (head h) = false
is_count (anchor a) = false
is_count (flag p) = false
is_count (state j) = false
is_count (payload j) = false
is_count (inlist j) = true
is_count (field j k) = false

-- the words of the head
abbrev pub partitions : Key
partitions = head 0

abbrev pub slots : Key
slots = head 1

abbrev pub phase : Key
phase = head 2

abbrev pub count : Key
count = head 3

abbrev pub allowance : Key
allowance = head 4

-- the words before the slots, the words of a slot, and the number of anchors: 16 roots and 32 handles
abbrev pub front : ℕ
front = 69

abbrev pub stride : ℕ
stride = 7

abbrev pub anchors : ℕ
anchors = roots + handles

-- the paper's table of words: roots at 5 to 20, flags at 21 to 36, handles at 37 to 68, then seven words a slot
unfoldable pub addr : Key → ℕ
addr (head h) = h
addr (anchor a) = cond (ltb a roots) (5 + a) (37 + (a - roots))
addr (flag p) = 21 + p
addr (state j) = front + stride * j
addr (payload j) = front + stride * j + 1
addr (field j k) = front + stride * j + 2 + k
addr (inlist j) = front + stride * j + 6

-- an image has the word of a key
unfoldable pub Has : Image → Key → Type 0
Has img κ = addr κ < length img

unfoldable pub get : Image → Key → ℕ
get img κ = get_or img (addr κ) 0

unfoldable pub put : Image → Key → ℕ → Image
put img κ v = set img (addr κ) v

-- how many words an image has, and how many P partitions of S slots need
unfoldable pub length_of : Image → ℕ
length_of img = length img

unfoldable pub size : ℕ → ℕ → ℕ
size P S = front + stride * (P * S)

-- an image of n places
unfoldable pub Sized : ℕ → Image → Type 0
Sized n img = length img ≡ front + stride * n

-- format leaves P, S, phase shut, nothing else set
unfoldable pub blank : ℕ → ℕ → Image
blank P S = P ∷ S ∷ replicate (front - 2 + stride * (P * S)) 0

-- the place of a name, the place that a reference word names, and the partition of a place
abbrev pub place : ℕ → Name → ℕ
place S n = n.partition.0 * S + n.slot.0

unfoldable pub place_of : ℕ → ℕ → ℕ
place_of S w = (w - 1) / radix * S + (w - 1) % radix

unfoldable pub part_of : ℕ → ℕ → ℕ
part_of S j = j / S

-- the word w, in a field of the object at j, names an object of another partition
unfoldable pub abroad : ℕ → ℕ → ℕ → Bool
abroad S j w = both (not (eqb w 0)) (not (eqb (part_of S j) (part_of S (place_of S w))))

-- the object that w names is counted once less, and once more
abbrev pub one_less : ℕ → ℕ → Image → Image
one_less S w img = put img (inlist (place_of S w)) (get img (inlist (place_of S w)) - 1)

abbrev pub one_more : ℕ → ℕ → Image → Image
one_more S w img = put img (inlist (place_of S w)) (get img (inlist (place_of S w)) + 1)

-- a field of the object at j loses the word w, and gains it
unfoldable pub lose : ℕ → ℕ → ℕ → Image → Image
lose S j w img = cond (abroad S j w) (one_less S w img) img

unfoldable pub gain : ℕ → ℕ → ℕ → Image → Image
gain S j w img = cond (abroad S j w) (one_more S w img) img

-- the counts where κ takes the word w: only fields count
unfoldable pub recount : ℕ → Image → Key → ℕ → Image
recount S img (head h) w = img
recount S img (anchor a) w = img
recount S img (flag p) w = img
recount S img (state j) w = img
recount S img (payload j) w = img
recount S img (inlist j) w = img
recount S img (field j k) w = gain S j w (lose S j (get img (field j k)) img)

-- a reference is stored, and a freed object's reference goes: nothing else writes one. The counts follow at once.
unfoldable pub refer : ℕ → Image → Key → ℕ → Image
refer S img κ w = put (recount S img κ w) κ w

unfoldable pub release : ℕ → Image → Key → Image
release S img κ = put (recount S img κ 0) κ 0

-- what holds a reference in an image of n places: a root, a handle, or a field of a place
pub data Holder (n : ℕ) : Key → Type 0 where
  an_anchor : {a : ℕ} → a < anchors → Holder n (anchor a)
  a_field : {j k : ℕ} → j < n → k < 4 → Holder n (field j k)
