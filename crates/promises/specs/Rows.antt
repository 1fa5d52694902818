-- The table of refusals: for each call its list in the paper's order, each number beside its condition, and what a list says.
use Rattle.std.specs.Prelude.{ℕ, ◌+◌, ◌*◌, ◌≤◌, ◌<◌, List, [], ◌∷◌, ◌++◌, ◌≡◌, ◌≢◌, ◌⊎◌, length}
use Rattle.kinds.specs.Names.{most_partitions, most_slots, most_operations, roots, handles, fields}
use Rattle.kinds.specs.Answers.{refuse}
use Rattle.kinds.specs.declared.Name.{Name}
use Rattle.kinds.specs.Names.{Target}
use Rattle.std.specs.Prelude.{None, Some}
use Rattle.kinds.specs.declared.Operation.{Operation}
use Rattle.kinds.specs.declared.Operation.TheVariants.{New, Set, Val, Root}
use Rattle.kinds.specs.declared.Single.TheVariants.{Open, Trace, Close, Local, Hold, Drop}
use Rattle.kinds.specs.Answers.{held_from}
use Rattle.kinds.specs.Answers.{Verdict}
use Rattle.std.specs.Prelude.{Ok, Err}
use Rattle.kinds.specs.Answers.{allowed}
use Rattle.model.specs.Image.{Image, Key, anchor, root, flag, state, field, partitions, slots, phase, count, allowance, anchors, get, length_of, size, place, place_of}
use Rattle.model.specs.Acts.{Act, commit, single, perform}
use Rattle.model.specs.Chains.{Leads}
use Rattle.model.specs.Sound.{Sound}
use Rattle.holding.specs.Holding.{Chain, Foremost}
use Rattle.holding.specs.Finding.{start_of}
use Rattle.writer.specs.Record.{record_of, newest, heading_of}
use Rattle.catalogue.specs.Answers.{Said, accepted, refused_with, Chained, said_reason}
use Rattle.promises.specs.Effects.{Present}

-- a row: the number, its extra answer and its condition; or the number and a condition on its extra answer
pub data Row : Type 1 where
  given : ℕ → ℕ → Type 0 → Row
  telling : ℕ → (ℕ → Type 0) → Row

-- What a list says: refused with the number and the extra answer of the first row whose condition holds; accepted where none holds.
unfoldable pub Found : List Row → Verdict → Type 0
Found [] u = u ≡ allowed
Found (given n e C ∷ rows) u = (C × (u ≡ refuse n e)) ⊎ ((C → ⊥) × Found rows u)
Found (telling n E ∷ rows) u = ((e : ℕ) × E e × (u ≡ refuse n e)) ⊎ (((e : ℕ) → E e → ⊥) × Found rows u)

-- an answer that says so: accepted with the values `v`, or refused with nothing beside (`z`)
abbrev pub telled : {A : Type 0} → A → A → Verdict → Said A
telled z v (Ok _) = accepted v
telled z v (Err r) = refused_with z r

abbrev pub First : {A : Type 0} → A → A → List Row → Said A → Type 0
First z v rows s = (u : Verdict) × Found rows u × (s ≡ telled z v u)

-- 1: image not sound
abbrev pub Unsound : Image → Type 0
Unsound img = Sound img → ⊥

-- 2: P or S out of range, where S is at most m, or length wrong
pub data WrongSize (m P S n : ℕ) : Type 0 where
  no_partition : P ≡ 0 → WrongSize m P S n
  many_partitions : most_partitions < P → WrongSize m P S n
  no_slot : S ≡ 0 → WrongSize m P S n
  many_slots : m < S → WrongSize m P S n
  wrong_length : n ≢ size P S → WrongSize m P S n

-- 6: 0 or over 32 operations
abbrev pub WrongCount : ℕ → Type 0
WrongCount n = (n ≡ 0) ⊎ (most_operations < n)

-- 7: partition, slot, field, root or handle number too large
abbrev pub TooLarge : ℕ → ℕ → Name → Type 0
TooLarge P S n = (P ≤ n.partition.0) ⊎ (S ≤ n.slot.0)

abbrev pub TargetTooLarge : ℕ → ℕ → Target → Type 0
TargetTooLarge P S None = ⊥
TargetTooLarge P S (Some q) = TooLarge P S q

-- 8 and 9: slot in use, object not in use
abbrev pub InUse : ℕ → Image → Name → Type 0
InUse S img n = get img (state (place S n)) ≢ 0

abbrev pub NotInUse : ℕ → Image → Name → Type 0
NotInUse S img n = get img (state (place S n)) ≡ 0

abbrev pub TargetNotInUse : ℕ → Image → Target → Type 0
TargetNotInUse S img None = ⊥
TargetNotInUse S img (Some q) = NotInUse S img q

-- 10 and 11: phase not open, already open
abbrev pub NotOpen : Image → Type 0
NotOpen img = get img phase ≢ 1

abbrev pub AlreadyOpen : Image → Type 0
AlreadyOpen img = get img phase ≡ 1

-- 12: no root in use (handles are not looked at)
abbrev pub NoRoot : Image → Type 0
NoRoot img = (r : ℕ) → r < roots → get img (root r) ≡ 0

-- 13: partition to trace is clean
abbrev pub Clean : Image → ℕ → Type 0
Clean img p = get img (flag p) ≢ 0

-- 14: a partition is not clean, and p is the lowest
pub record Lowest (img : Image) (p : ℕ) : Type 0 where
  pub within : p < get img partitions
  pub not_clean_lem : get img (flag p) ≡ 0
  pub clean_below : (q : ℕ) → q < p → Clean img q

-- 15: count equals allowance
abbrev pub Spent : Image → Type 0
Spent img = get img count ≡ get img allowance

-- 16: a root, a handle or a marked object refers to an unmarked one (an anchor is a root or a handle)
pub data Live (img : Image) : Key → Type 0 where
  an_anchor : {a : ℕ} → a < anchors → Live img (anchor a)
  a_field : {j k : ℕ} → j < get img partitions * get img slots → get img (state j) ≡ 2 → k < fields → Live img (field j k)

pub record Astray (img : Image) : Type 0 where
  pub holder : Key
  pub live : Live img holder
  pub some : get img holder ≢ 0
  pub unmarked : get img (state (place_of (get img slots) (get img holder))) ≢ 2

-- 17: record doesn't fit from the named place, or the place is past the end
abbrev pub NoRoom : List ℕ → ℕ → List ℕ → Type 0
NoRoom bytes at log = length log < at + length bytes

-- 18: no root or handle leads to the object
abbrev pub Unheld : Image → Name → Type 0
Unheld img n = Leads (get img slots) img (place (get img slots) n) → ⊥

-- 19: fewer words lent than the foremost chain needs, 2k + 1 for its k references
pub record Narrow (img : Image) (n : Name) (words : List ℕ) : Type 0 where
  pub chain : Chain
  pub foremost : Foremost (get img slots) img (place (get img slots) n) chain
  pub few : length words < 2 * length chain.fields + 1

-- FORMAT 2, 17
abbrev pub format_rows : Image → ℕ → ℕ → List ℕ → ℕ → List Row
format_rows img P S log at = given 2 0 (WrongSize most_slots P S (length_of img)) ∷ given 17 0 (NoRoom (heading_of (newest P S)) at log) ∷ []

-- one operation at position e: 7 for all its numbers, then 8 or 9, set's holder before its target
abbrev pub operation_rows : ℕ → ℕ → Image → ℕ → Operation → List Row
operation_rows P S img e (New n v) = given 7 e (TooLarge P S n) ∷ given 8 e (InUse S img n) ∷ []
operation_rows P S img e (Set n k t) =
    given 7 e (TooLarge P S n ⊎ ((fields ≤ k) ⊎ TargetTooLarge P S t)) ∷ given 9 e (NotInUse S img n) ∷ given 9 e (TargetNotInUse S img t) ∷ []
operation_rows P S img e (Val n v) = given 7 e (TooLarge P S n) ∷ given 9 e (NotInUse S img n) ∷ []
operation_rows P S img e (Root r t) = given 7 e ((roots ≤ r) ⊎ TargetTooLarge P S t) ∷ given 9 e (TargetNotInUse S img t) ∷ []

-- each operation in turn, on the image after the earlier ones
abbrev pub operations_rows : ℕ → ℕ → Image → ℕ → List Operation → List Row
operations_rows P S img e [] = []
operations_rows P S img e (o ∷ os) = operation_rows P S img e o ++ operations_rows P S (perform S img o) (e + 1) os

-- an act's own list, in its call as in recovery: each operation in turn; OPEN 11, 12; TRACE 10, 7, 13, 15;
-- CLOSE 10, 12, 14, 16, with 14 the lowest partition that is not clean; LOCAL 7, 12; HOLD 7 for all its numbers, 9; DROP 7
abbrev pub act_rows : Image → Act → List Row
act_rows img (commit os) = operations_rows (get img partitions) (get img slots) img 1 os
act_rows img (single Open) = given 11 0 (AlreadyOpen img) ∷ given 12 0 (NoRoot img) ∷ []
act_rows img (single (Trace p)) =
    given 10 0 (NotOpen img) ∷ given 7 0 (get img partitions ≤ p.0) ∷ given 13 0 (Clean img p.0) ∷ given 15 0 (Spent img) ∷ []
act_rows img (single Close) = given 10 0 (NotOpen img) ∷ given 12 0 (NoRoot img) ∷ telling 14 (Lowest img) ∷ given 16 0 (Astray img) ∷ []
act_rows img (single (Local p)) = given 7 0 (get img partitions ≤ p.0) ∷ given 12 0 (NoRoot img) ∷ []
act_rows img (single (Hold h n)) =
    given 7 0 ((handles ≤ h.0) ⊎ TooLarge (get img partitions) (get img slots) n) ∷ given 9 0 (NotInUse (get img slots) img n) ∷ []
act_rows img (single (Drop h)) = given 7 0 (handles ≤ h.0) ∷ []

-- an act whose record is a single line (OPEN, TRACE, CLOSE, LOCAL, HOLD, DROP): 1, its own list, 17
abbrev pub call_rows : Image → Act → List ℕ → ℕ → List Row
call_rows img a log at = given 1 0 (Unsound img) ∷ (act_rows img a ++ (given 17 0 (NoRoom (record_of a) at log) ∷ []))

-- COMMIT of so many operations: 1, 6, the act's own list, 17
abbrev pub commit_rows : Image → List Operation → List ℕ → ℕ → List Row
commit_rows img ops log at =
    given 1 0 (Unsound img) ∷ given 6 0 (WrongCount (length ops)) ∷ (act_rows img (commit ops) ++ (given 17 0 (NoRoom (record_of (commit ops)) at log) ∷ []))

-- OUTLIST 1, 7
abbrev pub outlist_rows : Image → ℕ → List Row
outlist_rows img p = given 1 0 (Unsound img) ∷ given 7 0 (get img partitions ≤ p) ∷ []

-- READ and ASK 1, 7, 9
abbrev pub object_rows : Image → Name → List Row
object_rows img n =
    given 1 0 (Unsound img) ∷ given 7 0 (TooLarge (get img partitions) (get img slots) n) ∷ given 9 0 (NotInUse (get img slots) img n) ∷ []

-- WHY 1, 7, 9, 18, 19
abbrev pub why_rows : Image → Name → List ℕ → List Row
why_rows img n words = object_rows img n ++ (given 18 0 (Unheld img n) ∷ given 19 0 (Narrow img n words) ∷ [])

-- and what it says, accepted: of the foremost chain that holds an object in use, the root or the handle that it starts from, and the number of its references
abbrev pub OfForemost : Image → Name → Chained → Type 0
OfForemost img n v =
    Present img n → (c : Chain) → Foremost (get img slots) img (place (get img slots) n) c → v ≡ (said_reason (held_from (start_of c.start) (length c.fields))).value
