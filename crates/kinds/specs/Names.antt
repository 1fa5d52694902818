-- Names, and references as words: 0 is nothing, M·p + s + 1 the object in slot s of partition p, for a multiplier M above every slot number.
use Rattle.std.specs.Prelude.{ℕ, ◌+◌, ◌-◌, ◌*◌, ◌/◌, ◌%◌, ◌<◌, cond, eqb, Option, None, Some}
use Rattle.kinds.specs.declared.Partition.{Partition}
use Rattle.kinds.specs.declared.Name.{Name}
use Rattle.kinds.specs.declared.Handle.{Handle}

-- what a field, a root or a handle holds
abbrev pub Target : Type 0
Target = Option Name

-- the limits: partitions, slots of each, slots of all, roots, session handles, fields of an object, names of an outlist, operations of a commit
abbrev pub most_partitions : ℕ
most_partitions = 16

abbrev pub most_slots : ℕ
most_slots = 128

abbrev pub most_places : ℕ
most_places = most_partitions * most_slots

abbrev pub roots : ℕ
roots = 16

abbrev pub handles : ℕ
handles = 32

abbrev pub fields : ℕ
fields = 4

abbrev pub most_names : ℕ
most_names = fields * most_slots

abbrev pub most_operations : ℕ
most_operations = 32

-- the multiplier of a reference word
abbrev pub radix : ℕ
radix = 128

-- partition p, slot s of it, and session handle h
abbrev pub partition : ℕ → Partition
partition p = record { 0 = p }

abbrev pub named : ℕ → ℕ → Name
named p s = record { partition = partition p; slot = record { 0 = s } }

abbrev pub session : ℕ → Handle
session h = record { 0 = h }

-- the word of a target at multiplier M
abbrev pub word_at : ℕ → Target → ℕ
word_at M None = 0
word_at M (Some n) = n.partition.0 * M + n.slot.0 + 1

-- the target of a word at multiplier M
abbrev pub target_at : ℕ → ℕ → Target
target_at M w = cond (eqb w 0) None (Some (named ((w - 1) / M) ((w - 1) % M)))

-- the words of the image
unfoldable pub word_of : Target → ℕ
word_of t = word_at radix t

unfoldable pub target_of : ℕ → Target
target_of w = target_at radix w

-- a target in a heap of at most m slots a partition
abbrev pub NamedBelow : ℕ → Target → Type 0
NamedBelow m None = Unit {0}
NamedBelow m (Some n) = (n.partition.0 < most_partitions) × (n.slot.0 < m)

-- a target whose numbers are within the limits, so that its word fits 32 bits
abbrev pub Named : Target → Type 0
Named t = NamedBelow most_slots t
