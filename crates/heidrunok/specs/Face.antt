-- The calls as C sees them: answers said in numbers (catalogue/specs/Answers.antt), operations and fields as words.
use Rattle.std.specs.Prelude.{ℕ, cond, List, map, eqb, get_or}
use Rattle.kinds.specs.Names.{named, roots, target_of}
use Rattle.kinds.specs.declared.Field.{Field}
use Rattle.kinds.specs.declared.Record.{Record}
use Rattle.kinds.specs.declared.Outlist.{Outlist}
use Rattle.std.specs.Prelude.{None, Some}
use Rattle.kinds.specs.declared.Operation.{Operation}
use Rattle.kinds.specs.declared.Operation.TheVariants.{New, Set, Val, Root}
use Rattle.model.specs.Image.{Image}
use Rattle.holding.specs.Finding.{Explained, explained}
use Rattle.journal.specs.Recover.{Recovered, byte_of}
use Rattle.catalogue.specs.Answers.{Answer}
use Rattle.catalogue.specs.Answers.{Said, said_verdict}
use Rattle.catalogue.specs.Call.{Outcome, outcome, commit_of}

-- what C is told: the paper's number, its extra answer, and the value beside them
module _ {A : Type 0} where
  abbrev pub told : ℕ → ℕ → A → Said A
  told n e v = record { number = n; extra = e; value = v }

-- what a logged call answers and leaves, with the answer said so
module _ {A B : Type 0} where
  abbrev pub seen : (A → B) → Outcome A → Outcome B
  seen say o = outcome (say o.answer) o.image o.log

  -- what a call answers and leaves in the lent words, likewise
  abbrev pub seen_words : (A → B) → Explained A → Explained B
  seen_words say o = explained (say o.answer) o.words

-- what recovery answers and leaves beside the number and the line: the kept length, the byte within the line, and the image
pub record Restored : Type 0 where
  pub kept : ℕ
  pub byte : ℕ
  pub image : Image

abbrev pub restored : ℕ → ℕ → Image → Restored
restored k b y = record { kept = k; byte = b; image = y }

-- a verdict beside it, and so what recovery says of a log
abbrev pub said_recovered : List ℕ → Recovered → Said Restored
said_recovered log x = said_verdict x.verdict (restored x.kept (byte_of log x.verdict) x.image)

-- an operation by its kind (1 new, 2 set, 3 clr, 4 val, 5 root, 6 unroot) and five numbers; any other kind names a root that there is not
unfoldable pub operation_by : ℕ → ℕ → ℕ → ℕ → ℕ → ℕ → Operation
operation_by kind a b c d e =
    cond (eqb kind 1) (New (named a b) c)
    (cond (eqb kind 2) (Set (named a b) c (Some (named d e)))
    (cond (eqb kind 3) (Set (named a b) c None)
    (cond (eqb kind 4) (Val (named a b) c)
    (cond (eqb kind 5) (Root a (Some (named b c))) (cond (eqb kind 6) (Root a None) (Root roots None))))))

-- the operation that six words are
unfoldable pub operation_of : List ℕ → Operation
operation_of w = operation_by (get_or w 0 0) (get_or w 1 0) (get_or w 2 0) (get_or w 3 0) (get_or w 4 0) (get_or w 5 0)

-- the commit of the operations that the words are
abbrev pub commit_by : Image → List (List ℕ) → List ℕ → ℕ → Outcome Answer
commit_by img ws log at = commit_of img (map operation_of ws) log at

-- the field that a word is
abbrev pub field_of : ℕ → Field
field_of w = record { target = target_of w }

-- the record whose payload and words of fields these are
abbrev pub record_of : ℕ → List ℕ → Record
record_of v ws = record { payload = v; fields = map field_of ws }

-- the outlist of so many names, and these words
abbrev pub outlist_of : ℕ → List ℕ → Outlist
outlist_of n ws = record { number = n; names = ws }
