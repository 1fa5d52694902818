-- What each answer says: the paper's number (0 is accepted), its extra answer, and the values beside them.
use Rattle.std.specs.Prelude.{ℕ, Bool, true, false, Result, Ok, Err}
use Rattle.kinds.specs.declared.Record.{Record}
use Rattle.kinds.specs.declared.Outlist.{Outlist}
use Rattle.kinds.specs.declared.Refusal.{Refusal}
use Rattle.kinds.specs.declared.Start.TheVariants.{Root, Handle}
use Rattle.kinds.specs.declared.Start.{Start}
use Rattle.kinds.specs.Answers.{Reason, Verdict, blank_record, no_names}
use Rattle.catalogue.specs.declared.Closed.{Closed}
use Rattle.catalogue.specs.declared.Freed.{Freed}

-- a call's answer: the length of its record; and also the traces counted and the number freed; or the number freed alone
abbrev pub Answer : Type 0
Answer = Result ℕ Refusal

abbrev pub Closing : Type 0
Closing = Result Closed Refusal

abbrev pub Freeing : Type 0
Freeing = Result Freed Refusal

-- a question's answer
abbrev pub Reading : Type 0
Reading = Result Record Refusal

abbrev pub Listing : Type 0
Listing = Result Outlist Refusal

abbrev pub Asked : Type 0
Asked = Result Bool Refusal

-- what each says in numbers
pub record Said (A : Type 0) : Type 0 where
  pub number : ℕ
  pub extra : ℕ
  pub value : A

module _ {A : Type 0} where
  abbrev pub accepted : A → Said A
  accepted v = record { number = 0; extra = 0; value = v }

  abbrev pub refused_with : A → Refusal → Said A
  refused_with v r = record { number = r.number; extra = r.extra; value = v }

  -- of a value that stands beside a verdict
  abbrev pub said_verdict : Verdict → A → Said A
  said_verdict (Ok _) v = accepted v
  said_verdict (Err r) v = refused_with v r

-- format, commit, open, trace, hold, drop: the record's length; refused: 0
abbrev pub said : Answer → Said ℕ
said (Ok n) = accepted n
said (Err r) = refused_with 0 r

-- close: the record's length, the traces counted, the number freed; refused: zeros
abbrev pub totals : ℕ → ℕ → ℕ → Closed
totals n c f = record { length = n; count = c; freed = f }

abbrev pub said_closing : Closing → Said Closed
said_closing (Ok t) = accepted t
said_closing (Err r) = refused_with (totals 0 0 0) r

-- local: the record's length, the number freed; refused: zeros
abbrev pub yield : ℕ → ℕ → Freed
yield n f = record { length = n; freed = f }

abbrev pub said_freeing : Freeing → Said Freed
said_freeing (Ok y) = accepted y
said_freeing (Err r) = refused_with (yield 0 0) r

-- read: the object's record; refused: payload 0 and four nothings
abbrev pub said_reading : Reading → Said Record
said_reading (Ok r) = accepted r
said_reading (Err r) = refused_with blank_record r

-- outlist: the partition's outlist; refused: number 0, and a zero for each name
abbrev pub said_listing : Listing → Said Outlist
said_listing (Ok o) = accepted o
said_listing (Err r) = refused_with no_names r

-- ask: yes or no; refused: no
abbrev pub said_asked : Asked → Said Bool
said_asked (Ok b) = accepted b
said_asked (Err r) = refused_with false r

-- why: whether the chain starts from a handle (else from a root), the number of that, and the number of references; refused: a root, zeros
pub record Chained : Type 0 where
  pub handle : Bool
  pub start : ℕ
  pub references : ℕ

abbrev pub chained : Bool → ℕ → ℕ → Chained
chained h s k = record { handle = h; start = s; references = k }

abbrev pub chained_from : Start → ℕ → Chained
chained_from (Root r) k = chained false r k
chained_from (Handle h) k = chained true h.0 k

abbrev pub said_reason : Reason → Said Chained
said_reason (Ok h) = accepted (chained_from h.start h.references)
said_reason (Err r) = refused_with (chained false 0 0) r
