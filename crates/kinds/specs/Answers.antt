-- Answers: refusals, and the record and the outlist of a refusal.
use Rattle.std.specs.Prelude.{ℕ, [], ◌∷◌, replicate, Result, Ok, Err, None}
use Rattle.kinds.specs.Names.{most_names}
use Rattle.kinds.specs.declared.Field.{Field}
use Rattle.kinds.specs.declared.Record.{Record}
use Rattle.kinds.specs.declared.Outlist.{Outlist}
use Rattle.kinds.specs.declared.Refusal.{Refusal}
use Rattle.kinds.specs.declared.Held.{Held}
use Rattle.kinds.specs.declared.Start.{Start}

-- accepted, or why not
abbrev pub Verdict : Type 0
Verdict = Result (Unit {0}) Refusal

abbrev pub allowed : Verdict
allowed = Ok tt

-- what holds an object, or the refusal
abbrev pub Reason : Type 0
Reason = Result Held Refusal

-- held by a chain of so many references from a root or a handle
abbrev pub held_from : Start → ℕ → Reason
held_from s k = Ok (record { start = s; references = k })

-- refused with a number of the paper's table, and its extra answer
abbrev pub refuse : ℕ → ℕ → Verdict
refuse n e = Err (record { number = n; extra = e })

-- payload 0 and four nothings
abbrev pub blank_field : Field
blank_field = record { target = None }

abbrev pub blank_record : Record
blank_record = record { payload = 0; fields = blank_field ∷ blank_field ∷ blank_field ∷ blank_field ∷ [] }

-- number 0, and zeros
abbrev pub no_names : Outlist
no_names = record { number = 0; names = replicate most_names 0 }
