-- How long a script and its buffer are, and what is lent before the first line.
use Rattle.std.specs.Prelude.{ℕ, ◌≤◌, ◌≡◌}
use Rattle.desk.specs.declared.Desk.{Desk}
use Rattle.reporting.specs.Report.{most_words}

-- the most bytes of a script
abbrev pub most : ℕ
most = 1048576

-- the bytes of its buffer
abbrev pub room : ℕ
room = 1048577

-- no more is lent than there is, and nothing waits
pub record Begun (d : Desk) : Type 0 where
  pub words : d.words ≤ most_words
  pub bytes : d.bytes ≤ 65536
  pub waits : d.waits ≡ 0
