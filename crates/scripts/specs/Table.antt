-- The keywords of the script's commands, how many numbers follow each, and what it asks for.
use Rattle.std.specs.Prelude.{ℕ, ◌+◌, Option, None, Some, List, [], ◌∷◌}
use Rattle.kinds.specs.Names.{named, partition}
use Rattle.lines.specs.declared.line.Line.{Line}
use Rattle.lines.specs.declared.line.Line.TheVariants.{Heading, Operation, End, Single, Bad}
use Rattle.lines.specs.Words.{Row, row, of_row, all_rows, following, line_by}
use Rattle.scripts.specs.declared.order.Look.TheVariants.{Read, Ask, Outlist, Digest, Show, Log, Help}
use Rattle.scripts.specs.declared.order.Deed.TheVariants.{Word, Format, Commit, Recover, Look}
use Rattle.scripts.specs.declared.order.Order.{Order}
use Rattle.scripts.specs.declared.order.Order.TheVariants.{Image, Buffer, Deed}

-- the bytes of each keyword that is none of the log's
abbrev pub image_text : List ℕ
image_text = 105 ∷ 109 ∷ 97 ∷ 103 ∷ 101 ∷ []

abbrev pub word_text : List ℕ
word_text = 119 ∷ 111 ∷ 114 ∷ 100 ∷ []

abbrev pub buffer_text : List ℕ
buffer_text = 98 ∷ 117 ∷ 102 ∷ 102 ∷ 101 ∷ 114 ∷ []

abbrev pub format_text : List ℕ
format_text = 102 ∷ 111 ∷ 114 ∷ 109 ∷ 97 ∷ 116 ∷ []

abbrev pub commit_text : List ℕ
commit_text = 99 ∷ 111 ∷ 109 ∷ 109 ∷ 105 ∷ 116 ∷ []

abbrev pub read_text : List ℕ
read_text = 114 ∷ 101 ∷ 97 ∷ 100 ∷ []

abbrev pub ask_text : List ℕ
ask_text = 97 ∷ 115 ∷ 107 ∷ []

abbrev pub outlist_text : List ℕ
outlist_text = 111 ∷ 117 ∷ 116 ∷ 108 ∷ 105 ∷ 115 ∷ 116 ∷ []

abbrev pub recover_text : List ℕ
recover_text = 114 ∷ 101 ∷ 99 ∷ 111 ∷ 118 ∷ 101 ∷ 114 ∷ []

abbrev pub digest_text : List ℕ
digest_text = 100 ∷ 105 ∷ 103 ∷ 101 ∷ 115 ∷ 116 ∷ []

abbrev pub show_text : List ℕ
show_text = 115 ∷ 104 ∷ 111 ∷ 119 ∷ []

abbrev pub log_text : List ℕ
log_text = 108 ∷ 111 ∷ 103 ∷ []

abbrev pub help_text : List ℕ
help_text = 104 ∷ 101 ∷ 108 ∷ 112 ∷ []

-- the commands that are none of the log's lines; `bytes`, which any number may follow, stands apart
unfoldable pub rows : List (Row Order)
rows =
    row image_text 1 (λ a b c d e. Image e)
    ∷ row word_text 2 (λ a b c d e. Deed (Word d e))
    ∷ row buffer_text 1 (λ a b c d e. Buffer e)
    ∷ row format_text 3 (λ a b c d e. Deed (Format c d e))
    ∷ row commit_text 1 (λ a b c d e. Deed (Commit e))
    ∷ row read_text 2 (λ a b c d e. Deed (Look (Read (named d e))))
    ∷ row ask_text 2 (λ a b c d e. Deed (Look (Ask (named d e))))
    ∷ row outlist_text 1 (λ a b c d e. Deed (Look (Outlist (partition e))))
    ∷ row recover_text 1 (λ a b c d e. Deed (Recover e))
    ∷ row digest_text 0 (λ a b c d e. Deed (Look Digest))
    ∷ row show_text 0 (λ a b c d e. Deed (Look Show))
    ∷ row log_text 1 (λ a b c d e. Deed (Look (Log e)))
    ∷ row help_text 0 (λ a b c d e. Deed (Look Help))
    ∷ []

-- `bytes`
abbrev pub bytes_text : List ℕ
bytes_text = 98 ∷ 121 ∷ 116 ∷ 101 ∷ 115 ∷ []

-- of a line of the log that n numbers follow: a command names an operation by the same words, an act that is a single line with its place behind them, and no other line
abbrev pub named_by : Line → ℕ → Option ℕ
named_by (Heading e p s) n = None
named_by (Operation o) n = Some n
named_by (End k) n = None
named_by (Single a) n = Some (n + 1)
named_by Bad n = None

-- how many numbers follow a keyword; none of what is no keyword
unfoldable pub takes : ℕ → Option ℕ
takes w = of_row (λ r. Some r.numbers) (named_by (line_by all_rows w 0 0 0 0 0) (following all_rows w)) rows w
