-- `scripts::table::takes` meets its contract. Assumes nothing.
use Prim.Native.Nat.{ℕ}
use mathlib.Core.Path.{refl}
use mathlib.Core.List.{List, [], ◌∷◌}
use Rattle.lines.specs.Words.{is_in, heading_rows, other_rows, all_rows, following, new_text, set_text, clr_text, val_text, root_text, unroot_text, open_text, trace_text, close_text, local_text, hold_text, drop_text}
use Rattle.lines.proofs.Parts.{keys, codes}
use Rattle.scripts.specs.Table.{rows, takes, image_text, word_text, buffer_text, format_text, commit_text, read_text, ask_text, outlist_text, recover_text, digest_text, show_text, log_text, help_text}
use Rattle.scripts.proofs.Rows.{takes_one, takes_rest}
use Rattle.scripts.proofs.table.takes.Goals as goal

-- the arms' keys: those that take 0, 1, 2, 3, 4 and 5 numbers
abbrev arm0 : List ℕ
arm0 = codes (help_text ∷ show_text ∷ digest_text ∷ [])

abbrev arm1 : List ℕ
arm1 = codes (log_text ∷ open_text ∷ close_text ∷ image_text ∷ buffer_text ∷ commit_text ∷ unroot_text ∷ outlist_text ∷ recover_text ∷ [])

abbrev arm2 : List ℕ
arm2 = codes (ask_text ∷ drop_text ∷ read_text ∷ word_text ∷ local_text ∷ trace_text ∷ [])

abbrev arm3 : List ℕ
arm3 = codes (clr_text ∷ new_text ∷ val_text ∷ root_text ∷ format_text ∷ [])

abbrev arm4 : List ℕ
arm4 = codes (hold_text ∷ [])

abbrev arm5 : List ℕ
arm5 = codes (set_text ∷ [])

pub returns-in-110403869045620 : goal.returns-in-110403869045620
unfolding takes rows following all_rows heading_rows other_rows
returns-in-110403869045620 c =
    takes_one 0 arm0 c.args.w refl c.in-110403869045620.is

pub returns-in-452806666085 : goal.returns-in-452806666085
unfolding takes rows following all_rows heading_rows other_rows
returns-in-452806666085 c =
    takes_one 1 arm1 c.args.w refl c.in-452806666085.is

pub returns-in-2003792484 : goal.returns-in-2003792484
unfolding takes rows following all_rows heading_rows other_rows
returns-in-2003792484 c =
    takes_one 2 arm2 c.args.w refl c.in-2003792484.is

pub returns-in-112628847174004 : goal.returns-in-112628847174004
unfolding takes rows following all_rows heading_rows other_rows
returns-in-112628847174004 c =
    takes_one 3 arm3 c.args.w refl c.in-112628847174004.is

pub returns-in-1752132708 : goal.returns-in-1752132708
unfolding takes rows following all_rows heading_rows other_rows
returns-in-1752132708 c =
    takes_one 4 arm4 c.args.w refl c.in-1752132708.is

pub returns-in-7562612 : goal.returns-in-7562612
unfolding takes rows following all_rows heading_rows other_rows
returns-in-7562612 c =
    takes_one 5 arm5 c.args.w refl c.in-7562612.is

pub returns-in_default : goal.returns-in_default
unfolding keys takes rows is_in following all_rows heading_rows other_rows
returns-in_default c =
    takes_rest (arm5 ∷ arm4 ∷ arm3 ∷ arm2 ∷ arm1 ∷ arm0 ∷ []) c.args.w refl refl c.in_default.in_default-own.rest
