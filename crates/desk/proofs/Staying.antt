-- No line lends more words and bytes than there are, and at most one more operation waits after it; and lines that only look, or that let an
-- operation wait, leave image and log buffer as they are.
-- Assumes nothing.
use Prim.Native.Nat.{ℕ, ◌+◌, ◌≤◌}
use native.Mathlib.Omega.{arith}
use mathlib.Core.Path.{◌≡◌, refl, sym, subst}
use mathlib.Core.Bool.{Bool, true, false, cond}
use mathlib.Core.List.{List, ◌++◌}
use lib.Dec.{leb}
use lib.ListN.{length, drop, replicate, take-append-drop}
use borrow.Author.Tests.{leb-true}
use Rattle.kinds.specs.declared.Operation.{Operation}
use Rattle.scripts.specs.declared.order.Look.{Look as A_look}
use Rattle.scripts.specs.declared.order.Deed.{Deed as A-deed}
use Rattle.scripts.specs.declared.order.Deed.TheVariants.{Look}
use Rattle.scripts.specs.declared.order.Order.{Order}
use Rattle.scripts.specs.declared.order.Order.TheVariants.{Nothing, What, Image, Buffer, Bytes, Wait, Deed}
use Rattle.catalogue.specs.Call.{Outcome, outcome}
use Rattle.desk.specs.declared.Desk.{Desk}
use Rattle.desk.specs.declared.Turn.{Turn}
use Rattle.desk.specs.Desk.{Lent, desk, turn, lending, is_commit, after_deed, lend_first, turn_of}
use Rattle.desk.specs.declared.Response.TheVariants.{Ok as Fine, What as Asked}

pub record Stays (d e : Desk) (img log : List ℕ) : Type 0 where
  pub words : e.words ≤ length img
  pub bytes : e.bytes ≤ length log
  pub waits : e.waits ≤ d.waits + 1

module _ (line : List ℕ) (d : Desk) (ops : List Operation) (img log : List ℕ) (l : Lent d img log) where
  itself : Stays d d img log
  itself = record { words = l.words; bytes = l.bytes; waits = omega arith }

  lent : (n x : ℕ) (e : Desk) (xs : List ℕ) → (n ≤ length xs → Stays d e img log) → Stays d (lend_first n x d e xs).turn.desk img log
  unfolding lend_first
  lent n x e xs h = go (leb n (length xs)) refl
    where
      go : (b : Bool) → leb n (length xs) ≡ b → Stays d (cond b (lending (turn e Fine) (replicate n x ++ drop n xs)) (lending (turn d Asked) xs)).turn.desk img log
      go true q = h (leb-true n (length xs) q)
      go false q = itself

  committed : (x : A-deed) → Stays d (after_deed x d) img log
  unfolding after_deed
  committed x = go (is_commit x)
    where
      go : (b : Bool) → Stays d (cond b (desk d.words d.bytes 0) d) img log
      go true = record { words = l.words; bytes = l.bytes; waits = omega arith }
      go false = itself

  stays : (o : Order) → Stays d (turn_of o line d ops img log).answer.desk img log
  unfolding turn_of
  stays Nothing = itself
  stays What = itself
  stays (Image n) = lent n 0 (desk n d.bytes d.waits) img (λ h. record { words = h; bytes = l.bytes; waits = omega arith })
  stays (Buffer n) = lent n 46 (desk d.words n d.waits) log (λ h. record { words = l.words; bytes = h; waits = omega arith })
  stays (Bytes from) = itself
  stays (Wait o) = record { words = l.words; bytes = l.bytes; waits = omega arith }
  stays (Deed x) = committed x

  pub step_stays : (o : Order) (t : Turn) (img' log' : List ℕ) → outcome t img' log' ≡ turn_of o line d ops img log → Stays d t.desk img log
  step_stays o t img' log' q = subst (λ (r : Outcome Turn). Stays d r.answer.desk img log) (sym q) (stays o)

-- what only looks, waits, or is no command
pub data Leaving : Order → Type 0 where
  nothing : Leaving Nothing
  what : Leaving What
  waits : {o : Operation} → Leaving (Wait o)
  looks : {l : A_look} → Leaving (Deed (Look l))

pub leaves : (o : Order) → Leaving o → (line : List ℕ) (d : Desk) (ops : List Operation) (img log : List ℕ)
    → ((turn_of o line d ops img log).image ≡ img) × ((turn_of o line d ops img log).log ≡ log)
unfolding turn_of
leaves Nothing nothing line d ops img log = (refl, refl)
leaves What what line d ops img log = (refl, refl)
leaves (Wait o) waits line d ops img log = (refl, refl)
leaves (Deed (Look l)) looks line d ops img log = (take-append-drop d.words img, take-append-drop d.bytes log)
leaves (Image _) x'' line d ops img log = elim x'' [ ]
leaves (Buffer _) x3 line d ops img log = elim x3 [ ]
leaves (Bytes _) x4 line d ops img log = elim x4 [ ]
leaves (Deed (Rattle.scripts.specs.declared.order.Deed.TheVariants.Word _ _)) x8 line d ops img log = elim x8 [ ]
leaves (Deed (Rattle.scripts.specs.declared.order.Deed.TheVariants.Format _ _ _)) x10 line d ops img log = elim x10 [ ]
leaves (Deed (Rattle.scripts.specs.declared.order.Deed.TheVariants.Commit _)) x9 line d ops img log = elim x9 [ ]
leaves (Deed (Rattle.scripts.specs.declared.order.Deed.TheVariants.Single _ _)) x11 line d ops img log = elim x11 [ ]
leaves (Deed (Rattle.scripts.specs.declared.order.Deed.TheVariants.Recover _)) x11 line d ops img log = elim x11 [ ]
