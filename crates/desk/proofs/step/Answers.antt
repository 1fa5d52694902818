-- `desk::step` meets its contract. Assumes nothing.
use mathlib.Core.Path.{ap}
use Rattle.catalogue.specs.Call.{outcome}
use Rattle.desk.specs.Desk.{Put, Lending, turn, answered, after_deed, turn_of}
use Rattle.desk.proofs.step.Goals as goal

pub returns-in-Nothing : goal.returns-in-Nothing
unfolding turn_of
returns-in-Nothing c =
    rw (c.in-Nothing.is, c.says.ensures)

pub returns-in-What : goal.returns-in-What
unfolding turn_of
returns-in-What c =
    rw (c.in-What.is, c.says-in-What.ensures)

pub returns-in-Image : goal.returns-in-Image
unfolding turn_of
returns-in-Image c =
    rw c.in-Image.is (ap (λ (l : Lending). outcome l.turn l.list c.args.log.now) c.lend_words.ensures)

pub returns-in-Buffer : goal.returns-in-Buffer
unfolding turn_of
returns-in-Buffer c =
    rw c.in-Buffer.is (ap (λ (l : Lending). outcome l.turn c.args.img.now l.list) c.lend_bytes.ensures)

pub returns-in-Bytes : goal.returns-in-Bytes
unfolding turn_of
returns-in-Bytes c =
    let a = c.args in
    rw (c.in-Bytes.is, c.says-in-Bytes.ensures) (ap (λ (p : Put). outcome (turn a.d p.said) a.img.now p.list) c.bytes_on.ensures)

pub returns-in-Wait : goal.returns-in-Wait
unfolding turn_of
returns-in-Wait c =
    rw (c.in-Wait.is, c.waiting.ensures)

pub returns-in-Deed : goal.returns-in-Deed
unfolding turn_of
returns-in-Deed c =
    rw (c.in-Deed.is, c.says-in-Deed.ensures, c.after.ensures)
    (ap (answered (turn (after_deed c.in-Deed.x c.args.d))) c.deed_on.ensures)
