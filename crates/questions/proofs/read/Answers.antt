-- `questions::read` meets its contract. Assumes nothing.
use Rattle.questions.proofs.Reading.{has_payload, has_field, made}
use Rattle.model.specs.Questions.{read_of}
use mathlib.Core.Path.{◌∙◌, ap}
use native.Mathlib.Omega.{arith}
use Rattle.questions.proofs.read.Goals as goal

pub payload_at-payload-requires : goal.payload_at-payload-requires
payload_at-payload-requires c = has_payload c.requires.1 c.place-j.ensures c.requires.2

pub field_at-a-requires : goal.field_at-a-requires
field_at-a-requires c = has_field c.requires.1 c.place-j.ensures c.requires.2 _ (omega arith)

pub field_at-b-requires : goal.field_at-b-requires
field_at-b-requires c = has_field c.requires.1 c.place-j.ensures c.requires.2 _ (omega arith)

pub field_at-c-requires : goal.field_at-c-requires
field_at-c-requires c = has_field c.requires.1 c.place-j.ensures c.requires.2 _ (omega arith)

pub field_at-d-requires : goal.field_at-d-requires
field_at-d-requires c = has_field c.requires.1 c.place-j.ensures c.requires.2 _ (omega arith)

pub returns : goal.returns
returns c =
    made _ _ _ _ c.payload_at-payload.ensures
    (rw (c.field_at-a.ensures, c.field_at-b.ensures, c.field_at-c.ensures, c.field_at-d.ensures)) ∙ ap (read_of _) c.place-j.ensures
