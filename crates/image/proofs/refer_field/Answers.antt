-- `image::refer_field` meets its contract. Assumes nothing.
use native.Mathlib.Omega.{arith}
use Rattle.model.specs.Image.{field, Has}
use Rattle.image.proofs.Within.{has_word}
use Rattle.image.proofs.Counts.{loses, gains, referred}
use Rattle.image.proofs.refer_field.Goals as goal
use Rattle.image.proofs.refer_field.Goals.{Start}

had : (c : Start) → Has c.args.img.now (field c.args.j c.args.k)
had c = has_word _ _ _ c.requires.within (field c.args.j c.args.k) (c.requires.j_bound.0, c.requires.j_bound.1)

pub field_at-old-requires : goal.field_at-old-requires
field_at-old-requires c = had (goal.at.field_at-old-requires c).Start

pub lose-requires : goal.lose-requires
lose-requires c =
    rw c.field_at-old.ensures (loses c.requires.within _ _ c.requires.j_bound.0 c.requires.j_bound.1)

pub gain-requires : goal.gain-requires
gain-requires c =
    gains c.requires.within _ _ c.requires.j_bound.0 c.requires.j_bound.1 _ c.requires.j_bound.2 _ (rw (← c.field_at-old.ensures) c.lose.ensures)

pub put_field-requires : goal.put_field-requires
unfolding Has
put_field-requires c = omega (arith, had (goal.at.put_field-requires c).Start, c.gain.auto.img, c.lose.auto.img)

pub returns : goal.returns
returns c =
    rw c.put_field.ensures
    (referred _ _ _ _ _ _ _ (rw (← c.field_at-old.ensures) c.lose.ensures) c.gain.ensures)
