-- `shell::show::show` meets its contract. Assumes nothing.
use mathlib.Core.Path.{sym, ◌∙◌}
use Rattle.catalogue.proofs.Judged.{sound_in, sound_head}
use borrow.Author.Rules.{rules}
use Rattle.shell.proofs.show.show.Goals as goal

pub head_at-p-requires : goal.head_at-p-requires
head_at-p-requires g c =
    sound_head _ (sym c.sound.ensures ∙ c.if-not-sound.false) _ (search rules)

pub head_at-s-requires : goal.head_at-s-requires
head_at-s-requires g c =
    sound_head _ (sym c.sound.ensures ∙ c.if-not-sound.false) _ (search rules)

pub invariant_of-whole : goal.invariant_of-whole
invariant_of-whole g c =
    record { within = ∣ rw (c.head_at-p.ensures, c.head_at-s.ensures) (sound_in _ (sym c.sound.ensures ∙ c.if-not-sound.false)) ∣₁ }
