-- `soundness::sound` meets its contract. Assumes nothing. What format refuses is not sound.
use Rattle.soundness.proofs.Rows.{sound_front, shaped_image, format_unsound}
use Rattle.loops.proofs.Tests.{told_true, told_false}
use Rattle.image.proofs.Within.{has_head}
use Rattle.model.proofs.Soundness.{sound_not}
use Rattle.model.specs.Sound.{is_sound}
use mathlib.Core.Path.{sym, ◌∙◌}
use native.Mathlib.Omega.{arith}
use Rattle.soundness.proofs.sound.Goals as goal

pub returns-then-not-has_front : goal.returns-then-not-has_front
returns-then-not-has_front c =
    sym (sound_not _ (sound_front _ (told_false c.has_front.ensures c.if-not-has_front.true)))

pub head_at-p-requires : goal.head_at-p-requires
head_at-p-requires c =
    has_head _ (told_true c.has_front.ensures c.if-not-has_front.false) 0 (omega arith)

pub head_at-s-requires : goal.head_at-s-requires
head_at-s-requires c =
    has_head _ (told_true c.has_front.ensures c.if-not-has_front.false) 1 (omega arith)

pub sound_at-requires : goal.sound_at-requires
sound_at-requires c =
    shaped_image _ _ _ (sym c.judge_format-v.ensures ∙ c.in-Ok.is)

pub returns-in-Ok : goal.returns-in-Ok
unfolding is_sound
returns-in-Ok c =
    rw (← c.head_at-p.ensures, ← c.head_at-s.ensures) c.sound_at.ensures

pub returns-in-Err : goal.returns-in-Err
returns-in-Err c =
    sym (sound_not _ (format_unsound _ _ _ _ _ c.head_at-p.ensures c.head_at-s.ensures c.judge_format-v.ensures c.in-Err.is))
