-- `questions::ask` meets its contract. Assumes nothing. What is noted from the roots on are the places of the model's answer (`answered`).
use Rattle.questions.proofs.Answering.{answered}
use Rattle.model.specs.Questions.{ask}
use mathlib.Core.Path.{◌∙◌, ap}
use Rattle.questions.proofs.ask.Goals as goal

pub returns : goal.returns
returns c =
    answered c.requires.within c.new-notes.ensures c.note_anchors.ensures c.spread.ensures.0 _ ∙ ap (ask _ _ _) c.place.ensures
