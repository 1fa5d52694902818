-- `reporting::rows::put_text` meets its contract. Assumes nothing.
use Rattle.reporting.proofs.Texts.{put_copied}
use Rattle.reporting.proofs.rows.put_text.Goals as goal

pub returns : goal.returns
returns c =
    put_copied _ _ _ _ c.copy_from_slice.ensures.after c.requires
