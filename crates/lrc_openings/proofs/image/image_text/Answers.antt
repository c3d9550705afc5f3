use Rattle.lrc_openings.proofs.image.image_text.Goals as goal

pub returns-clause-value : goal.returns-clause-value
returns-clause-value c = (c.in_ok-image.image, c.in_ok-image.ensures.rows, rw c.new-text.ensures.items at c.in_ok-push_image.ensures)
