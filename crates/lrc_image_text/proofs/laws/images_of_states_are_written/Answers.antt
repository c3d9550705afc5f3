use Rattle.lrc_image_text.proofs.WrittenLemmas.{image-written}
use Rattle.lrc_image_text.proofs.laws.images_of_states_are_written.Goals as goal

pub returns : goal.returns
returns c = λ nodes past st before i store good tidy few early short is. image-written nodes past st before i store good tidy few early short is
