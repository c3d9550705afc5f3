use Rattle.lrc_images.proofs.StateRowLemmas.{image-rising}
use Rattle.lrc_images.proofs.AlikeRowLemmas.{image-grants, image-alike}
use Rattle.lrc_images.proofs.laws.images_are_alike.Goals as goal

pub returns-clause-rising : goal.returns-clause-rising
returns-clause-rising c = λ nodes w before i is. image-rising nodes w.past w.state before i is

pub returns-clause-grants : goal.returns-clause-grants
returns-clause-grants c = λ nodes w before i is. image-grants nodes w.past w.state before i is

pub returns-clause-alike : goal.returns-clause-alike
returns-clause-alike c = λ nodes w before i store good tidy is. image-alike nodes w.past w.state before i is store good tidy
