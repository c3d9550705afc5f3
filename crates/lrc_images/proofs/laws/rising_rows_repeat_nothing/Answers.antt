use Rattle.lrc_images.specs.Images.{image_world}
use Rattle.lrc_images.proofs.RisingLemmas.{homes-single, leases-single, rising-distinct, rising-apart}
use Rattle.lrc_images.proofs.laws.rising_rows_repeat_nothing.Goals as goal

pub returns-clause-distinct : goal.returns-clause-distinct
returns-clause-distinct c = λ i rising. rising-distinct i rising

pub returns-clause-one_home : goal.returns-clause-one_home
returns-clause-one_home c = λ i rising. homes-single i.stripes.items rising.stripes

pub returns-clause-one_lease : goal.returns-clause-one_lease
returns-clause-one_lease c = λ i rising. leases-single (image_world i).past i.leases.items rising.leases

pub returns-clause-apart : goal.returns-clause-apart
returns-clause-apart c = λ i n rising. rising-apart i rising n
