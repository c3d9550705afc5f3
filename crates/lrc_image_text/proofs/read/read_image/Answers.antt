use Rattle.std.proofs.Common.{rules, ◌≡◌, ◌≢◌, length}
use Rattle.lrc_image_text.specs.Texts.{begun_lines}
use Rattle.lrc_image_text.proofs.EndLemmas.{body_read, no_end, whole_text, more_left}
use Rattle.lrc_image_text.proofs.read.read_image.Goals as goal

pub returns-then-is_empty-clause-read : goal.returns-then-is_empty-clause-read
returns-then-is_empty-clause-read c =
    let image = c.in_ok-image.image in
    let read = body_read c.args.text.now c.in-Ok.head.2.now c.in_ok-image.rest.now c.in-Ok.head.0 c.in-Ok.head.1 image c.in-Ok.ensures.head c.in_ok-image.ensures.body in
    let empty : length c.in-Some.rest.now ≡ 0 = search rules in
    whole_text c.args.text.now c.in_ok-image.rest.now c.in-Some.rest.now c.in-Some.ensures.rest image read empty

pub returns-else-is_empty-clause-refused : goal.returns-else-is_empty-clause-refused
returns-else-is_empty-clause-refused c =
    let image = c.in_ok-image.image in
    let read = body_read c.args.text.now c.in-Ok.head.2.now c.in_ok-image.rest.now c.in-Ok.head.0 c.in-Ok.head.1 image c.in-Ok.ensures.head c.in_ok-image.ensures.body in
    let some : length c.in-Some.rest.now ≢ 0 = search rules in
    more_left c.args.text.now c.in_ok-image.rest.now c.in-Some.rest.now c.in-Some.ensures.rest (begun_lines image) c.count_lines-lines.result c.count_lines-lines.ensures read some

pub returns-in-None-clause-refused : goal.returns-in-None-clause-refused
returns-in-None-clause-refused c =
    let image = c.in_ok-image.image in
    let read = body_read c.args.text.now c.in-Ok.head.2.now c.in_ok-image.rest.now c.in-Ok.head.0 c.in-Ok.head.1 image c.in-Ok.ensures.head c.in_ok-image.ensures.body in
    no_end c.args.text.now c.in_ok-image.rest.now (begun_lines image) c.count_lines-lines.result c.count_lines-lines.ensures read c.in-None.ensures.none
