-- The replies that the answers of a history stand for.
use Rattle.std.specs.Prelude.{Bool, true, false, take}
use Rattle.lrc_rules.specs.declared.command.Command.{Command}
use Rattle.lrc_rules.specs.declared.command.Command.TheVariants.{Place, Place6}
use Rattle.lrc_answers.specs.declared.answer.Answer.{Answer}
use Rattle.lrc_answers.specs.declared.answer.Answer.TheVariants as answer
use Rattle.lrc_answers.specs.declared.reply_ref.ReplyRef.{ReplyRef}
use Rattle.lrc_answers.specs.declared.reply_ref.ReplyRef.TheVariants as lends
use Rattle.lrc_rules.specs.declared.reply.Reply.{Reply}
use Rattle.lrc_rules.specs.declared.reply.Reply.TheVariants as reply

-- the reply that an answer stands for
abbrev pub told : Answer → Reply
told (answer.Placed seats) = reply.Placed seats.value
told (answer.Placed6 seats) = reply.Placed6 (take 10 seats.value)
told answer.Dropped = reply.Dropped
told (answer.Granted lease kind) = reply.Granted lease kind
told answer.Idle = reply.Idle
told answer.Ended = reply.Ended
told answer.Changed = reply.Changed
told (answer.Refused refusal) = reply.Refused refusal
told (answer.Ticked clock ended) = reply.Ticked clock ended

-- the reply that is borrowed
abbrev pub lent : ReplyRef → Reply
lent (lends.Placed seats) = reply.Placed seats.now
lent (lends.Placed6 seats) = reply.Placed6 seats.now
lent lends.Dropped = reply.Dropped
lent (lends.Granted lease kind) = reply.Granted lease.now kind.now
lent lends.Idle = reply.Idle
lent lends.Ended = reply.Ended
lent lends.Changed = reply.Changed
lent (lends.Refused refusal) = reply.Refused refusal
lent (lends.Ticked clock ended) = reply.Ticked clock ended

-- the command places a stripe
abbrev pub is_place : Command → Bool
is_place (Place s) = true
is_place (Place6 s) = true
is_place _ = false
