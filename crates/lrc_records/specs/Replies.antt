-- The struct of a reply.
use Rattle.std.specs.Prelude.{ℕ, ◌<◌, List, ◌++◌, map, replicate}
use Rattle.lrc_topology.specs.declared.seat.Seat.{Seat}
use Rattle.lrc_terms.specs.declared.lease.Lease.{Lease}
use Rattle.lrc_rules.specs.declared.kind.Kind.{Kind}
use Rattle.lrc_rules.specs.declared.kind.Kind.TheVariants.{Local, Local3, Global, Move}
use Rattle.lrc_rules.specs.declared.reply.Reply.{Reply}
use Rattle.lrc_rules.specs.declared.reply.Reply.TheVariants.{Placed, Placed6, Dropped, Granted, Idle, Ended, Changed, Refused, Ticked}
use Rattle.lrc_rules.specs.declared.refusal.Refusal.{Refusal}
use Rattle.lrc_rules.specs.declared.refusal.Refusal.TheVariants as refusal
use Rattle.lrc_rules.specs.declared.entry.Entry.{Entry}
use Rattle.lrc_records.specs.Commands.{encoded_command}
use Rattle.lrc_records.specs.declared.seat.LrcSeat.{LrcSeat}
use Rattle.lrc_records.specs.declared.lease.LrcLease.{LrcLease}
use Rattle.lrc_records.specs.declared.repair.LrcRepairPlan.{LrcRepairPlan}
use Rattle.lrc_records.specs.declared.reply.LrcReply.{LrcReply}
use Rattle.lrc_records.specs.declared.entry.LrcEntry.{LrcEntry}

abbrev pub encoded_seat : Seat → LrcSeat
encoded_seat s = record { node = s.node.value; slot = s.slot }

abbrev pub no_seat : LrcSeat
no_seat = record { node = 0; slot = 0 }

abbrev pub encoded_lease : Lease → LrcLease
encoded_lease l =
    record { stripe = l.stripe.value; fragment = l.fragment.value; holder = l.holder.value; target = encoded_seat l.target; epoch = l.epoch; expiry = l.expiry }

-- a lease in a reply, without its expiry
abbrev pub lease_in_reply : Lease → LrcLease
lease_in_reply l = record (encoded_lease l) { expiry = 0 }

abbrev pub no_lease : LrcLease
no_lease = record { stripe = 0; fragment = 0; holder = 0; target = no_seat; epoch = 0; expiry = 0 }

-- the number of a kind of repair, and the six numbers of the fragments that it reads, or 0
abbrev pub encoded_repair : Kind → ℕ × List ℕ
encoded_repair (Local sources) = (1, map (λ f. f.value) sources)
encoded_repair Global = (2, replicate 6 0)
encoded_repair Move = (3, replicate 6 0)
encoded_repair (Local3 sources) = (4, map (λ f. f.value) sources ++ replicate 3 0)

-- the struct of a kind of repair
abbrev pub repair_plan : Kind → LrcRepairPlan
repair_plan k = record { repair = (encoded_repair k).0; sources = (encoded_repair k).1; reserved = 0 }

-- the number of a refusal, and the number that it names, or 0
abbrev pub encoded_refusal : Refusal → ℕ × ℕ
encoded_refusal refusal.UnknownStripe = (101, 0)
encoded_refusal refusal.StripeExists = (102, 0)
encoded_refusal (refusal.NoLawfulNode f) = (103, f.value)
encoded_refusal refusal.UnknownNode = (104, 0)
encoded_refusal refusal.WrongMode = (105, 0)
encoded_refusal refusal.UnknownDomain = (106, 0)
encoded_refusal (refusal.UpgradeRunning u) = (107, u.value)
encoded_refusal refusal.NotUpgrading = (108, 0)
encoded_refusal (refusal.WouldLose s) = (109, s.value)
encoded_refusal (refusal.AlreadyLeased e) = (110, e)
encoded_refusal refusal.NotNeeded = (111, 0)
encoded_refusal refusal.Unrecoverable = (112, 0)
encoded_refusal refusal.Stale = (113, 0)
encoded_refusal (refusal.NotHolder session) = (114, session.value)
encoded_refusal (refusal.TargetOffline n) = (115, n.value)
encoded_refusal refusal.NoLease = (116, 0)
encoded_refusal (refusal.NotEmpty seats) = (117, seats)

-- the number of a refusal's upgrade domain is below 256, and that of its node below 65,536; the types keep its other numbers
-- in range
abbrev pub IsRefusalInRange : Refusal → Type 0
IsRefusalInRange (refusal.UpgradeRunning u) = u.value < 256
IsRefusalInRange (refusal.TargetOffline n) = n.value < 65536
IsRefusalInRange other = Unit {0}

-- so are those of a reply's refusal; the fields of its record keep its other numbers in range
abbrev pub IsReplyInRange : Reply → Type 0
IsReplyInRange (Refused r) = IsRefusalInRange r
IsReplyInRange other = Unit {0}

-- no reply: all is 0
abbrev pub blank_reply : LrcReply
blank_reply = record {
  kind = 0;
  refusal = 0;
  repair = 0;
  sources = replicate 6 0;
  reserved = replicate 3 0;
  detail = 0;
  clock = 0;
  ended = 0;
  reserved_number = 0;
  lease = no_lease;
  seats = replicate 16 no_seat;
}

-- the struct of a reply: a field that its kind does not use is 0
abbrev pub encoded_reply : Reply → LrcReply
encoded_reply (Placed seats) = record blank_reply { kind = 1; seats = map encoded_seat seats }
encoded_reply Dropped = record blank_reply { kind = 2 }
encoded_reply (Granted lease kind) = record blank_reply { kind = 3; repair = (encoded_repair kind).0; sources = (encoded_repair kind).1; lease = lease_in_reply lease }
encoded_reply Idle = record blank_reply { kind = 4 }
encoded_reply Ended = record blank_reply { kind = 5 }
encoded_reply Changed = record blank_reply { kind = 6 }
encoded_reply (Refused r) = record blank_reply { kind = 7; refusal = (encoded_refusal r).0; detail = (encoded_refusal r).1 }
encoded_reply (Ticked clock ended) = record blank_reply { kind = 8; clock = clock; ended = ended }
encoded_reply (Placed6 seats) = record blank_reply { kind = 9; seats = map encoded_seat seats ++ replicate 6 no_seat }

abbrev pub encoded_entry : Entry → LrcEntry
encoded_entry e = record { session = e.session.value; reserved = replicate 3 0; command = encoded_command e.command; reply = encoded_reply e.reply }
