-- The texts of replies, of scripts, and of a whole run.
use Rattle.std.specs.Prelude.{ℕ, ◌+◌, List, [], ◌∷◌, ◌++◌, codes, decimal, map, filter, flat_map}
use Rattle.lrc_topology.specs.declared.NodeInfo.{NodeInfo}
use Rattle.lrc_topology.specs.declared.seat.Seat.{Seat}
use Rattle.lrc_book.specs.declared.Lease.{Lease}
use Rattle.lrc_rules.specs.declared.entry.Entry.{Entry}
use Rattle.lrc_rules.specs.declared.kind.Kind.{Kind}
use Rattle.lrc_rules.specs.declared.kind.Kind.TheVariants.{Local, Local3, Global, Move}
use Rattle.lrc_rules.specs.declared.reply.Reply.{Reply}
use Rattle.lrc_rules.specs.declared.reply.Reply.TheVariants.{Placed, Placed6, Dropped, Granted, Idle, Ended, Changed, Refused, Ticked}
use Rattle.lrc_rules.specs.declared.refusal.Refusal.{Refusal}
use Rattle.lrc_rules.specs.declared.refusal.Refusal.TheVariants as refusal
use Rattle.lrc_rules.specs.Histories.{World, state_from}
use Rattle.lrc_rules.specs.Sessions.{NumberedEntry, numbered_from, is_of, sessions}
use Rattle.lrc_text.specs.Tables.{tables_text}

-- ---- replies

-- NODE:SLOT
abbrev pub seat_text : Seat → List ℕ
seat_text seat = decimal seat.node.value ++ codes ":" ++ decimal seat.slot

-- words with a space before each
abbrev pub spaced_words : List (List ℕ) → List ℕ
spaced_words words = flat_map (λ word. codes " " ++ word) words

-- the stripe, the fragment, the target and the epoch of a lease
abbrev pub lease_text : Lease → List ℕ
lease_text lease = decimal lease.stripe.value ++ codes " " ++ decimal lease.fragment.value ++ codes " " ++ seat_text lease.target ++ codes " epoch " ++ decimal lease.epoch

-- how a leased fragment is rebuilt
abbrev pub kind_text : Kind → List ℕ
kind_text (Local sources) = codes "local" ++ spaced_words (map (λ f. decimal f.value) sources)
kind_text (Local3 sources) = codes "local" ++ spaced_words (map (λ f. decimal f.value) sources)
kind_text Global = codes "global"
kind_text Move = codes "move"

-- the code of a refused command, and its detail where it has one
abbrev pub refusal_text : Refusal → List ℕ
refusal_text refusal.UnknownStripe = codes "101"
refusal_text refusal.StripeExists = codes "102"
refusal_text (refusal.NoLawfulNode fragment) = codes "103 " ++ decimal fragment.value
refusal_text refusal.UnknownNode = codes "104"
refusal_text refusal.WrongMode = codes "105"
refusal_text refusal.UnknownDomain = codes "106"
refusal_text (refusal.UpgradeRunning domain) = codes "107 " ++ decimal domain.value
refusal_text refusal.NotUpgrading = codes "108"
refusal_text (refusal.WouldLose stripe) = codes "109 " ++ decimal stripe.value
refusal_text (refusal.AlreadyLeased epoch) = codes "110 " ++ decimal epoch
refusal_text refusal.NotNeeded = codes "111"
refusal_text refusal.Unrecoverable = codes "112"
refusal_text refusal.Stale = codes "113"
refusal_text (refusal.NotHolder holder) = codes "114 " ++ decimal holder.value
refusal_text (refusal.TargetOffline node) = codes "115 " ++ decimal node.value
refusal_text refusal.NoLease = codes "116"
refusal_text (refusal.NotEmpty load) = codes "117 " ++ decimal load

-- what is printed of a reply
abbrev pub reply_text : Reply → List ℕ
reply_text (Placed seats) = codes "placed" ++ spaced_words (map seat_text seats)
reply_text (Placed6 seats) = codes "placed" ++ spaced_words (map seat_text seats)
reply_text Dropped = codes "dropped"
reply_text (Granted lease kind) = codes "granted " ++ lease_text lease ++ codes " " ++ kind_text kind
reply_text Idle = codes "idle"
reply_text Ended = codes "ended"
reply_text Changed = codes "changed"
reply_text (Refused refusal) = codes "refused " ++ refusal_text refusal
reply_text (Ticked clock ended) = codes "ticked " ++ decimal clock ++ codes " " ++ decimal ended

-- a reply's line: the number of its call in the history, counted from 1, and its text
abbrev pub reply_line : ℕ → Reply → List ℕ
reply_line number reply = decimal number ++ codes " " ++ reply_text reply ++ codes "\n"

-- the lines of entries, of which the first has this number
abbrev pub lines_from : ℕ → List Entry → List ℕ
lines_from number [] = []
lines_from number (e ∷ es) = reply_line number e.reply ++ lines_from (number + 1) es

-- the line before a script's replies
abbrev pub script_line : ℕ → List ℕ
script_line script = codes "script " ++ decimal script ++ codes "\n"

-- the entries of a session with their positions, in a history that has `before` entries of the store before it
abbrev pub entries_behind : ℕ → ℕ → List Entry → List NumberedEntry
entries_behind before session history = filter (λ e. is_of session e.entry) (numbered_from (before + 1) history)

-- what is printed of a script, whose number is that of its session: a line for each entry of the session, with the number
-- that it has in the store, which had `before` entries
abbrev pub script_text_behind : ℕ → List Entry → ℕ → List ℕ
script_text_behind before history script = script_line script ++ flat_map (λ e. reply_line e.place e.entry.reply) (entries_behind before script history)

-- what is printed of `count` scripts that made this history
abbrev pub replies_text_behind : ℕ → ℕ → List Entry → List ℕ
replies_text_behind before count history = flat_map (script_text_behind before history) (sessions count)

-- the same, and then the tables of the state of these nodes after the history, which begins in this world
abbrev pub output_text_from : List NodeInfo → World → ℕ → ℕ → List Entry → List ℕ
output_text_from nodes base before count history = replies_text_behind before count history ++ tables_text nodes (state_from nodes base history)
