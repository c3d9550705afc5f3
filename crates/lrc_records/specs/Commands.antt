-- The struct of a command, and the book's own command.
use Rattle.std.specs.Prelude.{◌≡◌, ℕ, Bool, if◌then◌else◌, not, ◌&&◌, ◌||◌, nat_eq, nat_lt, nat_le, replicate}
use Rattle.lrc_code.specs.declared.numbers.StripeNo.{StripeNo}
use Rattle.lrc_code.specs.declared.numbers.NodeNo.{NodeNo}
use Rattle.lrc_code.specs.declared.numbers.UpgradeNo.{UpgradeNo}
use Rattle.lrc_code.specs.declared.numbers.Fragment.{Fragment}
use Rattle.lrc_rules.specs.declared.command.Command.{Command}
use Rattle.lrc_rules.specs.declared.command.Command.TheVariants.{Place, Place6, Drop, Lease, Next, Done, Abandon, Revoke, Fail, Down, Up, Drain, Undrain, Retire, Join, Upgrade, Upgraded, Tick}
use Rattle.lrc_records.specs.declared.command.LrcCommand.{LrcCommand}

-- commands of this kind name a fragment
abbrev pub names_fragment : ℕ → Bool
names_fragment kind = nat_eq kind 3 || (nat_eq kind 5 || (nat_eq kind 6 || nat_eq kind 7))

-- commands of this kind name a stripe
abbrev pub names_stripe : ℕ → Bool
names_stripe kind = nat_eq kind 1 || (nat_eq kind 2 || (nat_eq kind 18 || names_fragment kind))

-- commands of this kind name an epoch
abbrev pub names_epoch : ℕ → Bool
names_epoch kind = nat_eq kind 5 || nat_eq kind 6

-- commands of this kind name a node
abbrev pub names_node : ℕ → Bool
names_node kind = nat_le 8 kind && nat_le kind 14

-- commands of this kind name an upgrade domain
abbrev pub names_domain : ℕ → Bool
names_domain kind = nat_eq kind 15 || nat_eq kind 16

-- the kind, and the stripe and fragment that it names, are in their ranges
abbrev pub is_command : LrcCommand → Bool
is_command c =
    (nat_le 1 c.kind && nat_le c.kind 18)
    && ((not (names_stripe c.kind) || nat_lt c.stripe 4096) && (not (names_fragment c.kind) || nat_lt c.fragment 16))

-- no command: all is 0
abbrev pub blank_command : LrcCommand
blank_command = record { kind = 0; fragment = 0; domain = 0; reserved = replicate 5 0; epoch = 0; stripe = 0; node = 0 }

abbrev pub of_stripe : ℕ → StripeNo → LrcCommand
of_stripe kind s = record blank_command { kind = kind; stripe = s.value }

abbrev pub of_fragment : ℕ → StripeNo → Fragment → ℕ → LrcCommand
of_fragment kind s f e = record blank_command { kind = kind; fragment = f.value; epoch = e; stripe = s.value }

abbrev pub of_node : ℕ → NodeNo → LrcCommand
of_node kind n = record blank_command { kind = kind; node = n.value }

abbrev pub of_domain : ℕ → UpgradeNo → LrcCommand
of_domain kind u = record blank_command { kind = kind; domain = u.value }

-- the struct of a command: a field that its kind does not use is 0
abbrev pub encoded_command : Command → LrcCommand
encoded_command (Place s) = of_stripe 1 s
encoded_command (Drop s) = of_stripe 2 s
encoded_command (Lease s f) = of_fragment 3 s f 0
encoded_command Next = record blank_command { kind = 4 }
encoded_command (Done s f e) = of_fragment 5 s f e
encoded_command (Abandon s f e) = of_fragment 6 s f e
encoded_command (Revoke s f) = of_fragment 7 s f 0
encoded_command (Fail n) = of_node 8 n
encoded_command (Down n) = of_node 9 n
encoded_command (Up n) = of_node 10 n
encoded_command (Drain n) = of_node 11 n
encoded_command (Undrain n) = of_node 12 n
encoded_command (Retire n) = of_node 13 n
encoded_command (Join n) = of_node 14 n
encoded_command (Upgrade u) = of_domain 15 u
encoded_command (Upgraded u) = of_domain 16 u
encoded_command Tick = record blank_command { kind = 17 }
encoded_command (Place6 s) = of_stripe 18 s

-- the struct with 0 in each field that its kind does not use
abbrev pub used : LrcCommand → LrcCommand
used c = record blank_command {
  kind = c.kind;
  fragment = if names_fragment c.kind then c.fragment else 0;
  domain = if names_domain c.kind then c.domain else 0;
  epoch = if names_epoch c.kind then c.epoch else 0;
  stripe = if names_stripe c.kind then c.stripe else 0;
  node = if names_node c.kind then c.node else 0;
}

-- the struct is read as this command; a field that its kind does not use may be anything
abbrev pub IsCommand : LrcCommand → Command → Type 0
IsCommand c command = used c ≡ encoded_command command
