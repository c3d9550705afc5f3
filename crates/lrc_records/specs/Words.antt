-- The words for the numbers of statuses, commands, replies and refusals, and the fields of commands.
use Rattle.std.specs.Prelude.{ℕ, if◌then◌else◌, nat_eq, List, [], ◌∷◌, codes, Option, Some, None}

-- the word that the table has for a number
abbrev pub word_in : List (ℕ × List ℕ) → ℕ → Option (List ℕ)
word_in [] n = None
word_in (row ∷ rows) n = if nat_eq n row.0 then Some row.1 else word_in rows n

abbrev pub status_name : ℕ → Option (List ℕ)
status_name =
    word_in ((0, codes "done") ∷ (1, codes "closed handle") ∷ (2, codes "open handle") ∷ (3, codes "out of range") ∷ (4, codes "unknown") ∷ (5, codes "full")
    ∷ (6, codes "out of memory") ∷ (7, codes "short buffer") ∷ (8, codes "different reply") ∷ (9, codes "moved") ∷ (10, codes "forgotten") ∷ (11, codes "not determined")
    ∷ (12, codes "miscounted buffers") ∷ (13, codes "uneven buffers") ∷ (16, codes "not TOML") ∷ (17, codes "no nodes")
    ∷ (18, codes "bad field") ∷ (19, codes "node out of range") ∷ (20, codes "double node") ∷ (21, codes "too many nodes") ∷ (22, codes "bad line") ∷ (23, codes "invalid image") ∷ [])

-- by the kind of the reply; those of the two codes have one word
abbrev pub reply_name : ℕ → Option (List ℕ)
reply_name =
    word_in ((1, codes "placed") ∷ (2, codes "dropped") ∷ (3, codes "granted") ∷ (4, codes "idle") ∷ (5, codes "ended") ∷ (6, codes "changed") ∷ (7, codes "refused")
    ∷ (8, codes "ticked") ∷ (9, codes "placed") ∷ [])

abbrev pub refusal_name : ℕ → Option (List ℕ)
refusal_name =
    word_in ((101, codes "unknown stripe") ∷ (102, codes "stripe exists") ∷ (103, codes "no lawful node") ∷ (104, codes "unknown node") ∷ (105, codes "wrong mode")
    ∷ (106, codes "unknown domain") ∷ (107, codes "upgrade running") ∷ (108, codes "not upgrading") ∷ (109, codes "would lose") ∷ (110, codes "already leased")
    ∷ (111, codes "not needed") ∷ (112, codes "unrecoverable") ∷ (113, codes "stale") ∷ (114, codes "not holder") ∷ (115, codes "target offline") ∷ (116, codes "no lease")
    ∷ (117, codes "not empty") ∷ [])

-- by the kind of the command: the word that its line begins with
abbrev pub command_name : ℕ → Option (List ℕ)
command_name =
    word_in ((1, codes "place") ∷ (2, codes "drop") ∷ (3, codes "lease") ∷ (4, codes "next") ∷ (5, codes "done") ∷ (6, codes "abandon") ∷ (7, codes "revoke")
    ∷ (8, codes "fail") ∷ (9, codes "down") ∷ (10, codes "up") ∷ (11, codes "drain") ∷ (12, codes "undrain") ∷ (13, codes "retire") ∷ (14, codes "join")
    ∷ (15, codes "upgrade") ∷ (16, codes "upgraded") ∷ (17, codes "tick") ∷ (18, codes "place6") ∷ [])

-- by the kind of the command: the fields that it uses, in the order of its line. 1 is its stripe, 2 its fragment, 3 its epoch, 4 its node, 5 its upgrade domain
abbrev pub command_fields : ℕ → Option (List ℕ)
command_fields =
    word_in ((1, 1 ∷ []) ∷ (2, 1 ∷ []) ∷ (3, 1 ∷ 2 ∷ []) ∷ (4, []) ∷ (5, 1 ∷ 2 ∷ 3 ∷ []) ∷ (6, 1 ∷ 2 ∷ 3 ∷ []) ∷ (7, 1 ∷ 2 ∷ [])
    ∷ (8, 4 ∷ []) ∷ (9, 4 ∷ []) ∷ (10, 4 ∷ []) ∷ (11, 4 ∷ []) ∷ (12, 4 ∷ []) ∷ (13, 4 ∷ []) ∷ (14, 4 ∷ [])
    ∷ (15, 5 ∷ []) ∷ (16, 5 ∷ []) ∷ (17, []) ∷ (18, 1 ∷ []) ∷ [])
