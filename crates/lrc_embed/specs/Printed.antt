-- What is written for a text, and which texts.
use Rattle.std.specs.Prelude.{◌≡◌, ℕ, ◌+◌, ◌<◌, if◌then◌else◌, nat_eq, List, [], ◌∷◌, ◌++◌, drop, length, codes}
use Rattle.std.specs.Prelude.{slice_get, Option, Some, None}
use Rattle.lrc_code.specs.declared.codes.Code.TheVariants.{Wide, Narrow}
use Rattle.lrc_code.specs.Codes.{code_name}
use Rattle.lrc_terms.specs.declared.level.Level.TheVariants.{Whole, AtRisk, Unavailable, Lost}
use Rattle.lrc_terms.specs.declared.mode.Mode.TheVariants.{Active, Draining, Gone}
use Rattle.lrc_topology.specs.declared.error.TopologyError.TheVariants as topology
use Rattle.lrc_images.specs.declared.cause.Cause.TheVariants as row
use Rattle.lrc_script.specs.declared.script.Cause.TheVariants as line
use Rattle.lrc_book.specs.Books.{BookView, state_of}
use Rattle.lrc_rules.specs.declared.entry.Entry.{Entry}
use Rattle.lrc_records.specs.Words.{word_in}
use Rattle.lrc_text.specs.Texts.{reply_line}
use Rattle.lrc_text.specs.Tables.{level_text, mode_text}
use Rattle.lrc_refusals.specs.Refusals.{topology_words, line_words, row_words}
use Rattle.lrc_show.specs.declared.view.View.{View}
use Rattle.lrc_show.specs.declared.view.View.TheVariants.{Status, Stripes, Nodes, Leases, Work, Fragments, Domains, Health, Capacity}
use Rattle.lrc_show.specs.declared.domains.DomainKind.TheVariants as domain
use Rattle.lrc_show.specs.Shown.{view_text}

-- the buffer starts with the text, and is as it was after it
abbrev pub IsTextPut : List ℕ → List ℕ → List ℕ → ℕ → Type 0
IsTextPut text before after needed = (needed ≡ length text) × (after ≡ text ++ drop (length text) before)

-- the buffer has no room for the text
abbrev pub IsTooLong : List ℕ → List ℕ → ℕ → Type 0
IsTooLong text before needed = (needed ≡ length text) × (length before < length text)

-- ---- tables

-- the table of a number
abbrev pub view_of : ℕ → Option View
view_of number =
    if nat_eq number 1 then Some Status else (if nat_eq number 2 then Some Stripes
    else (if nat_eq number 3 then Some Nodes else (if nat_eq number 4 then Some Leases else (if nat_eq number 5 then Some Work
    else (if nat_eq number 6 then Some Fragments else (if nat_eq number 7 then Some (Domains domain.Fault)
    else (if nat_eq number 8 then Some (Domains domain.Upgrade) else (if nat_eq number 9 then Some Health else (if nat_eq number 10 then Some Capacity else None)))))))))

-- the table of a book
abbrev pub shown_of : BookView → View → List ℕ
shown_of b view = view_text view b.nodes (state_of b) (b.before + length b.history)

-- this holds of the line of the entry at an index of the history
abbrev pub IsReplyLine : BookView → ℕ → (List ℕ → Type 0) → Type 0
IsReplyLine b index P =
    (e : Entry) × (slice_get b.history index ≡ Some e) × P (reply_line (b.before + index + 1) e.reply)

-- ---- words by their numbers

abbrev pub level_name : ℕ → Option (List ℕ)
level_name =
    word_in ((1, level_text Whole) ∷ (2, level_text (AtRisk 0)) ∷ (3, level_text Unavailable) ∷ (4, level_text Lost) ∷ [])

abbrev pub mode_name : ℕ → Option (List ℕ)
mode_name = word_in ((1, mode_text Active) ∷ (2, mode_text Draining) ∷ (3, mode_text Gone) ∷ [])

abbrev pub word_of_code : ℕ → Option (List ℕ)
word_of_code = word_in ((1, code_name Wide) ∷ (2, code_name Narrow) ∷ [])

-- those of the two codes have one word
abbrev pub repair_name : ℕ → Option (List ℕ)
repair_name = word_in ((1, codes "local") ∷ (2, codes "global") ∷ (3, codes "move") ∷ (4, codes "local") ∷ [])

-- why a line of a script is bad
abbrev pub line_cause_words : ℕ → Option (List ℕ)
line_cause_words =
    word_in ((1, line_words line.UnknownWord) ∷ (2, line_words line.WordCount) ∷ (3, line_words line.NotANumber)
    ∷ (4, line_words line.OutOfRange) ∷ (5, line_words line.TooLong) ∷ [])

-- why the nodes or the lines before it do not allow a line of an image
abbrev pub image_cause_words : ℕ → Option (List ℕ)
image_cause_words =
    word_in ((1, row_words row.UnknownDomain) ∷ (2, row_words row.TooManyEntries) ∷ (3, row_words row.TooManyTicks)
    ∷ (4, row_words row.OutOfOrder) ∷ (5, row_words row.SaysNothing) ∷ (6, row_words row.UnknownNode)
    ∷ (7, row_words row.GoneAndDown) ∷ (8, row_words row.UnknownFragment) ∷ (9, row_words row.UnknownSlot)
    ∷ (10, row_words row.NodeGone) ∷ (11, row_words row.SeatTaken) ∷ (12, row_words row.NotLawful)
    ∷ (13, row_words row.TooManyGrants) ∷ (14, row_words row.UnknownStripe) ∷ (15, row_words row.NeverGranted)
    ∷ (16, row_words row.WrongExpiry) ∷ [])

-- why a text lists no nodes, by the status that says so
abbrev pub nodes_words : ℕ → Option (List ℕ)
nodes_words =
    word_in ((16, topology_words topology.Syntax) ∷ (17, topology_words topology.NoNodes)
    ∷ (18, topology_words (topology.BadField 0)) ∷ (19, topology_words (topology.OutOfRange 0))
    ∷ (20, topology_words (topology.DoubleNode (record { value = 0 }))) ∷ (21, topology_words topology.TooMany) ∷ [])
