-- The words and the fields of commands, beside their lines in scripts.
use Rattle.std.specs.Prelude.{◌≡◌, ℕ, ◌-◌, List, [], ◌∷◌, map, get_or, Some}
use Rattle.lrc_rules.specs.declared.command.Command.{Command}
use Rattle.lrc_records.specs.declared.command.LrcCommand.{LrcCommand}
use Rattle.lrc_records.specs.Commands.{encoded_command}
use Rattle.lrc_records.specs.Words.{command_name, command_fields}
use Rattle.lrc_script.specs.Scripts.{Form, command_line, line_with, form_of}

-- the number that a command has in a field
abbrev pub number_in : LrcCommand → ℕ → ℕ
number_in c field = get_or (c.stripe ∷ c.fragment ∷ c.epoch ∷ c.node ∷ c.domain ∷ []) (field - 1) 0

-- the bound that the numbers of a field are below
abbrev pub bound_of : ℕ → ℕ
bound_of field = get_or (4096 ∷ 16 ∷ 4294967296 ∷ 65536 ∷ 256 ∷ []) (field - 1) 0

-- the form of a word and these fields
abbrev pub form_with : List ℕ → List ℕ → Form
form_with word fields = record { word = word; bounds = map bound_of fields }

-- The kind of a command has a word and fields. The line of the command is this word and what the command has in these fields, and
-- scripts have this form for the word.
pub record HasFields (command : Command) : Type 0 where
  pub word : List ℕ
  pub fields : List ℕ
  pub named : command_name (encoded_command command).kind ≡ Some word
  pub listed : command_fields (encoded_command command).kind ≡ Some fields
  pub line : command_line command ≡ line_with (form_with word fields) (map (number_in (encoded_command command)) fields)
  pub found : form_of word ≡ Some (form_with word fields)
