-- Internal: no public clause reaches these definitions.
-- What a text starts with.
use Rattle.std.specs.Prelude.{◌≡◌, ◌≢◌, ℕ, Bool, true, false, List, [], ◌∷◌, ◌++◌, map, All, Option, Some, None}
use Rattle.std.specs.Borrow.{Bor}
use Rattle.lrc_code.specs.declared.numbers.UpgradeNo.{UpgradeNo}
use Rattle.lrc_terms.specs.declared.mode.Mode.{Mode}
use Rattle.lrc_terms.specs.declared.mode.Mode.TheVariants.{Active}
use Rattle.lrc_images.specs.declared.image.Image.{Image}
use Rattle.lrc_image_text.specs.Lines.{Line, Upgrading, Node, Stripe, Grants, Lease, first_word, other_words, lines_text, IsReadable}
use Rattle.lrc_image_text.specs.Texts.{upgrading_lines}

-- the byte behind a word, which is the last of its line or not
abbrev pub end_byte : Bool → ℕ
end_byte true = 10
end_byte false = 32

-- words with a space before each, and a text behind them
abbrev pub spaced_on : List (List ℕ) → List ℕ → List ℕ
spaced_on [] text = text
spaced_on (word ∷ words) text = 32 ∷ (word ++ spaced_on words text)

-- words with a space before each, the end of their line, and a text behind it
abbrev pub words_on : List (List ℕ) → List ℕ → List ℕ
words_on words text = spaced_on words (10 ∷ text)

-- a line, and a text behind it
abbrev pub line_on : Line → List ℕ → List ℕ
line_on line text = first_word line ++ words_on (other_words line) text

-- the text starts with none of these lines
abbrev pub HasNone : {X : Type 0} → (X → Line) → List ℕ → Type 0
HasNone {X} line text = (x : X) (rest : List ℕ) → IsReadable (line x) → text ≢ line_on (line x) rest

-- the text starts with the lines of these rows, and no more of them, and this is left
pub record StartsWithRows {X : Type 0} (line : X → Line) (text : List ℕ) (rows : List X) (left : List ℕ) : Type 0 where
  pub text_is : text ≡ lines_text (map line rows) ++ left
  pub readable : All (λ row. IsReadable (line row)) rows
  pub no_more : HasNone line left

-- the text starts with the line of the upgrade domain that is upgrading, if there is one, and this is left
pub record StartsWithUpgrading (text : List ℕ) (upgrading : Option UpgradeNo) (left : List ℕ) : Type 0 where
  pub text_is : text ≡ lines_text (upgrading_lines upgrading) ++ left
  pub readable : All IsReadable (upgrading_lines upgrading)
  pub no_more : upgrading ≡ None → HasNone Upgrading left

-- a node that stands so has a line
abbrev pub HasLine : Mode → Bool → Type 0
HasLine mode is_down = mode ≡ Active → is_down ≡ true

-- the text starts with the lines of the image after its third one, and this is left
pub record IsBody (before clock : ℕ) (text : List ℕ) (i : Image) (left : List ℕ) : Type 0 where
  pub before_is : i.before ≡ before
  pub clock_is : i.clock ≡ clock
  pub behind_upgrading : List ℕ
  pub behind_nodes : List ℕ
  pub behind_stripes : List ℕ
  pub behind_grants : List ℕ
  pub upgrading : StartsWithUpgrading text i.upgrading behind_upgrading
  pub nodes : StartsWithRows Node behind_upgrading i.nodes.items behind_nodes
  pub stripes : StartsWithRows Stripe behind_nodes i.stripes.items behind_stripes
  pub grants : StartsWithRows Grants behind_stripes i.grants.items behind_grants
  pub leases : StartsWithRows Lease behind_grants i.leases.items left

-- a row more is read and this is left, or the text starts with no row
abbrev pub IsRowRead : {X : Type 0} → (X → Line) → List ℕ → List X → List X → Option (Bor (List ℕ)) → Type 0
IsRowRead {X} line text old new (Some left) = (row : X) × IsReadable (line row) × (text ≡ line_on (line row) left.now) × (new ≡ old ++ row ∷ [])
IsRowRead line text old new None = (new ≡ old) × HasNone line text
