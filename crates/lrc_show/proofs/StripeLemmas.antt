-- What the book returns of a stripe.
use Rattle.std.proofs.Common.{◌≡◌, ℕ, true, List, map, Option, Some, ap, ◌∙◌}
use Rattle.std.proofs.lemmas.Option.{same_Some}
use Rattle.lrc_code.specs.declared.codes.Code.{Code}
use Rattle.lrc_code.specs.declared.losses.LossMask.{LossMask}
use Rattle.lrc_code.specs.declared.numbers.StripeNo.{StripeNo}
use Rattle.lrc_code.specs.declared.numbers.Fragment.{Fragment}
use Rattle.lrc_code.specs.Codes.{all_fragments}
use Rattle.lrc_code.specs.Losses.{bits_of, bits_set, size_of}
use Rattle.lrc_topology.specs.declared.NodeInfo.{NodeInfo}
use Rattle.lrc_topology.specs.declared.seat.Seat.{Seat}
use Rattle.lrc_terms.specs.declared.level.Level.{Level}
use Rattle.lrc_terms.specs.Levels.{Homes, homes_of, homeless_in}
use Rattle.lrc_rules.specs.States.{State, has_stripe, code_of, code_shown, homes_shown, homeless, level, level_shown, missing, missing_shown}
use Rattle.lrc_rules.proofs.StateLemmas.{none-beyond}
use Rattle.lrc_show.specs.Facts.{stripe_facts}
use Rattle.lrc_show.specs.declared.stripe_facts.StripeFacts.{StripeFacts}
use Rattle.lrc_book.proofs.MaskLemmas.{size-mask}
use Rattle.lrc_book.proofs.StripeLemmas.{code-told, level-told, mask-told, homes-told}

module _ (nodes : List NodeInfo) (st : State) (s : StripeNo) (there : has_stripe st s ≡ true) where
  facts : Level → ℕ → ℕ → StripeFacts
  facts l m h = record { level = l; missing = m; homeless = h }

  -- what is read of the stripe, from what the book returns
  pub facts-told : (l : Level) (code : Code) (mask : LossMask) (homes : List (Option Seat)) (bits lacking unhomed : ℕ) → Some l ≡ level_shown nodes st s → Some code ≡ code_shown st s
      → Some mask ≡ missing_shown nodes st s → Some homes ≡ homes_shown st s → lacking ≡ size_of code (bits_set mask.bits)
      → ((of : Homes) → homes ≡ map (λ (f : Fragment). of f.value) all_fragments → bits ≡ bits_of code (homeless_in code of)) → unhomed ≡ size_of code (bits_set bits)
      → record { level = l; missing = lacking; homeless = unhomed } ≡ stripe_facts nodes st s
  unfolding facts
  facts-told l code mask homes bits lacking unhomed levelled coded masked homed lacks made lost =
      let own : code ≡ code_of st s = same_Some _ _ (coded ∙ code-told nodes st s there) in
      let all : mask ≡ record { bits = bits_of (code_of st s) (missing nodes st s) } = same_Some _ _ (masked ∙ mask-told nodes st s there) in
      let at : homes ≡ map (λ (f : Fragment). homes_of st.homes s f.value) all_fragments = same_Some _ _ (homed ∙ homes-told nodes st s there) in
      let first : lacking ≡ size_of (code_of st s) (missing nodes st s) =
      lacks ∙ ap (λ (c : Code). size_of c (bits_set mask.bits)) own ∙ ap (λ (m : LossMask). size_of (code_of st s) (bits_set m.bits)) all
      ∙ size-mask (code_of st s) (missing nodes st s) (λ f past. (none-beyond nodes st s f past).1) in
      let second : unhomed ≡ size_of (code_of st s) (homeless st s) =
      lost ∙ ap (λ (b : ℕ). size_of code (bits_set b)) (made (homes_of st.homes s) at)
      ∙ ap (λ (c : Code). size_of c (bits_set (bits_of c (homeless_in c (homes_of st.homes s))))) own
      ∙ size-mask (code_of st s) (homeless st s) (λ f past. (none-beyond nodes st s f past).0) in
      ap (λ (k : Level). facts k lacking unhomed) (same_Some _ _ (levelled ∙ level-told nodes st s there)) ∙ ap (λ (n : ℕ). facts (level nodes st s) n unhomed) first
      ∙ ap (λ (n : ℕ). facts (level nodes st s) (size_of (code_of st s) (missing nodes st s)) n) second
