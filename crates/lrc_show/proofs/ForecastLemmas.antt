-- The row of a stripe in a forecast, as its fields are written.
use Rattle.std.proofs.Common.{◌≡◌, ℕ, List, [], ◌++◌, codes, decimal, ap, ◌∙◌, append_assoc, append-nil}
use Rattle.lrc_code.specs.Codes.{code_name}
use Rattle.lrc_code.specs.Losses.{bits_set}
use Rattle.lrc_terms.specs.declared.level.Level.{Level}
use Rattle.lrc_text.specs.Tables.{level_text, margin_field, online_text}
use Rattle.lrc_forecast.specs.declared.outlook.Outlook.{Outlook}
use Rattle.lrc_forecast.specs.Forecasts.{is_harmed}
use Rattle.lrc_show.specs.Listed.{hex_field, fragments_field, members_of}
use Rattle.lrc_show.specs.Shown.{margin_at, forecast_row}

joined : (old n c lb mb la ma hx ms le h comma end : List ℕ)
    → ((((((old ++ (n ++ comma ++ c ++ comma)) ++ (lb ++ comma ++ mb ++ comma)) ++ (la ++ comma ++ ma ++ comma)) ++ hx) ++ comma) ++ ms) ++ (comma ++ le ++ comma ++ h ++ end)
    ≡ old ++ (n ++ ((comma ++ c) ++ ((comma ++ lb) ++ ((comma ++ mb) ++ ((comma ++ la) ++ ((comma ++ ma) ++ ((comma ++ hx) ++ ((comma ++ ms) ++ ((comma ++ le) ++ ((comma ++ h) ++ []))))))))) ++ end)
joined old n c lb mb la ma hx ms le h comma end = simp (append_assoc, append-nil)

module _ (o : Outlook) where
  abbrev level_fields : Level → List ℕ
  level_fields l = level_text l ++ codes "," ++ margin_field (margin_at l) ++ codes ","

  abbrev harm_fields : List ℕ
  harm_fields = codes "," ++ decimal o.leases_ended ++ codes "," ++ online_text (is_harmed o) ++ codes "\n"

  pub outlook-told : (old a b c d e f : List ℕ) → a ≡ old ++ (decimal o.stripe.value ++ codes "," ++ code_name o.code ++ codes ",")
      → b ≡ a ++ level_fields o.before → c ≡ b ++ level_fields o.after → d ≡ c ++ hex_field o.missing.bits → e ≡ d ++ codes ","
      → f ≡ e ++ fragments_field (members_of o.code (bits_set o.missing.bits)) → f ++ harm_fields ≡ old ++ forecast_row o
  unfolding forecast_row
  outlook-told old a b c d e f ea eb ec ed ee ef =
      let ms = fragments_field (members_of o.code (bits_set o.missing.bits)) in
      let hx = hex_field o.missing.bits in
      ap (λ t. t ++ harm_fields) (ef ∙ ap (λ t. t ++ ms) (ee ∙ ap (λ t. t ++ codes ",") (ed ∙ ap (λ t. t ++ hx) (ec ∙ ap (λ t. t ++ level_fields o.after) (eb ∙ ap (λ t. t ++ level_fields o.before) ea)))))
      ∙ joined old (decimal o.stripe.value) (code_name o.code) (level_text o.before) (margin_field (margin_at o.before)) (level_text o.after) (margin_field (margin_at o.after))
      hx ms (decimal o.leases_ended) (online_text (is_harmed o)) (codes ",") (codes "\n")
