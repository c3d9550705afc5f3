use Rattle.std.proofs.Common.{rules, ◌≡◌, ℕ, Bool, List, length, get_or, Option, Some, None, map, refl, sym, ap, ◌∙◌}
use Rattle.std.specs.List.{list_any}
use Rattle.std.proofs.lemmas.Option.{same_Some}
use Rattle.lrc_code.specs.declared.codes.Code.{Code}
use Rattle.lrc_code.specs.declared.losses.LossMask.{LossMask}
use Rattle.lrc_code.specs.declared.numbers.Fragment.{Fragment}
use Rattle.lrc_code.specs.Codes.{all_fragments}
use Rattle.lrc_code.specs.Losses.{bits_set, bits_of}
use Rattle.lrc_topology.specs.declared.seat.Seat.{Seat}
use Rattle.lrc_terms.specs.declared.lease.Lease.{Lease}
use Rattle.lrc_terms.specs.Levels.{homes_of, homeless_in}
use Rattle.lrc_rules.specs.States.{code_of, code_shown, homes_shown, homeless, level, level_shown, missing, missing_shown}
use Rattle.lrc_book.specs.Books.{state_of}
use Rattle.lrc_book.proofs.StripeLemmas.{code-told, level-told, mask-told, homes-told}
use Rattle.lrc_forecast.specs.declared.outlook.Outage.{Outage}
use Rattle.lrc_forecast.specs.Forecasts.{state_with, ended_leases}
use Rattle.lrc_forecast.proofs.LeaseLemmas.{ended-stopped, ended-count}
use Rattle.lrc_forecast.specs.Hits.{has_seat_on_set}
use Rattle.lrc_forecast.proofs.SeatLemmas.{seats-as}
use Rattle.lrc_forecast.proofs.OutlookLemmas.{stopped-set, lost-set, outlook-told}
use Rattle.lrc_forecast.proofs.forecasts.outlook_of.Goals as goal
use Rattle.lrc_forecast.proofs.forecasts.outlook_of.Goals.{in-Stop, in-Lose, in-Stop-outage, in-Lose-outage}

pub unwrap-missing_now-requires : goal.unwrap-missing_now-requires
unwrap-missing_now-requires c = rw (c.missing.ensures ∙ mask-told c.args.book.now.nodes (state_of c.args.book.now) c.args.stripe c.requires.there) refl

pub unwrap-requires : goal.unwrap-requires
unwrap-requires c = rw (c.level.ensures ∙ level-told c.args.book.now.nodes (state_of c.args.book.now) c.args.stripe c.requires.there) refl

pub returns : goal.returns
returns c = λ ns are.
    let nodes = c.args.book.now.nodes in
    let st = state_of c.args.book.now in
    let s = c.args.stripe in
    let there = c.requires.there in
    let code = c.unwrap-code.result in
    let hit = c.fragments_on-hit.result.bits in
    let now = c.unwrap-missing_now.result.bits in
    let bare = c.homeless_of-homeless.result.bits in
    let coded : Some code ≡ code_shown st s = search rules in
    let homed : Some c.unwrap-homes.result ≡ homes_shown st s = search rules in
    let masked : Some c.unwrap-missing_now.result ≡ missing_shown nodes st s = search rules in
    let levelled : Some c.unwrap.result ≡ level_shown nodes st s = search rules in
    let own : code ≡ code_of st s = same_Some _ _ (coded ∙ code-told nodes st s there) in
    let homes : c.unwrap-homes.result ≡ map (λ (f : Fragment). homes_of st.homes s f.value) all_fragments = same_Some _ _ (homed ∙ homes-told nodes st s there) in
    let misses : now ≡ bits_of (code_of st s) (missing nodes st s) = ap (λ (m : LossMask). m.bits) (same_Some _ _ (masked ∙ mask-told nodes st s there)) in
    let first : c.unwrap.result ≡ level nodes st s = same_Some _ _ (levelled ∙ level-told nodes st s there) in
    let hits = c.fragments_on-hit.ensures (homes_of st.homes s) homes in
    let unhomed : bare ≡ bits_of code (homeless st s) =
    c.homeless_of-homeless.ensures (homes_of st.homes s) homes ∙ ap (λ (k : Code). bits_of code (homeless_in k (homes_of st.homes s))) own in
    let bared : (f : ℕ) → bits_set c.match-outage.homeless.bits f ≡ homeless (state_with c.args.outage st ns) s f = elim c.match-outage.branch [
      | in-Stop w ↦ λ f.
          ap (λ (m : LossMask). bits_set m.bits f) w.homeless-is
          ∙ stopped-set nodes st ns s c.args.hit_nodes.now are code own hit now bare hits misses unhomed c.requires.seated.one_home f
          ∙ ap (λ (o : Outage). homeless (state_with o st ns) s f) (sym w.in-Stop.is)
      | in-Lose w ↦ λ f.
          ap (λ (m : LossMask). bits_set m.bits f) w.homeless-is
          ∙ lost-set nodes st ns s c.args.hit_nodes.now are code own hit now bare hits misses unhomed c.requires.seated.one_home w.joined-homeless.result.bits w.joined-homeless.ensures f
          ∙ ap (λ (o : Outage). homeless (state_with o st ns) s f) (sym w.in-Lose.is)
    ] in
    let ended : c.match-outage-2.leases_ended ≡ length (ended_leases st (state_with c.args.outage st ns) s) = elim c.match-outage-2.branch [
      | in-Stop-outage w ↦
          w.leases_ended-is ∙ sym (ap (λ (ls : List Lease). length ls) (ended-stopped st ns s)) ∙ ap (λ (o : Outage). length (ended_leases st (state_with o st ns) s)) (sym w.in-Stop-outage.is)
      | in-Lose-outage w ↦
          w.leases_ended-is ∙ w.leases_on-leases_ended.ensures (homes_of st.homes s) homes ∙ ended-count st ns c.requires.seated.one_home c.requires.seated.one_lease s c.args.hit_nodes.now are
          ∙ ap (λ (o : Outage). length (ended_leases st (state_with o st ns) s)) (sym w.in-Lose-outage.is)
    ] in
    let seated : List (Option Seat) → Bool =
    λ of. list_any (has_seat_on_set c.args.hit_nodes.now st s (λ f. get_or of f None)) all_fragments in
    outlook-told nodes st ns s c.args.hit_nodes.now are code own hit now bare hits misses unhomed c.requires.seated.one_home c.args.outage c.joined-missing.result.bits
    c.match-outage.homeless.bits c.without.result.bits c.match-outage-2.leases_ended c.has_seat_on_any.result c.unwrap.result c.level_by.result first c.joined-missing.ensures bared c.level_by.ensures
    c.without.ensures ended (c.has_seat_on_any.ensures ∙ ap seated homes ∙ seats-as st ns c.args.hit_nodes.now are s)
