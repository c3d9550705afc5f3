-- Alike states have the same forecasts.
use Rattle.std.specs.Prelude.{option_to_list}
use Rattle.std.proofs.Common.{◌≡◌, not, is_none, length, flat_map, ◌&&◌, ◌||◌, List, map, filter, option_map, ap, sym, ◌∙◌}
use Rattle.std.specs.List.{list_any}
use Rattle.std.proofs.lemmas.Map.Entries.{option_filter}
use Rattle.std.proofs.Math.Path.{fun_ext}
use Rattle.lrc_code.specs.declared.numbers.NodeNo.{NodeNo}
use Rattle.lrc_code.specs.declared.numbers.Fragment.{Fragment}
use Rattle.lrc_code.specs.Codes.{all_fragments, has_fragment}
use Rattle.lrc_code.specs.Losses.{bits_of}
use Rattle.lrc_topology.specs.declared.NodeInfo.{NodeInfo}
use Rattle.lrc_terms.specs.declared.lease.Lease.{Lease}
use Rattle.lrc_terms.specs.Levels.{homeless_in, missing_in, level_by, is_whole}
use Rattle.lrc_rules.specs.States.{State, code_of, lease_of, homeless, missing, level}
use Rattle.lrc_rules.specs.Alike.{AreAlike}
use Rattle.lrc_rules.specs.Goodness.{AreSeated}
use Rattle.lrc_rules.proofs.AlikeReadLemmas.{alike-code, alike-online_at, alike-homes, alike-leases}
use Rattle.lrc_book.proofs.AlikeLookLemmas.{alike-looks}
use Rattle.lrc_forecast.specs.declared.outlook.Outage.{Outage}
use Rattle.lrc_forecast.specs.declared.outlook.Outage.TheVariants.{Stop, Lose}
use Rattle.lrc_forecast.specs.Forecasts.{state_with, is_on_any, hit_in, live_leases, has_seat_on_any, outlook, forecast}
use Rattle.lrc_forecast.proofs.LeaseLemmas.{is_hit, lease-stopped, lease-lost}
use Rattle.lrc_forecast.proofs.OutageLemmas.{code-after, missing-after, homeless-stopped, homeless-lost}

module _ (nodes : List NodeInfo) (w v : State) (alike : AreAlike w v) (seated : AreSeated nodes w) (seated' : AreSeated nodes v) where
  -- ---- now

  same-missing : missing nodes w ≡ missing nodes v
  same-missing =
      let code = alike-code w v alike in
      let online = alike-online_at w v alike nodes in
      let homes = alike-homes nodes w v alike seated seated' in λ i s. missing_in (code i s) (online i) (homes i s)

  same-homeless : homeless w ≡ homeless v
  same-homeless =
      let code = alike-code w v alike in
      let homes = alike-homes nodes w v alike seated seated' in λ i s. homeless_in (code i s) (homes i s)

  same-level : level nodes w ≡ level nodes v
  same-level =
      let code = alike-code w v alike in
      let homeless = same-homeless in
      let missing = same-missing in λ i s. level_by (code i s) (homeless i s) (missing i s)

  -- ---- with the outage of these nodes

  module _ (outage : Outage) (ns : List NodeNo) where
    same-hit : hit_in w ns ≡ hit_in v ns
    same-hit =
        let code = alike-code w v alike in
        let homes = alike-homes nodes w v alike seated seated' in λ i s f. has_fragment (code i s) f && is_on_any ns (homes i s f)

    code-then : code_of (state_with outage w ns) ≡ code_of (state_with outage v ns)
    code-then = fun_ext (λ s.
        let code = alike-code w v alike in code-after outage w ns s ∙ (λ i. code i s) ∙ sym (code-after outage v ns s))

    missing-then : missing nodes (state_with outage w ns) ≡ missing nodes (state_with outage v ns)
    missing-then = fun_ext (λ s. fun_ext (λ f.
        let missing = same-missing in
        let hit = same-hit in
        missing-after nodes w ns s f outage seated.one_home ∙ (λ i. missing i s f || hit i s f) ∙ sym (missing-after nodes v ns s f outage seated'.one_home)))

  homeless-then : (outage : Outage) (ns : List NodeNo) → homeless (state_with outage w ns) ≡ homeless (state_with outage v ns)
  homeless-then Stop ns = fun_ext (λ s. fun_ext (λ f.
      let homeless = same-homeless in
      homeless-stopped nodes w ns s f ∙ (λ i. homeless i s f) ∙ sym (homeless-stopped nodes v ns s f)))
  homeless-then Lose ns = fun_ext (λ s. fun_ext (λ f.
      let homeless = same-homeless in
      let hit = same-hit Lose ns in
      homeless-lost nodes w ns s f seated.one_home ∙ (λ i. homeless i s f || hit i s f) ∙ sym (homeless-lost nodes v ns s f seated'.one_home)))

  lease-then : (outage : Outage) (ns : List NodeNo) → lease_of (state_with outage w ns) ≡ lease_of (state_with outage v ns)
  lease-then Stop ns = fun_ext (λ s. fun_ext (λ f.
      let lease = alike-leases nodes w v alike seated seated' in
      lease-stopped w ns s f ∙ (λ i. lease i s f.value) ∙ sym (lease-stopped v ns s f)))
  lease-then Lose ns = fun_ext (λ s. fun_ext (λ f.
      let lease = alike-leases nodes w v alike seated seated' in
      let homes = alike-homes nodes w v alike seated seated' in
      lease-lost w ns s f seated.one_home seated.one_lease
      ∙ (λ i. option_filter (λ (l : Lease). not (is_hit ns l.target (homes i l.stripe l.fragment.value))) (lease i s f.value))
      ∙ sym (lease-lost v ns s f seated'.one_home seated'.one_lease)))

  module _ (outage : Outage) (ns : List NodeNo) where
    level-then : level nodes (state_with outage w ns) ≡ level nodes (state_with outage v ns)
    level-then =
        let code = code-then outage ns in
        let homeless = homeless-then outage ns in
        let missing = missing-then outage ns in λ i s. level_by (code i s) (homeless i s) (missing i s)

    same-outlook : outlook nodes w outage ns ≡ outlook nodes v outage ns
    unfolding live_leases has_seat_on_any
    same-outlook =
        let code = alike-code w v alike in
        let before = same-level in
        let after = level-then in
        let now = same-missing in
        let missing = missing-then outage ns in
        let lease = alike-leases nodes w v alike seated seated' in
        let later = lease-then outage ns in
        let homes = alike-homes nodes w v alike seated seated' in
        λ i s. record {
          stripe = s;
          code = code i s;
          before = before i s;
          after = after i s;
          missing = record { bits = bits_of (code i s) (missing i s) };
          newly_missing = record { bits = bits_of (code i s) (λ f. missing i s f && not (now i s f)) };
          leases_ended = length (filter (λ (l : Lease). is_none (later i l.stripe l.fragment)) (flat_map (λ (f : Fragment). option_to_list (lease i s f.value)) all_fragments));
          has_seat_on_any = list_any (λ (f : Fragment). is_on_any ns (homes i s f.value) || is_on_any ns (option_map (λ (l : Lease). l.target) (lease i s f.value))) all_fragments;
        }

    pub alike-forecast : forecast nodes w outage ns ≡ forecast nodes v outage ns
    alike-forecast =
        let outlooks = same-outlook in
        let after = level-then in
        let stripes = (alike-looks nodes w v alike seated seated').stripes in
        λ i. map (outlooks i) (filter (λ s. not (is_whole (after i s))) (stripes i))
