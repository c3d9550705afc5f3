-- What comes back makes no further fragment missing.
use Rattle.std.proofs.Common.{◌≡◌, ℕ, ◌&&◌, Bool, true, false, not, List, [], ◌∷◌, Option, Some, None, if◌then◌else◌, IsTrue, refl, sym, ap, ◌∙◌, subst}
use Rattle.std.specs.Option.{option_map_or}
use Rattle.std.proofs.lemmas.Bool.{and_parts, and_from, not-true}
use Rattle.std.proofs.lemmas.List.Elements.{All-head, All-tail}
use Rattle.lrc_code.specs.declared.numbers.StripeNo.{StripeNo}
use Rattle.lrc_code.specs.declared.numbers.NodeNo.{NodeNo}
use Rattle.lrc_code.specs.declared.numbers.SessionNo.{SessionNo}
use Rattle.lrc_code.specs.declared.numbers.Fragment.{Fragment}
use Rattle.lrc_code.specs.Numbers.{same_node}
use Rattle.lrc_code.specs.Codes.{has_fragment}
use Rattle.lrc_topology.specs.declared.NodeInfo.{NodeInfo}
use Rattle.lrc_topology.specs.declared.seat.Seat.{Seat}
use Rattle.lrc_topology.specs.Nodes.{node_at}
use Rattle.lrc_terms.specs.Levels.{homes_of}
use Rattle.lrc_rules.specs.States.{State, code_of, is_down, mode_of, is_online, online_at, missing}
use Rattle.lrc_terms.specs.Modes.{is_gone}
use Rattle.lrc_rules.specs.declared.command.Command.{Command}
use Rattle.lrc_rules.specs.declared.command.Command.TheVariants.{Up, Upgraded, Done}
use Rattle.lrc_rules.specs.declared.entry.Entry.{Entry}
use Rattle.lrc_rules.specs.declared.reply.Reply.{Reply}
use Rattle.lrc_rules.specs.declared.reply.Reply.TheVariants.{Changed}
use Rattle.lrc_rules.specs.States.{is_upgrading}
use Rattle.lrc_rules.specs.Leases.{moved_in}
use Rattle.lrc_rules.specs.Steps.{step, without_down, without_upgrading}
use Rattle.lrc_rules.specs.Histories.{World, next_world}
use Rattle.lrc_rules.specs.Changes.{changed_by}
use Rattle.lrc_rules.proofs.StepLemmas.{step-changed}
use Rattle.lrc_rules.proofs.ModeListLemmas.{left}
use Rattle.lrc_forecast.specs.Forecasts.{is_return, Call, AreReturns, entry_of, world_with}
use Rattle.lrc_forecast.proofs.UnrecoverableLemmas.{MissesNoMore}
use Rattle.lrc_forecast.proofs.ReportLemmas.{taken_in, moved_by, is_moved, done-is, taken-told, moved-homes}

-- ---- what comes back makes no further fragment missing

up-by : (gone down upgrading b : Bool) → (not gone && (not down && not upgrading)) ≡ true → (not gone && (not (not b && down) && not upgrading)) ≡ true
up-by true down upgrading b on = absurd (cc)
up-by false true upgrading b on = absurd (cc)
up-by false false true b on = absurd (cc)
up-by false false false true on = refl
up-by false false false false on = refl

ended-by : (gone down upgrading : Bool) → (not gone && (not down && not upgrading)) ≡ true → (not gone && (not down && true)) ≡ true
ended-by true down upgrading on = absurd (cc)
ended-by false true upgrading on = absurd (cc)
ended-by false false upgrading on = refl

-- a fragment with this home is missing, if these nodes are online
abbrev pub lacks : Bool → (NodeNo → Bool) → Option Seat → Bool
lacks own online home = own && option_map_or (λ seat. not (online seat.node)) home true

lacks-fewer : (own : Bool) (online later : NodeNo → Bool) → ((k : NodeNo) → online k ≡ true → later k ≡ true) → (home : Option Seat) → lacks own later home ≡ true → lacks own online home ≡ true
lacks-fewer own online later more None hit = hit
lacks-fewer own online later more (Some seat) hit =
    let parts = and_parts own (not (later seat.node)) hit in
    and_from own (not (online seat.node)) parts.0 (by (online seat.node) refl)
  where
    by : (b : Bool) → online seat.node ≡ b → not b ≡ true
    by false is = refl
    by true is = absurd (
        let parts = and_parts own (not (later seat.node)) hit in
        let both : true ≡ false = sym (more seat.node is) ∙ not-true (later seat.node) parts.1 in cc)

module _ (nodes : List NodeInfo) (st : State) (s : StripeNo) where
  pub same-more : MissesNoMore nodes s st st
  same-more = record { code = refl; missing = λ f hit. hit }

  up-online : (n k : NodeNo) → online_at nodes st k ≡ true → online_at nodes (without_down st n) k ≡ true
  up-online n k = by (node_at nodes k) where
    by : (o : Option NodeInfo) → option_map_or (is_online st) o false ≡ true → option_map_or (is_online (without_down st n)) o false ≡ true
    by None on = on
    by (Some m) on =
        ap (λ (d : Bool). not (is_gone (mode_of st m.number)) && (not d && not (is_upgrading st m))) (left st.down n m.number (same_node n m.number) refl)
        ∙ up-by (is_gone (mode_of st m.number)) (is_down st m.number) (is_upgrading st m) (same_node n m.number) on

  ended-online : (k : NodeNo) → online_at nodes st k ≡ true → online_at nodes (without_upgrading st) k ≡ true
  ended-online k = by (node_at nodes k) where
    by : (o : Option NodeInfo) → option_map_or (is_online st) o false ≡ true → option_map_or (is_online (without_upgrading st)) o false ≡ true
    by None on = on
    by (Some m) on = ended-by (is_gone (mode_of st m.number)) (is_down st m.number) (is_upgrading st m) on

  up-less : (n : NodeNo) → MissesNoMore nodes s st (without_down st n)
  up-less n = record { code = refl; missing = λ f. lacks-fewer (has_fragment (code_of st s) f) (online_at nodes st) (online_at nodes (without_down st n)) (up-online n) (homes_of st.homes s f) }

  ended-less : MissesNoMore nodes s st (without_upgrading st)
  ended-less = record { code = refl; missing = λ f. lacks-fewer (has_fragment (code_of st s) f) (online_at nodes st) (online_at nodes (without_upgrading st)) ended-online (homes_of st.homes s f) }

  moved-less : (t : StripeNo) (f : Fragment) (seat : Seat) → online_at nodes st seat.node ≡ true → MissesNoMore nodes s st (moved_in st t f seat)
  moved-less t f seat on = record { code = refl; missing = λ g hit. by g (is_moved t f s g) refl (sym (home g) ∙ hit) } where
    home : (g : ℕ) → missing nodes (moved_in st t f seat) s g ≡ lacks (has_fragment (code_of st s) g) (online_at nodes st) (if is_moved t f s g then Some seat else homes_of st.homes s g)
    home g = ap (lacks (has_fragment (code_of st s) g) (online_at nodes st)) (moved-homes st t f seat s g)

    by : (g : ℕ) (b : Bool) → is_moved t f s g ≡ b → lacks (has_fragment (code_of st s) g) (online_at nodes st) (if is_moved t f s g then Some seat else homes_of st.homes s g) ≡ true
        → missing nodes st s g ≡ true
    by g true is hit = absurd (
        let off = (and_parts (has_fragment (code_of st s) g) (not (online_at nodes st seat.node)) (sym (rw is refl) ∙ hit)).1 in
        let both : true ≡ false = sym on ∙ not-true (online_at nodes st seat.node) off in cc)
    by g false is hit = sym (rw is refl) ∙ hit

  return-less : (past : List Entry) (session : SessionNo) (c : Command) → is_return c ≡ true → MissesNoMore nodes s st (step nodes past st session c).1
  return-less past session (Up n) is =
      subst (MissesNoMore nodes s st) (sym (step-changed nodes past st session (Up n))) (by (step nodes past st session (Up n)).0) where
        by : (r : Reply) → MissesNoMore nodes s st (changed_by st (Up n) r)
        by Changed = up-less n
        by _ = same-more
  return-less past session (Upgraded u) is =
      subst (MissesNoMore nodes s st) (sym (step-changed nodes past st session (Upgraded u))) (by (step nodes past st session (Upgraded u)).0) where
        by : (r : Reply) → MissesNoMore nodes s st (changed_by st (Upgraded u) r)
        by Changed = ended-less
        by _ = same-more
  return-less past session (Done t f e) is =
      subst (MissesNoMore nodes s st) (sym (done-is nodes st session t f e)) (by (taken_in nodes st session t f e) refl) where
        by : (o : Option Seat) → taken_in nodes st session t f e ≡ o → MissesNoMore nodes s st (moved_by st t f o)
        by None told = same-more
        by (Some seat) told = moved-less t f seat (taken-told nodes st session t f e seat told).3
  return-less past session _ is = absurd (cc)

module _ (nodes : List NodeInfo) (s : StripeNo) where
  less-then : (a b c : State) → MissesNoMore nodes s a b → MissesNoMore nodes s b c → MissesNoMore nodes s a c
  less-then a b c first more = record { code = more.code ∙ first.code; missing = λ f hit. first.missing f (more.missing f hit) }

  -- and so does any sequence
  pub returns-less : (w : World) (calls : List Call) → AreReturns calls → MissesNoMore nodes s w.state (world_with nodes w calls).state
  returns-less w [] all = same-more nodes w.state s
  returns-less w (c ∷ cs) all =
      let next = next_world nodes w (entry_of nodes w c) in
      less-then w.state next.state (world_with nodes next cs).state
      (return-less nodes w.state s w.past c.0 c.1 (All-head (λ (d : Call). IsTrue (is_return d.1)) c cs all))
      (returns-less next cs (All-tail (λ (d : Call). IsTrue (is_return d.1)) c cs all))
