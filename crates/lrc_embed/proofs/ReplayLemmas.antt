-- Replays, as entries are added.
use Rattle.std.proofs.Common.{◌≡◌, ℕ, ◌+◌, ◌<◌, List, [], ◌∷◌, ◌++◌, length, take, get_or, refl, sym, ap, subst, ◌∙◌, append_assoc, append-nil}
use Rattle.std.proofs.lemmas.List.{take_more}
use Rattle.std.proofs.lemmas.Option.{slice_get-get_or}
use Rattle.std.proofs.lemmas.List.Sums.{fold-append}
use Rattle.lrc_topology.specs.declared.NodeInfo.{NodeInfo}
use Rattle.lrc_rules.specs.declared.entry.Entry.{Entry}
use Rattle.lrc_rules.specs.Histories.{World, outcome_in, next_world, world_from}
use Rattle.lrc_book.specs.Books.{BookView, world_of}
use Rattle.lrc_rules.proofs.AlikeWorldLemmas.{legal-append}
use Rattle.lrc_records.specs.declared.entry.LrcEntry.{LrcEntry}
use Rattle.lrc_embed.specs.Replays.{IsEntry, AreEntries, IsReplay, IsRepeat, StopsAt}

entries_push : (cs : List LrcEntry) (es : List Entry) (c : LrcEntry) (e : Entry) → AreEntries cs es → IsEntry c e
    → AreEntries (cs ++ c ∷ []) (es ++ e ∷ [])
entries_push [] [] c e are is = (is, tt)
entries_push [] (x ∷ xs) c e are is = absurd are
entries_push (y ∷ ys) [] c e are is = absurd are
entries_push (y ∷ ys) (x ∷ xs) c e are is = (are.0, entries_push ys xs c e are.1 is)

-- no entries are replayed by nothing
pub replay_none : (b : BookView) → IsReplay [] b b
replay_none b = ([], tt, tt, sym (append-nil b.history), refl, refl, refl, refl)

-- one more
pub replay_push : (cs : List LrcEntry) (c : LrcEntry) (b mid after : BookView) → IsReplay cs b mid → IsRepeat c mid after
    → IsReplay (cs ++ c ∷ []) b after
replay_push cs c b mid after r s =
    let es = r.0 in let e = s.0 in let nodes = r.4 in
    let there : world_of mid ≡ world_from b.nodes b.base (b.history ++ es) = λ i. world_from (nodes i) (r.6 i) (r.3 i) in
    let at = there ∙ fold-append (next_world b.nodes) b.base b.history es in
    let replied = subst (λ (ns : List NodeInfo). (outcome_in ns (world_of mid) e.session e.command).0 ≡ e.reply) nodes s.2 in (
      es ++ e ∷ [],
      entries_push cs es c e r.1 s.1,
      (legal-append b.nodes (world_of b) es (e ∷ [])).1 (r.2, (subst (λ (w : World). (outcome_in b.nodes w e.session e.command).0 ≡ e.reply) at replied, tt)),
      s.3 ∙ ap (λ (h : List Entry). h ++ e ∷ []) r.3 ∙ append_assoc b.history es (e ∷ []),
      s.4 ∙ r.4,
      s.5 ∙ r.5,
      s.6 ∙ r.6,
      s.7 ∙ r.7,
    )

-- the entry at this position is replayed after those before it
pub replay_more : (cs : List LrcEntry) (i : ℕ) (d : LrcEntry) (b mid same after : BookView) → i < length cs → IsReplay (take i cs) b mid → same ≡ mid
    → IsRepeat (get_or cs i d) same after → IsReplay (take (i + 1) cs) b after
replay_more cs i d b mid same after within r is s =
    subst (λ (xs : List LrcEntry). IsReplay xs b after) (sym (take_more cs i d within))
    (replay_push (take i cs) (get_or cs i d) b mid after r (subst (λ (m : BookView). IsRepeat (get_or cs i d) m after) is s))

-- the replay stops at this position
pub stops_at : (P : LrcEntry → BookView → Type 0) (cs : List LrcEntry) (i : ℕ) (d : LrcEntry) (b mid same : BookView) → i < length cs → IsReplay (take i cs) b mid → same ≡ mid
    → P (get_or cs i d) same → StopsAt P cs i b
stops_at P cs i d b mid same within r is holds = (get_or cs i d, mid, slice_get-get_or cs i d within, r, subst (P (get_or cs i d)) is holds)
