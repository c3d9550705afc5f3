-- `seal` moves two fields, and what they own goes with them.
use Rattle.std.proofs.Common.{[], ◌∷◌, ◌++◌, List, refl}
use mir.Val.{Val, vptr}
use base.Logic.{emp, id⊢}
use base.Fml.{ftrue, fsep}
use prog.Wp.{WpFn}
use types.Kit.{‵, raw, prop, ◌⊛◌, ◌$◌, ◌∵◌, !, qed, move, drop, use1, join, split, fsplit, fjoin, regoal, suffices, done}
use types.Part.{whole, sub, agg}
use types.Run.{stop, fld, no_more, and_then, of_opd, returns, enter}
use types.ByLocal.{alloc_all, pass_all, free_all, look_at, get, get_in, sets}
use contract.Running.{tables}
use denote.Exit.{yes}
use denote.Steps.{nothing}
use denote.Triple.Walked.{says, Stays, stay_dropped, walk_of, ends_at, Goes-dropped}
use Rattle.std.proofs.raw_atomic.Walks.{proved_at}
use Rattle.lrc_embed.proofs.Values.{both, loose_good, loose_out, loose_in}
use Rattle.lrc_embed.proofs.FeedRows.{heap_al, TheOwned, FromLoose, TheLoose, owned_of}
use Rattle.lrc_feed.specs.contracts.end.FeedEnd as End
use Rattle.lrc_embed.specs.contracts.owned_feed.OwnedFeed.seal as F
use Rattle.lrc_embed.specs.contracts.owned_feed.OwnedFeed.seal.Key.{name as #self}
use Rattle.lrc_embed.proofs.owned_feed.OwnedFeed.seal.Statement.{statement}
use Rattle.lrc_embed.proofs.owned_feed.OwnedFeed.seal.Code as code

abbrev stayed : Stays F.ended.signature.params F.ended.kept
stayed = (stay_dropped FromLoose yes, tt)

pub seal_spec : {M : Type 1} → statement M
seal_spec 𝓤 𝓛 𝓜 𝓡 wired =
    let H = 𝓛.H in let 𝓣 = tables 𝓤 H 𝓜 𝓡 𝓡.env in let c = F.clauses 𝓛 𝓜.mem 𝓡.returns in
    proved_at 𝓛 F.ended stayed c 𝓜 𝓡 (Goes-dropped 𝓛 0 FromLoose yes (λ κs x f. refl), tt) #self code.function (code.unfolded 𝓤 H 𝓜 𝓡 wired) (λ z are.
    let l = z.0.3.0 in let Post = (walk_of 𝓛 F.ended stayed c).post z in
    qed 𝓛 ((‵ ftrue ⊛ ‵ (fsep (TheLoose.own_val l z.0.4.0) ftrue)) ∷ raw (emp 𝓤) ∷ []) ∵ split ! $ drop ! $ fsplit ! $
    loose_out End.the_row heap_al.row heap_al.laws heap_al.g ! l z.0.4.0 (λ b o h e ws fits.
    let w = both (vptr b o) h in let typed = loose_good End.the_row heap_al.row heap_al.laws heap_al.g b o h fits in
    let moved = record l { at = denote.RawPtr.block_ptr b o } in
    loose_in End.the_row heap_al.row heap_al.laws heap_al.g ! b o h l.alloc l.value $ use1 𝓛 (‵ (TheOwned.own_val (owned_of moved) (w ∷ []))) (id⊢ 𝓤 _) $ move ! (1 ∷ 2 ∷ []) $ drop ! $ drop ! $
    regoal ! (λ (us : List Val). prop (WpFn 𝓤 H 𝓣.C 𝓣.Λ code.function (us ++ []) Post)) ws refl $
    enter ! 𝓣.C 𝓣.Λ code.function (w ∷ []) Post $ alloc_all ! (λ ls. pass_all ! refl (typed, tt) $
    sets ! (of_opd ! (get_in ! (fld ! refl (stop !)) (sub ! 0 refl (whole !)))) refl (tt, tt) $ sets ! (of_opd ! (get_in ! (fld ! refl (stop !)) (sub ! 1 refl (whole !)))) refl fits $
    sets ! (of_opd ! (get ! refl)) refl (tt, tt) $
    sets ! (agg ! (and_then ! (get ! refl) (and_then ! (get ! refl) (no_more !)))) refl typed $ returns ! (look_at ! 0 refl) $ free_all ! refl $
    suffices ! _ (ends_at 𝓛 F.ended stayed c z w (owned_of moved) (tt, tt) (tt, tt)) $ says ! refl $
    nothing ! $ nothing ! $ fjoin ! $ join ! $ nothing ! $ join ! $ done !)))
