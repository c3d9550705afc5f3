-- `none` makes a struct that owns nothing.
use Rattle.std.proofs.Common.{[], ◌∷◌, ◌++◌, List, refl, lit<}
use mir.Syntax.{w64}
use mathlib.Core.Bool.{◌&&◌, true}
use lib.Dec.{T}
use denote.Param.{layout}
use mir.Val.{Val, vint, has_ty, WT}
use base.Logic.{emp}
use base.Fml.{ftrue, fsep}
use prog.Wp.{WpFn}
use types.Kit.{‵, raw, prop, ◌⊛◌, ◌$◌, ◌∵◌, !, qed, move, drop, join, split, fsplit, fjoin, fpack, feq_i, regoal, suffices, done}
use types.Part.{agg}
use types.Run.{no_more, and_then, lit, returns, enter}
use types.ByLocal.{alloc_all, pass_all, free_all, look_at, get, sets}
use contract.Running.{tables}
use denote.Exit.{yes}
use denote.Builtin.{RawPtr}
use denote.RattleType.{Valss}
use denote.RawPtr.{null_ptr}
use denote.Steps.{nothing}
use denote.Struct.Owning.{shape}
use denote.Struct.Struct.{within}
use denote.Triple.Walked.{says, Stays, stay_dropped, walk_of, ends_at, Goes-dropped}
use Rattle.std.specs.Prelude.{None}
use Rattle.std.proofs.alloc.Calls.{handle_tells}
use Rattle.std.proofs.raw_atomic.Walks.{proved_at}
use Rattle.std.proofs.ResultValues.{and_tt}
use Rattle.lrc_embed.proofs.Values.{both}
use Rattle.lrc_embed.proofs.FeedRows.{heap_al, FromHeap}
use Rattle.std.specs.contracts.alloc.Global as Heap
use Rattle.lrc_embed.specs.contracts.owned_feed.OwnedFeed as Owned
use Rattle.lrc_embed.specs.contracts.owned_feed.OwnedFeed.none as F
use Rattle.lrc_embed.specs.contracts.owned_feed.OwnedFeed.none.Key.{name as #self}
use Rattle.lrc_embed.proofs.owned_feed.OwnedFeed.none.Statement.{statement}
use Rattle.lrc_embed.proofs.owned_feed.OwnedFeed.none.Code as code

abbrev stayed : Stays F.ended.signature.params F.ended.kept
stayed = (stay_dropped FromHeap yes, tt)

pub none_spec : {M : Type 1} → statement M
none_spec 𝓤 𝓛 𝓜 𝓡 wired =
    let H = 𝓛.H in let 𝓣 = tables 𝓤 H 𝓜 𝓡 𝓡.env in let c = F.clauses 𝓛 𝓜.mem 𝓡.returns in
    proved_at 𝓛 F.ended stayed c 𝓜 𝓡 (Goes-dropped 𝓛 0 FromHeap yes (λ κs x f. refl), tt) #self code.function (code.unfolded 𝓤 H 𝓜 𝓡 wired) (λ z are.
    let a = z.0.3.0 in let Post = (walk_of 𝓛 F.ended stayed c).post z in
    qed 𝓛 ((‵ ftrue ⊛ ‵ (fsep (heap_al.row.own_val a z.0.4.0) ftrue)) ∷ raw (emp 𝓤) ∷ []) ∵ split ! $ drop ! $ fsplit ! $
    handle_tells heap_al ! a z.0.4.0 (λ h ws fits. move ! (1 ∷ 2 ∷ []) $ drop ! $ drop ! $
    let null = vint w64 0 in let w = both null h in let typed : T (has_ty (layout heap_al.row) h && true) × WT w = (and_tt (has_ty (layout heap_al.row) h) fits.0, (record { fits = lit< tt }, (fits.1, tt))) in
    regoal ! (λ (us : List Val). prop (WpFn 𝓤 H 𝓣.C 𝓣.Λ code.function (us ++ []) Post)) ws refl $
    enter ! 𝓣.C 𝓣.Λ code.function (h ∷ []) Post $ alloc_all ! (λ ls. pass_all ! refl (fits, tt) $
    sets ! (agg ! (and_then ! (lit ! tt) (and_then ! (get ! refl) (no_more !)))) refl typed $ returns ! (look_at ! 0 refl) $ free_all ! refl $
    nothing ! $ move ! (1 ∷ 0 ∷ []) $ fjoin ! $ feq_i ! (List Val) (null ∷ []) (null ∷ []) refl $ fjoin ! $ feq_i ! (List Val) (w ∷ []) (w ∷ []) refl $ fjoin ! $
    fpack ! (Valss (RawPtr ∷ Heap.the_field.row ∷ [])) (within (shape Owned.the_type) (null_ptr, (((tt, tt), tt), tt)) (w ∷ [])) (null ∷ [], (h ∷ [], tt)) $
    nothing ! $ move ! (1 ∷ 0 ∷ []) $ fjoin ! $
    suffices ! _ (ends_at 𝓛 F.ended stayed c z w (record { at = null_ptr; alloc = a; end = None }) (tt, tt) (tt, tt)) $ says ! refl $
    nothing ! $ nothing ! $ fjoin ! $ join ! $ nothing ! $ join ! $ done !)))
