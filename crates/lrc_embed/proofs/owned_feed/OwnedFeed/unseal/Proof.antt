-- `unseal` moves two fields, and what they own goes with them. The `requires` says that there is an end.
use Rattle.std.proofs.Common.{◌≡◌, [], ◌∷◌, ◌++◌, List, refl, subst}
use mathlib.Core.Bool.{Bool, not}
use lib.Dec.{T}
use seplogic.Ra.Ura.{Ura}
use mir.Val.{Val, vptr}
use base.Logic.{ent, sep, ex, guard}
use base.Fml.{ftrue, fsep}
use prog.Wp.{WpFn}
use types.Logic.{Logic, sem}
use types.Kit.{‵, raw, prop, some, given, ◌⊛◌, ◌$◌, ◌∵◌, !, qed, move, drop, use2, pick, learn, join, split, fsplit, fjoin, regoal, suffices, show, check, done}
use types.Part.{whole, sub, agg}
use types.Run.{stop, fld, no_more, and_then, of_opd, returns, enter}
use types.ByLocal.{alloc_all, pass_all, free_all, look_at, get, get_in, sets}
use contract.Monad.{fact}
use contract.Running.{tables}
use denote.Exit.{yes}
use denote.RawPtr.{Ptr, block_ptr}
use denote.Steps.{nothing, heard}
use denote.Triple.Walked.{says, Stays, stay_dropped, walk_of, ends_at, Goes-dropped}
use Rattle.std.specs.Prelude.{Option, Some, None, is_some, true}
use Rattle.std.specs.declared.alloc.Global.{Global}
use Rattle.std.proofs.raw_atomic.Walks.{proved_at}
use Rattle.lrc_embed.proofs.Values.{both, loose_good, loose_out, loose_in}
use Rattle.lrc_embed.proofs.FeedRows.{heap_al, TheOwned, FromOwned, TheLoose}
use Rattle.lrc_feed.specs.contracts.end.FeedEnd as End
use Rattle.lrc_embed.specs.contracts.owned_feed.OwnedFeed.unseal as F
use Rattle.lrc_embed.specs.contracts.owned_feed.OwnedFeed.unseal.Key.{name as #self}
use Rattle.lrc_embed.proofs.owned_feed.OwnedFeed.unseal.Statement.{statement}
use Rattle.lrc_embed.proofs.owned_feed.OwnedFeed.unseal.Code as code

abbrev stayed : Stays F.ended.signature.params F.ended.kept
stayed = (stay_dropped FromOwned yes, tt)

-- with an end, an `OwnedFeed` is a `Loose` of that end
opened : {M : Type 1} {𝓤 : Ura M} (𝓛 : Logic 𝓤) (p : Ptr) (a : Global) (end : Option End.the_row.Denot) (vs : List Val)
    → ent 𝓤 (sep 𝓤 (fact 𝓤 (is_some end ≡ true)) (sem 𝓛 (TheOwned.own_val (record { at = p; alloc = a; end = end }) vs)))
    (ex 𝓤 (λ (x : End.the_row.Denot). guard 𝓤 (end ≡ Some x) (sem 𝓛 (TheLoose.own_val (record { at = p; alloc = a; value = x }) vs))))
opened {𝓤 = 𝓤} 𝓛 p a None vs = let none : Option End.the_row.Denot = None in qed 𝓛 (raw (fact 𝓤 (is_some none ≡ true)) ∷ ‵ (TheOwned.own_val (record { at = p; alloc = a; end = none }) vs) ∷ []) ∵ heard ! _ (λ no. absurd (subst (λ (y : Bool). T (not y)) no tt))
opened {𝓤 = 𝓤} 𝓛 p a (Some x) vs =
    qed 𝓛 (raw (fact 𝓤 (is_some (Some x) ≡ true)) ∷ ‵ (TheOwned.own_val (record { at = p; alloc = a; end = Some x }) vs) ∷ []) ∵ drop ! $
    show ! (λ (y : End.the_row.Denot). guard 𝓤 (Some x ≡ Some y) (sem 𝓛 (TheLoose.own_val (record { at = p; alloc = a; value = y }) vs))) x $ check ! refl $ done !

pub unseal_spec : {M : Type 1} → statement M
unseal_spec 𝓤 𝓛 𝓜 𝓡 wired =
    let H = 𝓛.H in let 𝓣 = tables 𝓤 H 𝓜 𝓡 𝓡.env in let c = F.clauses 𝓛 𝓜.mem 𝓡.returns in
    proved_at 𝓛 F.ended stayed c 𝓜 𝓡 (Goes-dropped 𝓛 0 FromOwned yes (λ κs x f. refl), tt) #self code.function (code.unfolded 𝓤 H 𝓜 𝓡 wired) (λ z are.
    let d = z.0.3.0 in let Post = (walk_of 𝓛 F.ended stayed c).post z in
    qed 𝓛 ((‵ ftrue ⊛ ‵ (fsep (TheOwned.own_val d z.0.4.0) ftrue)) ∷ raw (fact 𝓤 (is_some d.end ≡ true)) ∷ []) ∵ split ! $ drop ! $ fsplit ! $ move ! (2 ∷ 0 ∷ []) $
    use2 𝓛 (some (λ (x : End.the_row.Denot). given (d.end ≡ Some x) (‵ (TheLoose.own_val (record { at = d.at; alloc = d.alloc; value = x }) z.0.4.0)))) (opened 𝓛 d.at d.alloc d.end z.0.4.0) $ pick ! (λ x. learn ! (λ is.
    loose_out End.the_row heap_al.row heap_al.laws heap_al.g ! (record { at = d.at; alloc = d.alloc; value = x }) z.0.4.0 (λ b o h e ws fits.
    let w = both (vptr b o) h in let typed = loose_good End.the_row heap_al.row heap_al.laws heap_al.g b o h fits in
    loose_in End.the_row heap_al.row heap_al.laws heap_al.g ! b o h d.alloc x $ move ! (1 ∷ []) $ drop ! $
    regoal ! (λ (us : List Val). prop (WpFn 𝓤 H 𝓣.C 𝓣.Λ code.function (us ++ []) Post)) ws refl $
    enter ! 𝓣.C 𝓣.Λ code.function (w ∷ []) Post $ alloc_all ! (λ ls. pass_all ! refl (typed, tt) $
    sets ! (of_opd ! (get_in ! (fld ! refl (stop !)) (sub ! 0 refl (whole !)))) refl (tt, tt) $ sets ! (of_opd ! (get_in ! (fld ! refl (stop !)) (sub ! 1 refl (whole !)))) refl fits $
    sets ! (of_opd ! (get ! refl)) refl (tt, tt) $
    sets ! (agg ! (and_then ! (get ! refl) (and_then ! (get ! refl) (no_more !)))) refl typed $ returns ! (look_at ! 0 refl) $ free_all ! refl $
    suffices ! _ (ends_at 𝓛 F.ended stayed c z w (record { at = block_ptr b o; alloc = d.alloc; value = x }) (tt, tt) (tt, tt)) $ says ! is $
    nothing ! $ nothing ! $ fjoin ! $ join ! $ nothing ! $ join ! $ done !)))))
