-- What holds of a book and an end that are there, and of a viewer as its book makes calls.
use Rattle.std.proofs.Common.{◌≡◌, ℕ, ◌+◌, List, [], ◌∷◌, ◌++◌, length, Option, Some, refl, sym, ap, subst, ◌∙◌, arith, append_assoc, append-nil, length-append}
use Rattle.std.proofs.lemmas.List.{map-append}
use Rattle.std.proofs.lemmas.List.Sums.{fold-append}
use Rattle.lrc_topology.specs.declared.NodeInfo.{NodeInfo}
use Rattle.lrc_rules.specs.declared.entry.Entry.{Entry}
use Rattle.lrc_rules.specs.Histories.{World, outcome_in, next_world, world_from}
use Rattle.lrc_book.specs.Books.{BookView, world_of}
use Rattle.lrc_rules.proofs.AlikeWorldLemmas.{legal-append}
use Rattle.lrc_feed.specs.declared.feed.FedCall.{FedCall}
use Rattle.lrc_feed.specs.Feeds.{FeedAt, passed}
use Rattle.lrc_embed.specs.Calls.{entry_count}
use Rattle.lrc_embed.specs.Published.{Both, IsViewOf, HasMade, HasFollowed, call_of}

pub both_some : {book : Option BookView} {end : Option FeedAt} {b : BookView} {e : FeedAt} (P : BookView → FeedAt → Type 0)
    → book ≡ Some b → end ≡ Some e → P b e → Both book end P
both_some {end = end} {b = b} P is at holds =
    subst (λ (o : Option BookView). Both o end P) (sym is) (subst (λ (o : Option FeedAt). Both (Some b) o P) (sym at) holds)

-- the same of an equal book and an equal end
pub both_seen : (book : Option BookView) (end : Option FeedAt) {b b' : BookView} {e e' : FeedAt} → b' ≡ b → e' ≡ e
    → Both book end (λ view f. IsViewOf b' view × (f ≡ e')) → Both book end (λ view f. IsViewOf b view × (f ≡ e))
both_seen book end {b' = b'} {e = e} is at holds =
    subst (λ (x : BookView). Both book end (λ view f. IsViewOf x view × (f ≡ e))) is
    (subst (λ (y : FeedAt). Both book end (λ view f. IsViewOf b' view × (f ≡ y))) at holds)

pub made_none : (b : BookView) → HasMade [] b b
made_none b = ([], tt, refl, sym (append-nil b.history), refl, refl, refl, refl)

-- the room that was made for later is not part of it
pub made_same : (calls : List FedCall) (b mid after : BookView) → HasMade calls b mid
    → after.history ≡ mid.history → after.nodes ≡ mid.nodes → after.limit ≡ mid.limit → after.base ≡ mid.base → after.before ≡ mid.before
    → HasMade calls b after
made_same calls b mid after r history nodes limit base before =
    (r.0, r.1, r.2, history ∙ r.3, nodes ∙ r.4, limit ∙ r.5, base ∙ r.6, before ∙ r.7)

-- one more entry
pub made_push : (calls : List FedCall) (b mid after : BookView) (e : Entry) → HasMade calls b mid → (outcome_in mid.nodes (world_of mid) e.session e.command).0 ≡ e.reply
    → after.history ≡ mid.history ++ e ∷ [] → after.nodes ≡ mid.nodes → after.limit ≡ mid.limit → after.base ≡ mid.base → after.before ≡ mid.before
    → HasMade (calls ++ call_of e ∷ []) b after
made_push calls b mid after e r replies history nodes limit base before =
    let es = r.0 in
    let there : world_of mid ≡ world_from b.nodes b.base (b.history ++ es) = λ i. world_from (r.4 i) (r.6 i) (r.3 i) in
    let at = there ∙ fold-append (next_world b.nodes) b.base b.history es in
    let replied = subst (λ (ns : List NodeInfo). (outcome_in ns (world_of mid) e.session e.command).0 ≡ e.reply) r.4 replies in (
      es ++ e ∷ [],
      (legal-append b.nodes (world_of b) es (e ∷ [])).1 (r.1, (subst (λ (w : World). (outcome_in b.nodes w e.session e.command).0 ≡ e.reply) at replied, tt)),
      map-append call_of es (e ∷ []) ∙ ap (λ (cs : List FedCall). cs ++ call_of e ∷ []) r.2,
      history ∙ ap (λ (h : List Entry). h ++ e ∷ []) r.3 ∙ append_assoc b.history es (e ∷ []),
      nodes ∙ r.4,
      limit ∙ r.5,
      base ∙ r.6,
      before ∙ r.7,
    )

pub followed_none : (b : BookView) (e : FeedAt) → HasFollowed b e b e
followed_none b e =
    let place : e.place ≡ e.place + 0 = omega arith in
    ([], made_none b, λ i. record { feed = e.feed; calls = sym (append-nil e.calls) i; known = e.known; place = place i })

-- what an end knows besides does not matter
pub followed_known : (b mid after : BookView) (e at f : FeedAt) → HasFollowed b e mid at → f ≡ record at { known = f.known }
    → after.history ≡ mid.history → after.nodes ≡ mid.nodes → after.limit ≡ mid.limit → after.base ≡ mid.base → after.before ≡ mid.before
    → HasFollowed b e after f
followed_known b mid after e at f r same history nodes limit base before = (
  r.0,
  made_same r.0 b mid after r.1 history nodes limit base before,
  same ∙ (λ i. record { feed = (r.2 i).feed; calls = (r.2 i).calls; known = f.known; place = (r.2 i).place }),
)

-- one more call
pub followed_push : (b mid after : BookView) (e at f : FeedAt) (made : Entry) → HasFollowed b e mid at
    → (outcome_in mid.nodes (world_of mid) made.session made.command).0 ≡ made.reply
    → after.history ≡ mid.history ++ made ∷ [] → after.nodes ≡ mid.nodes → after.limit ≡ mid.limit → after.base ≡ mid.base → after.before ≡ mid.before
    → f ≡ record (passed at (call_of made)) { known = f.known } → HasFollowed b e after f
followed_push b mid after e at f made r replies history nodes limit base before past =
    let calls = r.0 in
    let all : at.calls ++ call_of made ∷ [] ≡ e.calls ++ (calls ++ call_of made ∷ []) =
    ap (λ (x : FeedAt). x.calls ++ call_of made ∷ []) r.2 ∙ append_assoc e.calls calls (call_of made ∷ []) in
    let place : at.place + 1 ≡ e.place + length (calls ++ call_of made ∷ []) =
    omega (arith, ap (λ (x : FeedAt). x.place) r.2, length-append calls (call_of made ∷ [])) in (
      calls ++ call_of made ∷ [],
      made_push calls b mid after made r.1 replies history nodes limit base before,
      past ∙ (λ i. record { feed = (r.2 i).feed; calls = all i; known = f.known; place = place i }),
    )

pub at_push : (mid after : BookView) (place : ℕ) (e : Entry) → entry_count mid ≡ place → after.history ≡ mid.history ++ e ∷ [] → after.before ≡ mid.before
    → entry_count after ≡ place + 1
at_push mid after place e is history before =
    let long : length after.history ≡ length mid.history + 1 = ap (λ (h : List Entry). length h) history ∙ length-append mid.history (e ∷ []) in
    let front : entry_count after ≡ mid.before + length after.history = ap (λ (n : ℕ). n + length after.history) before in
    front ∙ ap (λ (n : ℕ). mid.before + n) long ∙ (omega arith) ∙ ap (λ (n : ℕ). n + 1) is
