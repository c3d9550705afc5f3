-- The rows and the nodes of an empty store.
use Rattle.std.proofs.Common.{◌≡◌, ℕ, ◌≤◌, Bool, true, false, if◌then◌else◌, List, [], ◌∷◌, length, get_or, replicate, None, refl, sym, ap, ◌∙◌, subst, inl, inr, arith}
use Rattle.std.specs.List.{list_any, range_with_len}
use Rattle.std.specs.Option.{option_map_or}
use Rattle.std.proofs.lemmas.Bool.{cases_Bool, cases_lt}
use Rattle.std.proofs.lemmas.Simd.{splat_is_map}
use Rattle.std.proofs.lemmas.List.{length-replicate, get_or-replicate, get_or_past}
use Rattle.std.proofs.lemmas.List.FromFn.{length-range_with_len}
use Rattle.lrc_code.specs.declared.numbers.NodeNo.{NodeNo}
use Rattle.lrc_code.specs.Numbers.{same_node}
use Rattle.lrc_topology.specs.declared.NodeInfo.{NodeInfo}
use Rattle.lrc_topology.specs.Nodes.{node_at}
use Rattle.lrc_rules.specs.States.{opening, is_online}
use Rattle.lrc_board.specs.Views.{homes_row, rows_by, rows_of, online_of}
use Rattle.lrc_board.specs.Refreshed.{put_flags}
use Rattle.lrc_board.proofs.RefreshLemmas.{flags-are, put-long, put-at}

none-kept : (count : ℕ) → replicate count None ≡ rows_by count (homes_row opening)
unfolding homes_row
none-kept count = splat_is_map (range_with_len 0 count) count None (length-range_with_len 0 count)

-- no stripe has a row
pub none-after : replicate 4096 None ≡ rows_of opening
unfolding rows_of
none-after = none-kept 4096

-- ---- flags

module _ (count : ℕ) (flags : List Bool) (is : flags ≡ replicate count false) where
  pub none-long : length flags ≡ count
  none-long = ap length is ∙ length-replicate count false

  pub none-set : (k : ℕ) → get_or flags k false ≡ false
  none-set k = elim (cases_lt k count) [
    | inl within ↦ ap (λ (l : List Bool). get_or l k false) is ∙ get_or-replicate count k false false within
    | inr past ↦ get_or_past flags k false (subst (λ (m : ℕ). m ≤ k) (sym none-long) past)
  ]

-- a node of the empty store is online
there : (n : NodeNo) (nodes : List NodeInfo) → (if list_any (λ m. same_node n m.number) nodes then true else false) ≡ option_map_or (is_online opening) (node_at nodes n) false
there n [] = refl
there n (m ∷ ms) = elim (cases_Bool (same_node n m.number)) [
  | inl hit ↦ rw hit refl
  | inr miss ↦ rw miss (there n ms)
]

-- all nodes are marked, where no number was
pub all-marked : (nodes : List NodeInfo) (flags : List Bool) → length flags ≡ 65536 → ((k : ℕ) → get_or flags k false ≡ false)
    → put_flags (λ n. true) flags nodes ≡ online_of nodes opening
all-marked nodes flags long none =
    flags-are nodes opening (put_flags (λ n. true) flags nodes) (put-long (λ n. true) nodes flags ∙ long)
    (λ k within.
    let n : NodeNo = record { value = k } in
    put-at (λ n. true) nodes flags n (omega (arith, within, long))
    ∙ ap (λ (b : Bool). if list_any (λ m. same_node n m.number) nodes then true else b) (none k)
    ∙ there n nodes)
