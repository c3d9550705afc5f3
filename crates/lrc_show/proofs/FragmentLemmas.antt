-- The rows of fragments.
use Rattle.std.proofs.Common.{◌≡◌, ℕ, ◌<◌, Bool, true, false, if◌then◌else◌, List, [], ◌++◌, length, get_or, codes, decimal, map, flat_map, Option, None, refl, sym, ap, ◌∙◌, append_assoc}
use Rattle.std.proofs.lemmas.List.{get_or-map}
use Rattle.std.proofs.lemmas.List.Concat.{flat_map-append}
use Rattle.lrc_code.specs.declared.codes.Code.{Code}
use Rattle.lrc_code.specs.declared.codes.Code.TheVariants.{Wide, Narrow}
use Rattle.lrc_code.specs.declared.numbers.StripeNo.{StripeNo}
use Rattle.lrc_code.specs.declared.numbers.Fragment.{Fragment}
use Rattle.lrc_code.specs.Codes.{fragments, has_fragment, all_fragments}
use Rattle.lrc_topology.specs.declared.NodeInfo.{NodeInfo}
use Rattle.lrc_topology.specs.declared.seat.Seat.{Seat}
use Rattle.lrc_terms.specs.declared.lease.Lease.{Lease}
use Rattle.lrc_terms.specs.Levels.{homes_of}
use Rattle.lrc_rules.specs.States.{State, code_of, lease_of}
use Rattle.lrc_book.proofs.ImagedLemmas.{item-number}
use Rattle.lrc_show.specs.Listed.{whereabouts, lease_fields, fragment_line, shown_fragment, fragment_rows}

-- fields with a comma before each
abbrev pub commas : List (List ℕ) → List ℕ
commas fields = flat_map (λ f. codes "," ++ f) fields

joined : (old s f place terms comma end : List ℕ) → ((((old ++ (s ++ comma ++ f)) ++ place) ++ terms) ++ end) ≡ old ++ (s ++ ((comma ++ f) ++ (place ++ terms)) ++ end)
joined old s f place terms comma end = simp append_assoc

module _ (nodes : List NodeInfo) (st : State) (s : StripeNo) where
  -- the row, as its fields are written
  pub fragment-told : (f : Fragment) (home : Option Seat) (l : Option Lease) (old a b c new : List ℕ) → a ≡ old ++ (decimal s.value ++ codes "," ++ decimal f.value)
      → b ≡ a ++ commas (whereabouts nodes st home) → c ≡ b ++ commas (lease_fields l) → new ≡ c ++ codes "\n" → new ≡ old ++ fragment_line nodes st s f home l
  unfolding fragment_line
  fragment-told f home l old a b c new ea eb ec en =
      let place = commas (whereabouts nodes st home) in
      let terms = commas (lease_fields l) in
      en ∙ ap (λ t. t ++ codes "\n") (ec ∙ ap (λ t. t ++ terms) (eb ∙ ap (λ t. t ++ place) ea))
      ∙ joined old (decimal s.value) (decimal f.value) place terms (codes ",") (codes "\n")
      ∙ ap (λ t. old ++ (decimal s.value ++ ((codes "," ++ decimal f.value) ++ t) ++ codes "\n"))
      (sym (flat_map-append (λ t. codes "," ++ t) (whereabouts nodes st home) (lease_fields l)))

  -- the row of a fragment, if the code has it
  abbrev pub own_fragment : Fragment → List ℕ
  own_fragment f = if has_fragment (code_of st s) f.value then shown_fragment nodes st s f else []

  -- ---- the rows of a stripe

  module _ (code : Code) (homes : List (Option Seat)) (own : code ≡ code_of st s) (at : homes ≡ map (λ (f : Fragment). homes_of st.homes s f.value) all_fragments) where
    pub fragment-there : (f : Fragment) (home : Option Seat) → has_fragment code f.value ≡ true → home ≡ homes_of st.homes s f.value
        → fragment_line nodes st s f home (lease_of st s f) ≡ own_fragment f
    fragment-there f home has is =
        ap (λ (h : Option Seat). fragment_line nodes st s f h (lease_of st s f)) is
        ∙ ap (λ (b : Bool). if b then shown_fragment nodes st s f else []) (sym has ∙ ap (λ (c : Code). has_fragment c f.value) own)

    pub fragment-away : (f : Fragment) → has_fragment code f.value ≡ false → [] ≡ own_fragment f
    fragment-away f has = ap (λ (b : Bool). if b then shown_fragment nodes st s f else []) (sym has ∙ ap (λ (c : Code). has_fragment c f.value) own)

each-own : (code : Code) (of : Fragment → List ℕ) → flat_map (λ (f : Fragment). if has_fragment code f.value then of f else []) all_fragments ≡ flat_map of (fragments code)
each-own Wide of = refl
each-own Narrow of = refl

pub fragments-told : (nodes : List NodeInfo) (st : State) (s : StripeNo) → flat_map (own_fragment nodes st s) all_fragments ≡ fragment_rows nodes st s
fragments-told nodes st s = each-own (code_of st s) (shown_fragment nodes st s)

-- the home of a fragment in the list of the homes
pub home-at : (st : State) (s : StripeNo) (homes : List (Option Seat)) → homes ≡ map (λ (f : Fragment). homes_of st.homes s f.value) all_fragments
    → (f : Fragment) → get_or homes f.value None ≡ homes_of st.homes s f.value
home-at st s homes at f =
    let within : f.value < length all_fragments = f.in_range in
    ap (λ (hs : List (Option Seat)). get_or hs f.value None) at
    ∙ get_or-map (λ (g : Fragment). homes_of st.homes s g.value) all_fragments f.value f None within
    ∙ ap (homes_of st.homes s) (item-number all_fragments f.value f refl f.in_range)
