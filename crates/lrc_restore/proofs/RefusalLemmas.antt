-- The first row of an image with a cause refuses it.
use Rattle.std.proofs.Common.{◌≡◌, ◌∙◌, refl, ap, ℕ, Bool, true, false, List, Option, Some, None}
use Rattle.std.specs.Prelude.{Result, Ok, Err, IfErr}
use Rattle.std.specs.Option.{option_or}
use Rattle.lrc_topology.specs.declared.NodeInfo.{NodeInfo}
use Rattle.lrc_images.specs.declared.cause.Cause.{Cause}
use Rattle.lrc_images.specs.declared.image.Image.{Image}
use Rattle.lrc_images.specs.Causes.{cause_if, first_cause}
use Rattle.lrc_restore.specs.declared.error.BeginError.{BeginError}
use Rattle.lrc_restore.specs.declared.error.BeginError.TheVariants.{Refused, OutOfMemory}
use Rattle.lrc_restore.specs.Stages.{head_refusal, nodes_refusal, stripes_refusal, grants_refusal, leases_refusal}
use Rattle.lrc_restore.specs.Refused.{IsRefusedFor}

-- ---- the tests of a row

pub skip : (met : Bool) (c : Cause) (next : Option Cause) → met ≡ false → cause_if met c next ≡ next
skip false c next miss = refl
skip true c next miss = absurd (let never : true ≡ false = miss in cc)

pub stop : (met : Bool) (c : Cause) (next : Option Cause) → met ≡ true → cause_if met c next ≡ Some c
stop true c next hit = refl
stop false c next hit = absurd (let never : false ≡ true = hit in cc)

-- ---- a part of the image

-- a position with a cause
abbrev Found : Type 0
Found = Option (ℕ × Cause)

-- the first of two is that of the first one, if it has one, and else that of the second
pub first-refused : (first later : Found) (e : BeginError) → IsRefusedFor first e → IsRefusedFor (option_or first later) e
first-refused first later OutOfMemory refused = tt
first-refused first later (Refused position cause) refused = ap (λ (o : Found). option_or o later) refused

pub later-refused : (first later : Found) (e : BeginError) → first ≡ None → IsRefusedFor later e → IsRefusedFor (option_or first later) e
later-refused first later OutOfMemory none refused = tt
later-refused first later (Refused position cause) none refused = ap (λ (o : Found). option_or o later) none ∙ refused

pub if-err : {T E : Type 0} (r : Result T E) (P Q : E → Type 0) → ((e : E) → P e → Q e) → IfErr r P → IfErr r Q
if-err (Ok t) P Q so p = tt
if-err (Err e) P Q so p = so e p

module _ (nodes : List NodeInfo) (i : Image) where
  abbrev from_grants : Found
  from_grants = option_or (grants_refusal i) (leases_refusal nodes i)

  abbrev from_stripes : Found
  from_stripes = option_or (stripes_refusal nodes i) from_grants

  abbrev from_nodes : Found
  from_nodes = option_or (nodes_refusal nodes i) from_stripes

  pub head-first : (e : BeginError) → IsRefusedFor (head_refusal nodes i) e → IsRefusedFor (first_cause nodes i) e
  unfolding first_cause
  head-first e refused = first-refused (head_refusal nodes i) from_nodes e refused

  module _ (head : head_refusal nodes i ≡ None) where
    pub nodes-first : (e : BeginError) → IsRefusedFor (nodes_refusal nodes i) e → IsRefusedFor (first_cause nodes i) e
    unfolding first_cause
    nodes-first e refused = later-refused (head_refusal nodes i) from_nodes e head (first-refused (nodes_refusal nodes i) from_stripes e refused)

    module _ (node_rows : nodes_refusal nodes i ≡ None) where
      pub stripes-first : (e : BeginError) → IsRefusedFor (stripes_refusal nodes i) e → IsRefusedFor (first_cause nodes i) e
      unfolding first_cause
      stripes-first e refused =
          later-refused (head_refusal nodes i) from_nodes e head (later-refused (nodes_refusal nodes i) from_stripes e node_rows
          (first-refused (stripes_refusal nodes i) from_grants e refused))

      module _ (stripe_rows : stripes_refusal nodes i ≡ None) where
        pub grants-first : (e : BeginError) → IsRefusedFor (grants_refusal i) e → IsRefusedFor (first_cause nodes i) e
        unfolding first_cause
        grants-first e refused =
            later-refused (head_refusal nodes i) from_nodes e head (later-refused (nodes_refusal nodes i) from_stripes e node_rows
            (later-refused (stripes_refusal nodes i) from_grants e stripe_rows (first-refused (grants_refusal i) (leases_refusal nodes i) e refused)))

        module _ (grant_rows : grants_refusal i ≡ None) where
          -- only the leases are left
          left : first_cause nodes i ≡ leases_refusal nodes i
          unfolding first_cause
          left =
              ap (λ (o : Found). option_or o from_nodes) head ∙ ap (λ (o : Found). option_or o from_stripes) node_rows
              ∙ ap (λ (o : Found). option_or o from_grants) stripe_rows ∙ ap (λ (o : Found). option_or o (leases_refusal nodes i)) grant_rows

          pub leases-first : (e : BeginError) → IsRefusedFor (leases_refusal nodes i) e → IsRefusedFor (first_cause nodes i) e
          leases-first OutOfMemory refused = tt
          leases-first (Refused position cause) refused = left ∙ refused

          pub all-lawful : leases_refusal nodes i ≡ None → first_cause nodes i ≡ None
          all-lawful none = left ∙ none
