-- A book that begins in the text of another book's image.
use Rattle.std.specs.List.{All, Contains}
use Rattle.std.proofs.lemmas.List.Elements.{All-contains, Contains-append_left, Contains-append_right}
use Rattle.std.proofs.Common.{append-nil, arith, ◌≡◌, ◌⊎◌, inl, inr, ◌+◌, ◌++◌, ℕ, List, [], ◌∷◌, length, map, Option, Some, None, false, refl, sym, ap, ap₂, subst, ◌∙◌, ◌↔◌}
use Rattle.lrc_topology.specs.declared.NodeInfo.{NodeInfo}
use Rattle.lrc_topology.specs.Documents.{IsTopologyOf}
use Rattle.lrc_topology.specs.Nodes.{AreNodes}
use Rattle.lrc_topology.specs.declared.error.TopologyError.TheVariants as topology
use Rattle.lrc_topology.proofs.AnswerLemmas.{nodes_of_a_text, one_topology, topology_or_refusal}
use Rattle.lrc_terms.specs.Stripes.{stripe_at}
use Rattle.lrc_rules.specs.declared.entry.Entry.{Entry}
use Rattle.lrc_rules.specs.States.{State, has_stripe}
use Rattle.lrc_rules.specs.Leases.{grants}
use Rattle.lrc_rules.specs.Histories.{World, state_from, IsLegalFrom}
use Rattle.lrc_rules.specs.Alike.{AreAlike}
use Rattle.lrc_rules.specs.Futures.{HaveSameGrants}
use Rattle.lrc_rules.proofs.MemberLemmas.{Contains-later, All-members, map-member}
use Rattle.lrc_rules.proofs.TidyLemmas.{worlds-tidy}
use Rattle.lrc_images.specs.declared.cause.Cause.{Cause}
use Rattle.lrc_images.specs.declared.image.Image.{Image}
use Rattle.lrc_images.specs.declared.image.StripeRow.{StripeRow}
use Rattle.lrc_images.specs.declared.image.GrantRow.{GrantRow}
use Rattle.lrc_images.specs.Images.{image_state, image_world}
use Rattle.lrc_images.specs.Rising.{tells_grants, AreRising, HaveAllFragments}
use Rattle.lrc_images.specs.Rows.{row_of_stripe, stripe_rows, row_of_grants, grant_rows}
use Rattle.lrc_images.specs.Causes.{first_cause}
use Rattle.lrc_images.specs.Bases.{IsBase}
use Rattle.lrc_images.proofs.RowLemmas.{there-row}
use Rattle.lrc_images.proofs.StateRowLemmas.{image-rising}
use Rattle.lrc_images.proofs.SameRowsLemmas.{same-nodes, same-stripes, same-grants, same-leases}
use Rattle.lrc_images.proofs.LawfulLemmas.{IsLawful, cause-lawful, lawful-rising, lawful-entries}
use Rattle.lrc_images.proofs.SeatedRowsLemmas.{lawful-base}
use Rattle.lrc_image_text.specs.Lines.{Line, IsReadable, Version, Before, Clock, Node, Stripe, Grants, Lease, End, lines_text}
use Rattle.lrc_image_text.specs.Texts.{upgrading_lines, lines_of_rows, begun_lines, image_lines, image_text, IsWritten, IsBadLine, HaveSameRows}
use Rattle.lrc_image_text.specs.declared.error.ImageTextError.TheVariants as text_error
use Rattle.lrc_image_text.proofs.ImageLemmas.{same_rows, no_bad}
use Rattle.lrc_image_text.proofs.WrittenLemmas.{image-written}
use Rattle.lrc_book.specs.Books.{BookView, state_of, IsSpent, IsBook, IsImageOfBook, HasBegun}
use Rattle.lrc_book.specs.SameLooks.{HaveSameLooks}
use Rattle.lrc_book.proofs.ForgetLemmas.{reached-good, imaged-taken, imaged-alike, imaged-grants, unspent-counts, unspent-ticks, unspent-entries}
use Rattle.lrc_book.proofs.BeginLemmas.{begun-alike, begun-grants, begun-looks, begun-image}
use Rattle.lrc_openings.specs.Begun.{IsBegun, IsInvalid}
use Rattle.lrc_openings.specs.ImageTexts.{IsTextOfBook}
use Rattle.lrc_openings.specs.Unopened.{IsUnopened}
use Rattle.lrc_openings.specs.declared.error.OpenError.{OpenError}
use Rattle.lrc_openings.specs.declared.error.OpenError.TheVariants as error

-- images with the same rows have one text
one-text : (i j : Image) → HaveSameRows i j → image_text i ≡ image_text j
one-text i j same =
    let before = same.before in
    let clock = same.clock in
    let upgrading = same.upgrading in
    let nodes = same.nodes in
    let stripes = same.stripes in
    let grants = same.grants in
    let leases = same.leases in
    λ k. lines_text ((Version ∷ Before (before k) ∷ Clock (clock k)
    ∷ (upgrading_lines (upgrading k) ++ (map Node (nodes k) ++ (map Stripe (stripes k) ++ (map Grants (grants k) ++ map Lease (leases k)))))) ++ End ∷ [])

-- an image with the same rows is the book's too
rows-book : (b : BookView) (i j : Image) → IsImageOfBook b i → HaveSameRows i j → IsImageOfBook b j
rows-book b i j is same = record {
  before_is = sym same.before ∙ is.before_is;
  clock_is = sym same.clock ∙ is.clock_is;
  upgrading_is = sym same.upgrading ∙ is.upgrading_is;
  nodes_are = sym same.nodes ∙ is.nodes_are;
  stripes_are = sym same.stripes ∙ is.stripes_are;
  grants_are = sym same.grants ∙ is.grants_are;
  leases_are = sym same.leases ∙ is.leases_are;
}

-- ---- a book that begins in a text

module _ (c : BookView) (nodes text : List ℕ) (begun : IsBegun nodes text c) where
  abbrev begun_in : Image
  begun_in = begun.image

  rows-lawful : IsLawful c.nodes begun_in
  rows-lawful = cause-lawful c.nodes begun_in begun.lawful

  known : AreNodes c.nodes
  known = nodes_of_a_text nodes c.nodes begun.nodes_are

  is-book : IsBook c
  is-book = record {
    nodes = known;
    based = subst (λ (w : World). IsBase c.nodes w) (sym begun.base_is) (lawful-base c.nodes known begun_in rows-lawful);
    legal = subst (λ (h : List Entry). IsLegalFrom c.nodes c.base h) (sym begun.empty) tt;
  }

  -- its state, its grants and its number are those of the image
  state-is : state_of c ≡ image_state begun_in
  state-is = ap₂ (λ (w : World) (h : List Entry). state_from c.nodes w h) begun.base_is begun.empty

  past-is : c.base.past ++ c.history ≡ (image_world begun_in).past
  past-is = ap₂ (λ (w : World) (h : List Entry). w.past ++ h) begun.base_is begun.empty ∙ append-nil (image_world begun_in).past

  number-is : c.before + length c.history ≡ begun_in.before
  number-is = ap₂ (λ (n : ℕ) (h : List Entry). n + length h) begun.before_is begun.empty ∙ omega arith

  -- no number is at its end
  pub not-spent : IsSpent c → ⊥
  not-spent (inl (s, f, high)) =
      let same = ap (λ (past : List Entry). grants past s f) past-is in
      let few = (lawful-base c.nodes known begun_in rows-lawful).counts s f in omega (arith, high, same, few)
  not-spent (inr (inl late)) =
      let same = ap (λ (st : State). st.clock) state-is in
      let early = (lawful-base c.nodes known begun_in rows-lawful).ticks in omega (arith, late, same, early)
  not-spent (inr (inr many)) = let short = lawful-entries c.nodes begun_in rows-lawful in omega (arith, many, number-is, short)

  -- the rows of the text have all fragments
  abbrev grants_on : List Line
  grants_on = map Grants begun_in.grants.items ++ map Lease begun_in.leases.items

  abbrev stripes_on : List Line
  stripes_on = map Stripe begun_in.stripes.items ++ grants_on

  abbrev lines_behind : List Line
  lines_behind = upgrading_lines begun_in.upgrading ++ lines_of_rows begun_in

  line-there : (l : Line) → Contains (lines_of_rows begun_in) l → Contains (image_lines begun_in) l
  line-there l here =
      Contains-append_left (begun_lines begun_in) (End ∷ []) l
      (Contains-later Version l (Before begun_in.before ∷ Clock begun_in.clock ∷ lines_behind)
      (Contains-later (Before begun_in.before) l (Clock begun_in.clock ∷ lines_behind)
      (Contains-later (Clock begun_in.clock) l lines_behind (Contains-append_right (upgrading_lines begun_in.upgrading) (lines_of_rows begun_in) l here))))

  stripe-line : (r : StripeRow) → Contains begun_in.stripes.items r → IsReadable (Stripe r)
  stripe-line r here =
      All-contains IsReadable (image_lines begun_in) (Stripe r) begun.text_is.0
      (line-there (Stripe r) (Contains-append_right (map Node begun_in.nodes.items) stripes_on (Stripe r)
      (Contains-append_left (map Stripe begun_in.stripes.items) grants_on (Stripe r) (map-member Stripe begun_in.stripes.items r here))))

  grants-line : (r : GrantRow) → Contains begun_in.grants.items r → IsReadable (Grants r)
  grants-line r here =
      All-contains IsReadable (image_lines begun_in) (Grants r) begun.text_is.0
      (line-there (Grants r) (Contains-append_right (map Node begun_in.nodes.items) stripes_on (Grants r)
      (Contains-append_right (map Stripe begun_in.stripes.items) grants_on (Grants r)
      (Contains-append_left (map Grants begun_in.grants.items) (map Lease begun_in.leases.items) (Grants r) (map-member Grants begun_in.grants.items r here)))))

  rows-whole : HaveAllFragments begun_in
  rows-whole = record {
    homes = All-members (λ r. length r.homes ≡ 16) begun_in.stripes.items (λ r here. (stripe-line r here).all);
    granted = All-members (λ r. length r.granted ≡ 16) begun_in.grants.items (λ r here. (grants-line r here).0);
  }

  -- ---- an image of its state

  module _ (k : Image) (is : IsImageOfBook c k) where
    image-whole : HaveAllFragments k
    image-whole = record {
      homes = subst (λ (rows : List StripeRow). All (λ r. length r.homes ≡ 16) rows) (sym is.stripes_are)
          (All-members (λ r. length r.homes ≡ 16) (stripe_rows (state_of c)) (λ r here.
          let own = there-row stripe_at (row_of_stripe (state_of c)) (has_stripe (state_of c)) 4096 r here in
          subst (λ (r : StripeRow). length r.homes ≡ 16) own.2 refl));
      granted = subst (λ (rows : List GrantRow). All (λ r. length r.granted ≡ 16) rows) (sym is.grants_are)
          (All-members (λ r. length r.granted ≡ 16) (grant_rows (c.base.past ++ c.history)) (λ r here.
          let past = c.base.past ++ c.history in
          let own = there-row stripe_at (row_of_grants past) (λ s. tells_grants (row_of_grants past s)) 4096 r here in
          subst (λ (r : GrantRow). length r.granted ≡ 16) own.2 refl));
    }

    image-rises : AreRising k
    image-rises = image-rising c.nodes (c.base.past ++ c.history) (state_of c) (c.before + length c.history) k is

    states-alike : AreAlike (image_state begun_in) (image_state k)
    states-alike =
        subst (λ (st : State). AreAlike st (image_state k)) state-is
        (imaged-alike c.nodes known c.base c.history is-book.based is-book.legal (c.before + length c.history) k is)

    grants-same : HaveSameGrants (image_world begun_in).past (image_world k).past
    grants-same =
        subst (λ (past : List Entry). HaveSameGrants past (image_world k).past) past-is
        (imaged-grants c.nodes known c.base c.history is-book.based is-book.legal (c.before + length c.history) k is)

    same-again : HaveSameRows begun_in k
    same-again =
        let rising = lawful-rising c.nodes begun_in rows-lawful in record {
          before = sym number-is ∙ sym is.before_is;
          clock = sym (ap (λ (st : State). st.clock) state-is) ∙ sym is.clock_is;
          upgrading = sym (ap (λ (st : State). st.upgrading) state-is) ∙ sym is.upgrading_is;
          nodes = same-nodes begun_in k rising image-rises states-alike;
          stripes = same-stripes begun_in k rising image-rises states-alike rows-whole image-whole;
          grants = same-grants begun_in k rising image-rises states-alike rows-whole image-whole grants-same;
          leases = same-leases begun_in k rising image-rises states-alike;
        }

  pub written-again : (other : List ℕ) → IsTextOfBook c other → other ≡ text
  written-again other told = told.2 ∙ sym (one-text begun_in told.0 (same-again told.0 told.1)) ∙ sym begun.text_is.1

-- ---- a book whose image is written

module _ (b : BookView) (book : IsBook b) (free : ¬ IsSpent b) where
  -- the image of the book can be read
  written : (i : Image) → IsImageOfBook b i → IsWritten i
  written i is =
      image-written b.nodes (b.base.past ++ b.history) (state_of b) (b.before + length b.history) i book.nodes
      (reached-good b.nodes book.nodes b.base b.history book.based book.legal) (worlds-tidy b.nodes b.base b.history book.based.tidy)
      (unspent-counts b free) (unspent-ticks b free) (unspent-entries b free) is

  -- and no row of it is wrong
  taken : (i : Image) → IsImageOfBook b i → first_cause b.nodes i ≡ None
  taken i is =
      imaged-taken b.nodes book.nodes b.base b.history book.based book.legal (b.before + length b.history) i is
      (unspent-counts b free) (unspent-ticks b free) (unspent-entries b free)

  module _ (text : List ℕ) (is : IsTextOfBook b text) where
    pub no-line : (n : ℕ) → IsBadLine text n → ⊥
    no-line n bad = no_bad is.0 n (written is.0 is.1) (subst (λ (t : List ℕ). IsBadLine t n) is.2 bad)

    -- each image of the text is the book's
    image-of : (j : Image) → IsWritten j → text ≡ image_text j → IsImageOfBook b j
    image-of j readable same = rows-book b is.0 j is.1 (same_rows is.0 j (written is.0 is.1) readable (sym is.2 ∙ same))

    module _ (nodes : List ℕ) (over : IsTopologyOf nodes b.nodes) where
      pub some-begun : (c : BookView) × IsBegun nodes text c
      some-begun = (
        record { nodes = b.nodes; base = image_world is.0; before = is.0.before; limit = 1000000; history = []; ready = false },
        record {
          image = is.0;
          nodes_are = over;
          text_is = (written is.0 is.1, is.2);
          lawful = taken is.0 is.1;
          base_is = refl;
          before_is = refl;
          empty = refl;
          limit_is = refl;
        },
      )

      no-row : (line : ℕ) (why : Cause) → IsInvalid nodes text line why → ⊥
      no-row line why invalid =
          let same : invalid.topology ≡ b.nodes = one_topology nodes invalid.topology b.nodes invalid.nodes_are over in
          let first = subst (λ (ns : List NodeInfo). first_cause ns invalid.image ≡ Some (invalid.position, why)) same invalid.first in
          let none = taken invalid.image (image-of invalid.image invalid.text_is.0 invalid.text_is.1) in
          (let never : ◌≡◌ {A = Option (ℕ × Cause)} None (Some (invalid.position, why)) = sym none ∙ first in cc)

      pub only-memory : (e : OpenError) → IsUnopened nodes text e
          → (e ≡ error.Nodes topology.OutOfMemory) ⊎ ((e ≡ error.Text text_error.OutOfMemory) ⊎ (e ≡ error.OutOfMemory))
      only-memory (error.Nodes e) why = inl (ap error.Nodes (topology_or_refusal nodes b.nodes e over why))
      only-memory (error.Text (text_error.BadLine line)) why = absurd (no-line line why.1)
      only-memory (error.Text text_error.OutOfMemory) why = inr (inl refl)
      only-memory (error.Line line cause) why = absurd (no-row line cause why)
      only-memory error.OutOfMemory why = inr (inr refl)

    module _ (nodes : List ℕ) (c : BookView) (begun : IsBegun nodes text c) (same : c.nodes ≡ b.nodes) where
      image-is : IsImageOfBook b begun.image
      image-is = image-of begun.image begun.text_is.0 begun.text_is.1

      has-begun : HasBegun b.nodes begun.image c
      has-begun = record { nodes_are = same; base_is = begun.base_is; before_is = begun.before_is; empty = begun.empty }

      pub text-alike : AreAlike (state_of b) (state_of c)
      text-alike = begun-alike b c begun.image book image-is has-begun

      pub text-looks : HaveSameLooks b.nodes (state_of b) (state_of c)
      text-looks = begun-looks b c begun.image book image-is has-begun (is-book c nodes text begun)

      pub text-grants : HaveSameGrants (b.base.past ++ b.history) (c.base.past ++ c.history)
      text-grants = begun-grants b c begun.image book image-is has-begun

      pub text-before : c.before ≡ b.before + length b.history
      text-before = begun.before_is ∙ image-is.before_is

      image-again : IsImageOfBook c begun.image
      image-again = begun-image b c begun.image book image-is has-begun (is-book c nodes text begun)

      pub text-again : (other : List ℕ) → IsTextOfBook c other ↔ (other ≡ text)
      text-again other = (
        written-again c nodes text begun other,
        λ is. (begun.image, image-again, is ∙ begun.text_is.1),
      )
