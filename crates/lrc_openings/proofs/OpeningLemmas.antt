-- A book that begins over read nodes in a read image, or does not, told of their texts.
use Rattle.std.proofs.Common.{◌≡◌, ℕ, List, None, sym, subst}
use Rattle.lrc_topology.specs.declared.NodeInfo.{NodeInfo}
use Rattle.lrc_topology.specs.Documents.{IsTopologyOf}
use Rattle.lrc_images.specs.declared.image.Image.{Image}
use Rattle.lrc_images.specs.Causes.{first_cause}
use Rattle.lrc_book.specs.Books.{BookView}
use Rattle.lrc_openings.specs.Begun.{IsBegunOver, IsTextOf, IsBegun}
use Rattle.lrc_openings.specs.Unopened.{IsUnopened, IsUnbegun}
use Rattle.lrc_openings.specs.declared.error.OpenError.{OpenError}
use Rattle.lrc_openings.specs.declared.error.OpenError.TheVariants as error

module _ (nodes text : List ℕ) (topology : List NodeInfo) (image : Image) (nodes_are : IsTopologyOf nodes topology) (text_is : IsTextOf image text) where
  pub begun_in_texts : (b : BookView) → IsBegunOver topology image b → IsBegun nodes text b
  begun_in_texts b over =
      let same = sym over.begun.nodes_are in record {
        image = image;
        nodes_are = subst (λ (ns : List NodeInfo). IsTopologyOf nodes ns) same nodes_are;
        text_is = text_is;
        lawful = subst (λ (ns : List NodeInfo). first_cause ns image ≡ None) same over.lawful;
        base_is = over.begun.base_is;
        before_is = over.begun.before_is;
        empty = over.begun.empty;
        limit_is = over.limit_is;
      }

  pub unopened_texts : (e : OpenError) → IsUnbegun topology image e → IsUnopened nodes text e
  unopened_texts (error.Nodes e) never = absurd never
  unopened_texts (error.Text e) never = absurd never
  unopened_texts (error.Line line why) (position, first, line_is) = record {
    topology = topology;
    image = image;
    position = position;
    nodes_are = nodes_are;
    text_is = text_is;
    first = first;
    line_is = line_is;
  }
  unopened_texts error.OutOfMemory why = tt
