-- What a document fits, by the node that stands for it, and by what the marks tell of lower nodes. Assumes nothing.
use Rattle.std.proofs.Common.{◌≡◌, ℕ, ◌+◌, ◌<◌, ◌≤◌, Bool, cond, ◌&&◌, eqb, List, length, get_or, Some, Decides, sym, refl, ap, ◌∙◌, subst, ⊎_elim, arith}
use Rattle.std.specs.List.{slice_get}
use Rattle.std.proofs.lemmas.Option.{slice_get-get_or}
use Rattle.std.proofs.lemmas.Bool.{and_parts, and_from, cases_eq, eq-eqb, ne_eqb}
use Rattle.sets.specs.Sets.{member}
use Rattle.forms.specs.Documents.{Document}
use Rattle.forms.specs.Documents.Document.{void, reference, element}
use Rattle.forms.specs.Limits.{max_rows}
use Rattle.forms.specs.Rows.{belongs}
use Rattle.forms.specs.Schema.{Offers, Inhabited, IsChannel}
use Rattle.forms.specs.Schema.Inhabited.{of_void as inhabited_void, of_channel as inhabited_channel, of_element as inhabited_element}
use Rattle.forms.specs.declared.Row.{Row}
use Rattle.documents.specs.Nodes.{SoundWith, SoundOver, StandsFor}
use Rattle.documents.specs.Nodes.StandsFor.{for_void, for_reference, for_element}
use Rattle.documents.specs.declared.nodes.Node.{Node}
use Rattle.documents.specs.declared.nodes.Node.TheVariants.{Void, Reference, Element}
use Rattle.documents.proofs.Tables.{stands_one}
use Rattle.relation.specs.Cells.{cell}
use Rattle.schema.specs.Rules.{OffersVoid, Below, Fits}
use Rattle.schema.specs.Fitting.{FitsBy}
use Rattle.schema.specs.Fitting.FitsBy.{fits_void, fits_reference, fits_element}
use Rattle.schema.proofs.Inclusion.{offers_inhabited}
use Rattle.schema.proofs.Fitting.{fits_of_by, by_of_fits}
use Rattle.schema.proofs.Offered.{offering_below}
use Rattle.verdicts.specs.Ready.{in_row}
use Rattle.verdicts.proofs.Walks.{in_row_low, in_row_below}
use Rattle.fitting.specs.Marks.{Referred, FitsNode, MarkedAt, Marked, TellsRoot, holds}

-- why a document fits
module _ (rows : List Row) (B : ℕ → ℕ → Type 0) where
  fits_below : {d : Document} {r : ℕ} → FitsBy rows B d r → r < length rows
  fits_below (fits_void v) = offering_below rows v.1
  fits_below (fits_reference offers e b) = offering_below rows offers
  fits_below (fits_element offers e m fa fb) = offering_below rows offers

  -- a row that some document fits is inhabited
  fits_inhabited : (d : Document) {r : ℕ} → FitsBy rows B d r → Inhabited rows r
  fits_inhabited void (fits_void v) = offers_inhabited rows v.1 (inhabited_void v.2)
  fits_inhabited (reference c) (fits_reference u e b) = offers_inhabited rows u (inhabited_channel e)
  fits_inhabited (element x a b) (fits_element u e m fa fb) = offers_inhabited rows u (inhabited_element x e m (fits_inhabited a fa) (fits_inhabited b fb))

  void_by : {r : ℕ} → FitsBy rows B void r → OffersVoid rows r
  void_by (fits_void v) = v

  reference_by : {c r : ℕ} → FitsBy rows B (reference c) r → (d : ℕ) × Offers rows r d × IsChannel rows d × B c d
  reference_by (fits_reference {d} {s} {k} offers e b) = (d, offers, (k, s, e), b)

module _ (rows : List Row) (few : length rows ≤ max_rows) (B : ℕ → ℕ → Type 0) (nodes : List Node) (marks : List ℕ) where
  -- a node's mark of a row tells whether its document fits
  mark_tells : (j : ℕ) (m : MarkedAt rows B nodes marks j) (r : ℕ) → Decides (in_row marks j r) (FitsBy rows B m.document r)
  mark_tells j m r = (
    λ on. let (low, there) = in_row_below marks j r on in ((m.told r low).0 there).1,
    λ f. let less = fits_below rows B f in let low : r < max_rows = omega arith in in_row_low marks j r low ∙ (m.told r low).1 (less, f),
  )

  -- so the mark of the root does
  pub root_tells : (root row : ℕ) (b : Bool) → root < length nodes → Marked rows B nodes marks → b ≡ in_row marks root row → TellsRoot rows B nodes root row b
  root_tells root row b inside marked is =
      let m = marked root inside in
      record { document = m.document; stands = m.stands; only = m.only; told = subst (λ x. Decides x (FitsBy rows B m.document row)) (sym is) (mark_tells root m row) }

  module _ (i : ℕ) (marked : (j : ℕ) → j < i → MarkedAt rows B nodes marks j) where
    abbrev Means : Node → Document → Type 0
    Means m d = (r : ℕ) → (FitsNode rows B (in_row marks) m r → FitsBy rows B d r) × (FitsBy rows B d r → FitsNode rows B (in_row marks) m r)

    element_means : (x p q : ℕ) (a : MarkedAt rows B nodes marks p) (b : MarkedAt rows B nodes marks q) → Means (Element x p q) (element x a.document b.document)
    element_means x p q a b r = (there, back)
      where
        there : FitsNode rows B (in_row marks) (Element x p q) r → FitsBy rows B (element x a.document b.document) r
        there (e, offers, _, (l, j, n, is), h) =
            let (m, both) = and_parts (belongs x l) (in_row marks p j && in_row marks q n) (sym (ap (holds (in_row marks) x p q) is) ∙ h) in
            let (inside, following) = and_parts (in_row marks p j) (in_row marks q n) both in
            fits_element offers is m ((mark_tells p a j).0 inside) ((mark_tells q b n).0 following)

        back : {r : ℕ} → FitsBy rows B (element x a.document b.document) r → FitsNode rows B (in_row marks) (Element x p q) r
        back (fits_element {e} {l} {i = j} {n} offers is m fa fb) = (
          e,
          offers,
          inhabited_element x is m (fits_inhabited rows B a.document fa) (fits_inhabited rows B b.document fb),
          (l, j, n, is),
          ap (holds (in_row marks) x p q) is ∙ and_from (belongs x l) (in_row marks p j && in_row marks q n) m (and_from (in_row marks p j) (in_row marks q n) ((mark_tells p a j).1 fa) ((mark_tells q b n).1 fb)),
        )

    -- the document of the node, of those of lower nodes
    node_means : (m : Node) → slice_get nodes i ≡ Some m → SoundWith (IsChannel rows) i m → (d : Document) × StandsFor nodes i d × Means m d
    node_means Void e s = (void, for_void e, λ r. (fits_void, void_by rows B))
    node_means (Reference c) e s = (reference c, for_reference e, λ r. (λ (o, offers, (k, t, is), b). fits_reference offers is b, reference_by rows B))
    node_means (Element x p q) e (_, p<, q<) = let a = marked p p< in let b = marked q q< in (element x a.document b.document, for_element e a.stands b.stands, element_means x p q a b)

    -- one node more
    pub marked_more : SoundOver rows nodes → i < length nodes → (set new : List ℕ) → ((r : ℕ) → Decides (member set r) (FitsNode rows B (in_row marks) (get_or nodes i Void) r))
        → ((q o : ℕ) → o < max_rows → cell new q o ≡ cond (eqb q i) (member set o) (cell marks q o)) → (j : ℕ) → j < i + 1 → MarkedAt rows B nodes new j
    marked_more sound lt set new tells wrote j h = ⊎_elim
        (λ is. subst (MarkedAt rows B nodes new) (sym is) here)
        (λ other.
        let m = marked j (omega arith) in
        record {
          document = m.document;
          stands = m.stands;
          only = m.only;
          told = λ r low. subst (λ b. Decides b ((r < length rows) × FitsBy rows B m.document r)) (sym (wrote j r low ∙ ap (λ b. cond b (member set r) (cell marks j r)) (ne_eqb j i other))) (m.told r low);
        })
        (cases_eq j i)
      where
        here : MarkedAt rows B nodes new i
        here =
            let at = slice_get-get_or nodes i Void lt in
            let (d, stands, means) = node_means (get_or nodes i Void) at (sound.each i at) in
            record {
              document = d;
              stands = stands;
              only = λ e other. stands_one stands other;
              told = λ r low.
                  let now : cell new i r ≡ member set r = wrote i r low ∙ ap (λ b. cond b (member set r) (cell marks i r)) (eq-eqb i i refl) in
                  let (there, back) = means r in
                  (λ m. let f = there ((tells r).0 (sym now ∙ m)) in (fits_below rows B f, f), λ (_, f). now ∙ (tells r).1 (back f));
            }

-- a document fits by a relation what it fits by another, if the one is within the other at the rows that the nodes refer to
module _ (rows : List Row) (nodes : List Node) (B C : ℕ → ℕ → Type 0) (within : (c d : ℕ) → Referred nodes c → IsChannel rows d → B c d → C c d) where
  pub fits_within : {i : ℕ} {d : Document} → StandsFor nodes i d → {r : ℕ} → FitsBy rows B d r → FitsBy rows C d r
  fits_within (for_void e) (fits_void v) = fits_void v
  fits_within {i} (for_reference {c} e) (fits_reference {d} {s} {k} offers is b) = fits_reference offers is (within c d (i, e) (k, s, is) b)
  fits_within (for_element e sa sb) (fits_element offers is m fa fb) = fits_element offers is m (fits_within sa fa) (fits_within sb fb)

-- so a document fits by pairs that tell what is below, at the rows that the nodes refer to, exactly where it fits
pub fits_by_below : (rows : List Row) (nodes : List Node) (B : ℕ → ℕ → Type 0)
    → ((c d : ℕ) → Referred nodes c → IsChannel rows d → (B c d → Below rows c d) × (Below rows c d → B c d))
    → (i : ℕ) (d : Document) → StandsFor nodes i d → (r : ℕ) → (FitsBy rows B d r → Fits rows d r) × (Fits rows d r → FitsBy rows B d r)
fits_by_below rows nodes B tells i d st r = (
  λ f. fits_of_by (fits_within rows nodes B (Below rows) (λ c e h g. (tells c e h g).0) st f),
  λ f. fits_within rows nodes (Below rows) B (λ c e h g. (tells c e h g).1) st (by_of_fits f),
)
