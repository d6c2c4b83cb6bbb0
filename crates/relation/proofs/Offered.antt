-- Rows that are offered, rows that offer one, and rows that some document fits are rows of the table. Assumes nothing.
use Rattle.std.proofs.Common.{ℕ, ◌<◌, List, length}
use Rattle.forms.specs.declared.Row.{Row}
use Rattle.forms.specs.Schema.{Offers, Inhabited}
use Rattle.forms.specs.Schema.Offers.{itself, left, right}
use Rattle.forms.specs.Schema.Inhabited.{of_void, of_channel, of_element, of_left, of_right}
use Rattle.forms.proofs.Findings.{nth_below}

module _ (rows : List Row) where
  pub offered_below : {p o : ℕ} → Offers rows p o → o < length rows
  offered_below {p} (itself e nu) = nth_below rows p e
  offered_below (left e h) = offered_below h
  offered_below (right e h) = offered_below h

  pub offering_below : {p o : ℕ} → Offers rows p o → p < length rows
  offering_below {p} (itself e nu) = nth_below rows p e
  offering_below {p} (left e h) = nth_below rows p e
  offering_below {p} (right e h) = nth_below rows p e

  pub inhabited_below : {p : ℕ} → Inhabited rows p → p < length rows
  inhabited_below {p} (of_void e) = nth_below rows p e
  inhabited_below {p} (of_channel e) = nth_below rows p e
  inhabited_below {p} (of_element x e b i n) = nth_below rows p e
  inhabited_below {p} (of_left e h) = nth_below rows p e
  inhabited_below {p} (of_right e h) = nth_below rows p e
