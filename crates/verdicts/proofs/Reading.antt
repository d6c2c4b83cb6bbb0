-- What is read off the sets of a prepared table. Assumes nothing.
use Rattle.std.proofs.Common.{◌≡◌, ℕ, List, Decides}
use Rattle.std.proofs.lemmas.Bool.Decides.{Decides-at, Decides-like}
use Rattle.forms.specs.Buffers.{rows_of}
use Rattle.forms.specs.Schema.{Offers, Inhabited, IsChannel}
use Rattle.forms.specs.Schema.Inhabited.{of_channel}
use Rattle.forms.specs.declared.Row.{Row}
use Rattle.verdicts.proofs.Facts.{ready_of}
use Rattle.verdicts.specs.Ready.{in_row, IsElement}
use Rattle.verdicts.specs.RowSets.{row_set}
use Rattle.verdicts.specs.declared.prepared.Prepared.{Prepared}
use Rattle.verdicts.specs.declared.rowsets.RowSet.{RowSet}

module _ (t : Prepared) where
  abbrev rows : List Row
  rows = rows_of t.table

  pub channel_set : (p : ℕ) (s : RowSet) → ((o : ℕ) → row_set s o ≡ in_row t.channels p o) → (c : ℕ) → Decides (row_set s c) (Offers rows p c × IsChannel rows c)
  channel_set p s is c = Decides-at _ _ (is c) (Decides-like (in_row t.channels p c)
      (λ (offers, _, is). (offers, is))
      (λ (offers, is). (offers, of_channel is.2, is))
      ((ready_of t).addresses p c))

  pub element_set : (p : ℕ) (s : RowSet) → ((o : ℕ) → row_set s o ≡ in_row t.elements p o) → (e : ℕ) → Decides (row_set s e) (Offers rows p e × Inhabited rows e × IsElement rows e)
  element_set p s is e = Decides-at _ _ (is e) ((ready_of t).parts p e)
