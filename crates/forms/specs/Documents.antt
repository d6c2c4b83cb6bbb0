-- What an order document is. Assumes nothing.
use Rattle.std.specs.Prelude.{ℕ}

-- nothing; a reference to a channel row; or an element: a label, an inside document and a following document
pub data Document : Type 0 where
  void : Document
  reference : ℕ → Document
  element : ℕ → Document → Document → Document
