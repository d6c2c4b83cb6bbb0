-- The sorts of rows that the rules speak of. Assumes nothing.
use Rattle.std.specs.Prelude.{Bool, true, false, Some, None, Option}
use Rattle.forms.specs.declared.Row.{Row}
use Rattle.forms.specs.declared.Row.TheVariants.{Void, Nothing, Channel, Element, Union}

abbrev pub void_row : Option Row → Bool
void_row None = false
void_row (Some Void) = true
void_row (Some Nothing) = false
void_row (Some (Channel k s)) = false
void_row (Some (Element l i n)) = false
void_row (Some (Union l r)) = false

abbrev pub channel_row : Option Row → Bool
channel_row None = false
channel_row (Some Void) = false
channel_row (Some Nothing) = false
channel_row (Some (Channel k s)) = true
channel_row (Some (Element l i n)) = false
channel_row (Some (Union l r)) = false

abbrev pub element_row : Option Row → Bool
element_row None = false
element_row (Some Void) = false
element_row (Some Nothing) = false
element_row (Some (Channel k s)) = false
element_row (Some (Element l i n)) = true
element_row (Some (Union l r)) = false
