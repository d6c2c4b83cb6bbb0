-- Fitting is fitting by Below. Assumes nothing.
use Rattle.std.proofs.Common.{ℕ, List}
use Rattle.forms.specs.declared.Row.{Row}
use Rattle.forms.specs.Documents.{Document}
use Rattle.schema.specs.Rules.{Below, Fits}
use Rattle.schema.specs.Rules.Fits.{fits_void, fits_reference, fits_element}
use Rattle.schema.specs.Fitting.{FitsBy, FitsIsByBelow}
use Rattle.schema.specs.Fitting.FitsBy.{fits_void as void_by, fits_reference as reference_by, fits_element as element_by}

pub fits_of_by : {rows : List Row} {d : Document} {p : ℕ} → FitsBy rows (Below rows) d p → Fits rows d p
fits_of_by (void_by v) = fits_void v
fits_of_by (reference_by o e b) = fits_reference o e b
fits_of_by (element_by o e m fa fb) = fits_element o e m (fits_of_by fa) (fits_of_by fb)

pub by_of_fits : {rows : List Row} {d : Document} {p : ℕ} → Fits rows d p → FitsBy rows (Below rows) d p
by_of_fits (fits_void v) = void_by v
by_of_fits (fits_reference o e b) = reference_by o e b
by_of_fits (fits_element o e m fa fb) = element_by o e m (by_of_fits fa) (by_of_fits fb)

pub fits_is_by_below : FitsIsByBelow
fits_is_by_below rows d p = (fits_of_by, by_of_fits)
